-- `append_buses`: after b turns the lines of the first b buses are stored.
use mathlib.Core.Path.{◌≡◌}
use Prim.Native.Nat.{◌-◌, ◌*◌, ◌≤◌}
use lib.ListN.{length}
use Rattle.model.specs.ExposureText.{exposure_room, exposure_lines}
use Rattle.model.specs.Laws.Appended.{Appended}
use Rattle.chances.proofs.append_buses.Given as goal

abbrev pub invariant-loop-b : goal.invariant-loop-b
invariant-loop-b l =
    Appended (exposure_lines l.rates l.ring l.b) l.initial.out 0 l.out l.end × (length l.out ≡ length l.initial.out) × (l.end ≤ exposure_room * l.b) × (l.b ≤ l.ring.n)

abbrev pub decreases-loop-b : goal.decreases-loop-b
decreases-loop-b l = l.ring.n - l.b
