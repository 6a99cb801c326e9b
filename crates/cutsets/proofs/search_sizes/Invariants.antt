-- `cutsets::search_sizes` meets its contract. The loop's invariant: the sets of fewer parts are stored.
use mathlib.Core.Path.{◌≡◌}
use mathlib.Core.List.{flat_map}
use Prim.Native.Nat.{◌-◌, ◌*◌, ◌≤◌}
use lib.ListN.{length}
use Rattle.model.specs.Reports.{health_of}
use Rattle.model.specs.CutSets.{set_bytes}
use Rattle.model.specs.Laws.Appended.{Appended}
use Rattle.cutsets.specs.Sizes.{listed_to, most_to}
use Rattle.cutsets.proofs.search_sizes.Given as goal

abbrev pub invariant-loop-faults : goal.invariant-loop-faults
invariant-loop-faults l =
    Appended (flat_map set_bytes (listed_to l.n (health_of l.health) l.b l.faults)) l.initial.buffer 0 l.buffer (3 * l.k)
    × (length l.buffer ≡ length l.initial.buffer) × (l.k ≤ most_to l.faults) × (l.faults ≤ 4)

abbrev pub decreases-loop-faults : goal.decreases-loop-faults
decreases-loop-faults l = 4 - l.faults
