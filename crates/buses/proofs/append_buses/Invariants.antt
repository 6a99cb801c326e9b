-- `append_buses`: after b turns the first b buses are stored.
use mathlib.Core.Path.{◌≡◌}
use mathlib.Core.List.{map}
use Prim.Native.Nat.{◌≤◌}
use lib.ListN.{length}
use Rattle.model.specs.Lists.{below}
use Rattle.model.specs.Text.{bus_text}
use Rattle.model.specs.Laws.Appended.{Appended}
use Rattle.model.specs.Laws.Spaced.{behind_spaces}
use Rattle.buses.proofs.append_buses.Given as goal

abbrev pub invariant-loop-b : goal.invariant-loop-b
invariant-loop-b l =
    Appended (behind_spaces (map (bus_text l.fn.choices) (below l.b))) l.initial.out l.at l.out l.end × (length l.out ≡ length l.initial.out) × (l.b ≤ l.n)
