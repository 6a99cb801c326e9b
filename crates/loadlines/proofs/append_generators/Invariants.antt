-- `append_generators`: after g turns the watts of the first g generators are stored.
use mathlib.Core.Path.{◌≡◌}
use mathlib.Core.List.{map}
use Prim.Native.Nat.{◌+◌, ◌*◌, ◌≤◌}
use lib.ListN.{length}
use Rattle.model.specs.Lists.{below}
use Rattle.model.specs.Text.{joined}
use Rattle.model.specs.LoadText.{watts_text}
use Rattle.model.specs.Laws.Appended.{Appended}
use Rattle.loadlines.proofs.append_generators.Given as goal

abbrev pub invariant-loop-g : goal.invariant-loop-g
invariant-loop-g l =
    Appended (joined (map (watts_text l.fn.load) (below l.g))) l.initial.out l.at l.out l.end × (length l.out ≡ length l.initial.out) × (l.end ≤ l.at + 15 * l.g) × (l.g ≤ l.n)
