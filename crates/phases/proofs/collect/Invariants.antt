-- `collect`: after i turns the codes of the first i parts that open are stored, and those that close counted.
use mathlib.Core.Path.{◌≡◌}
use Prim.Native.Nat.{◌+◌, ◌≤◌}
use lib.ListN.{length}
use Rattle.model.specs.Lists.{below, keep}
use Rattle.model.specs.Laws.Appended.{Appended}
use Rattle.phases.specs.Codes.{opens, closes, codes}
use Rattle.phases.proofs.collect.Given as goal

abbrev pub invariant-loop-i : goal.invariant-loop-i
invariant-loop-i l =
    Appended (codes (opens l.fn.old l.fn.new) l.base (length l.yielded)) l.initial.opening l.initial.opened l.opening l.opened
    × (l.closed ≡ l.initial.closed + length (keep (closes l.fn.old l.fn.new) (below (length l.yielded))))
    × (l.opened ≤ l.initial.opened + length l.yielded)
    × (l.closed ≤ l.initial.closed + length l.yielded)
