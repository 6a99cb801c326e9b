-- `append_sets`: after k turns the lines of the first k sets are stored.
use mathlib.Core.Path.{◌≡◌}
use Prim.Native.Nat.{◌+◌, ◌-◌, ◌*◌, ◌≤◌}
use lib.ListN.{length, take, drop}
use Rattle.model.specs.Laws.Appended.{Appended}
use Rattle.cutlines.specs.Sets.{lines_of}
use Rattle.cutlines.proofs.append_sets.Given as goal

abbrev pub invariant-loop-set : goal.invariant-loop-set
invariant-loop-set l =
    Appended (lines_of l.sheet (length l.yielded)) l.initial.out l.at l.out l.end
    × (l.set-iterator.rest.now ≡ drop (3 * length l.yielded) (take (2 + 3 * l.count - 2) (drop 2 l.sheet)))
    × (l.set-iterator.size ≡ 3)
    × (length l.yielded ≤ l.count)
