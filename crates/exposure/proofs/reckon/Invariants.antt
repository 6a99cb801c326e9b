-- `exposure::reckon` meets its contract. The loop's invariant: the figures are those of the sets passed.
use mathlib.Core.Path.{◌≡◌}
use Prim.Native.Nat.{◌+◌, ◌-◌, ◌*◌, ◌≤◌}
use lib.ListN.{length, take, drop}
use Rattle.exposure.specs.Bytes.{figures_of}
use Rattle.exposure.proofs.reckon.Given as goal

abbrev pub invariant-loop-set : goal.invariant-loop-set
invariant-loop-set l =
    (l.figures ≡ figures_of l.rates l.sheet (length l.yielded))
    × (l.set-iterator.rest.now ≡ drop (3 * length l.yielded) (take (2 + 3 * l.count - 2) (drop 2 l.sheet)))
    × (l.set-iterator.size ≡ 3)
    × (length l.yielded ≤ l.count)
