-- `walks::clear` meets its contract. The loop's invariant: the whole walk is the walk from here.
use mathlib.Core.Path.{◌≡◌}
use Prim.Native.Nat.{◌<◌, ◌-◌}
use Rattle.walks.specs.Arrays.{at}
use Rattle.walks.specs.Walk.{clear}
use Rattle.walks.proofs.clear.Given as goal

abbrev pub invariant-loop : goal.invariant-loop
invariant-loop l =
    (l.k < l.n) × (clear l.n (at l.breakers) (at l.owners) l.number l.from l.steps ≡ clear l.n (at l.breakers) (at l.owners) l.number l.k (l.steps - l.counter))
