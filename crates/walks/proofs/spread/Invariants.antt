-- `walks::spread` meets its contract. The loop's invariant: what is stored on the whole walk is what is stored from here.
use mathlib.Core.Path.{◌≡◌}
use Prim.Native.Nat.{◌<◌, ◌-◌}
use Rattle.walks.specs.Arrays.{at, set_all}
use Rattle.walks.specs.Walk.{closed_by, reach}
use Rattle.walks.proofs.spread.Given as goal

abbrev pub invariant-loop : goal.invariant-loop
invariant-loop l =
    (l.k < l.n) × (set_all l.number (reach l.n (closed_by (at l.breakers) l.closed) l.rising l.b l.n) l.initial.owners
    ≡ set_all l.number (reach l.n (closed_by (at l.breakers) l.closed) l.rising l.k (l.n - l.counter)) l.owners)
