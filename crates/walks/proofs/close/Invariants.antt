-- `walks::close` meets its contract. The loop's invariant: what is stored on the whole way is what is stored from here.
use Rattle.std.proofs.Common.{◌≡◌, true}
use Rattle.walks.specs.Arrays.{set_all}
use Rattle.walks.specs.Breakers.{breakers_left}
use Rattle.walks.specs.Walk.{outward}
use Rattle.walks.proofs.close.Given as goal

abbrev pub invariant-loop-i : goal.invariant-loop-i
invariant-loop-i l = set_all true (outward l.n l.rising l.g l.steps) l.initial.closed ≡ set_all true (breakers_left l.i-iterator) l.closed
