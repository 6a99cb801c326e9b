-- `feeding::arc_closed` meets its contract. The loop's invariant: the arc is closed exactly when what is left of it is. The measure is the
-- number of bus breakers left.
use mathlib.Core.Path.{◌≡◌}
use Prim.Native.Nat.{◌<◌}
use Rattle.model.specs.Lists.{all_of}
use Rattle.model.specs.Plant.{bus_breaker_closed, up, arc}
use Rattle.model.specs.Reports.{health_of, commands_of}
use Rattle.feeding.proofs.arc_closed.Given as goal

abbrev pub invariant-loop-i : goal.invariant-loop-i
invariant-loop-i l =
    let C = bus_breaker_closed (health_of l.health) (commands_of l.commands) in
    (l.i < l.n) × (all_of C (arc l.n l.a (up l.n l.a l.b)) ≡ all_of C (arc l.n l.i (up l.n l.i l.b)))

abbrev pub decreases-loop-i : goal.decreases-loop-i
decreases-loop-i l = up l.n l.i l.b
