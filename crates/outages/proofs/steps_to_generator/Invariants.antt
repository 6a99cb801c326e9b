-- `outages::steps_to_generator` meets its contract. The loop's invariant: the buses passed lead to no generator that may feed.
use Prim.Native.Nat.{◌<◌}
use Rattle.model.specs.Reports.{health_of}
use Rattle.outages.specs.Sides.{Walked}
use Rattle.outages.proofs.steps_to_generator.Given as goal

abbrev pub invariant-loop-steps : goal.invariant-loop-steps
invariant-loop-steps l = (l.k < l.n) × Walked l.n (health_of l.health) l.rising l.b l.k l.steps
