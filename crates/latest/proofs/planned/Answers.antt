-- `latest::planned`: the plan's commands, and nothing else.
use native.Mathlib.Omega.{arith}
use Rattle.latest.specs.Told.{plan_stored}
use Rattle.latest.proofs.planned.Goals as goal

pub returns : goal.returns
returns c = plan_stored _ _ _ (omega arith) c.plan-plan.ensures.commanded
