-- `transition::advance` meets its contract: the sheet is written from the ring's commands to those planned, or refused.
use mathlib.Core.Path.{◌≡◌}
use Rattle.model.specs.Choosing.{choices}
use Rattle.model.specs.Reports.{health_of, command_places, planned}
use Rattle.transition.specs.Advance.{advance_served, advance_refused}
use Rattle.transition.proofs.advance.Goals as goal
use Rattle.transition.proofs.advance.Goals.{After-plan-planned}

-- what the plan says
choices-planned : (c : After-plan-planned)
    → (c.plan-planned.result.choices ≡ choices c.args.ring.n (health_of c.args.ring.health))
choices-planned c = c.plan-planned.ensures.chosen

commands-planned : (c : After-plan-planned) → c.plan-planned.result.commands ≡ command_places (planned c.args.ring)
unfolding planned
commands-planned c = c.plan-planned.ensures.commanded

pub write-requires-clause-size : goal.write-requires-clause-size
write-requires-clause-size c = c.requires.1

pub write-requires-clause-planned : goal.write-requires-clause-planned
write-requires-clause-planned c = (health_of c.args.ring.health, c.plan-planned.ensures.commanded, choices-planned (goal.at.write-requires-clause-planned c).After-plan-planned)

pub returns-in-Ok : goal.returns-in-Ok
returns-in-Ok c = let whole = advance_served _ c.requires.1 _ (commands-planned (goal.at.returns-in-Ok c).After-plan-planned) _ (choices-planned (goal.at.returns-in-Ok c).After-plan-planned) _ _ _ _ c.write.ensures.answer c.write.ensures.bytes
    c.in-Ok.is in record { answer = whole.0; bytes = whole.1.0; number = whole.1.1.0; values = whole.1.1.1 }

pub returns-in-Err : goal.returns-in-Err
returns-in-Err c = let whole = advance_refused _ c.requires.1 _ (commands-planned (goal.at.returns-in-Err c).After-plan-planned) _ (choices-planned (goal.at.returns-in-Err c).After-plan-planned) _ _ _ _ c.write.ensures.answer c.write.ensures.bytes _
    c.in-Err.is _ c.refused_by.ensures in record { answer = whole.0; bytes = whole.1.0; number = whole.1.1.0; values = whole.1.1.1 }
