-- `transition::step` meets its contract: refused by its report's checks, or the told ring taken to its commands.
use mathlib.Core.Path.{refl, ap}
use native.Mathlib.Omega.{arith}
use Rattle.model.specs.declared.Ring.{Ring}
use Rattle.model.specs.Reports.{told}
use Rattle.model.specs.Answers.{step_reply}
use Rattle.model.specs.Laws.Refusals.{good_size}
use Rattle.transition.specs.Replies.{step_advanced, step_refused}
use Rattle.transition.proofs.step.Goals as goal

pub advance-requires : goal.advance-requires
unfolding told
advance-requires c =
    omega (arith, ap (λ (ring : Ring). ring.n) c.told.ensures, good_size c.args.ring c.requires)

pub returns-in-Ok : goal.returns-in-Ok
unfolding step_reply
returns-in-Ok c = let whole = step_advanced _ c.requires _ c.args.buffer.now _ c.check_report.ensures.answer _ c.in-Ok.is _ _ _
    (c.advance.ensures.answer, (c.advance.ensures.bytes, (c.advance.ensures.number, c.advance.ensures.values))) c.told.ensures refl in record { answer = whole.0; bytes = whole.1.0; number = whole.1.1.0; values = whole.1.1.1 }

pub returns-in-Err : goal.returns-in-Err
unfolding step_reply
returns-in-Err c = let whole = step_refused _ c.requires _ c.args.buffer.now _ c.check_report.ensures.answer _ _ c.in-Err.is
    c.refused_by.ensures in record { answer = whole.0; bytes = whole.1.0; number = whole.1.1.0; values = whole.1.1.1 }
