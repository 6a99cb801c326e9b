-- `control::step` meets its contract: refused by 9, or as the inner step answers, with the load beside it.
use mathlib.Core.Path.{◌≡◌, refl, sym, ◌∙◌}
use mathlib.Core.Bool.{false}
use native.Mathlib.Omega.{arith}
use Rattle.model.specs.Reports.{told}
use Rattle.model.specs.Answers.{step_reply}
use Rattle.model.specs.Scans.{told_all}
use Rattle.model.specs.States.{told_state, state_step, bad_record}
use Rattle.model.specs.Laws.Refusals.{good_size}
use Rattle.model.specs.Laws.Bookings.{good_state}
use Rattle.control.specs.Replies.{on_ring, never_served, bad_refused, good_inner}
use Rattle.control.proofs.step.Goals as goal
use Rattle.control.proofs.step.Goals.{Else-bad_record}

-- what the check says
good : (c : Else-bad_record) → bad_record c.args.state ≡ false
good c = sym c.bad_record.ensures ∙ c.if-bad_record.false

pub with_load-requires : goal.with_load-requires
with_load-requires c = never_served _ _ c.refused_by.ensures

pub returns-then-bad_record : goal.returns-then-bad_record
unfolding state_step told_state told_all
returns-then-bad_record c = let whole = bad_refused _ _ _ _ _ _ c.with_load.ensures _ _ (sym c.bad_record.ensures ∙ c.if-bad_record.true)
    c.refused_by.ensures (omega arith) refl in record { answer = whole.0; bytes = whole.1.0; number = whole.1.1.0; values = whole.1.1.1 }

pub step-requires : goal.step-requires
step-requires c = (good_state _ (good (goal.at.step-requires c).Else-bad_record)).ring_good

pub with_load-requires-2 : goal.with_load-requires-2
unfolding step_reply told
with_load-requires-2 c =
    let s = good_state _ (good (goal.at.with_load-requires-2 c).Else-bad_record) in
    on_ring _ _ _ _ _ _ (c.step.ensures.answer, (c.step.ensures.bytes, (c.step.ensures.number, c.step.ensures.values))) c.args.state.load (good_size _ s.ring_good).1 s.few s.bookable

pub returns : goal.returns
unfolding state_step told_state told_all step_reply
returns c = let whole = good_inner _ _ _ c.args.buffer.now _ _ c.with_load-2.ensures _
    (good (goal.at.returns c).Else-bad_record) (c.step.ensures.answer, (c.step.ensures.bytes, (c.step.ensures.number, c.step.ensures.values))) in record { answer = whole.0; bytes = whole.1.0; number = whole.1.1.0; values = whole.1.1.1 }
