-- `control::scan` meets its contract: refused by 9, or as the inner scan answers, with the load beside it.
use mathlib.Core.Path.{◌≡◌, refl, sym, ◌∙◌}
use mathlib.Core.Bool.{false}
use native.Mathlib.Omega.{arith}
use Rattle.model.specs.Scans.{scan_reports, scan_reply}
use Rattle.model.specs.States.{told_state, state_scan, bad_record}
use Rattle.model.specs.Laws.Refusals.{good_size}
use Rattle.model.specs.Laws.Scans.{told_size}
use Rattle.model.specs.Laws.Bookings.{good_state}
use Rattle.control.specs.Replies.{on_ring, never_served, bad_refused, good_inner}
use Rattle.control.proofs.scan.Goals as goal
use Rattle.control.proofs.scan.Goals.{Else-bad_record}

-- what the check says
good : (c : Else-bad_record) → bad_record c.args.state ≡ false
good c = sym c.bad_record.ensures ∙ c.if-bad_record.false

pub with_load-requires : goal.with_load-requires
with_load-requires c = never_served _ _ c.refused_by.ensures

pub returns-then-bad_record : goal.returns-then-bad_record
unfolding state_scan told_state
returns-then-bad_record c = let whole = bad_refused _ _ _ _ _ _ c.with_load.ensures _ _ (sym c.bad_record.ensures ∙ c.if-bad_record.true)
    c.refused_by.ensures (omega arith) refl in record { answer = whole.0; bytes = whole.1.0; number = whole.1.1.0; values = whole.1.1.1 }

pub scan-requires : goal.scan-requires
scan-requires c = (good_state _ (good (goal.at.scan-requires c).Else-bad_record)).ring_good

pub with_load-requires-2 : goal.with_load-requires-2
unfolding scan_reply
with_load-requires-2 c =
    let s = good_state _ (good (goal.at.with_load-requires-2 c).Else-bad_record) in
    let size = told_size c.args.state.ring (scan_reports c.args.scan) in
    on_ring _ _ _ _ _ _ (c.scan.ensures.answer, (c.scan.ensures.bytes, (c.scan.ensures.number, c.scan.ensures.values))) c.args.state.load (rw size (good_size _ s.ring_good).1) s.few (rw size s.bookable)

pub returns : goal.returns
unfolding state_scan told_state scan_reply
returns c = let whole = good_inner _ _ _ c.args.buffer.now _ _ c.with_load-2.ensures _
    (good (goal.at.returns c).Else-bad_record) (c.scan.ensures.answer, (c.scan.ensures.bytes, (c.scan.ensures.number, c.scan.ensures.values))) in record { answer = whole.0; bytes = whole.1.0; number = whole.1.1.0; values = whole.1.1.1 }
