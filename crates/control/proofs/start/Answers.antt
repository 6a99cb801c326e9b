-- `control::start` meets its contract: refused by 2, or as the inner start answers, without bookings.
use mathlib.Core.Path.{sym, ◌∙◌}
use native.Mathlib.Omega.{arith}
use Rattle.model.specs.Reports.{blank_ring}
use Rattle.model.specs.Answers.{start_reply}
use Rattle.model.specs.States.{state_start, unloaded}
use Rattle.model.specs.Laws.Refusals.{size_bounds}
use Rattle.control.specs.Replies.{on_ring, never_served, start_inner, start_refused, none_bookable}
use Rattle.control.proofs.start.Goals as goal

pub with_load-requires : goal.with_load-requires
with_load-requires c = never_served _ _ c.refused_by.ensures

pub returns-then-size_outside : goal.returns-then-size_outside
unfolding state_start unloaded
returns-then-size_outside c = let whole = start_refused _ _ _ _ c.no_load-load.ensures _ c.with_load.ensures _ _
    (sym c.size_outside.ensures ∙ c.if-size_outside.true) c.refused_by.ensures (omega arith) c.blank.ensures in record { answer = whole.0; bytes = whole.1.0; number = whole.1.1.0; values = whole.1.1.1 }

pub start-requires : goal.start-requires
start-requires c = size_bounds _ (sym c.size_outside.ensures ∙ c.if-size_outside.false)

-- a ring without bookings has figures
pub with_load-requires-2 : goal.with_load-requires-2
unfolding start_reply blank_ring
with_load-requires-2 c =
    let none = none_bookable _ _ c.no_load-load.ensures in
    let size = size_bounds _ (sym c.size_outside.ensures ∙ c.if-size_outside.false) in
    on_ring _ _ _ _ _ _ (c.start.ensures.answer, (c.start.ensures.bytes, (c.start.ensures.number, c.start.ensures.values))) c.no_load-load.result size.1 none.0 none.1

pub returns : goal.returns
unfolding state_start unloaded start_reply
returns c = let whole = start_inner _ c.args.buffer.now _ _ c.no_load-load.ensures _ c.with_load-2.ensures _
    (c.start.ensures.answer, (c.start.ensures.bytes, (c.start.ensures.number, c.start.ensures.values))) in record { answer = whole.0; bytes = whole.1.0; number = whole.1.1.0; values = whole.1.1.1 }
