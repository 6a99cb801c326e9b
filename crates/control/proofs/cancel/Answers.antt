-- `control::cancel` meets its contract: refused by the first of its conditions that is met, or without the booking and with new figures.
use mathlib.Core.Path.{◌≡◌}
use mathlib.Core.Bool.{true, false}
use native.Mathlib.Omega.{arith}
use borrow.Author.Tests.{not-true, not-false}
use Rattle.model.specs.Bookings.{live_bookings, is_live}
use Rattle.model.specs.States.{bad_record, cancel_answer}
use Rattle.model.specs.declared.Refusal.TheVariants.{BadRecord, BookingNumber}
use Rattle.model.specs.Laws.Refusals.{good_size}
use Rattle.model.specs.Laws.Bookings.{good_state, without_bookable, without_fewer}
use Rattle.components.specs.Tests.{is_true, is_false, outcomes}
use Rattle.control.specs.Booking.{gives_unbooked, gives_booked, cancel_9, cancel_13, cancel_0}
use Rattle.control.proofs.cancel.Goals as goal
use Rattle.control.proofs.cancel.Goals.{Else-bad_record, Else-not-is_live}

-- what the first check says
good : (c : Else-bad_record) → bad_record c.args.state ≡ false
good c = is_false _ (λ e. search outcomes)

-- what the second says
live : (c : Else-not-is_live)
    → (is_live (live_bookings c.args.state.load) c.args.number ≡ true)
live c = is_true _ (λ e. search (outcomes, not-true, not-false))

pub returns-then-bad_record : goal.returns-then-bad_record
unfolding cancel_answer
returns-then-bad_record c =
    let k = cancel_9 c.args.state c.args.number (λ e. search outcomes) in let whole = gives_unbooked _ _ _ _ BadRecord c.unbooked.ensures (omega arith) k in record { answer = whole.0; number = whole.1 }

pub is_live-requires : goal.is_live-requires
is_live-requires c = (good_state _ (good (goal.at.is_live-requires c).Else-bad_record)).few

pub returns-then-not-is_live : goal.returns-then-not-is_live
unfolding cancel_answer
returns-then-not-is_live c =
    let k = cancel_13 c.args.state c.args.number (λ e. search outcomes) (λ e. search (outcomes, not-true, not-false)) in let whole = gives_unbooked _ _ _ _ BookingNumber c.unbooked-then-not-is_live.ensures (omega arith) k in record { answer = whole.0; number = whole.1 }

pub without_booking-requires : goal.without_booking-requires
without_booking-requires c = ((good_state _ (good (goal.at.without_booking-requires c).Else-bad_record)).few, live (goal.at.without_booking-requires c).Else-not-is_live)

-- the bookings left are within the bounds of a good ring
pub reckoned_load-left-requires : goal.reckoned_load-left-requires
reckoned_load-left-requires c =
    let s = good_state c.args.state (good (goal.at.reckoned_load-left-requires c).Else-bad_record) in
    record {
      size = good_size _ s.ring_good;
      live = rw c.without_booking.ensures (omega (arith, s.few, without_fewer c.args.state.load c.args.number));
      bounds = rw c.without_booking.ensures (without_bookable _ c.args.state.load c.args.number s.bookable);
    }

pub returns : goal.returns
unfolding cancel_answer
returns c =
    let k = cancel_0 c.args.state c.args.number (good (goal.at.returns c).Else-bad_record) (live (goal.at.returns c).Else-not-is_live) in let whole = gives_booked _ _ _ _ _ c.reckoned_load-left.ensures c.without_booking.ensures k in record { answer = whole.0; number = whole.1 }
