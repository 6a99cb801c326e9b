-- `control::book` meets its contract: refused by the first of its conditions that is met, or with the booking and new figures.
use mathlib.Core.Path.{◌≡◌}
use mathlib.Core.Bool.{false}
use Prim.Native.Nat.{◌<◌}
use native.Mathlib.Omega.{arith}
use Rattle.model.specs.Refusals.{bus_outside}
use Rattle.model.specs.Bookings.{live_bookings, with_booking, watts_outside, is_live}
use Rattle.model.specs.States.{bad_record, book_answer}
use Rattle.model.specs.Laws.Tests.{facts}
use Rattle.model.specs.declared.Refusal.TheVariants.{BadRecord, BusOutside, WattsOutside, BookingNumber, BookingsFull}
use Rattle.model.specs.Laws.Refusals.{good_size}
use Rattle.model.specs.Laws.Bookings.{bookable, good_state, with_bookable}
use Rattle.components.specs.Tests.{is_false, outcomes}
use Rattle.control.specs.Booking.{gives_unbooked, gives_booked, book_9, book_10, book_12, book_13, book_14, book_0}
use Rattle.control.proofs.book.Goals as goal
use Rattle.control.proofs.book.Goals.{Else-bad_record, Else-load-ge64}

-- what the first check says
good : (c : Else-bad_record) → bad_record c.args.state ≡ false
good c = is_false _ (λ e. search outcomes)

-- what all the checks say
passed : (c : Else-load-ge64)
    → ((bad_record c.args.state ≡ false)
    × (bus_outside c.args.state.ring.n c.args.booking.bus ≡ false)
    × (watts_outside c.args.booking.watts ≡ false)
    × (is_live (live_bookings c.args.state.load) c.args.booking.number ≡ false)
    × (c.args.state.load.live < 64))
passed c = (
  is_false _ (λ e. search outcomes),
  is_false _ (λ e. search outcomes),
  is_false _ (λ e. search outcomes),
  is_false _ (λ e. search outcomes),
  omega (arith, facts),
)

pub returns-then-bad_record : goal.returns-then-bad_record
unfolding book_answer
returns-then-bad_record c =
    let k = book_9 c.args.state c.args.booking (λ e. search outcomes) in let whole = gives_unbooked _ _ _ _ BadRecord c.unbooked.ensures (omega arith) k in record { answer = whole.0; number = whole.1 }

pub returns-then-bus_outside : goal.returns-then-bus_outside
unfolding book_answer
returns-then-bus_outside c =
    let k = book_10 c.args.state c.args.booking (λ e. search outcomes) (λ e. search outcomes) in let whole = gives_unbooked _ _ _ _ BusOutside c.unbooked-then-bus_outside.ensures (omega arith) k in record { answer = whole.0; number = whole.1 }

pub returns-then-watts_outside : goal.returns-then-watts_outside
unfolding book_answer
returns-then-watts_outside c =
    let k = book_12 c.args.state c.args.booking (λ e. search outcomes) (λ e. search outcomes) (λ e. search outcomes) in let whole = gives_unbooked _ _ _ _ WattsOutside c.unbooked-then-watts_outside.ensures (omega arith) k in record { answer = whole.0; number = whole.1 }

pub is_live-requires : goal.is_live-requires
is_live-requires c = (good_state _ (good (goal.at.is_live-requires c).Else-bad_record)).few

pub returns-then-is_live : goal.returns-then-is_live
unfolding book_answer
returns-then-is_live c =
    let k = book_13 c.args.state c.args.booking (λ e. search outcomes) (λ e. search outcomes) (λ e. search outcomes) (λ e. search outcomes) in let whole = gives_unbooked _ _ _ _ BookingNumber c.unbooked-then-is_live.ensures (omega arith) k in record { answer = whole.0; number = whole.1 }

pub returns-then-load-ge64 : goal.returns-then-load-ge64
unfolding book_answer
returns-then-load-ge64 c =
    let k =
    book_14 c.args.state c.args.booking (λ e. search outcomes) (λ e. search outcomes) (λ e. search outcomes) (λ e. search outcomes)
    (omega (arith, facts)) in let whole = gives_unbooked _ _ _ _ BookingsFull c.unbooked-then-load-ge64.ensures (omega arith) k in record { answer = whole.0; number = whole.1 }

-- the booking is within the bounds of a good ring
pub reckoned_load-booked-requires : goal.reckoned_load-booked-requires
unfolding with_booking
reckoned_load-booked-requires c =
    let p = passed (goal.at.reckoned_load-booked-requires c).Else-load-ge64 in
    let s = good_state c.args.state p.0 in
    let one = bookable c.args.state.ring.n c.args.booking p.1 p.2 in
    record {
      size = good_size _ s.ring_good;
      live = rw c.with_booking.ensures (omega (arith, p.4));
      bounds = rw c.with_booking.ensures (with_bookable _ c.args.state.load c.args.booking s.bookable one);
    }

pub returns : goal.returns
unfolding book_answer
returns c =
    let p = passed (goal.at.returns c).Else-load-ge64 in
    let k = book_0 c.args.state c.args.booking p.0 p.1 p.2 p.3 p.4 in let whole = gives_booked _ _ _ _ _ c.reckoned_load-booked.ensures c.with_booking.ensures k in record { answer = whole.0; number = whole.1 }
