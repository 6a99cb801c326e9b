-- A booking and a cancellation, by the first of their conditions that is met.
use Rattle.std.specs.Prelude.{◌≡◌, refl, Bool, true, false, ℕ, ◌≤◌, ◌<◌, Ok}
use Rattle.std.proofs.Common.{arith}
use borrow.Author.Tests.{lt-ltb, le-ltb, ne_eqb}
use Rattle.model.specs.declared.Booking.{Booking}
use Rattle.model.specs.declared.Load.{Load}
use Rattle.model.specs.declared.RingState.{RingState}
use Rattle.model.specs.declared.BookingAnswer.{BookingAnswer}
use Rattle.model.specs.declared.Refusal.{Refusal}
use Rattle.model.specs.Values.{refusal_number, outcome_number}
use Rattle.model.specs.Refusals.{first_met, bus_outside}
use Rattle.model.specs.Bookings.{most_live, live_bookings, watts_outside, is_live, no_place}
use Rattle.model.specs.States.{reckoned, bad_record, book_refusal, cancel_refusal, booking_by, refused_booking}
use Rattle.model.specs.Laws.Refusals.{number_of_refusal}
use Rattle.components.specs.Tests.{is_true, is_false}

-- a call of refusal k answers r: its whole answer and its number
abbrev pub BookingGives : ℕ → RingState → Load → BookingAnswer → Type 0
BookingGives k state load r = (r ≡ booking_by k state load) × (outcome_number r.outcome ≡ k)

-- refused
pub gives_unbooked : (k : ℕ) (state : RingState) (load : Load) (r : BookingAnswer) (x : Refusal) → r ≡ refused_booking (refusal_number x) state
    → 0 < refusal_number x
    → k ≡ refusal_number x
    → BookingGives k state load r
gives_unbooked k state load r x is numbered e =
    rw (e, is, ne_eqb (refusal_number x) 0 (λ z. omega (arith, z, numbered))) (refl, number_of_refusal (refusal_number x))

pub gives_booked : (k : ℕ) (state : RingState) (load next : Load) (after : RingState) → after ≡ reckoned state.ring next → next ≡ load
    → k ≡ 0
    → BookingGives k state load (record { outcome = Ok tt; state = after })
gives_booked k state load next after is e f = rw (f, is, e) (refl, refl)

-- a test that holds, and one that fails
abbrev pub Holds : Bool → Type 0
Holds t = t ≡ false → ⊥

abbrev pub Fails : Bool → Type 0
Fails t = t ≡ true → ⊥

-- "Turned away, after 9 and 10, in this order: 12 ..; 13 ..; 14 .."
module _ (state : RingState) (b : Booking) where
  abbrev outside : Bool
  outside = bus_outside state.ring.n b.bus

  abbrev again : Bool
  again = is_live (live_bookings state.load) b.number

  pub book_9 : Holds (bad_record state) → book_refusal state b ≡ 9
  unfolding book_refusal first_met
  book_9 bad = rw (is_true _ bad)

  module _ (good : Fails (bad_record state)) where
    pub book_10 : Holds outside → book_refusal state b ≡ 10
    unfolding book_refusal first_met
    book_10 p = rw (is_false _ good, is_true _ p)

    pub book_12 : Fails outside → Holds (watts_outside b.watts) → book_refusal state b ≡ 12
    unfolding book_refusal first_met
    book_12 p q = rw (is_false _ good, is_false _ p, is_true _ q)

    pub book_13 : Fails outside → Fails (watts_outside b.watts) → Holds again → book_refusal state b ≡ 13
    unfolding book_refusal first_met
    book_13 p q s = rw (is_false _ good, is_false _ p, is_false _ q, is_true _ s)

    pub book_14 : Fails outside → Fails (watts_outside b.watts) → Fails again → most_live ≤ state.load.live → book_refusal state b ≡ 14
    unfolding book_refusal first_met no_place
    book_14 p q s h = rw (is_false _ good, is_false _ p, is_false _ q, is_false _ s, le-ltb state.load.live most_live h)

-- a booking that is served
pub book_0 : (state : RingState) (b : Booking) → bad_record state ≡ false → bus_outside state.ring.n b.bus ≡ false
    → watts_outside b.watts ≡ false
    → is_live (live_bookings state.load) b.number ≡ false
    → state.load.live < most_live
    → book_refusal state b ≡ 0
unfolding book_refusal first_met no_place
book_0 state b good p q s h = rw (good, p, q, s, lt-ltb state.load.live most_live h)

-- a cancellation
module _ (state : RingState) (v : ℕ) where
  pub cancel_9 : Holds (bad_record state) → cancel_refusal state v ≡ 9
  unfolding cancel_refusal first_met
  cancel_9 bad = rw (is_true _ bad)

  pub cancel_13 : Fails (bad_record state) → Fails (is_live (live_bookings state.load) v) → cancel_refusal state v ≡ 13
  unfolding cancel_refusal first_met
  cancel_13 good p = rw (is_false _ good, is_false _ p)

  pub cancel_0 : bad_record state ≡ false → is_live (live_bookings state.load) v ≡ true → cancel_refusal state v ≡ 0
  unfolding cancel_refusal first_met
  cancel_0 good p = rw (good, p)
