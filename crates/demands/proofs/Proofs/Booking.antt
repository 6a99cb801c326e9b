-- Each booking and each cancellation is refused as it must be: which refusal meets it, by what history knows of bookings.
use Rattle.std.specs.Prelude.{◌≡◌, refl, true, false, not, cond, ◌⊎◌, [], ◌∷◌, ℕ, ◌≤◌, ◌<◌, ltb, eqb, length}
use Rattle.std.proofs.Common.{inl, inr, arith, ltb-true, eqb-true, eq-eqb, lt-ltb, le-ltb}
use Rattle.model.specs.declared.Booking.{Booking}
use Rattle.model.specs.Refusals.{first_met, bus_outside}
use Rattle.model.specs.Bookings.{most_watts, most_live, watts_outside, is_live}
use Rattle.model.specs.Laws.Tests.{contra, dec, dec_lt, or_cases}
use Rattle.model.specs.Laws.Lists.{any_at, any_none}
use Rattle.model.specs.Laws.Refusals.{bus_inside}
use Rattle.model.specs.Laws.Bookings.{watts_inside}
use Rattle.demands.specs.Statements.Demand3.{
  BookingCall,
  book,
  cancel,
  History,
  OnBus,
  InRange,
  Live,
  BookingMeets,
  no_bus,
  no_range,
  is_live_lem,
  no_place,
  not_live,
}
use Rattle.demands.proofs.Proofs.Answering.{Judged, met, fine}

-- the refusals of a booking or a cancellation in their order but for 9, by what history knows
unfoldable pub booking_number : ℕ → History → BookingCall → ℕ
booking_number n h (book b) =
    first_met
    ((10, bus_outside n b.bus)
    ∷ (12, watts_outside b.watts)
    ∷ (13, is_live h.live b.number)
    ∷ (14, not (ltb (length h.live) most_live))
    ∷ [])
booking_number n h (cancel v) = first_met ((13, not (is_live h.live v)) ∷ [])

-- a booking or a cancellation that nothing meets
pub data BookingFine (n : ℕ) (h : History) : BookingCall → Type 0 where
  fine_book : {b : Booking} → OnBus n b → InRange b → (Live h b.number → ⊥) → length h.live < 64 → BookingFine n h (book b)
  fine_cancel : {v : ℕ} → Live h v → BookingFine n h (cancel v)

-- nothing meets a fine one
pub none_booking : {n : ℕ} {h : History} {call : BookingCall} → BookingFine n h call → (j : ℕ) → BookingMeets n h call j → ⊥
none_booking (fine_book on range free room) j (no_bus f) = f on
none_booking (fine_book on range free room) j (no_range o f) = f range
none_booking (fine_book on range free room) j (is_live_lem o r l) = free l
none_booking (fine_book on range free room) j (no_place o r f full) = omega arith
none_booking (fine_cancel l) j (not_live f) = f l

-- condition 10, met
bus_out : (n : ℕ) (b : Booking) → bus_outside n b.bus ≡ true → OnBus n b → ⊥
unfolding bus_outside
bus_out n b e on = go (or_cases (ltb b.bus 1) (ltb n b.bus) e)
  where
    go : (ltb b.bus 1 ≡ true) ⊎ (ltb n b.bus ≡ true) → ⊥
    go (inl q) = omega (arith, ltb-true b.bus 1 q, on.0)
    go (inr q) = omega (arith, ltb-true n b.bus q, on.1)

-- condition 12, met
watts_out : (b : Booking) → watts_outside b.watts ≡ true → InRange b → ⊥
unfolding watts_outside
watts_out b e range = go (or_cases (ltb b.watts 1) (ltb most_watts b.watts) e)
  where
    go : (ltb b.watts 1 ≡ true) ⊎ (ltb most_watts b.watts ≡ true) → ⊥
    go (inl q) = omega (arith, ltb-true b.watts 1 q, range.0)
    go (inr q) = omega (arith, ltb-true most_watts b.watts q, range.1)

-- condition 13, met and not
live_is : (h : History) (v : ℕ) → is_live h.live v ≡ true → Live h v
unfolding is_live
live_is h v e = let t = any_at (λ b. eqb b.number v) h.live e in (t.0, t.1, eqb-true t.0.number v t.2)

live_not : (h : History) (v : ℕ) → is_live h.live v ≡ false → Live h v → ⊥
unfolding is_live
live_not h v e l = contra (eq-eqb l.0.number v l.2) (any_none (λ b. eqb b.number v) e l.1)

-- the one refusal that meets a booking
module _ {n : ℕ} {h : History} {b : Booking} where
  only_bus : (OnBus n b → ⊥) → (j : ℕ) → BookingMeets n h (book b) j → j ≡ 10
  only_bus out j (no_bus f) = refl
  only_bus out j (no_range o f) = absurd (out o)
  only_bus out j (is_live_lem o r l) = absurd (out o)
  only_bus out j (no_place o r f full) = absurd (out o)

  only_range : OnBus n b → (InRange b → ⊥) → (j : ℕ) → BookingMeets n h (book b) j → j ≡ 12
  only_range on out j (no_bus f) = absurd (f on)
  only_range on out j (no_range o f) = refl
  only_range on out j (is_live_lem o r l) = absurd (out r)
  only_range on out j (no_place o r f full) = absurd (out r)

  only_live : OnBus n b → InRange b → Live h b.number → (j : ℕ) → BookingMeets n h (book b) j → j ≡ 13
  only_live on range l j (no_bus f) = absurd (f on)
  only_live on range l j (no_range o f) = absurd (f range)
  only_live on range l j (is_live_lem o r k) = refl
  only_live on range l j (no_place o r f full) = absurd (f l)

  only_place : OnBus n b → InRange b → (Live h b.number → ⊥) → (j : ℕ) → BookingMeets n h (book b) j → j ≡ 14
  only_place on range free j (no_bus f) = absurd (f on)
  only_place on range free j (no_range o f) = absurd (f range)
  only_place on range free j (is_live_lem o r l) = absurd (free l)
  only_place on range free j (no_place o r f full) = refl

-- .. and a cancellation
only_cancel : {n : ℕ} {h : History} {v : ℕ} → (j : ℕ) → BookingMeets n h (cancel v) j → j ≡ 13
only_cancel j (not_live f) = refl

-- the number of a booking or a cancellation is that of the one refusal that meets it, or 0 and the call is fine
pub judge_booking : {n : ℕ} {h : History} (call : BookingCall) → Judged (BookingMeets n h call) (BookingFine n h call) (booking_number n h call)
unfolding booking_number first_met
judge_booking {n} {h} (book b) =
    go (dec (bus_outside n b.bus)) (dec (watts_outside b.watts)) (dec (is_live h.live b.number)) (dec_lt (length h.live) 64)
  where
    go : (bus_outside n b.bus ≡ true) ⊎ (bus_outside n b.bus ≡ false)
        → (watts_outside b.watts ≡ true) ⊎ (watts_outside b.watts ≡ false)
        → (is_live h.live b.number ≡ true) ⊎ (is_live h.live b.number ≡ false)
        → (length h.live < 64) ⊎ (64 ≤ length h.live)
        → Judged (BookingMeets n h (book b)) (BookingFine n h (book b))
        (cond (bus_outside n b.bus) 10
        (cond (watts_outside b.watts) 12
        (cond (is_live h.live b.number) 13 (cond (not (ltb (length h.live) 64)) 14 0))))
    go (inl p) q r s = rw p (met 10 (omega arith) (no_bus (bus_out n b p)) (only_bus (bus_out n b p)))
    go (inr p) (inl q) r s =
        let on = bus_inside n b.bus p in
        rw (p, q) (met 12 (omega arith) (no_range on (watts_out b q)) (only_range on (watts_out b q)))
    go (inr p) (inr q) (inl r) s =
        let on = bus_inside n b.bus p in
        let range = watts_inside b.watts q in
        let l = live_is h b.number r in
        rw (p, q, r) (met 13 (omega arith) (is_live_lem on range l) (only_live on range l))
    go (inr p) (inr q) (inr r) (inl s) =
        let f : BookingFine n h (book b) = fine_book (bus_inside n b.bus p) (watts_inside b.watts q) (live_not h b.number r) s in
        rw (p, q, r, lt-ltb (length h.live) 64 s) (fine (none_booking f) f)
    go (inr p) (inr q) (inr r) (inr s) =
        let on = bus_inside n b.bus p in
        let range = watts_inside b.watts q in
        let free = live_not h b.number r in
        rw (p, q, r, le-ltb (length h.live) 64 s) (met 14 (omega arith) (no_place on range free s) (only_place on range free))
judge_booking {n} {h} (cancel v) = go (dec (is_live h.live v))
  where
    go : (is_live h.live v ≡ true) ⊎ (is_live h.live v ≡ false)
        → Judged (BookingMeets n h (cancel v)) (BookingFine n h (cancel v)) (cond (not (is_live h.live v)) 13 0)
    go (inl p) =
        let f : BookingFine n h (cancel v) = fine_cancel (live_is h v p) in
        rw p (fine (none_booking f) f)
    go (inr p) = rw p (met 13 (omega arith) (not_live (live_not h v p)) only_cancel)
