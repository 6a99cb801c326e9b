-- The live bookings, one after the other: the first k of the places bs. Places are counted from 0.
use Rattle.std.specs.Prelude.{◌≡◌, Bool, true, false, List, ℕ, suc, ◌+◌, ◌-◌, ◌≤◌, ◌<◌, length, get_or, set, take, drop, ltb}
use Rattle.std.proofs.Common.{add-one, arith, drop_of_length-le, drop-cons, ltb-true, ltb-false}
use Rattle.std.proofs.lemmas.List.{take_all, length-drop}
use Rattle.model.specs.declared.Booking.{Booking}
use Rattle.model.specs.declared.Load.{Load}
use Rattle.model.specs.Bookings.{most_watts, with_booking, watts_outside, is_live, live_twice}
use Rattle.components.specs.Tests.{is_true, is_false, either_test}

-- 12: "watts outside the range", however the code words its test
pub watts_test : (w : ℕ) (r : Bool) → (w < 1 → r ≡ false → ⊥) → (most_watts < w → r ≡ false → ⊥)
    → (1 ≤ w → w ≤ most_watts → r ≡ true → ⊥)
    → r ≡ watts_outside w
unfolding watts_outside
watts_test w r low high within =
    either_test (ltb w 1) (ltb most_watts w) r (λ e. is_true r (low (ltb-true w 1 e))) (λ e. is_true r (high (ltb-true most_watts w e)))
    (λ e f. is_false r (within (ltb-false w 1 e) (ltb-false most_watts w f)))

-- a booking more, of a place and a count
pub booked : (l : Load) (b : Booking) (place count : ℕ) → place ≡ l.live → count ≡ suc l.live
    → record { bookings = set l.bookings place b; live = count; watts = l.watts; dark_watts = l.dark_watts } ≡ with_booking l b
unfolding with_booking
booked l b place count e f = rw (e, f)

-- the bookings one after the other, each with those behind it
module _ (bs : List Booking) (i : ℕ) (d : Booking) (h : i < length bs) where
  -- the bookings behind the i-th, as the code passes them
  abbrev behind : List Booking
  behind = take (length bs - (i + 1)) (drop (i + 1) bs)

  all_behind : behind ≡ drop (suc i) bs
  all_behind = rw add-one (take_all (length bs - suc i) (drop (suc i) bs) (omega (arith, length-drop (suc i) bs)))

  -- a number that is live again behind the i-th
  pub twice : is_live behind (get_or bs i d).number ≡ true → live_twice (drop i bs) ≡ true
  unfolding live_twice
  twice e = rw (drop-cons bs i d h, rw all_behind at e)

  -- .. and one that is not
  pub once : is_live behind (get_or bs i d).number ≡ false → live_twice (drop i bs) ≡ live_twice (drop (i + 1) bs)
  unfolding live_twice
  once e = rw (drop-cons bs i d h, add-one, rw all_behind at e)

pub none_left : (bs : List Booking) (i : ℕ) → length bs ≤ i → live_twice (drop i bs) ≡ false
unfolding live_twice
none_left bs i h = rw (drop_of_length-le bs {i = i} h)
