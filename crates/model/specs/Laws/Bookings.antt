-- Laws of bookings and of loads.
use Rattle.std.specs.Prelude.{◌≡◌, refl, true, false, not, ◌⊎◌, ◌≢◌, List, [], ◌∷◌, ◌++◌, ℕ, suc, ◌+◌, ◌*◌, ◌≤◌, ◌<◌, ltb, length, get_or, take, drop}
use Rattle.std.proofs.Common.{sym, ◌∙◌, inl, inr, arith, length-take, take_all, take-suc-set, ltb-false, eq-eqb, ne_eqb}
use Rattle.std.proofs.Math.Bool.{Bool, or-false}
use mathlib.Core.List.Memᴰ
use Rattle.std.proofs.Math.Dec.{eqb}
use Rattle.std.proofs.Math.Seq.{set_out, take-append_seam}
use Rattle.model.specs.declared.Booking.{Booking}
use Rattle.model.specs.declared.Load.{Load}
use Rattle.model.specs.declared.Ring.{Ring}
use Rattle.model.specs.declared.RingState.{RingState}
use Rattle.model.specs.declared.BusChoice.{BusChoice}
use Rattle.model.specs.Lists.{below, keep, any_of, ◌∈◌}
use Rattle.model.specs.Plant.{largest}
use Rattle.model.specs.Reports.{places, called_for}
use Rattle.model.specs.Refusals.{bad_ring, bus_outside}
use Rattle.model.specs.Bookings.{
  most_watts,
  most_live,
  live_bookings,
  no_booking,
  no_load,
  total_watts,
  booking_source,
  watts_of,
  with_booking,
  other_bookings,
  without_booking,
  watts_outside,
  live_twice,
  booking_outside,
  other_figures,
  bad_load,
}
use Rattle.model.specs.States.{unloaded, bad_record}
use Rattle.model.specs.Laws.Tests.{or_none, dec, dec_lt}
use Rattle.model.specs.Laws.Lists.{any_none, any_false, below_lt, keep_at, keep_append, keep_length}
use Rattle.model.specs.Laws.Parts.{places_at}
use Rattle.model.specs.Laws.Choosing.{AllInside}
use Rattle.model.specs.Laws.Refusals.{bus_inside}

-- "a bus and 1 to 100,000 watts", in a ring of n
pub record Bookable (n : ℕ) (b : Booking) : Type 0 where
  pub low : 1 ≤ b.bus
  pub high : b.bus ≤ n
  pub some_watts : 1 ≤ b.watts
  pub few_watts : b.watts ≤ most_watts

-- every booking of a list
abbrev pub AllBookable : ℕ → List Booking → Type 0
AllBookable n bs = (b : Booking) → b ∈ bs → Bookable n b

pub watts_inside : (w : ℕ) → watts_outside w ≡ false → (1 ≤ w) × (w ≤ most_watts)
unfolding watts_outside
watts_inside w e = let t = or_none (ltb w 1) (ltb most_watts w) e in (ltb-false w 1 t.0, ltb-false most_watts w t.1)

-- a booking that is not refused by 10 or 12
pub bookable : (n : ℕ) (b : Booking) → bus_outside n b.bus ≡ false → watts_outside b.watts ≡ false → Bookable n b
bookable n b e f =
    let t = bus_inside n b.bus e in
    let u = watts_inside b.watts f in
    record { low = t.0; high = t.1; some_watts = u.0; few_watts = u.1 }

-- .. and of a list that is not refused by 9
pub all_bookable : (n : ℕ) (bs : List Booking) → any_of (booking_outside n) bs ≡ false → AllBookable n bs
unfolding booking_outside
all_bookable n bs e b m =
    let t = or_none (bus_outside n b.bus) (watts_outside b.watts) (any_none (booking_outside n) e m) in
    bookable n b t.0 t.1

-- a ring without bookings is refused by 9 for the ring alone
no_figures : (cs : List BusChoice) → other_figures cs no_load ≡ false
unfolding other_figures no_load watts_of total_watts keep
no_figures cs = rw
    (any_false (λ g. not (eqb (get_or (places (λ i. 0)) g 0) 0)) (below largest) (λ g m. rw (places_at {A = ℕ} (λ i. 0) g 0 (below_lt largest g m))))

pub unloaded_bad : (ring : Ring) → bad_record (unloaded ring) ≡ bad_ring ring
unfolding bad_record unloaded bad_load any_of live_twice no_load
unloaded_bad ring = rw (no_figures (called_for ring)) (or-false (bad_ring ring))

-- ---- the figures

-- watts of two lists
pub total_append : (xs ys : List Booking) → total_watts (xs ++ ys) ≡ total_watts xs + total_watts ys
unfolding total_watts
total_append [] ys = omega arith
total_append (x ∷ xs) ys = omega (arith, total_append xs ys)

-- the watts of a booking more: it counts for its generator, or for the dark buses
module _ (cs : List BusChoice) (bs : List Booking) (b : Booking) (k : ℕ) where
  watts_append : watts_of cs (bs ++ (b ∷ [])) k ≡ watts_of cs bs k + watts_of cs (b ∷ []) k
  unfolding watts_of
  watts_append =
      let f : Booking → Bool = λ c. eqb (booking_source cs c) k in
      rw (keep_append f bs (b ∷ [])) (total_append (keep f bs) (keep f (b ∷ [])))

  pub watts_counted : booking_source cs b ≡ k → watts_of cs (bs ++ (b ∷ [])) k ≡ watts_of cs bs k + b.watts
  unfolding watts_of total_watts keep
  watts_counted e = watts_append ∙ rw (eq-eqb (booking_source cs b) k e) (omega arith)

  pub watts_passed : booking_source cs b ≢ k → watts_of cs (bs ++ (b ∷ [])) k ≡ watts_of cs bs k
  unfolding watts_of total_watts keep
  watts_passed e = watts_append ∙ rw (ne_eqb (booking_source cs b) k e) (omega arith)

-- some of the bookings have no more watts than all
pub total_keep : (f : Booking → Bool) (bs : List Booking) → total_watts (keep f bs) ≤ total_watts bs
unfolding total_watts keep
total_keep f [] = omega arith
total_keep f (b ∷ bs) = go (total_keep f bs) (dec (f b))
  where
    go : total_watts (keep f bs) ≤ total_watts bs → (f b ≡ true) ⊎ (f b ≡ false) → total_watts (keep f (b ∷ bs)) ≤ b.watts + total_watts bs
    go r (inl p) = rw p (omega arith)
    go r (inr p) = rw p (omega arith)

-- bookings within their bounds have at most 100,000 watts each
pub total_most : (n : ℕ) (bs : List Booking) → AllBookable n bs → total_watts bs ≤ most_watts * length bs
unfolding total_watts
total_most n [] h = omega arith
total_most n (b ∷ bs) h = omega (arith, total_most n bs (λ c m. h c (Memᴰ.tail m)), (h b (Memᴰ.head refl)).few_watts)

pub watts_most : (n : ℕ) (cs : List BusChoice) (bs : List Booking) (k : ℕ) → AllBookable n bs → watts_of cs bs k ≤ most_watts * length bs
unfolding watts_of
watts_most n cs bs k h = omega (arith, total_keep (λ c. eqb (booking_source cs c) k) bs, total_most n bs h)

-- the choices are those of some ring, and the bookings within its bounds
pub record OnRing (cs : List BusChoice) (bs : List Booking) : Type 0 where
  pub n : ℕ
  pub small : n ≤ largest
  pub inside : AllInside n cs
  pub bookable : AllBookable n bs

-- ---- a ring state that 9 does not refuse, and what stays so

pub record GoodState (state : RingState) : Type 0 where
  pub ring_good : bad_ring state.ring ≡ false
  pub few : state.load.live ≤ most_live
  pub bookable : AllBookable state.ring.n (live_bookings state.load)

pub good_state : (state : RingState) → bad_record state ≡ false → GoodState state
unfolding bad_record bad_load any_of
good_state state e =
    let l = state.load in
    let t = or_none (bad_ring state.ring) _ e in
    let u = or_none (ltb most_live l.live) _ t.1 in
    let v = or_none (live_twice (live_bookings l)) _ u.1 in
    let w = or_none (any_of (booking_outside state.ring.n) (live_bookings l)) _ v.1 in
    record { ring_good = t.0; few = ltb-false most_live l.live u.0; bookable = all_bookable _ _ w.0 }

-- a booking more
pub with_bookable : (n : ℕ) (l : Load) (b : Booking) → AllBookable n (live_bookings l) → Bookable n b
    → AllBookable n (live_bookings (with_booking l b))
unfolding with_booking
with_bookable n l b all one c m = go (dec_lt l.live (length l.bookings))
  where
    member : (c ∈ live_bookings l) ⊎ (c ∈ b ∷ []) → Bookable n c
    member (inl k) = all c k
    member (inr k) = rw (Memᴰ.eq_of_singleton k) one

    go : (l.live < length l.bookings) ⊎ (length l.bookings ≤ l.live) → Bookable n c
    go (inl h) = member (Memᴰ.append_cases (live_bookings l) (rw (take-suc-set l.bookings l.live b h) at m))
    go (inr h) =
        let e : take (suc l.live) l.bookings ≡ take l.live l.bookings =
        take_all (suc l.live) l.bookings (omega arith) ∙ sym (take_all l.live l.bookings h) in
        all c (rw (set_out l.bookings l.live b h, e) at m)

-- .. or less
pub without_bookable : (n : ℕ) (l : Load) (v : ℕ) → AllBookable n (live_bookings l) → AllBookable n (live_bookings (without_booking l v))
unfolding without_booking
without_bookable n l v all c m =
    let f : Booking → Bool = λ b. not (eqb b.number v) in
    let others = other_bookings (live_bookings l) v in
    all c (keep_at f (live_bookings l) (rw (take-append_seam others (no_booking ∷ drop (suc (length others)) l.bookings)) at m)).0

pub without_fewer : (l : Load) (v : ℕ) → (without_booking l v).live ≤ l.live
unfolding without_booking
without_fewer l v =
    omega (arith, keep_length (λ b. not (eqb b.number v)) (live_bookings l), length-take l.live l.bookings)
