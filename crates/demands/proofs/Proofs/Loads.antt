-- What stands of bookings between calls: the record's live bookings are history's, its figures are theirs, and what is live and what was
-- cancelled are all that was booked. Generators of the figures are indices from 0.
use Rattle.std.specs.Prelude.{◌≡◌, Bool, true, ◌||◌, ◌≢◌, ◌⊎◌, length, drop, set}
use Rattle.std.proofs.Math.Path.{refl, ap}
use Rattle.std.proofs.Common.{sym, ◌∙◌, inl, inr, length-append, length-drop, length-take}
use Rattle.std.proofs.Math.Bool.{false, not, cond}
use mathlib.Core.List.Memᴰ
use mathlib.Core.List.{List, [], ◌∷◌, ◌++◌, map, map-append}
use Prim.Native.Nat.{ℕ, zero, suc, ◌+◌, ◌≤◌, ◌<◌}
use native.Mathlib.Omega.{arith}
use Rattle.std.proofs.Math.Dec.{ltb, eqb}
use Rattle.std.proofs.Math.ListN.{get_or, take, length-set}
use Rattle.std.proofs.lemmas.List.{length-replicate}
use Rattle.std.proofs.Math.Seq.{take-append_seam, take-suc-set}
use borrow.Author.Tests.{ltb-false, le-ltb, eq-eqb, ne_eqb, eqb-true}
use Rattle.model.specs.declared.Booking.{Booking}
use Rattle.model.specs.declared.Load.{Load}
use Rattle.model.specs.declared.BusChoice.{BusChoice}
use Rattle.model.specs.Lists.{below, keep, any_of, sum, ◌∈◌}
use Rattle.model.specs.Plant.{largest}
use Rattle.model.specs.Reports.{places}
use Rattle.model.specs.Refusals.{bus_outside}
use Rattle.model.specs.Bookings.{
  most_watts,
  most_live,
  live_bookings,
  no_booking,
  no_load,
  total_watts,
  booking_source,
  watts_of,
  with_figures,
  with_booking,
  without_booking,
  watts_outside,
  is_live,
  live_twice,
  booking_outside,
  other_figures,
  bad_load,
}
use Rattle.model.specs.Laws.Tests.{contra, dec, dec_eq, dec_lt, or_none, same_not}
use Rattle.model.specs.Laws.Lists.{all_cons, any_none, any_false, below_in, below_lt, map_ext, keep_at, keep_all}
use Rattle.model.specs.Laws.Parts.{places_at, is_places}
use Rattle.model.specs.Laws.Bookings.{Bookable, AllBookable, all_bookable, total_append}
use Rattle.demands.specs.Statements.Demand3.{book, cancel, History, no_history, has_number, noted, OnBus, InRange}

-- what stands, in a ring of n with the choices cs
pub record Loaded (n : ℕ) (cs : List BusChoice) (load : Load) (h : History) : Type 0 where
  pub full : length load.bookings ≡ most_live
  pub few : load.live ≤ most_live
  pub live : live_bookings load ≡ h.live
  pub bookable : AllBookable n h.live
  pub single : live_twice h.live ≡ false
  pub watts : load.watts ≡ places (λ g. watts_of cs h.live (suc g))
  pub dark : load.dark_watts ≡ watts_of cs h.live 0
  pub balance : total_watts h.live + h.cancelled ≡ h.booked

-- ---- lists of bookings

-- watts of those that pass a test, and of those that do not
total_parted : (f : Booking → Bool) (xs : List Booking) → total_watts (keep (λ b. not (f b)) xs) + total_watts (keep f xs) ≡ total_watts xs
unfolding total_watts keep
total_parted f [] = refl
total_parted f (x ∷ xs) = go (dec (f x)) (total_parted f xs)
  where
    go : (f x ≡ true) ⊎ (f x ≡ false) → total_watts (keep (λ b. not (f b)) xs) + total_watts (keep f xs) ≡ total_watts xs
        → total_watts (cond (not (f x)) (x ∷ keep (λ b. not (f b)) xs) (keep (λ b. not (f b)) xs))
        + total_watts (cond (f x) (x ∷ keep f xs) (keep f xs)) ≡ x.watts + total_watts xs
    go (inl e) ih = rw e (omega (arith, ih))
    go (inr e) ih = rw e (omega (arith, ih))

-- a number live in neither of two lists
live_append : (xs : List Booking) (b : Booking) (v : ℕ) → is_live xs v ≡ false → b.number ≢ v → is_live (xs ++ (b ∷ [])) v ≡ false
unfolding is_live any_of
live_append [] b v e ne = rw (ne_eqb b.number v ne)
live_append (x ∷ xs) b v e ne =
    let t = or_none (eqb x.number v) (any_of (λ b. eqb b.number v) xs) e in
    rw (t.0, live_append xs b v t.1 ne)

-- a booking more, of another number than the others
single_append : (xs : List Booking) (b : Booking) → live_twice xs ≡ false → is_live xs b.number ≡ false
    → live_twice (xs ++ (b ∷ [])) ≡ false
unfolding live_twice is_live any_of
single_append [] b e f = refl
single_append (x ∷ xs) b e f =
    let t = or_none (is_live xs x.number) (live_twice xs) e in
    let u = or_none (eqb x.number b.number) (is_live xs b.number) f in
    let other : b.number ≢ x.number = λ z. contra (eq-eqb x.number b.number (sym z)) u.0 in
    rw (live_append xs b x.number t.0 other, single_append xs b t.1 u.1)

-- fewer bookings
live_keep : (f : Booking → Bool) (v : ℕ) (xs : List Booking) → is_live xs v ≡ false → is_live (keep f xs) v ≡ false
unfolding is_live any_of keep
live_keep f v [] e = refl
live_keep f v (x ∷ xs) e = go (dec (f x)) (or_none (eqb x.number v) (any_of (λ b. eqb b.number v) xs) e) (live_keep f v xs)
  where
    go : (f x ≡ true) ⊎ (f x ≡ false) → (eqb x.number v ≡ false) × (is_live xs v ≡ false)
        → (is_live xs v ≡ false → is_live (keep f xs) v ≡ false)
        → is_live (cond (f x) (x ∷ keep f xs) (keep f xs)) v ≡ false
    go (inl e) t ih = rw (e, t.0, ih t.1)
    go (inr e) t ih = rw e (ih t.1)

single_keep : (f : Booking → Bool) (xs : List Booking) → live_twice xs ≡ false → live_twice (keep f xs) ≡ false
unfolding live_twice keep
single_keep f [] e = refl
single_keep f (x ∷ xs) e = go (dec (f x)) (or_none (is_live xs x.number) (live_twice xs) e) (single_keep f xs)
  where
    go : (f x ≡ true) ⊎ (f x ≡ false) → (is_live xs x.number ≡ false) × (live_twice xs ≡ false)
        → (live_twice xs ≡ false → live_twice (keep f xs) ≡ false)
        → live_twice (cond (f x) (x ∷ keep f xs) (keep f xs)) ≡ false
    go (inl e) t ih = rw (e, live_keep f x.number xs t.0, ih t.1)
    go (inr e) t ih = rw e (ih t.1)

-- where a number is not live all have others
others_all : (xs : List Booking) (v : ℕ) → is_live xs v ≡ false → (b : Booking) → b ∈ xs → not (has_number v b) ≡ true
unfolding is_live
others_all xs v e b m = ap not (any_none (λ x. eqb x.number v) e m)

-- one that is cancelled leaves one fewer, where no number is live twice
pub one_fewer : (v : ℕ) (xs : List Booking) → live_twice xs ≡ false → is_live xs v ≡ true
    → suc (length (keep (λ b. not (has_number v b)) xs)) ≡ length xs
unfolding live_twice is_live any_of keep
one_fewer v [] s e = contra e refl
one_fewer v (x ∷ xs) s e = go (dec (eqb x.number v)) (or_none (is_live xs x.number) (live_twice xs) s) (one_fewer v xs)
  where
    others : List Booking
    others = keep (λ b. not (has_number v b)) xs

    go : (eqb x.number v ≡ true) ⊎ (eqb x.number v ≡ false) → (is_live xs x.number ≡ false) × (live_twice xs ≡ false)
        → (live_twice xs ≡ false → is_live xs v ≡ true → suc (length others) ≡ length xs)
        → suc (length (cond (not (eqb x.number v)) (x ∷ others) others)) ≡ suc (length xs)
    go (inl q) t ih = rw q (ap (λ (l : List Booking). suc (length l)) (keep_all (λ b. not (has_number v b)) xs (others_all xs v (rw (eqb-true x.number v q) at t.0))))
    go (inr q) t ih = let rest : is_live xs v ≡ true = rw q at e in rw q (ap suc (ih t.1 rest))

-- ---- from call to call

-- at first nothing is booked
pub loaded_none : (n : ℕ) (cs : List BusChoice) → Loaded n cs no_load no_history
unfolding no_load watts_of total_watts keep live_twice
loaded_none n cs = record {
  full = length-replicate most_live no_booking;
  few = omega arith;
  live = refl;
  bookable = λ b m. absurd (Memᴰ.not-nil m);
  single = refl;
  watts = refl;
  dark = refl;
  balance = refl;
}

-- figures made anew for other choices
pub loaded_anew : {n : ℕ} {cs : List BusChoice} {load : Load} {h : History} (new : List BusChoice) → Loaded n cs load h
    → Loaded n new (with_figures new load) h
unfolding with_figures
loaded_anew new l = record {
  full = l.full;
  few = l.few;
  live = l.live;
  bookable = l.bookable;
  single = l.single;
  watts = rw l.live;
  dark = rw l.live;
  balance = l.balance;
}

module _ {n : ℕ} {cs : List BusChoice} {load : Load} {h : History} (l : Loaded n cs load h) where
  -- as many are live as the record says
  pub live_count : length h.live ≡ load.live
  live_count = ap length (sym l.live) ∙ length-take load.live load.bookings ∙ omega (arith, l.full, l.few)

  -- a booking that is not refused
  pub loaded_book : (b : Booking) → OnBus n b → InRange b → is_live h.live b.number ≡ false → length h.live < most_live
      → Loaded n cs (with_figures cs (with_booking load b)) (noted (book b) h)
  unfolding with_figures with_booking noted total_watts
  loaded_book b bus range new room = record {
    full = length-set load.bookings load.live b ∙ l.full;
    few = omega (arith, live_count);
    live = now;
    bookable = fine;
    single = single_append h.live b l.single new;
    watts = rw now;
    dark = rw now;
    balance = omega (arith, total_append h.live (b ∷ []), l.balance);
  }
    where
      now : take (suc load.live) (set load.bookings load.live b) ≡ h.live ++ (b ∷ [])
      now = take-suc-set load.bookings load.live b (omega (arith, live_count, l.full)) ∙ ap (λ xs. xs ++ (b ∷ [])) l.live

      own : Bookable n b
      own = record { low = bus.0; high = bus.1; some_watts = range.0; few_watts = range.1 }

      at : (xs : List Booking) → AllBookable n xs → AllBookable n (xs ++ (b ∷ []))
      at [] all = all_cons (Bookable n) own all
      at (x ∷ xs) all =
          all_cons (Bookable n) (all x (Memᴰ.head refl)) (at xs (λ y m. all y (Memᴰ.tail m)))

      fine : AllBookable n (h.live ++ (b ∷ []))
      fine = at h.live l.bookable

  -- a cancellation that is not refused
  pub loaded_cancel : (v : ℕ) → is_live h.live v ≡ true → Loaded n cs (with_figures cs (without_booking load v)) (noted (cancel v) h)
  unfolding with_figures without_booking noted
  loaded_cancel v e = record {
    full = rw l.live sized;
    few = rw l.live (omega (arith, less, live_count, l.few));
    live = now;
    bookable = λ b m. l.bookable b (keep_at (λ x. not (has_number v x)) h.live m).0;
    single = single_keep (λ x. not (has_number v x)) h.live l.single;
    watts = rw now;
    dark = rw now;
    balance = omega (arith, total_parted (has_number v) h.live, l.balance);
  }
    where
      others : List Booking
      others = keep (λ b. not (has_number v b)) h.live

      less : length others < length h.live
      less = omega (arith, one_fewer v h.live l.single e)

      sized : length (others ++ (no_booking ∷ drop (suc (length others)) load.bookings)) ≡ most_live
      sized = simp (length-append, length-drop) (omega (arith, less, live_count, l.few, l.full))

      now : (let left = keep (λ b. not (eqb b.number v)) (live_bookings load) in
          take (length left) (left ++ (no_booking ∷ drop (suc (length left)) load.bookings))) ≡ others
      now = rw l.live (take-append_seam others (no_booking ∷ drop (suc (length others)) load.bookings))

-- ---- none of document 02's conditions of refusal 9 is met

module _ {n : ℕ} {cs : List BusChoice} {load : Load} {h : History} (l : Loaded n cs load h) where
  in_bounds : any_of (booking_outside n) h.live ≡ false
  unfolding booking_outside bus_outside watts_outside
  in_bounds = any_false (booking_outside n) h.live (λ b m. go b (l.bookable b m))
    where
      go : (b : Booking) → Bookable n b → (ltb b.bus 1 || ltb n b.bus) || (ltb b.watts 1 || ltb most_watts b.watts) ≡ false
      go b k = rw (
        le-ltb b.bus 1 k.low,
        le-ltb n b.bus k.high,
        le-ltb b.watts 1 k.some_watts,
        le-ltb most_watts b.watts k.few_watts,
      )

  own_figures : other_figures cs load ≡ false
  unfolding other_figures
  own_figures = rw (each, l.dark, l.live, eq-eqb (watts_of cs h.live 0) (watts_of cs h.live 0) refl)
    where
      each : any_of (λ g. not (eqb (get_or load.watts g 0) (watts_of cs (live_bookings load) (suc g)))) (below largest) ≡ false
      each = any_false (λ g. not (eqb (get_or load.watts g 0) (watts_of cs (live_bookings load) (suc g)))) (below largest)
          (λ g m. ap not (eq-eqb (get_or load.watts g 0) (watts_of cs (live_bookings load) (suc g)) (same g (below_lt largest g m))))
        where
          same : (g : ℕ) → g < largest → get_or load.watts g 0 ≡ watts_of cs (live_bookings load) (suc g)
          same g i = rw (l.watts, l.live) (places_at (λ k. watts_of cs h.live (suc k)) g 0 i)

  pub load_good : bad_load n cs load ≡ false
  unfolding bad_load any_of
  load_good = rw (le-ltb most_live load.live l.few, l.live, l.single, in_bounds, own_figures)

-- the bookings that a record holds, without a history before them
abbrev pub booked_only : Load → History
booked_only load = record { live = live_bookings load; booked = total_watts (live_bookings load); cancelled = 0 }

-- a load that meets none of the conditions, its conditions one by one
module _ (n : ℕ) (cs : List BusChoice) (load : Load) (good : bad_load n cs load ≡ false) where
  load_conditions : (ltb most_live load.live ≡ false) × (live_twice (live_bookings load) ≡ false)
      × (any_of (booking_outside n) (live_bookings load) ≡ false) × (other_figures cs load ≡ false)
  unfolding bad_load any_of
  load_conditions =
      let a = or_none (ltb most_live load.live) _ good in
      let b = or_none (live_twice (live_bookings load)) _ a.1 in
      let c = or_none (any_of (booking_outside n) (live_bookings load)) _ b.1 in
      (a.0, b.0, c.0, (or_none (other_figures cs load) false c.1).0)

  -- .. its figures
  is_figure : (g : ℕ) → g < largest → get_or load.watts g 0 ≡ watts_of cs (live_bookings load) (suc g)
  unfolding other_figures
  is_figure g h =
      let other = or_none (any_of (λ k. not (eqb (get_or load.watts k 0) (watts_of cs (live_bookings load) (suc k)))) (below largest)) _ load_conditions.3 in
      same_not (get_or load.watts g 0) (watts_of cs (live_bookings load) (suc g))
      (any_none (λ k. not (eqb (get_or load.watts k 0) (watts_of cs (live_bookings load) (suc k)))) other.0 (below_in largest g h))

  is_dark_lem : load.dark_watts ≡ watts_of cs (live_bookings load) 0
  unfolding other_figures
  is_dark_lem =
      let other = or_none (any_of (λ k. not (eqb (get_or load.watts k 0) (watts_of cs (live_bookings load) (suc k)))) (below largest)) _ load_conditions.3 in
      same_not load.dark_watts (watts_of cs (live_bookings load) 0) other.1

  -- it stands, with arrays of 64 and 20 places
  pub loaded_good : length load.bookings ≡ most_live → length load.watts ≡ largest → Loaded n cs load (booked_only load)
  loaded_good full sized = record {
    full = full;
    few = ltb-false most_live load.live load_conditions.0;
    live = refl;
    bookable = all_bookable n (live_bookings load) load_conditions.2;
    single = load_conditions.1;
    watts = is_places (λ g. watts_of cs (live_bookings load) (suc g)) load.watts 0 sized is_figure;
    dark = is_dark_lem;
    balance = omega arith;
  }

  -- with its figures made anew for other choices it meets none either
  pub anew_good : (new : List BusChoice) → bad_load n new (with_figures new load) ≡ false
  unfolding bad_load any_of with_figures other_figures
  anew_good new =
      let f : ℕ → ℕ = λ g. watts_of new (live_bookings load) (suc g) in
      let c = load_conditions in
      rw (
        c.0,
        c.1,
        c.2,
        any_false (λ g. not (eqb (get_or (places f) g 0) (f g))) (below largest)
            (λ g m. ap not (eq-eqb (get_or (places f) g 0) (f g) (places_at f g 0 (below_lt largest g m)))),
        eq-eqb (watts_of new (live_bookings load) 0) (watts_of new (live_bookings load) 0) refl,
      )

-- ---- the figures together

-- a number more among those added up
sum_last : (xs : List ℕ) (x : ℕ) → sum (xs ++ (x ∷ [])) ≡ sum xs + x
unfolding sum
sum_last [] x = omega arith
sum_last (y ∷ xs) x = omega (arith, sum_last xs x)

-- two figures for each
sum_both : (f g : ℕ → ℕ) (xs : List ℕ) → sum (map (λ i. f i + g i) xs) ≡ sum (map f xs) + sum (map g xs)
unfolding sum
sum_both f g [] = refl
sum_both f g (x ∷ xs) = omega (arith, sum_both f g xs)

-- the figures of one booking of source s and w watts: its own, and none of the others
module _ (s w : ℕ) where
  abbrev share : ℕ → ℕ
  share g = cond (eqb s (suc g)) w 0

  share_last : (k : ℕ) → sum (map share (below (suc k))) ≡ sum (map share (below k)) + share k
  unfolding below
  share_last k = ap sum (map-append share (below k) (k ∷ [])) ∙ sum_last (map share (below k)) (share k)

  share_none : (k : ℕ) → k < s → sum (map share (below k)) ≡ 0
  unfolding below sum
  share_none zero h = refl
  share_none (suc k) h =
      let other : eqb s (suc k) ≡ false = ne_eqb s (suc k) (λ z. omega arith) in
      let last : share k ≡ 0 = rw other in
      omega (arith, share_last k, share_none k (omega arith), last)

  share_all : (k : ℕ) → s ≤ k → sum (map share (below k)) + cond (eqb s 0) w 0 ≡ w
  unfolding below sum
  share_all zero h = let none : s ≡ 0 = omega arith in rw (eq-eqb s 0 none) (omega arith)
  share_all (suc k) h = go (dec_eq s (suc k)) (share_all k)
    where
      go : (s ≡ suc k) ⊎ (s ≢ suc k) → (s ≤ k → sum (map share (below k)) + cond (eqb s 0) w 0 ≡ w)
          → sum (map share (below (suc k))) + cond (eqb s 0) w 0 ≡ w
      go (inl e) ih =
          let last : share k ≡ w = rw (eq-eqb s (suc k) e) in
          rw (ne_eqb s 0 (λ z. omega arith)) (omega (arith, share_last k, share_none k (omega arith), last))
      go (inr e) ih =
          let last : share k ≡ 0 = rw (ne_eqb s (suc k) e) in
          let less : s ≤ k = at_most s k h e in
          omega (arith, share_last k, ih less, last)
        where
          at_most : (i j : ℕ) → i ≤ suc j → i ≢ suc j → i ≤ j
          at_most i j l ne = at (dec_lt j i)
            where
              at : (j < i) ⊎ (i ≤ j) → i ≤ j
              at (inl q) = absurd (ne (omega arith))
              at (inr q) = q

-- a booking's watts are in the figure of its source
watts_more : (cs : List BusChoice) (b : Booking) (bs : List Booking) (k : ℕ)
    → watts_of cs (b ∷ bs) k ≡ cond (eqb (booking_source cs b) k) b.watts 0 + watts_of cs bs k
unfolding watts_of keep total_watts
watts_more cs b bs k = go (eqb (booking_source cs b) k)
  where
    rest : List Booking
    rest = keep (λ x. eqb (booking_source cs x) k) bs

    go : (t : Bool) → total_watts (cond t (b ∷ rest) rest) ≡ cond t b.watts 0 + total_watts rest
    go true = refl
    go false = omega arith

-- a booking's watts are among those of all
total_more : (b : Booking) (bs : List Booking) → total_watts (b ∷ bs) ≡ b.watts + total_watts bs
unfolding total_watts
total_more b bs = refl

-- nothing is booked
nothing_booked : (cs : List BusChoice) → sum (map (λ g. watts_of cs [] (suc g)) (below largest)) + watts_of cs [] 0 ≡ total_watts []
unfolding watts_of keep total_watts sum below
nothing_booked cs = refl

-- all figures together are the watts of all bookings
pub figures_sum : (cs : List BusChoice) (bs : List Booking) → ((b : Booking) → b ∈ bs → booking_source cs b ≤ largest)
    → sum (places (λ g. watts_of cs bs (suc g))) + watts_of cs bs 0 ≡ total_watts bs
unfolding places
figures_sum cs [] all = nothing_booked cs
figures_sum cs (b ∷ bs) all = go (figures_sum cs bs (λ x m. all x (Memᴰ.tail m)))
  where
    s : ℕ
    s = booking_source cs b

    each : map (λ g. watts_of cs (b ∷ bs) (suc g)) (below largest) ≡ map (λ g. share s b.watts g + watts_of cs bs (suc g)) (below largest)
    each = map_ext (λ g. watts_of cs (b ∷ bs) (suc g)) (λ g. share s b.watts g + watts_of cs bs (suc g)) (below largest)
        (λ g m. watts_more cs b bs (suc g))

    go : sum (map (λ g. watts_of cs bs (suc g)) (below largest)) + watts_of cs bs 0 ≡ total_watts bs
        → sum (map (λ g. watts_of cs (b ∷ bs) (suc g)) (below largest)) + watts_of cs (b ∷ bs) 0 ≡ total_watts (b ∷ bs)
    go ih =
        omega (
          arith,
          ap sum each,
          sum_both (share s b.watts) (λ g. watts_of cs bs (suc g)) (below largest),
          share_all s b.watts largest (all b (Memᴰ.head refl)),
          watts_more cs b bs 0,
          total_more b bs,
          ih,
        )
