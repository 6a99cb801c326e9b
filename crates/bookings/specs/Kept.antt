-- The bookings that a cancellation keeps, moved to the front of the places bs. Places are counted from 0.
use Rattle.std.specs.Prelude.{◌≡◌, true, false, not, ◌⊎◌, ◌≢◌, List, [], ◌∷◌, ◌++◌, ℕ, suc, ◌+◌, ◌≤◌, ◌<◌, eqb, length, get_or, set, take, drop}
use Rattle.std.proofs.Math.Path.{refl}
use Rattle.std.proofs.Common.{sym, ◌∙◌, inl, inr, append-nil, arith, length-take, take-suc, eq-eqb, ne_eqb}
use Rattle.std.proofs.Math.Numerals.{add-one}
use Rattle.std.proofs.Math.ListN.{length-append}
use Rattle.std.proofs.lemmas.List.{take_all}
use Rattle.std.proofs.Math.Seq.{drop-cons, append_snoc, set_at}
use Rattle.model.specs.declared.Booking.{Booking}
use Rattle.model.specs.declared.Load.{Load}
use Rattle.model.specs.Lists.{keep, any_of}
use Rattle.model.specs.Bookings.{no_booking, live_bookings, other_bookings, without_booking, is_live}
use Rattle.model.specs.Laws.Tests.{contra, dec}
use Rattle.model.specs.Laws.Lists.{keep_append, keep_length}

-- fewer are kept where the number is live
fewer_others : (bs : List Booking) (v : ℕ) → is_live bs v ≡ true → length (other_bookings bs v) < length bs
unfolding is_live any_of keep
fewer_others [] v e = contra e refl
fewer_others (b ∷ bs) v e = go (fewer_others bs v) (dec (eqb b.number v))
  where
    go : (is_live bs v ≡ true → length (other_bookings bs v) < length bs) → (eqb b.number v ≡ true) ⊎ (eqb b.number v ≡ false)
        → length (other_bookings (b ∷ bs) v) < suc (length bs)
    go r (inl p) = rw p (omega (arith, keep_length (λ c. not (eqb c.number v)) bs))
    go r (inr p) = rw p (omega (arith, r (rw p at e)))

-- xs are the bookings passed, one after the other
module _ (v : ℕ) (bs xs : List Booking) where
  -- those kept of the first i
  abbrev pub kept : ℕ → List Booking
  kept i = other_bookings (take i xs) v

  -- .. in front of the places
  unfoldable pub packed : ℕ → List Booking
  packed i = kept i ++ drop (length (kept i)) bs

  pub packed_none : bs ≡ packed 0
  unfolding packed keep
  packed_none = refl

  pub count_none : 0 ≡ length (kept 0)
  unfolding keep
  count_none = refl

  pub packed_same : (i j : ℕ) → kept j ≡ kept i → packed i ≡ packed j
  unfolding packed
  packed_same i j e = rw e

  pub kept_most : (i : ℕ) → length (kept i) ≤ i
  kept_most i = omega (arith, keep_length (λ b. not (eqb b.number v)) (take i xs), length-take i xs)

  pub fewer : (i : ℕ) → is_live xs v ≡ true → length xs ≤ i → length (kept i) < length xs
  fewer i e all = rw (take_all i xs all) (fewer_others xs v e)

  -- d is the value of no place
  module _ (i : ℕ) (d : Booking) (h : i < length xs) where
    one_more : kept (i + 1) ≡ kept i ++ other_bookings (get_or xs i d ∷ []) v
    one_more = rw (add-one, take-suc xs i d h) (keep_append (λ b. not (eqb b.number v)) (take i xs) (get_or xs i d ∷ []))

    pub kept_without : (get_or xs i d).number ≡ v → kept (i + 1) ≡ kept i
    unfolding keep
    kept_without e = one_more ∙ rw (eq-eqb (get_or xs i d).number v e) (append-nil (kept i))

    kept_with : (get_or xs i d).number ≢ v → kept (i + 1) ≡ kept i ++ (get_or xs i d ∷ [])
    unfolding keep
    kept_with e = one_more ∙ rw (ne_eqb (get_or xs i d).number v e)

    pub count_with : (get_or xs i d).number ≢ v → length (kept (i + 1)) ≡ length (kept i) + 1
    count_with e = rw (kept_with e) (length-append (kept i) (get_or xs i d ∷ []))

    -- .. which stands behind those before it
    pub packed_with : (at : ℕ) → at ≡ length (kept i) → length xs ≤ length bs → (get_or xs i d).number ≢ v
        → set (packed i) at (get_or xs i d) ≡ packed (i + 1)
    unfolding packed
    packed_with at e few ne =
        rw (
          kept_with ne,
          length-append (kept i) (get_or xs i d ∷ []),
          add-one,
          append_snoc (kept i) (get_or xs i d) (drop (suc (length (kept i))) bs),
          drop-cons bs (length (kept i)) d (omega (arith, kept_most i)),
        )
        (set_at (kept i) (get_or bs (length (kept i)) d) (drop (suc (length (kept i))) bs) (get_or xs i d) at (sym e))

-- the load without the number: those kept of all its live ones, and a booking of noughts behind them
module _ (l : Load) (v i : ℕ) (xs : List Booking) (live : xs ≡ live_bookings l) (all : length xs ≤ i) where
  abbrev rest : List Booking
  rest = kept v l.bookings xs i

  pub removed : (next : List Booking) (count : ℕ) → next ≡ packed v l.bookings xs i → count ≡ length rest
      → length rest < length l.bookings
      → record {
        bookings = set next count no_booking;
        live = count;
        watts = l.watts;
        dark_watts = l.dark_watts;
      }
      ≡ without_booking l v
  unfolding packed without_booking
  removed next count is e h =
      rw (
        is,
        e,
        drop-cons l.bookings (length rest) no_booking h,
        set_at rest (get_or l.bookings (length rest) no_booking) (drop (suc (length rest)) l.bookings) no_booking (length rest) refl,
        take_all i xs all,
        live,
      )
