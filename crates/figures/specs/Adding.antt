-- The figures of the first i bookings of the places bs, one after the other. Places are counted from 0.
use Rattle.std.specs.Prelude.{◌≡◌, ◌⊎◌, ◌≢◌, List, [], ◌∷◌, ◌++◌, length, get_or, set, take, drop, replicate}
use Rattle.std.proofs.Math.Path.{sym}
use Rattle.std.proofs.lemmas.List.{take_all}
use Rattle.std.proofs.Common.{◌∙◌, inl, inr, add-one, arith, take-append-drop, length-take, take-suc}
use mathlib.Core.List.Memᴰ
use Prim.Native.Nat.{ℕ, suc, ◌+◌, ◌-◌, ◌*◌, ◌≤◌, ◌<◌}
use Rattle.model.specs.declared.Booking.{Booking}
use Rattle.model.specs.declared.Load.{Load}
use Rattle.model.specs.declared.BusChoice.{BusChoice}
use Rattle.model.specs.declared.Choice.{Choice}
use Rattle.model.specs.declared.Choice.TheVariants.{Dark, Own, High, Low}
use Rattle.model.specs.Laws.Tests.{never}
use Rattle.model.specs.Lists.{below, keep}
use Rattle.model.specs.Values.{choice_source, choice_at, index}
use Rattle.model.specs.Plant.{largest}
use Rattle.model.specs.Reports.{places}
use Rattle.model.specs.Bookings.{most_watts, most_live, live_bookings, no_booking, total_watts, booking_source, watts_of, with_figures}
use Rattle.model.specs.Laws.Lists.{at_in}
use Rattle.model.specs.Laws.Parts.{places_at, places_ext, places_set, index_suc}
use Rattle.model.specs.Laws.Choosing.{Inside}
use Rattle.model.specs.Laws.Bookings.{Bookable, OnRing, watts_counted, watts_passed, watts_most}

-- every generator's watts of the first i bookings, and the watts on dark buses
unfoldable pub figures_to : List BusChoice → List Booking → ℕ → List ℕ
figures_to cs bs i = places (λ g. watts_of cs (take i bs) (suc g))

unfoldable pub dark_to : List BusChoice → List Booking → ℕ → ℕ
dark_to cs bs i = watts_of cs (take i bs) 0

module _ (cs : List BusChoice) (bs : List Booking) (i : ℕ) (e : i ≡ 0) where
  pub figures_none : replicate largest 0 ≡ figures_to cs bs i
  unfolding figures_to watts_of total_watts keep places below
  figures_none = rw e

  pub dark_none : 0 ≡ dark_to cs bs i
  unfolding dark_to watts_of total_watts keep
  dark_none = rw e

-- the i-th of the live bookings, on a ring that has these choices
pub record Turn (cs : List BusChoice) (bs : List Booking) (i : ℕ) : Type 0 where
  pub ring : OnRing cs bs
  pub few : length bs ≤ most_live
  pub left : i < length bs

module _ {cs : List BusChoice} {bs : List Booking} {i : ℕ} (t : Turn cs bs i) where
  abbrev b : Booking
  b = get_or bs i no_booking

  pub here : Bookable t.ring.n b
  here = t.ring.bookable b (at_in bs i no_booking t.left)

  -- no figure is too large
  figure_most : (s : ℕ) → watts_of cs (take i bs) s + b.watts ≤ most_watts * most_live
  figure_most s =
      omega (
        arith,
        here.few_watts,
        t.few,
        t.left,
        length-take i bs,
        watts_most t.ring.n cs (take i bs) s
            (λ x m. t.ring.bookable x (rw (take-append-drop i bs) at (Memᴰ.append_left (drop i bs) m))),
      )

  pub dark_most : dark_to cs bs i + b.watts ≤ most_watts * most_live
  unfolding dark_to
  dark_most = figure_most 0

  pub generator_most : (place : ℕ) → place < largest → get_or (figures_to cs bs i) place 0 + b.watts ≤ most_watts * most_live
  unfolding figures_to
  generator_most place l = omega (arith, figure_most (suc place), places_at (λ r. watts_of cs (take i bs) (suc r)) place 0 l)

  one_more : (s : ℕ) → watts_of cs (take (i + 1) bs) s ≡ watts_of cs (take i bs ++ (b ∷ [])) s
  one_more s = rw (add-one, take-suc bs i no_booking t.left)

  -- what its bus is fed by
  abbrev fed : Choice
  fed = choice_at cs (b.bus - 1)

  pub on_ring : (1 ≤ b.bus) × (b.bus ≤ largest)
  on_ring = (here.low, omega (arith, here.high, t.ring.small))

  -- .. by its source
  module _ (s : ℕ) (is : choice_source fed ≡ s) where
    source_is : s ≡ booking_source cs b
    source_is =
        let f : b.bus - 1 ≡ index b.bus = omega (arith, index_suc b.bus here.low) in
        sym is ∙ rw f

    pub source_inside : fed ≢ Dark → (1 ≤ s) × (s ≤ largest)
    source_inside ne = go (t.ring.inside (b.bus - 1) (omega (arith, here.low, here.high)))
      where
        go : Inside t.ring.n fed → (1 ≤ s) × (s ≤ largest)
        go (inl q) = absurd (ne q)
        go (inr q) = (omega (arith, is, q.0), omega (arith, is, q.1, t.ring.small))

    -- a booking on a dark bus counts there, and for no generator
    pub dark_counted : s ≡ 0 → (v : ℕ) → v ≡ dark_to cs bs i + b.watts → v ≡ dark_to cs bs (i + 1)
    unfolding dark_to
    dark_counted q v w = w ∙ sym (one_more 0 ∙ watts_counted cs (take i bs) b 0 (omega (arith, source_is)))

    pub figures_kept : s ≡ 0 → figures_to cs bs i ≡ figures_to cs bs (i + 1)
    unfolding figures_to
    figures_kept q =
        places_ext _ _ (λ r l. sym (one_more (suc r) ∙ watts_passed cs (take i bs) b (suc r) (λ z. omega (arith, source_is))))

    -- one on a bus that is fed counts for its generator, and not there
    pub generator_counted : (place v : ℕ) → suc place ≡ s → s ≤ largest → v ≡ get_or (figures_to cs bs i) place 0 + b.watts
        → set (figures_to cs bs i) place v ≡ figures_to cs bs (i + 1)
    unfolding figures_to
    generator_counted place v q most w =
        let f : ℕ → ℕ = λ r. watts_of cs (take i bs) (suc r) in
        let more : ℕ → ℕ = λ r. watts_of cs (take (i + 1) bs) (suc r) in
        let counted : more place ≡ f place + b.watts =
        one_more (suc place) ∙ watts_counted cs (take i bs) b (suc place) (omega (arith, source_is)) in
        let stored : v ≡ more place = omega (arith, places_at f place 0 (omega (arith, q, most))) in
        rw stored (places_set f more place
        (λ r ne. sym (one_more (suc r) ∙ watts_passed cs (take i bs) b (suc r) (λ z. ne (omega (arith, source_is))))))

    pub dark_kept : s ≢ 0 → dark_to cs bs i ≡ dark_to cs bs (i + 1)
    unfolding dark_to
    dark_kept q = sym (one_more 0 ∙ watts_passed cs (take i bs) b 0 (λ z. q (omega (arith, source_is))))

-- a choice by which a generator feeds a bus, whichever way
module _ {c : Choice} {g : ℕ} where
  pub its_source : (c ≡ Own g) ⊎ ((c ≡ High g) ⊎ (c ≡ Low g)) → choice_source c ≡ g
  its_source (inl p) = rw p
  its_source (inr (inl p)) = rw p
  its_source (inr (inr p)) = rw p

  pub not_dark : (c ≡ Own g) ⊎ ((c ≡ High g) ⊎ (c ≡ Low g)) → c ≢ Dark
  not_dark (inl p) e = never cc
  not_dark (inr (inl p)) e = never cc
  not_dark (inr (inr p)) e = never cc

-- every live booking is counted
pub all_counted : (cs : List BusChoice) (l : Load) (watts : List ℕ) (dark i : ℕ) (bs : List Booking) → bs ≡ live_bookings l → length bs ≤ i
    → watts ≡ figures_to cs bs i
    → dark ≡ dark_to cs bs i
    → record { bookings = l.bookings; live = l.live; watts = watts; dark_watts = dark } ≡ with_figures cs l
unfolding figures_to dark_to with_figures
all_counted cs l watts dark i bs is all f g = rw (f, g, take_all i bs all, is)
