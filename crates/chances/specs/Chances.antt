-- The text of a fault file's chances of a dark hour, bus by bus. Buses are indices from 0, but for a line's.
use Rattle.std.specs.Prelude.{◌≡◌, length, Ok, Err}
use Rattle.model.specs.declared.Refusal.{Refusal}
use Rattle.model.specs.Values.{Outcome, refusal_number}
use Rattle.std.proofs.Common.{◌∙◌, add-one, arith, ne_eqb}
use Rattle.std.proofs.Math.Path.{ap}
use mathlib.Core.List.{List, map, map-append}
use Prim.Native.Nat.{ℕ, suc, ◌+◌, ◌≤◌}
use Rattle.model.specs.declared.Load.{Load}
use Rattle.model.specs.declared.Ring.{Ring}
use Rattle.model.specs.declared.Rates.{Rates}
use Rattle.model.specs.declared.ExposureAnswer.{ExposureAnswer}
use Rattle.model.specs.Lists.{below}
use Rattle.model.specs.Values.{outcome_of}
use Rattle.model.specs.Plant.{largest}
use Rattle.model.specs.Sheet.{written}
use Rattle.model.specs.Reports.{file_size}
use Rattle.model.specs.Refusals.{file_refusal}
use Rattle.model.specs.Text.{joined, refused_text}
use Rattle.model.specs.Bookings.{no_load}
use Rattle.model.specs.States.{unloaded}
use Rattle.model.specs.CutText.{latest_ring}
use Rattle.model.specs.Exposure.{exposure_answer}
use Rattle.model.specs.ExposureText.{exposure_line, bus_exposure_line, exposure_lines, printed_exposures}
use Rattle.model.specs.Laws.Refusals.{good_size, served_zero, refused_number}
use Rattle.model.specs.Laws.Appended.{Appended, appended_none, appended_more, appended_all, appended_length, stored_fits}
use Rattle.model.specs.Laws.Spaced.{joined_one}
use Rattle.listing.specs.Files.{latest_good}

-- the line of a bus: j is the one whose chance is asked for, k the one that is named
pub bus_line : (r : Rates) (ring : Ring) (load : Load) (bus j k : ℕ) {a : ExposureAnswer} {l l' : List ℕ} {at end : ℕ} → load ≡ no_load → j ≡ bus
    → k ≡ bus → a ≡ exposure_answer (record { ring = ring; load = load }) j r → Appended (exposure_line k a) l at l' end
    → Appended (bus_exposure_line r ring bus) l at l' end
unfolding bus_exposure_line unloaded
bus_line r ring load bus j k empty e f is line = rw (is, empty, e, f) at line

module _ (r : Rates) (ring : Ring) where
  -- no bus yet
  pub lines_none : (b : ℕ) {l : List ℕ} {at : ℕ} → b ≡ 0 → at ≡ 0 → Appended (exposure_lines r ring b) l 0 l at
  unfolding exposure_lines joined below
  lines_none b e f = rw (e, f) (appended_none _ _)

  -- one bus more: the one whose number k is that of b, from the place i behind the others on
  pub lines_more : (b k i : ℕ) {l l' l'' : List ℕ} {j end : ℕ} → k ≡ b + 1 → i ≡ j → Appended (exposure_lines r ring b) l 0 l' j
      → Appended (bus_exposure_line r ring k) l' i l'' end → Appended (exposure_lines r ring (b + 1)) l 0 l'' end
  unfolding exposure_lines below
  lines_more b k i e f before next =
      let line : ℕ → List ℕ = λ i. bus_exposure_line r ring (suc i) in
      rw (add-one, map-append, joined_one (map line (below b)) (line b)) (appended_more before (rw (e, f, add-one) at next))

  -- as many as there are
  pub lines_all : (b n : ℕ) {l l' : List ℕ} {end : ℕ} → b ≡ n → Appended (exposure_lines r ring b) l 0 l' end
      → Appended (exposure_lines r ring n) l 0 l' end
  lines_all b n e lines = rw e at lines

-- the text of a file, by the outcome of its checks
module _ (r : Rates) (f : List ℕ) {o : Outcome} (is : o ≡ outcome_of (file_refusal f)) where
  -- a ring of the file's size, which is no larger than the largest
  pub served_size : (ring : Ring) → ring ≡ latest_ring f → o ≡ Ok tt → (ring.n ≡ file_size f) × (ring.n ≤ largest)
  served_size ring e s =
      let good = latest_good f (served_zero is s) in
      (rw e good.0, rw e (good_size (latest_ring f) good.1).1)

  -- what is stored where it is served
  pub served_stored : (ring : Ring) {l l' : List ℕ} {end : ℕ} → ring ≡ latest_ring f → o ≡ Ok tt
      → Appended (exposure_lines r ring ring.n) l 0 l' end → end ≤ length l
      → (l' ≡ written (printed_exposures r f) l) × ((end ≡ length (printed_exposures r f)) × (end ≤ length l'))
  unfolding printed_exposures
  served_stored ring {l} {l'} {end} e s lines room =
      let t : exposure_lines r ring ring.n ≡ printed_exposures r f =
      ap (exposure_lines r ring) (served_size ring e s).0 ∙ rw (e, served_zero is s) in
      let a : Appended (printed_exposures r f) l 0 l' end = rw t at lines in
      let w = appended_all a (omega (arith, a.end, room)) in
      (w.0, (w.1, omega (arith, room, appended_length a)))

  -- .. and where it is refused: j is the number that is printed
  pub refused_stored : (j : ℕ) (k : Refusal) (l : List ℕ) {l' : List ℕ} {end : ℕ} → j ≡ refusal_number k → o ≡ Err k → l' ≡ written (refused_text j) l
      → end ≡ length (refused_text j)
      → (l' ≡ written (printed_exposures r f) l) × ((end ≡ length (printed_exposures r f)) × (end ≤ length l'))
  unfolding printed_exposures
  refused_stored j k l g s bytes sized =
      let n = refused_number is k s in
      let t : refused_text j ≡ printed_exposures r f = rw (ne_eqb (file_refusal f) 0 n.1, n.0, g) in
      (rw t at bytes, (rw t at sized, stored_fits (record { bytes = bytes; sized = sized })))
