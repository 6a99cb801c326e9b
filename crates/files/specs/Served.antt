-- A file that is not refused, what a file's answer says of it, and where its part codes and words stand.
use Rattle.std.specs.Prelude.{◌≡◌, refl, not, ◌⊎◌, ◌≢◌, List, [], ◌∷◌, ℕ, ◌+◌, ◌-◌, ◌*◌, ◌≤◌, ◌<◌, eqb, ltb, length, take, drop, Ok, Err}
use Rattle.std.proofs.Common.{sym, ◌∙◌, ap, inl, inr, arith, length-take, length-drop, take_all, eqb-true, ltb-false, ne_eqb}
use Rattle.std.proofs.lemmas.Bool.{not-false}
use Rattle.model.specs.declared.Refusal.{Refusal}
use Rattle.model.specs.declared.FileHead.{FileHead}
use Rattle.model.specs.Values.{refusal_number, refusal_of}
use Rattle.model.specs.Plant.{smallest, largest}
use Rattle.model.specs.Reports.{stands_for, file_length, file_size, file_count, file_codes, file_words}
use Rattle.model.specs.Refusals.{first_met, or_else, size_outside, reports_refusal, file_refusal}
use Rattle.model.specs.Answers.{file_answer}
use Rattle.model.specs.Laws.Tests.{never, dec_eq}
use Rattle.model.specs.Laws.Reports.{stands_itself, stretches_read}
use Rattle.model.specs.Laws.Refusals.{number_of_refusal, first_unmet, size_bounds}

-- no file is both served and refused
either : {h : FileHead} {r : Refusal} → Ok h ≡ Err r → ⊥
either e = never cc

-- a first refusal of none: neither refuses
pub or_else_lem : (k l : ℕ) → or_else k l ≡ 0 → (k ≡ 0) × (l ≡ 0)
or_else_lem k l e = go (dec_eq k 0)
  where
    go : (k ≡ 0) ⊎ (k ≢ 0) → (k ≡ 0) × (l ≡ 0)
    go (inl z) = (z, rw z at e)
    go (inr z) = absurd (z (rw (ne_eqb k 0 z) at e))

-- what a file that is not refused is: 2, 3 and 4 are not met, and no report is refused
pub record Served (f : List ℕ) : Type 0 where
  pub big : smallest ≤ file_size f
  pub small : file_size f ≤ largest
  pub few : file_count f ≤ 4096
  pub whole : file_length f ≡ 3 + 2 * file_count f
  pub reports : reports_refusal (file_size f) (file_codes f) (file_words f) ≡ 0

pub file_served : (f : List ℕ) → file_refusal f ≡ 0 → Served f
unfolding file_refusal first_met
file_served f e =
    let t = or_else_lem head (reports_refusal (file_size f) (file_codes f) (file_words f)) e in
    let one = first_unmet (ltb (file_length f) 3) 1 _ (omega arith) t.0 in
    let two = first_unmet (size_outside (file_size f)) 2 _ (omega arith) one.1 in
    let three = first_unmet (ltb 4096 (file_count f)) 3 _ (omega arith) two.1 in
    let four = first_unmet (not (eqb (file_length f) (3 + 2 * file_count f))) 4 0 (omega arith) three.1 in
    let size = size_bounds (file_size f) two.0 in
    record {
      big = size.0;
      small = size.1;
      few = ltb-false 4096 (file_count f) three.0;
      whole = eqb-true (file_length f) (3 + 2 * file_count f) (not-false _ four.0);
      reports = t.1;
    }
  where
    head : ℕ
    head =
        first_met
        ((1, ltb (file_length f) 3)
        ∷ (2, size_outside (file_size f))
        ∷ (3, ltb 4096 (file_count f))
        ∷ (4, not (eqb (file_length f) (3 + 2 * file_count f)))
        ∷ [])

-- 4 is not met by a file's own length, where it has bytes
pub own_whole : {f : List ℕ} → Served f → 0 < length f → length f ≡ 3 + 2 * file_count f
own_whole {f} s h = omega (arith, s.whole, ap length (stands_itself f h))

-- ".. without reports": of no bytes
pub no_reports : (f : List ℕ) → length f ≡ 0 → 0 ≡ file_count f
no_reports [] h = refl
no_reports (b ∷ bs) h = absurd (omega arith)

pub has_bytes : (f : List ℕ) → 0 < file_count f → 0 < length f
has_bytes [] h = absurd (omega arith)
has_bytes (b ∷ bs) h = omega arith

-- the answers to a file
module _ (f : List ℕ) where
  pub answer_refused : (r : Refusal) → file_answer f ≡ Err r → (file_refusal f ≢ 0) × (refusal_number r ≡ file_refusal f)
  unfolding file_answer
  answer_refused r e = go (dec_eq (file_refusal f) 0)
    where
      go : (file_refusal f ≡ 0) ⊎ (file_refusal f ≢ 0) → (file_refusal f ≢ 0) × (refusal_number r ≡ file_refusal f)
      go (inl z) = let t : Ok (record { n = file_size f; m = file_count f }) ≡ Err r = rw z at e in absurd (either t)
      go (inr z) =
          let t : Err (refusal_of (file_refusal f)) ≡ Err r = rw (ne_eqb (file_refusal f) 0 z) at e in
          let u : refusal_of (file_refusal f) ≡ r = cc in
          (z, ap refusal_number (sym u) ∙ number_of_refusal (file_refusal f))

  pub answer_served : (h : FileHead) → file_answer f ≡ Ok h → (file_refusal f ≡ 0) × (h.n ≡ file_size f) × (h.m ≡ file_count f)
  unfolding file_answer
  answer_served h e = go (dec_eq (file_refusal f) 0)
    where
      go : (file_refusal f ≡ 0) ⊎ (file_refusal f ≢ 0) → (file_refusal f ≡ 0) × (h.n ≡ file_size f) × (h.m ≡ file_count f)
      go (inl z) =
          let t : Ok (record { n = file_size f; m = file_count f }) ≡ Ok h = rw z at e in
          let u : record { n = file_size f; m = file_count f } ≡ h = cc in
          (z, ap (λ (x : FileHead). x.n) (sym u), ap (λ (x : FileHead). x.m) (sym u))
      go (inr z) =
          let t : Err (refusal_of (file_refusal f)) ≡ Ok h = rw (ne_eqb (file_refusal f) 0 z) at e in
          absurd (either (sym t))

-- the two stretches of what was read of a file that has m reports, from 3 to k and from k on, are its part codes and its words
pub stretches : (f : List ℕ) (m k : ℕ) → m ≡ file_count f → k ≡ 3 + m
    → (take (k - 3) (drop 3 f) ≡ file_codes f) × (take (length f - k) (drop k f) ≡ file_words f)
stretches f m k e g =
    let a : k - 3 ≡ file_count f = omega arith in
    let b : k ≡ 3 + file_count f = omega arith in
    let (codes, words) = stretches_read f in
    let all = take_all (length f - (3 + file_count f)) (drop (3 + file_count f) f) (omega (arith, length-drop (3 + file_count f) f)) in
    (rw a (sym codes), rw b (all ∙ sym words))

-- as many of each as it has reports
pub counted : (f : List ℕ) → file_length f ≡ 3 + 2 * file_count f
    → (length (file_codes f) ≡ file_count f) × (length (file_words f) ≡ file_count f)
counted f whole =
    let g = stands_for f in
    (omega (arith, length-take (file_count f) (drop 3 g), length-drop 3 g), omega (arith, length-drop (3 + file_count f) g))
