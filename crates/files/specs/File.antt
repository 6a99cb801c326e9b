-- The fault file: its refusal by the tests of its head, in their order, then by its reports; and how much of it decides.
use Rattle.std.specs.Prelude.{◌≡◌, refl, Bool, true, false, not, cond, ◌⊎◌, ◌≢◌, List, [], ◌∷◌, map, ℕ, suc, ◌+◌, ◌-◌, ◌*◌, ◌≤◌, ◌<◌, eqb, ltb, length, get_or, take, drop, Result, Ok, Err}
use Rattle.std.proofs.Common.{sym, ◌∙◌, ap, inl, inr, arith, take_all, get_or-take, length-take-le, eqb-true, eq-eqb, ne_eqb, lt-ltb, le-ltb}
use Rattle.model.specs.declared.Rates.{Rates}
use Rattle.model.specs.declared.Refusal.{Refusal}
use Rattle.model.specs.declared.Refusal.TheVariants.{FileShort, SizeOutside, ReportsAbove, LengthOther}
use Rattle.model.specs.declared.FileHead.{FileHead}
use Rattle.model.specs.Values.{Outcome, refusal_of, outcome_of, numbered, file_values}
use Rattle.model.specs.Reports.{stands_for, file_length, file_size, file_count, file_codes, file_words}
use Rattle.model.specs.Refusals.{first_met, or_else, size_outside, reports_refusal, file_refusal}
use Rattle.model.specs.Answers.{file_answer, whole_values}
use Rattle.model.specs.Lists.{below}
use Rattle.model.specs.Text.{served_lines, refused_text, refused_lines, run_lines, joined, printed_run, longest_file, read_size}
use Rattle.model.specs.CutSets.{ring_cut_sets}
use Rattle.model.specs.CutText.{cut_text, latest_ring, printed_cut_sets}
use Rattle.model.specs.ExposureText.{exposure_lines, printed_exposures}
use Rattle.model.specs.Laws.Tests.{dec, dec_lt}
use Rattle.model.specs.Laws.Reports.{stands_itself}
use Rattle.model.specs.Laws.Refusals.{number_of_refusal, when_served, when_refused}
use Rattle.files.specs.Served.{stretches}

-- r is the file's answer, with its values
abbrev pub Answered : List ℕ → Result FileHead Refusal → Type 0
Answered f r = (r ≡ file_answer f) × (file_values r ≡ whole_values f)

answered : (f : List ℕ) (r : Result FileHead Refusal) → r ≡ file_answer f → Answered f r
unfolding file_answer whole_values numbered
answered f r e = (e, rw e (go (file_refusal f) (dec _)))
  where
    go : (k : ℕ) → (eqb k 0 ≡ true) ⊎ (eqb k 0 ≡ false)
        → file_values (cond (eqb k 0) (Ok (record { n = file_size f; m = file_count f })) (Err (refusal_of k)))
        ≡ numbered k (file_size f ∷ file_count f ∷ [])
    go k (inl q) = let z : k ≡ 0 = eqb-true k 0 q in rw z
    go k (inr q) = rw (q, number_of_refusal k)

-- ---- the head

-- refusals 1, 2, 3, 4 of a file of length l, by its n and m
head_refusal : ℕ → ℕ → ℕ → ℕ
head_refusal l n m = first_met ((1, ltb l 3) ∷ (2, size_outside n) ∷ (3, ltb 4096 m) ∷ (4, not (eqb l (3 + 2 * m))) ∷ [])

head_short : (l n m : ℕ) → l < 3 → head_refusal l n m ≡ 1
unfolding head_refusal first_met
head_short l n m h = rw (lt-ltb l 3)

head_outside : (l n m : ℕ) → 3 ≤ l → size_outside n ≡ true → head_refusal l n m ≡ 2
unfolding head_refusal first_met
head_outside l n m h p = rw (le-ltb l 3, p)

head_inside : (l n m : ℕ) → 3 ≤ l → size_outside n ≡ false → head_refusal l n m ≡ cond (ltb 4096 m) 3 (cond (not (eqb l (3 + 2 * m))) 4 0)
unfolding head_refusal first_met
head_inside l n m h p = rw (le-ltb l 3, p)

head_then_reports : (f : List ℕ)
    → file_refusal f ≡ or_else (head_refusal (file_length f) (file_size f) (file_count f)) (reports_refusal (file_size f) (file_codes f) (file_words f))
unfolding head_refusal file_refusal
head_then_reports f = refl

-- ---- the answer, by the tests that the file passed and failed

module _ (f : List ℕ) where
  -- a refusal of the head is the file's
  head_number : (k : ℕ) → head_refusal (file_length f) (file_size f) (file_count f) ≡ k → eqb k 0 ≡ false → file_refusal f ≡ k
  head_number k e z = head_then_reports f ∙ rw (e, z)

  head_refused : (k : ℕ) → head_refusal (file_length f) (file_size f) (file_count f) ≡ k → eqb k 0 ≡ false → Answered f (Err (refusal_of k))
  unfolding file_answer
  head_refused k e z = answered f (Err (refusal_of k)) (rw (head_number k e z, z))

-- ".. a ring of three": of no bytes
pub three_buses : (f : List ℕ) → length f ≡ 0 → 3 ≡ file_size f
three_buses [] h = refl
three_buses (b ∷ bs) h = absurd (omega arith)

-- "Byte 0 is n."
pub first_byte : (f : List ℕ) → 0 < length f → get_or f 0 0 ≡ file_size f
first_byte f h = rw (stands_itself f h)

pub file_empty : (f : List ℕ) (n m : ℕ) → n ≡ file_size f → length f ≡ 0 → m ≡ 0 → Answered f (Ok (record { n = n; m = m }))
unfolding file_answer file_refusal first_met size_outside reports_refusal
file_empty [] n m s h e = answered [] _ (rw (s, e))
file_empty (b ∷ bs) n m s h e = absurd (omega arith)

-- a file of bytes has its own length ..
own_length : (f : List ℕ) → 0 < length f → file_length f ≡ length f
own_length f h = ap length (stands_itself f h)

pub file_short : (f : List ℕ) → 0 < length f → length f < 3 → Answered f (Err FileShort)
unfolding refusal_of
file_short f h l = head_refused f 1 (head_short _ _ _ (omega (arith, own_length f h))) refl

pub file_size_lem : (f : List ℕ) (n : ℕ) → 3 ≤ length f → n ≡ file_size f → size_outside n ≡ true → Answered f (Err SizeOutside)
unfolding refusal_of
file_size_lem f n l s h = head_refused f 2 (head_outside _ _ _ (omega (arith, own_length f (omega arith))) (rw (← s) h)) refl

-- a file has 3 bytes, and a number n of buses that is served
pub record Sized (f : List ℕ) (n : ℕ) : Type 0 where
  pub three : 3 ≤ length f
  pub size : n ≡ file_size f
  pub inside : size_outside n ≡ false

-- m is the number of its reports
module _ (f : List ℕ) (n : ℕ) (sized : Sized f n) (m : ℕ) (count : m ≡ get_or f 1 0 + 256 * get_or f 2 0) where
  -- .. and its own bytes
  own_count : m ≡ file_count f
  own_count = rw (stands_itself f (omega (arith, sized.three))) count

  by_count : head_refusal (file_length f) (file_size f) (file_count f) ≡ cond (ltb 4096 m) 3 (cond (not (eqb (length f) (3 + 2 * m))) 4 0)
  by_count =
      rw (own_length f (omega (arith, sized.three)), ← own_count, ← sized.size) (head_inside _ _ _ sized.three sized.inside)

  pub file_count_lem : 4096 < m → Answered f (Err ReportsAbove)
  unfolding refusal_of
  file_count_lem h = head_refused f 3 (by_count ∙ rw (lt-ltb 4096 m)) refl

  module _ (few : m ≤ 4096) where
    pub file_length_lem : length f ≢ 3 + 2 * m → Answered f (Err LengthOther)
    unfolding refusal_of
    file_length_lem h = head_refused f 4 (by_count ∙ rw (le-ltb 4096 m, ne_eqb (length f) (3 + 2 * m))) refl

    -- the outcome of the reports that stand in the two stretches of a whole file
    abbrev pub ReportsOf : Outcome → Type 0
    ReportsOf o = o ≡ outcome_of (reports_refusal n (take (3 + m - 3) (drop 3 f)) (take (length f - (3 + m)) (drop (3 + m) f)))

    module _ (whole : length f ≡ 3 + 2 * m) (o : Outcome) (is : ReportsOf o) where
      -- both stretches are the file's
      by_reports : o ≡ outcome_of (file_refusal f)
      by_reports =
          let both = stretches f m (3 + m) own_count refl in
          let none_met : head_refusal (file_length f) (file_size f) (file_count f) ≡ 0 =
          by_count ∙ rw (le-ltb 4096 m, eq-eqb (length f) (3 + 2 * m)) in
          is ∙ rw (both.0, both.1, sized.size, head_then_reports f, none_met)

      pub file_served : o ≡ Ok tt → Answered f (Ok (record { n = n; m = m }))
      unfolding file_answer
      file_served e = rw (sized.size, own_count) (answered f _ (when_served _ Err _ o by_reports e))

      pub file_refused : (r : Refusal) → o ≡ Err r → Answered f (Err r)
      unfolding file_answer
      file_refused r e = answered f _ (when_refused _ Err _ o by_reports r e)

-- ---- how much of a file decides

-- the refusal of a file that is longer than any that is served
long_refusal : ℕ → ℕ → ℕ
long_refusal n m = cond (size_outside n) 2 (cond (ltb 4096 m) 3 4)

long_head : (l n m : ℕ) → longest_file < l → head_refusal l n m ≡ long_refusal n m
unfolding long_refusal
long_head l n m h = go (dec (size_outside n)) (dec_lt 4096 m)
  where
    go : (size_outside n ≡ true) ⊎ (size_outside n ≡ false) → (4096 < m) ⊎ (m ≤ 4096) → head_refusal l n m ≡ long_refusal n m
    go (inl p) q = rw p (head_outside l n m (omega arith) p)
    go (inr p) (inl q) = rw (p, lt-ltb 4096 m) (head_inside l n m (omega arith) p ∙ rw (lt-ltb 4096 m))
    go (inr p) (inr q) = rw (p, le-ltb 4096 m)
        (head_inside l n m (omega arith) p ∙ rw (le-ltb 4096 m, ne_eqb l (3 + 2 * m) (λ e. omega arith)))

long_refused : (n m : ℕ) → eqb (long_refusal n m) 0 ≡ false
unfolding long_refusal
long_refused n m = go (size_outside n) (ltb 4096 m)
  where
    go : (a b : Bool) → eqb (cond a 2 (cond b 3 4)) 0 ≡ false
    go true b = refl
    go false true = refl
    go false false = refl

-- a byte of what is read of a long file
byte_read : (f : List ℕ) → read_size < length f → (i : ℕ) → i < 3 → get_or (stands_for (take read_size f)) i 0 ≡ get_or (stands_for f) i 0
byte_read f h i l =
    rw (stands_itself (take read_size f) (omega (arith, length-take-le read_size f (omega arith))), stands_itself f (omega arith))
    (get_or-take read_size f i 0 (omega arith))

-- what a call makes of a file, served or refused
module _ {A : Type 0} (served : List ℕ → A) (refused : ℕ → A) where
  made : List ℕ → A
  made f = cond (eqb (file_refusal f) 0) (served f) (refused (file_refusal f))

  made_long : (f : List ℕ) → longest_file < length f → made f ≡ refused (long_refusal (file_size f) (file_count f))
  unfolding made
  made_long f h =
      let longer : longest_file < file_length f = rw (stands_itself f (omega arith)) h in
      rw (head_number f _ (long_head _ _ _ longer) (long_refused _ _), long_refused (file_size f) (file_count f))

  made_read : (f : List ℕ) → made (take read_size f) ≡ made f
  made_read f = go (dec_lt read_size (length f))
    where
      go : (read_size < length f) ⊎ (length f ≤ read_size) → made (take read_size f) ≡ made f
      go (inl h) =
          made_long (take read_size f) (rw (length-take-le read_size f (omega arith)) (omega arith))
          ∙ rw (byte_read f h 0 (omega arith), byte_read f h 1 (omega arith), byte_read f h 2 (omega arith))
          (sym (made_long f (omega arith)))
      go (inr h) = rw (take_all read_size f)

-- what is read of a file, however long, has its answer
pub answer_read : (f : List ℕ) → file_answer (take read_size f) ≡ file_answer f
unfolding file_answer made
answer_read = made_read (λ f. Ok (record { n = file_size f; m = file_count f })) (λ k. Err (refusal_of k))

-- and the lines of its run
lines_read : (f : List ℕ) → run_lines (take read_size f) ≡ run_lines f
unfolding run_lines made
lines_read = made_read served_lines refused_lines

-- and its printed cut sets
pub cuts_read : (f : List ℕ) → printed_cut_sets (take read_size f) ≡ printed_cut_sets f
unfolding printed_cut_sets made
cuts_read = made_read (λ f. joined (map (λ b. cut_text (suc b) (ring_cut_sets (latest_ring f) (suc b))) (below (file_size f)))) refused_text

-- and its printed chances of a dark hour
pub exposures_read : (r : Rates) (f : List ℕ) → printed_exposures r (take read_size f) ≡ printed_exposures r f
unfolding printed_exposures made
exposures_read r = made_read (λ f. exposure_lines r (latest_ring f) (file_size f)) refused_text

-- and its printed run
pub run_read : (f : List ℕ) → printed_run (take read_size f) ≡ printed_run f
unfolding printed_run
run_read f = ap joined (lines_read f)
