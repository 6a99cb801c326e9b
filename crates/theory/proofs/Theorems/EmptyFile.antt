-- Document 02, Note 9: a file of no bytes stands for `3 0 0`, and refusal 1 is for one or two bytes.
use Rattle.std.specs.Prelude.{◌≡◌, refl, not, ◌⊎◌, ◌≢◌, List, [], ◌∷◌, ℕ, zero, suc, eqb, ltb, length}
use Rattle.std.proofs.Common.{inl, inr, arith, le-ltb}
use Rattle.model.specs.Lists.{below}
use Rattle.model.specs.Reports.{file_size, file_count, file_codes, file_words}
use Rattle.model.specs.Refusals.{first_met, size_outside, reports_refusal, file_refusal}
use Rattle.model.specs.Answers.{file_answer, whole_values}
use Rattle.model.specs.Text.{run_ring, served_lines, run_lines, printed_run, run_left, ring_at, cursor_at}
use Rattle.model.specs.CutText.{latest_ring, printed_cut_sets}
use Rattle.model.specs.ExposureText.{printed_exposures}
use Rattle.model.specs.Laws.Reports.{stands_itself, stretches_read}
use Rattle.theory.specs.Statements.EmptyFile.{SameFile, EmptyFile}
use Rattle.theory.proofs.Theorems.Outward.{example_runs}
use Rattle.theory.proofs.Theorems.Numbers.{other, more, or_never, reports_never}

-- "`3 0 0` is a whole file without reports."
abbrev whole : List ℕ
whole = 3 ∷ 0 ∷ 0 ∷ []

-- ---- the same bytes, and so the same answers

same_refusal : file_refusal [] ≡ file_refusal whole
unfolding file_refusal
same_refusal = refl

same_rings : (i : ℕ) → run_ring [] i ≡ run_ring whole i
unfolding run_ring
same_rings zero = refl
same_rings (suc i) = rw (same_rings i)

same_lines : run_lines [] ≡ run_lines whole
unfolding run_lines served_lines run_ring below
same_lines = rw same_refusal

same_cursors : (k : ℕ) → cursor_at [] k ≡ cursor_at whole k
unfolding cursor_at ring_at
same_cursors zero = refl
same_cursors (suc zero) = refl
same_cursors (suc (suc i)) = rw (same_rings i)

same_latest : latest_ring [] ≡ latest_ring whole
unfolding latest_ring
same_latest = rw (same_refusal, same_rings 0)

same_file : SameFile [] whole
unfolding file_answer whole_values printed_run run_left printed_cut_sets printed_exposures
same_file = record {
  answer = rw same_refusal;
  values = rw same_refusal;
  refusal = same_refusal;
  ring = same_latest;
  run = rw same_lines;
  lines = same_lines;
  left = λ k. rw same_lines;
  cursor = same_cursors;
  cut_sets = rw (same_refusal, same_latest);
  exposures = λ r. rw (same_refusal, same_latest);
}

-- ---- refusal 1

-- a file of three bytes or more is not refused by 1
long_never : (a b c : ℕ) (f : List ℕ) → file_refusal (a ∷ b ∷ c ∷ f) ≢ 1
unfolding file_refusal first_met
long_never a b c f =
    let g : List ℕ = a ∷ b ∷ c ∷ f in
    rw (file_refusal, le-ltb (length g) 3 (omega arith))
    (or_never 1 _ _
    (more 1 (size_outside (file_size g)) 2 _ refl
    (more 1 (ltb 4096 (file_count g)) 3 _ refl (more 1 (not (eqb (length g) _)) 4 _ refl (other 1 0 refl))))
    (reports_never 1 refl refl refl (file_size g) (file_codes g) (file_words g)))

one_or_two : (f : List ℕ) → file_refusal f ≡ 1 → (length f ≡ 1) ⊎ (length f ≡ 2)
unfolding file_refusal first_met size_outside reports_refusal
one_or_two [] e = absurd (omega arith)
one_or_two (a ∷ []) e = inl refl
one_or_two (a ∷ b ∷ []) e = inr refl
one_or_two (a ∷ b ∷ c ∷ f) e = absurd (long_never a b c f e)

-- ---- the Note

pub empty_file : EmptyFile
unfolding file_answer file_refusal first_met size_outside reports_refusal
empty_file = record {
  same = same_file;
  served = refl;
  prints = example_runs.1;
  one = λ a. refl;
  two = λ a b. refl;
  no_other = one_or_two;
  itself = stands_itself;
  stretches = stretches_read;
}
