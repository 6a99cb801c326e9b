-- Document 02, Note 9, "An empty file": what a file of no bytes stands for, and which files refusal 1 meets.
use Rattle.std.specs.Prelude.{◌≡◌, ◌⊎◌, List, [], ◌∷◌, ℕ, ◌+◌, ◌<◌, length, take, drop, Ok}
use Prim.Native.String.{String}
use Rattle.model.specs.declared.Rates.{Rates}
use Rattle.model.specs.Reports.{stands_for, file_count, file_codes, file_words}
use Rattle.model.specs.Refusals.{file_refusal}
use Rattle.model.specs.Answers.{file_answer, whole_values}
use Rattle.model.specs.Text.{ascii, run_lines, printed_run, run_left, cursor_at}
use Rattle.model.specs.CutText.{latest_ring, printed_cut_sets}
use Rattle.model.specs.ExposureText.{printed_exposures}

-- every call and program that takes a fault file does with one what it does with the other
pub record SameFile (f g : List ℕ) : Type 0 where
  -- files::check_file, latest::ring_after
  pub answer : file_answer f ≡ file_answer g
  pub values : whole_values f ≡ whole_values g
  pub refusal : file_refusal f ≡ file_refusal g
  pub ring : latest_ring f ≡ latest_ring g
  -- ringctl; run::fill and cursor::next_line, piece by piece
  pub run : printed_run f ≡ printed_run g
  pub lines : run_lines f ≡ run_lines g
  pub left : (k : ℕ) → run_left f k ≡ run_left g k
  pub cursor : (k : ℕ) → cursor_at f k ≡ cursor_at g k
  -- ringcuts, ringchance
  pub cut_sets : printed_cut_sets f ≡ printed_cut_sets g
  pub exposures : (r : Rates) → printed_exposures r f ≡ printed_exposures r g

-- document 01's line 0 for a ring of three, with its end of Note 4
unfoldable pub empty_run : String
empty_run = "ring 3 reports 0\n0 B1=G1o B2=G2o B3=G2h / - / G1+ GB1+ G2+ GB2+ BB2+\n"

pub record EmptyFile : Type 0 where
  -- "That file now stands for a ring of three without reports and prints what `3 0 0` prints."
  pub same : SameFile [] (3 ∷ 0 ∷ 0 ∷ [])
  pub served : file_answer [] ≡ Ok (record { n = 3; m = 0 })
  pub prints : printed_run [] ≡ ascii empty_run
  -- "Refusal 1 is for one or two bytes."
  pub one : (a : ℕ) → file_refusal (a ∷ []) ≡ 1
  pub two : (a b : ℕ) → file_refusal (a ∷ b ∷ []) ≡ 1
  pub no_other : (f : List ℕ) → file_refusal f ≡ 1 → (length f ≡ 1) ⊎ (length f ≡ 2)
  -- any other file is judged by its own bytes
  pub itself : (f : List ℕ) → 0 < length f → stands_for f ≡ f
  -- "Each array is handed on as that stretch of the file": of what was read, also where that is nothing
  pub stretches : (f : List ℕ) → (file_codes f ≡ take (file_count f) (drop 3 f)) × (file_words f ≡ drop (3 + file_count f) f)
