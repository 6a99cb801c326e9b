-- The text of a load's figures, as it is appended.
use Rattle.std.specs.Prelude.{◌≡◌, ℕ, suc, ◌+◌, get_or}
use mathlib.Core.List.{List, ◌++◌, map, map-append, append_assoc}
use Prim.Native.Char.{code}
use Rattle.std.proofs.Common.{add-one}
use Rattle.model.specs.declared.Load.{Load}
use Rattle.model.specs.Lists.{below}
use Rattle.model.specs.Text.{ascii, decimal, joined}
use Rattle.model.specs.LoadText.{watts_text, figures_line}
use Rattle.model.specs.Laws.Appended.{Appended, appended_none, appended_more}
use Rattle.model.specs.Laws.Spaced.{joined_one}
use Rattle.numbers.specs.Numbers.{marked}

-- the watts of the generator that has a number
abbrev pub marked_watts : ℕ → ℕ → List ℕ
marked_watts number watts = ascii "G" ++ marked number (code " ") ++ decimal watts ++ ascii " "

-- the watts on dark buses, and the line feed behind them
abbrev pub dark_text : ℕ → List ℕ
dark_text watts = ascii "dark " ++ decimal watts ++ ascii "\n"

-- .. however the numbers are said
pub watts_is : (number watts k w : ℕ) → k ≡ number → w ≡ watts → marked_watts number watts ≡ marked_watts k w
watts_is number watts k w e f = rw (e, f)

pub dark_is : (watts w : ℕ) → w ≡ watts → dark_text watts ≡ dark_text w
dark_is watts w e = rw e

module _ (load : Load) where
  -- a generator's number is its index and 1
  watts_parts : (g : ℕ) → watts_text load g ≡ marked_watts (suc g) (get_or load.watts g 0)
  unfolding watts_text ascii
  watts_parts g = simp append_assoc

  -- no generator yet
  pub generators_none : (g : ℕ) {l : List ℕ} {at : ℕ} → g ≡ 0 → Appended (joined (map (watts_text load) (below g))) l at l at
  unfolding joined below
  generators_none g e = rw e (appended_none _ _)

  -- one generator more: the one whose number k and place i are those of g
  pub generators_more : (g k i : ℕ) {l l' l'' : List ℕ} {at j end : ℕ} → k ≡ g + 1 → i ≡ g
      → Appended (joined (map (watts_text load) (below g))) l at l' j → Appended (marked_watts k (get_or load.watts i 0)) l' j l'' end
      → Appended (joined (map (watts_text load) (below (g + 1)))) l at l'' end
  unfolding below
  generators_more g k i e f before next =
      rw (add-one, map-append, joined_one (map (watts_text load) (below g)) (watts_text load g), watts_parts g)
      (appended_more before (rw (e, f, add-one) at next))

  -- the whole line: every generator, then the dark watts
  pub line_parts : (n m watts : ℕ) {l l' l'' : List ℕ} {j end : ℕ} → m ≡ n → watts ≡ load.dark_watts
      → Appended (joined (map (watts_text load) (below m))) l 0 l' j → Appended (dark_text watts) l' j l'' end
      → Appended (figures_line n load) l 0 l'' end
  unfolding figures_line ascii
  line_parts n m watts e f generators dark = appended_more (rw e at generators) (rw f at dark)
