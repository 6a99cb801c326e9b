-- Words: what each byte names, and the answer to it with its values.
use Rattle.std.specs.Prelude.{◌≡◌, refl, [], ◌∷◌, ℕ, ◌<◌, eqb, Result, Ok, Err}
use Rattle.std.proofs.Common.{sym, ap, arith, eqb-true, ne_eqb}
use Rattle.std.proofs.Math.Option.{Option, none, some}
use Rattle.model.specs.declared.Word.{Word}
use Rattle.model.specs.declared.Word.TheVariants.{Fit, StuckOff, StuckOpen, StuckClosed, Lock, Unlock}
use Rattle.model.specs.declared.Refusal.{Refusal}
use Rattle.model.specs.declared.Refusal.TheVariants.{WordOutside}
use Rattle.model.specs.Lists.{first, is_none}
use Rattle.model.specs.Values.{word_number, refusal_number, refusal_of, numbered, word_values}
use Rattle.model.specs.Reports.{word_named}
use Rattle.model.specs.Refusals.{first_met, byte_refusal}
use Rattle.model.specs.Answers.{word_answer, byte_values}
use Rattle.model.specs.Laws.Lists.{first_at, first_none}
use Rattle.model.specs.Laws.Refusals.{refusal_named}

-- a word's number names it
pub number_names : (w : Word) → word_named (word_number w) ≡ some w
unfolding word_named first
number_names Fit = refl
number_names StuckOff = refl
number_names StuckOpen = refl
number_names StuckClosed = refl
number_names Lock = refl
number_names Unlock = refl

-- a byte names the word that has it for its number
pub word_named_lem : (v : ℕ) (w : Word) → word_named v ≡ some w → word_number w ≡ v
unfolding word_named
word_named_lem v w e =
    eqb-true (word_number w) v (first_at (λ u. eqb (word_number u) v) (Fit ∷ StuckOff ∷ StuckOpen ∷ StuckClosed ∷ Lock ∷ Unlock ∷ []) w e).1

-- a number above those of the words names none
pub no_word : (v : ℕ) → 5 < v → word_named v ≡ none
unfolding word_named
no_word v h = first_none (λ u. eqb (word_number u) v) (Fit ∷ StuckOff ∷ StuckOpen ∷ StuckClosed ∷ Lock ∷ Unlock ∷ [])
    (λ u m. ne_eqb (word_number u) v (other u))
  where
    other : (w : Word) → word_number w ≡ v → ⊥
    other Fit e = omega arith
    other StuckOff e = omega arith
    other StuckOpen e = omega arith
    other StuckClosed e = omega arith
    other Lock e = omega arith
    other Unlock e = omega arith

-- r is the answer to the byte v, with its values
abbrev pub WordAnswered : ℕ → Result Word Refusal → Type 0
WordAnswered v r = (r ≡ word_answer (word_named v)) × (word_values r ≡ byte_values v)

word_gives : (v : ℕ) (r : Result Word Refusal) → r ≡ word_answer (word_named v) → WordAnswered v r
unfolding word_answer byte_values byte_refusal first_met numbered
word_gives v r e = (e, rw e (go (word_named v) refl))
  where
    go : (o : Option Word) → word_named v ≡ o → word_values (word_answer o) ≡ numbered (first_met ((6, is_none o) ∷ [])) (v ∷ [])
    go none q = refl
    go (some w) q = ap (λ k. (0, k ∷ [])) (word_named_lem v w q)

-- a word's number
pub word_of_number : (v : ℕ) (w : Word) → v ≡ word_number w → WordAnswered v (Ok w)
unfolding word_answer
word_of_number v w e = word_gives v (Ok w) (rw (e, number_names w))

-- a number above those of the words
pub word_above : (v : ℕ) → 5 < v → WordAnswered v (Err WordOutside)
unfolding word_answer
word_above v h = word_gives v (Err WordOutside) (rw (no_word v h))

-- a refusal's number
pub refusal_of_number : (k : ℕ) (r : Refusal) → k ≡ refusal_number r → r ≡ refusal_of k
refusal_of_number k r e = rw e (sym (refusal_named r))
