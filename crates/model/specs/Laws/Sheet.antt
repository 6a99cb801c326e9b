-- Laws of the command sheet: its length, and the parts of a list where each first comes.
use Rattle.std.specs.Prelude.{◌≡◌, true, false, not, ◌&&◌, ◌⊎◌, List, [], ◌∷◌, ℕ, ◌+◌, ◌*◌, ◌<◌, length}
use Rattle.std.proofs.Common.{ap, inl, inr, arith, length-append}
use mathlib.Core.List.Memᴰ
use Rattle.std.proofs.Math.Option.{Option}
use Rattle.std.proofs.lemmas.List.{length-map}
use Rattle.std.proofs.lemmas.Bool.{not-true}
use Rattle.model.specs.declared.Part.{Part}
use Rattle.model.specs.Lists.{below, keep, ◌∈◌, Distinct, nothing, one_more}
use Rattle.model.specs.Values.{same_part}
use Rattle.model.specs.Plant.{PartCommands, parts}
use Rattle.model.specs.Priority.{Path}
use Rattle.model.specs.Sheet.{first_occurrences, parts_of, sequence, closing, sheet_of}
use Rattle.model.specs.Laws.Tests.{contra, dec, not_of}
use Rattle.model.specs.Laws.Lists.{below_lt, flat_ext, keep_at, keep_in}
use Rattle.model.specs.Laws.Parts.{same_eq, same_refl}
use Rattle.model.specs.Laws.Distinct.{keep_distinct}

-- "With k orders it is 2 + 2k bytes"
pub sheet_of_length : (xs ys : List Part) → length (sheet_of xs ys) ≡ 2 + 2 * (length xs + length ys)
unfolding sheet_of
sheet_of_length xs ys = simp (length-append, length-map) (omega arith)

-- the parts whose command changes to on or closed, in rising code: the closing phase as document 01 had it before Note 4
unfoldable pub closing_by_code : ℕ → PartCommands → PartCommands → List Part
closing_by_code n old new = keep (λ p. not (old p) && new p) (parts n)

-- ---- "a part only where it first comes": the same parts, each once

pub occurrences_at : (ps : List Part) {q : Part} → q ∈ first_occurrences ps → q ∈ ps
unfolding first_occurrences
occurrences_at [] m = m
occurrences_at (p ∷ ps) {q} m = go (λ k. occurrences_at ps k) (Memᴰ.cases_cons m)
  where
    go : (q ∈ first_occurrences ps → q ∈ ps) → (q ≡ p) ⊎ (q ∈ keep (λ r. not (same_part r p)) (first_occurrences ps)) → q ∈ p ∷ ps
    go more (inl e) = Memᴰ.head e
    go more (inr k) = Memᴰ.tail (more (keep_at (λ r. not (same_part r p)) (first_occurrences ps) k).0)

pub occurrences_in : (ps : List Part) {q : Part} → q ∈ ps → q ∈ first_occurrences ps
unfolding first_occurrences
occurrences_in [] m = m
occurrences_in (p ∷ ps) {q} m = go (λ k. occurrences_in ps k) (Memᴰ.cases_cons m) (dec (same_part q p))
  where
    go : (q ∈ ps → q ∈ first_occurrences ps) → (q ≡ p) ⊎ (q ∈ ps) → (same_part q p ≡ true) ⊎ (same_part q p ≡ false) → q ∈ first_occurrences (p ∷ ps)
    go more k (inl e) = Memᴰ.head (same_eq q p e)
    go more (inl e) (inr f) = Memᴰ.head e
    go more (inr k) (inr f) = Memᴰ.tail (keep_in (λ r. not (same_part r p)) (more k) (not_of (same_part q p) f))

pub occurrences_once : (ps : List Part) → Distinct (first_occurrences ps)
unfolding first_occurrences
occurrences_once [] = nothing
occurrences_once (p ∷ ps) =
    one_more
    (λ m. contra (same_refl p) (not-true (same_part p p) (keep_at (λ r. not (same_part r p)) (first_occurrences ps) m).1))
    (keep_distinct (λ r. not (same_part r p)) (occurrences_once ps))

-- ---- the phase of other paths

-- the buses above n have no say
pub closing_paths : (n : ℕ) (old : PartCommands) (f g : ℕ → Option Path) → ((b : ℕ) → b < n → f b ≡ g b) → closing n old f ≡ closing n old g
unfolding closing sequence
closing_paths n old f g same =
    ap (λ ps. keep (λ p. not (old p)) (first_occurrences ps)) (flat_ext _ _ (below n) (λ b m. ap (parts_of n) (same b (below_lt n b m))))
