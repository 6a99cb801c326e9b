-- The sheet of minimal cut sets as the reckoning reads it, byte by byte, and what its code answers.
use Rattle.std.specs.Prelude.{Bool, false, cond, ℕ, ◌+◌, ◌*◌, eqb, get_or, Float, Err}
use mathlib.Core.List.{List, [], ◌∷◌, map, foldl}
use Rattle.std.proofs.Math.Option.{Option, none, some}
use Rattle.std.specs.Float.{binary64}
use Rattle.std.specs.Float.Ieee.{add, mul}
use Rattle.model.specs.declared.Part.{Part}
use Rattle.model.specs.declared.Rates.{Rates}
use Rattle.model.specs.declared.Exposure.{Exposure}
use Rattle.model.specs.declared.ExposureAnswer.{ExposureAnswer}
use Rattle.model.specs.declared.Refusal.{Refusal}
use Rattle.model.specs.Lists.{below, any_of}
use Rattle.model.specs.Values.{outcome_of}
use Rattle.model.specs.Plant.{largest}
use Rattle.model.specs.Reports.{part_named}
use Rattle.model.specs.Refusals.{first_met}
use Rattle.model.specs.Exposure.{float1, rate_of, chance_of, greater_of, some_outside, is_unrated, no_exposure}

-- one factor more, where there is a part
abbrev pub times_named : Rates → Float → Option Part → Float
times_named r x none = x
times_named r x (some p) = mul binary64 x (chance_of (rate_of r p))

-- .. by its code; 255 is none
unfoldable pub times_code : Rates → Float → ℕ → Float
times_code r x c = times_named r x (part_named largest c)

-- the product of the chances of three codes, from 1.0
unfoldable pub product_of : Rates → ℕ → ℕ → ℕ → Float
product_of r a b c = times_code r (times_code r (times_code r float1 a) b) c

-- .. of the three bytes that stand from a place on
unfoldable pub product_at : Rates → List ℕ → ℕ → Float
product_at r sheet at = product_of r (get_or sheet at 0) (get_or sheet (at + 1) 0) (get_or sheet (at + 2) 0)

-- an unrated part
abbrev pub unrated_named : Rates → Option Part → Bool
unrated_named r none = false
unrated_named r (some p) = is_unrated (rate_of r p)

-- .. by its code
unfoldable pub unrated_code : Rates → ℕ → Bool
unrated_code r c = unrated_named r (part_named largest c)

-- the figures with the product of one set more
unfoldable pub with_product : Exposure → Float → Exposure
with_product e p = record { sum = add binary64 e.sum p; largest = greater_of e.largest p; count = e.count + 1 }

-- the figures of the first k sets of a sheet, behind its two-byte count
unfoldable pub figures_of : Rates → List ℕ → ℕ → Exposure
figures_of r sheet k = foldl with_product no_exposure (map (λ i. product_at r sheet (2 + 3 * i)) (below k))

-- an unrated part among the first k bytes behind the count
unfoldable pub unrated_bytes : Rates → List ℕ → ℕ → Bool
unrated_bytes r sheet k = any_of (λ i. unrated_code r (get_or sheet (2 + i) 0)) (below k)

-- refused
unfoldable pub refused_exposure : Refusal → ExposureAnswer
refused_exposure r = record { outcome = Err r; exposure = no_exposure }

-- what is answered of a sheet that has k sets, where neither 9 nor 10 is met
unfoldable pub sheet_answer : ℕ → Rates → List ℕ → ℕ → ExposureAnswer
sheet_answer n r sheet k =
    let number = first_met ((15, some_outside n r) ∷ (16, unrated_bytes r sheet (3 * k)) ∷ []) in
    record { outcome = outcome_of number; exposure = cond (eqb number 0) (figures_of r sheet k) no_exposure }
