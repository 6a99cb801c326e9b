-- Chance of a dark hour (document 02, Note 8): the figures of sets whose chances are from 0 to 1 are numbers within their bounds.
use Rattle.std.specs.Prelude.{◌≡◌, refl, Bool, true, false, not, ◌&&◌, ◌⊎◌, List, map, ◌+◌, T, length, Float}
use Rattle.std.proofs.Common.{inl, inr, arith}
use Rattle.std.proofs.lemmas.List.{length-map}
use Rattle.std.specs.Float.{binary64}
use Rattle.std.specs.Float.Ieee.{add, mul, lt, le, fits}
use Rattle.std.specs.Float.Ieee.Scale.{finite}
use Rattle.std.specs.Float.Ieee.Fits.{cond-fits, add-fits, mul-fits}
use Rattle.std.proofs.lemmas.Bool.{not-false}
use Rattle.model.specs.declared.Part.{Part}
use Rattle.model.specs.declared.Rate.{Rate}
use Rattle.model.specs.declared.Rate.TheVariants.{Chance, MeanHours, Unrated}
use Rattle.model.specs.declared.Rates.{Rates}
use Rattle.model.specs.Lists.{◌∈◌}
use Rattle.model.specs.Exposure.{float0, float1, rate_of, chance_of, set_product, product_sum, greater_of, largest_product, exposure_of, rate_outside, is_unrated}
use Rattle.model.specs.Laws.Tests.{contra, or_none, and_left, and_right}
use Rattle.model.specs.Laws.Lists.{map_in, map_at}
use Rattle.theory.specs.Statements.Exposure.{Figures}
use Rattle.theory.proofs.Proofs.Floats.{
  Portion,
  portion_of,
  portion_le,
  portion_number,
  mul_portion,
  div_portion,
  Plus,
  add_plus,
  plus_number,
  plus_above,
  not_greater,
  largest_of,
  up_to_finite,
  sum_up_to,
  fold_keeps,
}

-- ---- a chance

test : (b : Bool) → b ≡ true → T b
test b e = rw e tt

-- one that neither 15 nor 16 meets is from 0 to 1
pub chance_portion : (rate : Rate) → rate_outside rate ≡ false → is_unrated rate ≡ false → Portion (chance_of rate)
unfolding chance_of rate_outside is_unrated
chance_portion (Chance c) o u =
    let w = not-false (le float0 c && le c float1) o in
    portion_of c (test (le float0 c) (and_left (le float0 c) (le c float1) w)) (test (le c float1) (and_right (le float0 c) (le c float1) w))
chance_portion (MeanHours h) o u = let t = or_none (not (finite h)) (lt h float1) o in div_portion h (not-false (finite h) t.0) t.1
chance_portion Unrated o u = contra refl u

-- ---- the figures of sets whose chances are from 0 to 1

pub product_portion : (r : Rates) (S : List Part) → ((p : Part) → p ∈ S → Portion (chance_of (rate_of r p))) → Portion (set_product r S)
unfolding set_product
product_portion r S h =
    fold_keeps Portion (λ (p : Part). Portion (chance_of (rate_of r p))) (λ x p. mul binary64 x (chance_of (rate_of r p)))
    (λ x p u v. mul_portion x (chance_of (rate_of r p)) u v) float1 (omega arith) S h

product_fits : (r : Rates) (S : List Part) → T (fits binary64 (set_product r S))
unfolding set_product fits
product_fits r S =
    fold_keeps (λ x. T (fits binary64 x)) (λ (p : Part). Unit {0}) (λ x p. mul binary64 x (chance_of (rate_of r p)))
    (λ x p u v. mul-fits binary64 x (chance_of (rate_of r p))) float1 tt S (λ p m. tt)

-- what holds of each set holds of each product
each_product : (r : Rates) (sets : List (List Part)) (P : Float → Type 0) → ((S : List Part) → S ∈ sets → P (set_product r S))
    → (x : Float) → x ∈ map (set_product r) sets → P x
each_product r sets P h x m = let t = map_at (set_product r) sets m in rw t.2 (h t.0 t.1)

pub figures : (r : Rates) (sets : List (List Part)) → ((S : List Part) → S ∈ sets → Portion (set_product r S)) → Figures r sets
unfolding exposure_of product_sum largest_product greater_of fits
figures r sets h =
    let ps = map (set_product r) sets in
    let portions = each_product r sets Portion h in
    let s = fold_keeps Plus Portion (add binary64) add_plus float0 refl ps portions in
    let l = largest_of float0 ps (omega arith) portions in
    record {
      products = λ S m. portion_le (set_product r S) (h S m);
      sum = plus_number (product_sum ps) s;
      sum_above = plus_above (product_sum ps) s;
      sum_finite = λ few.
          up_to_finite (0 + length ps) (product_sum ps)
          (sum_up_to ps 0 float0 (omega (arith, few, length-map sets (set_product r))) (refl, omega arith) portions);
      largest = portion_number (largest_product ps) l.portion;
      largest_between = portion_le (largest_product ps) l.portion;
      found = from_map l.found;
      most = λ S m. not_greater (set_product r S) (largest_product ps) (h S m) l.portion (l.each (set_product r S) (map_in (set_product r) m));
      sum_fits =
          fold_keeps (λ x. T (fits binary64 x)) (λ (p : Float). Unit {0}) (add binary64) (λ x p u v. add-fits binary64 x p) float0 tt ps (λ p m. tt);
      largest_fits =
          fold_keeps (λ x. T (fits binary64 x)) (λ p. T (fits binary64 p)) greater_of (λ x p u v. cond-fits binary64 (lt x p) p x v u) float0 tt ps
          (each_product r sets (λ x. T (fits binary64 x)) (λ S m. product_fits r S));
    }
  where
    from_map : {y : Float} → (y ≡ float0) ⊎ (y ∈ map (set_product r) sets) → (y ≡ float0) ⊎ ((S : List Part) × (S ∈ sets) × (y ≡ set_product r S))
    from_map (inl e) = inl e
    from_map (inr m) = inr (map_at (set_product r) sets m)
