-- What is claimed of the figures of a bus's chance of a dark hour (document 02, Note 8), of the sets that are listed for it. Nothing is
-- proved here.
use Rattle.std.specs.Prelude.{◌≡◌, false, not, ◌⊎◌, List, ◌^◌, ◌≤◌, T, length}
use Rattle.std.specs.Float.{binary64}
use Rattle.std.specs.Float.Ieee.{prec, lt, le, fits, is_nan}
use Rattle.std.specs.Float.Ieee.Scale.{finite}
use Rattle.model.specs.declared.Part.{Part}
use Rattle.model.specs.declared.Rates.{Rates}
use Rattle.model.specs.Lists.{◌∈◌}
use Rattle.model.specs.Exposure.{float0, float1, set_product, exposure_of}

-- what holds of the figures of a served answer
pub record Figures (r : Rates) (sets : List (List Part)) : Type 0 where
  -- the product of a set is from 0 to 1
  pub products : (S : List Part) → S ∈ sets → T (le float0 (set_product r S)) × T (le (set_product r S) float1)
  -- the sum is a number not below 0, and finite while floats count the sets without a gap
  pub sum : T (not (is_nan (exposure_of r sets).sum))
  pub sum_above : T (le float0 (exposure_of r sets).sum)
  pub sum_finite : length sets ≤ 2 ^ prec binary64 → T (finite (exposure_of r sets).sum)
  -- the largest is a number from 0 to 1, 0.0 or the product of a set, and no product is greater
  pub largest : T (not (is_nan (exposure_of r sets).largest))
  pub largest_between : T (le float0 (exposure_of r sets).largest) × T (le (exposure_of r sets).largest float1)
  pub found : ((exposure_of r sets).largest ≡ float0) ⊎ ((S : List Part) × (S ∈ sets) × ((exposure_of r sets).largest ≡ set_product r S))
  pub most : (S : List Part) → S ∈ sets → lt (exposure_of r sets).largest (set_product r S) ≡ false
  -- both are values of the format, which its bits tell apart
  pub sum_fits : T (fits binary64 (exposure_of r sets).sum)
  pub largest_fits : T (fits binary64 (exposure_of r sets).largest)
