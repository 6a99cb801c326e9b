-- The bounds that rates are held against, as the code writes them, and the test of hours by cases.
use Rattle.std.specs.Prelude.{◌≡◌, refl, Bool, true, false, not, ◌&&◌, ◌||◌, Float}
use Rattle.std.proofs.Common.{sym, ◌∙◌}
use Rattle.std.specs.Float.{nan, inf, fin, binary64}
use Rattle.std.specs.Float.Ieee.{of_bits, div, lt, le}
use Rattle.std.specs.Float.Ieee.Scale.{finite}
use Rattle.model.specs.Exposure.{float0, float1}
use Rattle.model.specs.Laws.Tests.{or_left}

-- 0.0 and 1.0, by their bits
abbrev pub bits0 : Float
bits0 = of_bits binary64 0

abbrev pub bits1 : Float
bits1 = of_bits binary64 0x3ff0_0000_0000_0000

is_0 : bits0 ≡ float0
unfolding of_bits
is_0 = refl

pub is_1 : bits1 ≡ float1
unfolding of_bits
is_1 = refl

-- 1.0 divided by 0.0 is infinity
abbrev pub bound : Float
bound = div binary64 bits1 bits0

infinity : bound ≡ inf false
unfolding of_bits div
infinity = refl

-- "a chance not from 0 to 1", where the first test of two is met and where it is not
module _ (c : Float) (r : Bool) where
  pub chance_second : le bits0 c ≡ true → r ≡ le c bits1 → not r ≡ not (le float0 c && le c float1)
  chance_second e f = rw (f, ← is_0, ← is_1, e)

  pub chance_first : le bits0 c ≡ false → r ≡ le bits0 c → not r ≡ not (le float0 c && le c float1)
  chance_first e f = rw (f, ← is_0, e)

-- "hours not finite or below 1": what is not below infinity, or is below 1
below_test : (h : Float) → not (lt h (inf false)) || lt h float1 ≡ not (finite h) || lt h float1
unfolding lt
below_test nan = refl
below_test (inf true) = refl
below_test (inf false) = refl
below_test (fin s m e) = refl

-- .. where the first test of two is met and where it is not
module _ (h : Float) where
  pub hours_first : not (lt h bound) ≡ true → not (lt h bound) ≡ not (finite h) || lt h float1
  hours_first e = e ∙ (sym (or_left _ _ (rw infinity at e)) ∙ below_test h)

  pub hours_second : not (lt h bound) ≡ false → lt h bits1 ≡ not (finite h) || lt h float1
  hours_second e = let z : not (lt h (inf false)) ≡ false = rw infinity at e in rw (is_1, ← below_test h, z)
