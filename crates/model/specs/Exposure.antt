-- Document 02, Note 8, "Chance of a dark hour": a bus's probability bound over its minimal cut sets, "in 64-bit floats rounded at each operation":
-- `add`, `mul` and `div` of `binary64` are IEEE 754's, each rounded once, and `fin s m e` is the number m * 2 ^ e, negative where s is true.
use Rattle.std.specs.Prelude.{Bool, true, false, not, ◌&&◌, ◌||◌, cond, ℕ, eqb, pos, length, Float}
use mathlib.Core.List.{List, [], ◌∷◌, map, foldl}
use Rattle.std.specs.Float.{nan, fin, binary64}
use Rattle.std.specs.Float.Ieee.{add, mul, div, lt, le}
use Rattle.std.specs.Float.Ieee.Scale.{finite}
use Rattle.model.specs.declared.Part.{Part}
use Rattle.model.specs.declared.Part.TheVariants.{Generator, GeneratorBreaker, BusBreaker}
use Rattle.model.specs.declared.Rate.{Rate}
use Rattle.model.specs.declared.Rate.TheVariants.{Chance, MeanHours, Unrated}
use Rattle.model.specs.declared.PartRate.{PartRate}
use Rattle.model.specs.declared.Rates.{Rates}
use Rattle.model.specs.declared.RingState.{RingState}
use Rattle.model.specs.declared.Exposure.{Exposure}
use Rattle.model.specs.declared.ExposureAnswer.{ExposureAnswer}
use Rattle.model.specs.Lists.{any_of}
use Rattle.model.specs.Values.{outcome_of}
use Rattle.model.specs.Plant.{parts}
use Rattle.model.specs.Reports.{at_number}
use Rattle.model.specs.Refusals.{first_met, bus_outside}
use Rattle.model.specs.States.{bad_record}
use Rattle.model.specs.CutSets.{ring_cut_sets}

-- "from 0.0"
abbrev pub float0 : Float
float0 = fin false 0 (pos 0)

-- "from 1.0"
abbrev pub float1 : Float
float1 = fin false 1 (pos 0)

-- a part that has no place is unrated
abbrev pub unrated : PartRate
unrated = record { rate = Unrated }

-- "Each part has a rate as its data sheet gives it": that of a part
unfoldable pub rate_of : Rates → Part → Rate
rate_of r (Generator k) = (at_number unrated r.generators k).rate
rate_of r (GeneratorBreaker k) = (at_number unrated r.generator_breakers k).rate
rate_of r (BusBreaker k) = (at_number unrated r.bus_breakers k).rate

-- "The chance is the first as given, or 1.0 divided by the hours."; an unrated part has none: not a number
unfoldable pub chance_of : Rate → Float
chance_of (Chance c) = c
chance_of (MeanHours h) = div binary64 float1 h
chance_of Unrated = nan

-- "Multiply each set's chances in part-code order from 1.0": a set's parts stand in that order
unfoldable pub set_product : Rates → List Part → Float
set_product r S = foldl (λ x p. mul binary64 x (chance_of (rate_of r p))) float1 S

-- "and add the products in list order from 0.0"
unfoldable pub product_sum : List Float → Float
product_sum ps = foldl (add binary64) float0 ps

-- ".. gives way only to a greater product"
unfoldable pub greater_of : Float → Float → Float
greater_of x p = cond (lt x p) p x

-- "The largest begins as 0.0 and gives way only to a greater product."
unfoldable pub largest_product : List Float → Float
largest_product ps = foldl greater_of float0 ps

-- "The answer carries that sum, the largest product and the number of sets.": of the sets in their order
unfoldable pub exposure_of : Rates → List (List Part) → Exposure
exposure_of r sets =
    let ps = map (set_product r) sets in
    record { sum = product_sum ps; largest = largest_product ps; count = length sets }

-- 15: "a chance not from 0 to 1, or hours not finite or below 1"
unfoldable pub rate_outside : Rate → Bool
rate_outside (Chance c) = not (le float0 c && le c float1)
rate_outside (MeanHours h) = not (finite h) || lt h float1
rate_outside Unrated = false

-- ".. among the ring's parts"
unfoldable pub some_outside : ℕ → Rates → Bool
some_outside n r = any_of (λ p. rate_outside (rate_of r p)) (parts n)

-- an unrated part
unfoldable pub is_unrated : Rate → Bool
is_unrated (Chance c) = false
is_unrated (MeanHours h) = false
is_unrated Unrated = true

-- 16: "an unrated part in a listed set"
unfoldable pub unrated_listed : Rates → List (List Part) → Bool
unrated_listed r sets = any_of (any_of (λ p. is_unrated (rate_of r p))) sets

-- "Turned away, after 9 and 10: 15 ..; then 16 .."
unfoldable pub exposure_refusal : RingState → ℕ → Rates → ℕ
exposure_refusal state bus r =
    let ring = state.ring in
    first_met
    ((9, bad_record state)
    ∷ (10, bus_outside ring.n bus)
    ∷ (15, some_outside ring.n r)
    ∷ (16, unrated_listed r (ring_cut_sets ring bus))
    ∷ [])

-- "any figure beside the record 0" (Note 1)
abbrev pub no_exposure : Exposure
no_exposure = record { sum = float0; largest = float0; count = 0 }

-- the whole answer of the call, served or refused: "For a bus, take the sets of Note 1 in their order."
unfoldable pub exposure_answer : RingState → ℕ → Rates → ExposureAnswer
exposure_answer state bus r =
    let k = exposure_refusal state bus r in
    record { outcome = outcome_of k; exposure = cond (eqb k 0) (exposure_of r (ring_cut_sets state.ring bus)) no_exposure }
