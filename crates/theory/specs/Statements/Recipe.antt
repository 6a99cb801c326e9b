-- Document 02, Note 8, "Chance of a dark hour": the recipe at chosen rates, in rings of three. Floats stand by their bits; those expected are the
-- simulation's. Nothing is proved here.
use Rattle.std.specs.Prelude.{Bool, true, false, List, [], ◌∷◌, ℕ, ◌+◌, pos}
use Rattle.std.specs.Float.{binary64}
use Rattle.std.specs.Float.Ieee.{of_bits, to_bits, of_int}
use Rattle.model.specs.declared.Report.{Report}
use Rattle.model.specs.declared.Rate.{Rate}
use Rattle.model.specs.declared.Rate.TheVariants.{Chance, MeanHours, Unrated}
use Rattle.model.specs.declared.Rates.{Rates}
use Rattle.model.specs.Values.{index}
use Rattle.model.specs.Reports.{places}
use Rattle.model.specs.CutSets.{cut_sets}
use Rattle.model.specs.Exposure.{exposure_of}
use Rattle.theory.specs.Statements.Settled.{health_after, generator_off, generator_breaker_open, bus_breaker_open, bus_breaker_closed}

-- a chance, and mean hours, by the bits
abbrev pub chance : ℕ → Rate
chance b = Chance (of_bits binary64 b)

abbrev pub hours : ℕ → Rate
hours b = MeanHours (of_bits binary64 b)

-- one rate for every generator, one for every generator breaker and one for every bus breaker
unfoldable pub by_kind : Rate → Rate → Rate → Rates
by_kind g gb bb =
    record {
      generators = places (λ i. record { rate = g });
      generator_breakers = places (λ i. record { rate = gb });
      bus_breakers = places (λ i. record { rate = bb });
    }

-- "Document 004's example rates, 1e-7 for a generator and 1e-8 for a breaker"
abbrev pub published : Rates
published = by_kind (chance 0x3e7ad7f29abcaf48) (chance 0x3e45798ee2308c3a) (chance 0x3e45798ee2308c3a)

-- hours of 3 for a generator and of 7 for its breaker, a chance of 0.1 for a bus breaker: products and sums in another order have other bits
abbrev mixed : Rates
mixed = by_kind (hours 0x4008000000000000) (hours 0x401c000000000000) (chance 0x3fb999999999999a)

-- every part has hours of its own, whole numbers: G1 to G3 have 2 to 4, GB1 to GB3 have 5 to 7, and BB1 to BB3 11 to 13
unfoldable pub counted : Rates
counted =
    record {
      generators = places (λ i. record { rate = MeanHours (of_int binary64 (pos (i + 2))) });
      generator_breakers = places (λ i. record { rate = MeanHours (of_int binary64 (pos (i + 5))) });
      bus_breakers = places (λ i. record { rate = MeanHours (of_int binary64 (pos (i + 11))) });
    }

-- -0.0
abbrev negative_zero : Rate
negative_zero = chance 0x8000000000000000

-- a bus by its number, the reports before, the rates, and the bits of the sum, those of the largest product and the number of sets
pub record Reckoned : Type 0 where
  pub bus : ℕ
  pub faults : List Report
  pub rates : Rates
  pub expected : ℕ × ℕ × ℕ

abbrev example : ℕ → List Report → Rates → ℕ × ℕ × ℕ → Reckoned
example b fs r x = record { bus = b; faults = fs; rates = r; expected = x }

unfoldable pub reckonings : List Reckoned
reckonings =
    example 3 [] published (0x3b995983886066f4, 0x3b92e3b40a0e9b4e, 10)
    ∷ example 3 [] mixed (0x3fbcdca240900207, 0x3fa2f684bda12f68, 10)
    ∷ example 3 [] counted (0x3fc1ec1ec1ec1ec1, 0x3fa5555555555555, 10)
    -- sets of one part and of two
    ∷ example 1 (generator_off 1 ∷ bus_breaker_open 3 ∷ []) mixed (0x3fd7f5c8811a5aca, 0x3fbc71c71c71c71c, 7)
    -- a dark bus: the one set is empty, whatever the rates
    ∷ example 3 (generator_off 1 ∷ generator_off 2 ∷ generator_off 3 ∷ []) (by_kind Unrated Unrated Unrated)
    (0x3ff0000000000000, 0x3ff0000000000000, 1)
    -- products of -0.0: "The largest begins as 0.0 and gives way only to a greater product."
    ∷ example 2 (generator_off 2 ∷ generator_breaker_open 3 ∷ bus_breaker_closed 1 ∷ []) (by_kind negative_zero negative_zero negative_zero) (0, 0, 4)
    -- the largest finite hours: the chance is a denormal number
    ∷ example 3 [] (by_kind (hours 0x7fefffffffffffff) (chance 0x3ff0000000000000) (hours 0x3ff0000000000000))
    (0x4000000000000000, 0x3ff0000000000000, 10)
    ∷ []

-- the figures by the definitions
unfoldable pub figures_of : Reckoned → ℕ × ℕ × ℕ
figures_of x =
    let e = exposure_of x.rates (cut_sets 3 (health_after x.faults) (index x.bus)) in
    (to_bits binary64 e.sum, to_bits binary64 e.largest, e.count)

-- a rate, and whether 15 meets it: "a chance not from 0 to 1, or hours not finite or below 1"
unfoldable pub edges : List (Rate × Bool)
edges =
    -- 0.0, -0.0, the smallest number, 1.0
    (chance 0, false)
    ∷ (negative_zero, false)
    ∷ (chance 1, false)
    ∷ (chance 0x3ff0000000000000, false)
    -- below 0, above 1, the infinities, not a number
    ∷ (chance 0x8000000000000001, true)
    ∷ (chance 0x3ff0000000000001, true)
    ∷ (chance 0x7ff0000000000000, true)
    ∷ (chance 0xfff0000000000000, true)
    ∷ (chance 0x7ff8000000000000, true)
    -- hours of 1.0 and the largest finite
    ∷ (hours 0x3ff0000000000000, false)
    ∷ (hours 0x7fefffffffffffff, false)
    -- below 1, 0.0, below 0, the infinities, not a number
    ∷ (hours 0x3fefffffffffffff, true)
    ∷ (hours 0, true)
    ∷ (hours 0xbff0000000000000, true)
    ∷ (hours 0x7ff0000000000000, true)
    ∷ (hours 0xfff0000000000000, true)
    ∷ (hours 0x7ff8000000000000, true)
    ∷ (Unrated, false)
    ∷ []
