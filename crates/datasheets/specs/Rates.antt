-- The bytes of a stored case (tests/make_vectors.py) that stand for the rates of parts: twenty of each kind, one after the other.
use Rattle.std.specs.Prelude.{cond, List, ℕ, ◌+◌, ◌*◌, eqb, get_or, Float}
use Rattle.std.specs.Float.{binary64}
use Rattle.std.specs.Float.Ieee.{of_bits}
use Rattle.model.specs.declared.Rate.{Rate}
use Rattle.model.specs.declared.Rate.TheVariants.{Chance, MeanHours, Unrated}
use Rattle.model.specs.declared.PartRate.{PartRate}
use Rattle.model.specs.declared.Rates.{Rates}
use Rattle.model.specs.Reports.{places}
use Rattle.loads.specs.Loads.{watts_at}

-- a number of eight bytes, low byte first
abbrev pub bits_at : List ℕ → ℕ → ℕ
bits_at case from = watts_at case from + 4294967296 * watts_at case (from + 4)

-- the float whose bits they are
abbrev pub float_at : List ℕ → ℕ → Float
float_at case from = of_bits binary64 (bits_at case from)

-- a rate by the number of its kind: 0 a chance, 1 mean hours, any other unrated
abbrev pub rate_by : ℕ → Float → Rate
rate_by kind x = cond (eqb kind 0) (Chance x) (cond (eqb kind 1) (MeanHours x) Unrated)

-- the number of a rate's kind, and the bits of its figure
abbrev pub rate_at : List ℕ → ℕ → PartRate
rate_at case from = record { rate = rate_by (get_or case from 0) (float_at case (from + 1)) }

-- twenty rates
abbrev pub twenty_at : List ℕ → ℕ → List PartRate
twenty_at case from = places (λ i. rate_at case (from + 9 * i))

-- the rate of every part
abbrev pub rates_at : List ℕ → ℕ → Rates
rates_at case from = record {
  generators = twenty_at case from;
  generator_breakers = twenty_at case (from + 180);
  bus_breakers = twenty_at case (from + 360);
}
