-- Document 01, "Settled positions": the starred dozen, as a table. Numbers are the paper's.
use Rattle.std.specs.Prelude.{List, [], ◌∷◌, map, ℕ, take}
use Rattle.model.specs.declared.Part.TheVariants.{Generator, GeneratorBreaker, BusBreaker}
use Rattle.model.specs.declared.Word.TheVariants.{StuckOff, StuckOpen, StuckClosed}
use Rattle.model.specs.declared.Report.{Report}
use Rattle.model.specs.declared.Choice.{Choice}
use Rattle.model.specs.declared.Choice.TheVariants.{Dark, Own, High, Low}
use Rattle.model.specs.declared.BusChoice.{BusChoice}
use Rattle.model.specs.Plant.{PartHealth}
use Rattle.model.specs.Choosing.{choices}
use Rattle.model.specs.Reports.{reported, all_fit}

-- the health after a list of reports
unfoldable pub health_after : List Report → PartHealth
health_after [] = all_fit
health_after (r ∷ rs) = reported (health_after rs) r

-- "Sources of B1, B2, .. after the faults named": a row of the table
pub record Position : Type 0 where
  pub size : ℕ
  pub faults : List Report
  pub expected : List Choice

-- "G1 off"
abbrev pub generator_off : ℕ → Report
generator_off g = record { part = Generator g; word = StuckOff }

-- "GB2 open"
abbrev pub generator_breaker_open : ℕ → Report
generator_breaker_open g = record { part = GeneratorBreaker g; word = StuckOpen }

-- "BB2 open"
abbrev pub bus_breaker_open : ℕ → Report
bus_breaker_open i = record { part = BusBreaker i; word = StuckOpen }

-- "BB1 closed"
abbrev pub bus_breaker_closed : ℕ → Report
bus_breaker_closed i = record { part = BusBreaker i; word = StuckClosed }

-- a position of the list
abbrev position : ℕ → List Report → List Choice → Position
position n fs cs = record { size = n; faults = fs; expected = cs }

-- "* marks those to prove."
unfoldable pub starred : List Position
starred =
    position 3 [] (Own 1 ∷ Own 2 ∷ High 2 ∷ [])
    ∷ position 4 [] (Own 1 ∷ Own 2 ∷ High 2 ∷ High 2 ∷ [])
    ∷ position 5 [] (Own 1 ∷ Own 2 ∷ High 2 ∷ High 2 ∷ Low 2 ∷ [])
    ∷ position 3 (bus_breaker_open 2 ∷ []) (Own 1 ∷ Own 2 ∷ High 1 ∷ [])
    ∷ position 3 (bus_breaker_open 2 ∷ bus_breaker_open 3 ∷ []) (Own 1 ∷ Own 2 ∷ Own 3 ∷ [])
    ∷ position 3 (bus_breaker_closed 1 ∷ []) (Own 1 ∷ High 1 ∷ High 1 ∷ [])
    ∷ position 3 (bus_breaker_closed 3 ∷ []) (Own 1 ∷ Own 2 ∷ High 1 ∷ [])
    ∷ position 3 (generator_off 1 ∷ []) (High 2 ∷ Own 2 ∷ High 2 ∷ [])
    ∷ position 3 (generator_off 1 ∷ generator_off 2 ∷ []) (High 3 ∷ High 3 ∷ Own 3 ∷ [])
    ∷ position 3 (generator_off 1 ∷ generator_off 2 ∷ generator_off 3 ∷ []) (Dark ∷ Dark ∷ Dark ∷ [])
    ∷ position 3 (generator_breaker_open 2 ∷ []) (Own 1 ∷ High 1 ∷ High 1 ∷ [])
    ∷ position 3 (generator_off 3 ∷ bus_breaker_open 2 ∷ bus_breaker_open 3 ∷ []) (Own 1 ∷ Own 2 ∷ Dark ∷ [])
    ∷ []

-- the choices of a position's buses, by the definitions
unfoldable pub found : Position → List Choice
found p = map (λ (c : BusChoice). c.choice) (take p.size (choices p.size (health_after p.faults)))
