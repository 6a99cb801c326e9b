-- What is claimed of the minimal cut sets of a bus (document 02, Note 1). A set is a list of parts in rising code; buses are indices
-- from 0. Nothing is proved here.
use Rattle.std.specs.Prelude.{◌≡◌, true, false, ◌⊎◌, ◌↔◌, List, [], ◌∷◌, map, ℕ, ◌≤◌, ◌<◌, length}
use Rattle.model.specs.declared.Part.{Part}
use Rattle.model.specs.declared.Part.TheVariants.{Generator, GeneratorBreaker, BusBreaker}
use Rattle.model.specs.declared.Word.TheVariants.{StuckOff, StuckOpen, StuckClosed, Lock}
use Rattle.model.specs.declared.Report.{Report}
use Rattle.model.specs.Lists.{◌∈◌, RisingBy, Distinct}
use Rattle.model.specs.Values.{index, part_code}
use Rattle.model.specs.Plant.{PartHealth, InRing, generator_breaker, bus_breaker, fit_generator, stuck_open}
use Rattle.model.specs.CutSets.{most_faults, can_fail, darkens, cut_sets}
use Rattle.theory.specs.Statements.Settled.{health_after}

-- S is T with some parts left out
pub data Sub : List Part → List Part → Type 0 where
  end : Sub [] []
  takes : {p : Part} {S T : List Part} → Sub S T → Sub (p ∷ S) (p ∷ T)
  skips : {p : Part} {S T : List Part} → Sub S T → Sub S (p ∷ T)

-- "proper subset": at least one is left out
abbrev pub Proper : List Part → List Part → Type 0
Proper S T = Sub S T × (length S < length T)

-- S is to be listed for bus b: "every smallest set of at most three further faults that leaves that bus dark"
pub record CutSet (n : ℕ) (H : PartHealth) (b : ℕ) (S : List Part) : Type 0 where
  pub rises : RisingBy part_code S
  pub few : length S ≤ most_faults
  pub further : (p : Part) → p ∈ S → InRing n p × (can_fail H p ≡ true)
  pub dark : darkens n H b S ≡ true
  pub least : (T : List Part) → Proper T S → darkens n H b T ≡ false

-- the codes of S come before those of T: by the first part in which they differ
pub data Earlier : List Part → List Part → Type 0 where
  here : {p q : Part} {S T : List Part} → part_code p < part_code q → Earlier (p ∷ S) (q ∷ T)
  there : {p : Part} {S T : List Part} → Earlier S T → Earlier (p ∷ S) (p ∷ T)

-- "by size, then by part codes"
abbrev pub Before : List Part → List Part → Type 0
Before S T = (length S < length T) ⊎ ((length S ≡ length T) × Earlier S T)

-- each set comes before all that follow it
pub data InOrder : List (List Part) → Type 0 where
  no_more : InOrder []
  then : {S : List Part} {Ss : List (List Part)} → ((T : List Part) → T ∈ Ss → Before S T) → InOrder Ss → InOrder (S ∷ Ss)

-- "Each set is listed once, by size, then by part codes.": the list of all cut sets of bus b
pub record Listed (n : ℕ) (H : PartHealth) (b : ℕ) (Ss : List (List Part)) : Type 0 where
  pub exactly : (S : List Part) → S ∈ Ss ↔ CutSet n H b S
  pub in_order : InOrder Ss
  pub once : Distinct Ss

-- two healths that further faults cannot tell apart: the same generators of the ring are fit, and the same breakers stuck open
pub record Alike (n : ℕ) (H K : PartHealth) : Type 0 where
  pub generators : (g : ℕ) → g < n → fit_generator H g ≡ fit_generator K g
  pub generator_breakers_lem : (g : ℕ) → g < n → stuck_open (H.health (generator_breaker g)) ≡ stuck_open (K.health (generator_breaker g))
  pub bus_breakers_lem : (i : ℕ) → i < n → stuck_open (H.health (bus_breaker i)) ≡ stuck_open (K.health (bus_breaker i))

-- ---- worked examples, of rings of three

-- a bus by its number, the reports before, and the codes of its cut sets
pub record Worked : Type 0 where
  pub bus : ℕ
  pub faults : List Report
  pub expected : List (List ℕ)

abbrev example : ℕ → List Report → List (List ℕ) → Worked
example b fs codes = record { bus = b; faults = fs; expected = codes }

unfoldable pub worked : List Worked
worked =
    -- "A started ring of three has ten sets for B3."
    example 3 []
    ((0 ∷ 1 ∷ 2 ∷ [])
    ∷ (0 ∷ 1 ∷ 34 ∷ [])
    ∷ (0 ∷ 2 ∷ 33 ∷ [])
    ∷ (0 ∷ 33 ∷ 34 ∷ [])
    ∷ (1 ∷ 2 ∷ 32 ∷ [])
    ∷ (1 ∷ 32 ∷ 34 ∷ [])
    ∷ (2 ∷ 32 ∷ 33 ∷ [])
    ∷ (2 ∷ 65 ∷ 66 ∷ [])
    ∷ (32 ∷ 33 ∷ 34 ∷ [])
    ∷ (34 ∷ 65 ∷ 66 ∷ [])
    ∷ [])
    -- G1 off, BB3 open: the set of one part comes first, though its code is the highest
    ∷ example 1 (record { part = Generator 1; word = StuckOff } ∷ record { part = BusBreaker 3; word = StuckOpen } ∷ [])
    ((64 ∷ []) ∷ (1 ∷ 2 ∷ []) ∷ (1 ∷ 34 ∷ []) ∷ (1 ∷ 65 ∷ []) ∷ (2 ∷ 33 ∷ []) ∷ (33 ∷ 34 ∷ []) ∷ (33 ∷ 65 ∷ []) ∷ [])
    -- G2 off, GB3 open, BB1 closed: a stuck-closed breaker can still become stuck open; what has failed is in no set
    ∷ example 2
    (record { part = Generator 2; word = StuckOff }
    ∷ record { part = GeneratorBreaker 3; word = StuckOpen }
    ∷ record { part = BusBreaker 1; word = StuckClosed }
    ∷ [])
    ((0 ∷ []) ∷ (32 ∷ []) ∷ (64 ∷ 65 ∷ []) ∷ (64 ∷ 66 ∷ []) ∷ [])
    -- G3 locked (document 02, Note 7): a locked generator is not fit, and in no set; its breaker is on no path
    ∷ example 3 (record { part = Generator 3; word = Lock } ∷ [])
    ((0 ∷ 1 ∷ [])
    ∷ (0 ∷ 33 ∷ [])
    ∷ (1 ∷ 32 ∷ [])
    ∷ (32 ∷ 33 ∷ [])
    ∷ (65 ∷ 66 ∷ [])
    ∷ (0 ∷ 64 ∷ 65 ∷ [])
    ∷ (1 ∷ 64 ∷ 66 ∷ [])
    ∷ (32 ∷ 64 ∷ 65 ∷ [])
    ∷ (33 ∷ 64 ∷ 66 ∷ [])
    ∷ [])
    -- all generators off: "A bus already dark has one set, the empty one."
    ∷ example 3
    (record { part = Generator 1; word = StuckOff }
    ∷ record { part = Generator 2; word = StuckOff }
    ∷ record { part = Generator 3; word = StuckOff }
    ∷ [])
    ([] ∷ [])
    ∷ []

-- the codes of the listed sets, by the definitions
unfoldable pub listed_codes : Worked → List (List ℕ)
listed_codes x = map (map part_code) (cut_sets 3 (health_after x.faults) (index x.bus))
