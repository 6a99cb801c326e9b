-- Document 02, Note 4, "Close outward from the source": what holds of every closing phase (document 02: second wave), and some of them as a
-- table. Numbers are the paper's. Of the table the first three rows are the papers' own; the others are held to the simulation by a test.
use Rattle.std.specs.Prelude.{◌≡◌, true, ◌⊎◌, ℕ, ◌≤◌, ◌<◌, length}
use mathlib.Core.List.{List, [], ◌∷◌, ◌++◌, Permᴰ}
use Rattle.std.proofs.Math.Option.{some}
use Prim.Native.String.{String}
use Rattle.model.specs.declared.Part.{Part}
use Rattle.model.specs.declared.Part.TheVariants.{Generator, GeneratorBreaker, BusBreaker}
use Rattle.model.specs.declared.Report.{Report}
use Rattle.model.specs.Lists.{◌∈◌, Distinct}
use Rattle.model.specs.Plant.{PartHealth, PartCommands, all_off}
use Rattle.model.specs.Priority.{Path, path_parts}
use Rattle.model.specs.Choosing.{plan, commands}
use Rattle.model.specs.Sheet.{closing, sheet}
use Rattle.model.specs.Laws.Sheet.{closing_by_code}
use Rattle.theory.specs.Statements.Settled.{health_after, generator_off, generator_breaker_open, bus_breaker_open, bus_breaker_closed}

-- ---- every closing phase

-- x stands in a list, and of all that stands before it this holds
pub record Behind {A : Type 0} (Before : A → Type 0) (x : A) (xs : List A) : Type 0 where
  pub front : List A
  pub back : List A
  pub is : xs ≡ front ++ (x ∷ back)
  pub before : (y : A) → y ∈ front → Before y

-- p is on the path of some bus, behind parts that stand commanded on or closed or are among xs
abbrev pub Follows : ℕ → PartHealth → PartCommands → List Part → Part → Type 0
Follows n H old xs p =
    (b : ℕ) × (w : Path) × (b < n) × (plan n H b ≡ some w) × Behind (λ q. (old q ≡ true) ⊎ (q ∈ xs)) p (path_parts n w)

-- the closing phase that leads from old commands to those of a health
pub record Outward (n : ℕ) (H : PartHealth) (old : PartCommands) : Type 0 where
  -- the parts that the phase had in rising code, in another order
  pub same_parts : Permᴰ (closing n old (plan n H)) (closing_by_code n old (commands n H))
  -- "a part only where it first comes"
  pub once : Distinct (closing n old (plan n H))
  -- "never more than 122"
  pub fits : length (sheet n old H) ≤ 122
  -- "want to see current advance": each part comes behind what stands before it on a chosen path
  pub advances : (xs ys : List Part) (p : Part) → closing n old (plan n H) ≡ xs ++ (p ∷ ys) → Follows n H old xs p

-- ---- some closing phases

-- a row of the table: a ring, the commands that stand, the faults known, and the parts that close
pub record ClosingPhase : Type 0 where
  pub size : ℕ
  pub standing : PartCommands
  pub faults : List Report
  pub expected : List Part

-- the commands that stand with some faults
abbrev plan_for : ℕ → List Report → PartCommands
plan_for n fs = commands n (health_after fs)

-- a row
abbrev phase : ℕ → PartCommands → List Report → List Part → ClosingPhase
phase n old fs ps = record { size = n; standing = old; faults = fs; expected = ps }

-- every generator of a ring of five off but one, and a bus breaker open
abbrev others_off : ℕ → ℕ → ℕ → ℕ → ℕ → List Report
others_off a b c d i = generator_off a ∷ generator_off b ∷ generator_off c ∷ generator_off d ∷ bus_breaker_open i ∷ []

-- the table
unfoldable pub closing_phases : List ClosingPhase
closing_phases =
    -- "Line 0 of the printed run now ends `G1+ GB1+ G2+ GB2+ BB2+`."
    phase 3 all_off [] (Generator 1 ∷ GeneratorBreaker 1 ∷ Generator 2 ∷ GeneratorBreaker 2 ∷ BusBreaker 2 ∷ [])
    -- document 01's run and its settled step: parts that stand are not listed again
    ∷ phase 3 (plan_for 3 []) (bus_breaker_open 2 ∷ []) (BusBreaker 3 ∷ [])
    ∷ phase 3 (plan_for 3 []) (bus_breaker_closed 1 ∷ []) (BusBreaker 1 ∷ BusBreaker 3 ∷ [])
    -- from G3 falling past B1 to B4: BB2 and BB1 come first for B1
    ∷ phase 5 all_off (others_off 1 2 4 5 3)
    (Generator 3 ∷ GeneratorBreaker 3 ∷ BusBreaker 2 ∷ BusBreaker 1 ∷ BusBreaker 5 ∷ BusBreaker 4 ∷ [])
    -- from G4 rising past B5 to B2, and falling to B3
    ∷ phase 5 all_off (others_off 1 2 3 5 2)
    (Generator 4 ∷ GeneratorBreaker 4 ∷ BusBreaker 4 ∷ BusBreaker 5 ∷ BusBreaker 1 ∷ BusBreaker 3 ∷ [])
    -- from G3 past BB3, which stands closed, to B1
    ∷ phase 4 (plan_for 4 (generator_breaker_open 1 ∷ [])) (generator_off 2 ∷ generator_breaker_open 1 ∷ [])
    (Generator 3 ∷ GeneratorBreaker 3 ∷ BusBreaker 4 ∷ [])
    ∷ []

-- what closes, by the definitions
unfoldable pub closes : ClosingPhase → List Part
closes w = closing w.size w.standing (plan w.size (health_after w.faults))

-- document 01, "The printed run", with line 0 of Note 4: input `3 1 0 65 2` prints, whole
unfoldable pub example_file : List ℕ
example_file = 3 ∷ 1 ∷ 0 ∷ 65 ∷ 2 ∷ []

unfoldable pub example_run : String
example_run =
    "ring 3 reports 1\n0 B1=G1o B2=G2o B3=G2h / - / G1+ GB1+ G2+ GB2+ BB2+\n1 B1=G1o B2=G2o B3=G1h / BB2- / BB3+\n"
