-- What document 02, Notes 3 and 7, bring into demand 3's lists: generators that return. Nothing starts or closes but by its own stroke.
use Rattle.std.specs.Prelude.{◌≡◌, true, false, ◌&&◌, ◌⊎◌, List, [], ◌∷◌, ℕ, ◌<◌}
use Rattle.model.specs.declared.Part.{Part}
use Rattle.model.specs.declared.Part.TheVariants.{Generator}
use Rattle.model.specs.declared.Word.TheVariants.{Fit, Unlock}
use Rattle.model.specs.declared.Report.{Report}
use Rattle.model.specs.Lists.{any_of, ◌∈◌}
use Rattle.model.specs.Values.{same_part}
use Rattle.model.specs.Plant.{PartHealth, generator, closed, running, bus_feed, InRing}
use Rattle.model.specs.Reports.{health_by, lock_by}
use Rattle.demands.specs.Statements.Demand3.{PlantState, after_words, Operation, operation, perform_all, is_stuck_closed}

-- "word 0 makes a generator fit again", "word 5 unlocks it" (Note 7): reports that say this of generators, and nothing else
pub data Returns : List Report → Type 0 where
  none_returns : Returns []
  returns : {rs : List Report} (k : ℕ) → Returns rs → Returns (record { part = Generator k; word = Fit } ∷ rs)
  unlocks : {rs : List Report} (k : ℕ) → Returns rs → Returns (record { part = Generator k; word = Unlock } ∷ rs)

-- "The last word decides; one that repeats the present health is accepted": a word that leaves its part's health and lock as they are
pub record Repeats (H : PartHealth) (r : Report) : Type 0 where
  pub health : health_by r.word (H.health r.part) ≡ H.health r.part
  pub lock : (g : ℕ) → generator g ≡ r.part → lock_by r.word (H.locked g) ≡ H.locked g

-- the plant when the words of the next call have been taken and some of its operations performed, any of them in any order
abbrev pub meanwhile : List Report → List Operation → PlantState → PlantState
meanwhile rs os P = perform_all os (after_words rs P)

-- what holds of a plant when the orders have ended, whatever the next call brings
pub record ByOperationAlone (n : ℕ) (P : PlantState) : Type 0 where
  -- a generator that runs meanwhile ran before the words, or was ordered on by its own operation
  pub starts : (rs : List Report) (os : List Operation) (g : ℕ) → g < n
      → running (meanwhile rs os P).health (meanwhile rs os P).last g ≡ true
      → (running P.health P.last g ≡ true) ⊎ (operation true (generator g) ∈ os)
  -- a breaker that is closed meanwhile was closed before the words, or was ordered closed by its own operation, unless it stuck closed
  pub closes : (rs : List Report) (os : List Operation) (p : Part) → InRing n p
      → any_of (λ r. same_part p r.part && is_stuck_closed r.word) rs ≡ false
      → closed ((meanwhile rs os P).health.health p) ((meanwhile rs os P).last p) ≡ true
      → (closed (P.health.health p) (P.last p) ≡ true) ⊎ (operation true p ∈ os)
  -- before the first operation generators that return change nothing for any bus
  pub fed_as_before : (rs : List Report) → Returns rs → (b : ℕ) → b < n
      → bus_feed n (after_words rs P).health (after_words rs P).last b ≡ bus_feed n P.health P.last b
