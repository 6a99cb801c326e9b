-- Document 01, "The plant". Buses, generators and breakers are indices from 0, the paper's numbers less 1.
use Rattle.std.specs.Prelude.{◌≡◌, Bool, true, false, not, ◌&&◌, ◌||◌, cond, List, [], ◌∷◌, ◌++◌, map, ℕ, zero, suc, ◌+◌, ◌-◌, ◌<◌, ◌≤◌, leb, eqb}
use Rattle.model.specs.declared.Part.{Part}
use Rattle.model.specs.declared.Part.TheVariants.{Generator, GeneratorBreaker, BusBreaker}
use Rattle.model.specs.declared.Word.TheVariants.{Fit, StuckOff, StuckOpen, StuckClosed}
use Rattle.model.specs.declared.Feed.{Feed}
use Rattle.model.specs.declared.Feed.TheVariants.{Dark, Fed, Clash}
use Rattle.model.specs.Lists.{below, keep, all_of}
use Rattle.model.specs.Values.{number, word_number}

-- "n from 3 to 20": the smallest ring
abbrev pub smallest : ℕ
smallest = 3

-- "n from 3 to 20": the largest
abbrev pub largest : ℕ
largest = 20

-- "Generator Gk reaches Bk ..": the generator at an index
abbrev pub generator : ℕ → Part
generator g = Generator (suc g)

-- ".. through generator breaker GBk."
abbrev pub generator_breaker : ℕ → Part
generator_breaker g = GeneratorBreaker (suc g)

-- "Bus breaker BBk joins Bk and B(k+1)"
abbrev pub bus_breaker : ℕ → Part
bus_breaker i = BusBreaker (suc i)

-- all parts of a ring of n, in rising code
unfoldable pub parts : ℕ → List Part
parts n = map generator (below n) ++ (map generator_breaker (below n) ++ map bus_breaker (below n))

-- "B1 to Bn": p is a part of a ring of n
abbrev pub InRing : ℕ → Part → Type 0
InRing n p = (0 < number p) × (number p ≤ n)

-- the health of each part, the number of the word that brought it about; and "the lock beside the health" (document 02, Note 7): whether a
-- generator is locked
pub record PartHealth : Type 0 where
  pub health : Part → ℕ
  pub locked : ℕ → Bool

-- the command (document 01: order) of each part: true is on or closed
abbrev pub PartCommands : Type 0
PartCommands = Part → Bool

-- "fit"
abbrev pub fit : ℕ → Bool
fit h = eqb h (word_number Fit)

-- "stuck off"
abbrev pub stuck_off : ℕ → Bool
stuck_off h = eqb h (word_number StuckOff)

-- "stuck open"
abbrev pub stuck_open : ℕ → Bool
stuck_open h = eqb h (word_number StuckOpen)

-- "stuck closed"
abbrev pub stuck_closed : ℕ → Bool
stuck_closed h = eqb h (word_number StuckClosed)

-- "A generator is fit or stuck off. A breaker is fit, stuck open or stuck closed."
unfoldable pub health_of_kind : Part → ℕ → Bool
health_of_kind (Generator k) h = fit h || stuck_off h
health_of_kind (GeneratorBreaker k) h = fit h || stuck_open h || stuck_closed h
health_of_kind (BusBreaker k) h = fit h || stuck_open h || stuck_closed h

-- "Fit, in choosing, in the plant, in further faults and in judging a dark bus, now means not stuck off and not locked." (Note 7): the one
-- definition by which they judge generator g
abbrev pub fit_generator : PartHealth → ℕ → Bool
fit_generator H g = fit (H.health (generator g)) && not (H.locked g)

-- "A fit part does what it was last ordered; a stuck part ignores orders.": a breaker of this health and command is closed
abbrev pub closed : ℕ → Bool → Bool
closed h c = stuck_closed h || (not (stuck_open h) && c)

-- "Before its first orders every part is ordered off or open."
abbrev pub all_off : PartCommands
all_off p = false

-- "BBn joins Bn and B1": the bus that bus breaker i joins to bus i
unfoldable pub next : ℕ → ℕ → ℕ
next n i = cond (eqb (suc i) n) 0 (suc i)

-- "Two buses are joined when closed bus breakers lead from one to the other; a bus is joined to itself."
-- Connected, here. C says which bus breakers are closed.
pub data Leads (n : ℕ) (C : ℕ → Bool) : ℕ → ℕ → Type 0 where
  stay : {a : ℕ} → Leads n C a a
  rise : {a b c : ℕ} → a < n → C a ≡ true → b ≡ next n a → Leads n C b c → Leads n C a c
  fall : {a b c : ℕ} → a < n → C a ≡ true → b ≡ next n a → Leads n C a c → Leads n C b c

-- the number of steps from bus a to bus b through rising bus numbers, B1 after Bn
unfoldable pub up : ℕ → ℕ → ℕ → ℕ
up n a b = cond (leb a b) (b - a) (b + n - a)

-- the k bus breakers met from bus a through rising bus numbers
unfoldable pub arc : ℕ → ℕ → ℕ → List ℕ
arc n a zero = []
arc n a (suc k) = a ∷ arc n (next n a) k

-- connected, as a test: all breakers of one of the two arcs between the buses are closed
unfoldable pub connected : ℕ → (ℕ → Bool) → ℕ → ℕ → Bool
connected n C a b = all_of C (arc n a (up n a b)) || all_of C (arc n b (up n b a))

-- the closed bus breakers
abbrev pub bus_breaker_closed : PartHealth → PartCommands → ℕ → Bool
bus_breaker_closed H C i = closed (H.health (bus_breaker i)) (C (bus_breaker i))

-- "A generator is running when it is fit and ordered on"
abbrev pub running : PartHealth → PartCommands → ℕ → Bool
running H C g = fit_generator H g && C (generator g)

-- "it feeds every bus joined to its own while its generator breaker is closed": generator g feeds bus b
unfoldable pub feeds : ℕ → PartHealth → PartCommands → ℕ → ℕ → Bool
feeds n H C b g = running H C g && closed (H.health (generator_breaker g)) (C (generator_breaker g)) && connected n (bus_breaker_closed H C) g b

-- the generators that feed bus b, rising
unfoldable pub feeders : ℕ → PartHealth → PartCommands → ℕ → List ℕ
feeders n H C b = keep (feeds n H C b) (below n)

-- "its answer is one of three: dark, fed by one generator, or a clash that names the two lowest generators feeding it."
unfoldable pub feed_by : List ℕ → Feed
feed_by [] = Dark
feed_by (g ∷ []) = Fed (suc g)
feed_by (g ∷ h ∷ gs) = Clash (suc g) (suc h)

-- "The plant reckoning takes n, the health of all parts and any set of orders.": its answer for bus b
unfoldable pub bus_feed : ℕ → PartHealth → PartCommands → ℕ → Feed
bus_feed n H C b = feed_by (feeders n H C b)

-- "no fit generator has a run of breakers to it, none stuck open" (demand 3): generator g has one to bus b
pub record Reaches (n : ℕ) (H : PartHealth) (b g : ℕ) : Type 0 where
  pub inside : g < n
  pub runs : fit_generator H g ≡ true
  pub breaker : stuck_open (H.health (generator_breaker g)) ≡ false
  pub line : Leads n (λ i. not (stuck_open (H.health (bus_breaker i)))) g b
