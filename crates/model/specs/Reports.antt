-- Document 01, "Fault file and reports": the file's bytes, codes and words, and the ring of a ring state (document 01: ring record).
use Rattle.std.specs.Prelude.{Bool, true, false, cond, List, [], ◌∷◌, map, ℕ, zero, suc, ◌+◌, ◌*◌, min, eqb, length, get_or, take, drop}
use Rattle.std.proofs.Math.Option.{Option}
use Rattle.model.specs.declared.Part.{Part}
use Rattle.model.specs.declared.Part.TheVariants.{Generator, GeneratorBreaker, BusBreaker}
use Rattle.model.specs.declared.Word.{Word}
use Rattle.model.specs.declared.Word.TheVariants.{Fit, StuckOff, StuckOpen, StuckClosed, Lock, Unlock}
use Rattle.model.specs.declared.Report.{Report}
use Rattle.model.specs.declared.Health.{Health}
use Rattle.model.specs.declared.Commands.{Commands}
use Rattle.model.specs.declared.Ring.{Ring}
use Rattle.model.specs.declared.BusChoice.{BusChoice}
use Rattle.model.specs.Lists.{below, first}
use Rattle.model.specs.Values.{part_code, same_part, word_number}
use Rattle.model.specs.Plant.{PartHealth, PartCommands, largest, generator, generator_breaker, bus_breaker, parts, all_off}
use Rattle.model.specs.Choosing.{commands, choices}

-- "That file now stands for a ring of three without reports and prints what `3 0 0` prints." (document 02, Note 9): the bytes a file stands for
abbrev pub stands_for : List ℕ → List ℕ
stands_for [] = 3 ∷ 0 ∷ 0 ∷ []
stands_for (b ∷ bs) = b ∷ bs

-- "file length"
abbrev pub file_length : List ℕ → ℕ
file_length f = length (stands_for f)

-- "Byte 0 is n."
abbrev pub file_size : List ℕ → ℕ
file_size f = get_or (stands_for f) 0 0

-- "Bytes 1 and 2 are the number m of reports, low byte first"
abbrev pub file_count : List ℕ → ℕ
file_count f = get_or (stands_for f) 1 0 + 256 * get_or (stands_for f) 2 0

-- "Two arrays follow: m part codes from byte 3 .."
abbrev pub file_codes : List ℕ → List ℕ
file_codes f = take (file_count f) (drop 3 (stands_for f))

-- ".. then m words."
abbrev pub file_words : List ℕ → List ℕ
file_words f = drop (3 + file_count f) (stands_for f)

-- the part of a ring of n that a code names; a ring has at most 20 of each kind
unfoldable pub part_named : ℕ → ℕ → Option Part
part_named n c = first (λ p. eqb (part_code p) c) (parts (min n largest))

-- the word that a byte names
unfoldable pub word_named : ℕ → Option Word
word_named v = first (λ w. eqb (word_number w) v) (Fit ∷ StuckOff ∷ StuckOpen ∷ StuckClosed ∷ Lock ∷ Unlock ∷ [])

-- "Neither lock nor health alters the other" (Note 7): a part's health after a word; "The last word decides"
abbrev pub health_by : Word → ℕ → ℕ
health_by Fit h = word_number Fit
health_by StuckOff h = word_number StuckOff
health_by StuckOpen h = word_number StuckOpen
health_by StuckClosed h = word_number StuckClosed
health_by Lock h = h
health_by Unlock h = h

-- "Word 4 locks it and word 5 unlocks it" (Note 7): a generator's lock after a word
abbrev pub lock_by : Word → Bool → Bool
lock_by Fit l = l
lock_by StuckOff l = l
lock_by StuckOpen l = l
lock_by StuckClosed l = l
lock_by Lock l = true
lock_by Unlock l = false

-- "The last word decides; one that repeats the present health is accepted.": the health and the locks after a report
unfoldable pub reported : PartHealth → Report → PartHealth
reported H r =
    record {
      health = λ p. cond (same_part p r.part) (health_by r.word (H.health p)) (H.health p);
      locked = λ g. cond (same_part (generator g) r.part) (lock_by r.word (H.locked g)) (H.locked g);
    }

-- "all parts fit", and none locked
abbrev pub all_fit : PartHealth
all_fit = record { health = λ p. word_number Fit; locked = λ g. false }

-- what an array of 20 places holds at a number, from 1
abbrev pub at_number : {A : Type 0} → A → List A → ℕ → A
at_number d l zero = d
at_number d l (suc i) = get_or l i d

-- the array that holds f at each index
unfoldable pub places : {A : Type 0} → (ℕ → A) → List A
places f = map f (below largest)

-- "The ring record holds .. each part's health": that of a part
abbrev pub health_at : Health → Part → ℕ
health_at h (Generator k) = at_number 0 h.generators k
health_at h (GeneratorBreaker k) = at_number 0 h.generator_breakers k
health_at h (BusBreaker k) = at_number 0 h.bus_breakers k

-- "The ring record .. carries the lock beside the health" (Note 7)
unfoldable pub health_of : Health → PartHealth
health_of h = record { health = health_at h; locked = λ g. get_or h.locked g false }

-- ".. and its standing order.": that of a part
unfoldable pub commands_of : Commands → PartCommands
commands_of c (Generator k) = at_number false c.generators k
commands_of c (GeneratorBreaker k) = at_number false c.generator_breakers k
commands_of c (BusBreaker k) = at_number false c.bus_breakers k

-- each part's health and the locks, held in a record's arrays
unfoldable pub health_places : PartHealth → Health
health_places H =
    record {
      generators = places (λ i. H.health (generator i));
      generator_breakers = places (λ i. H.health (generator_breaker i));
      bus_breakers = places (λ i. H.health (bus_breaker i));
      locked = places H.locked;
    }

-- each part's command, held in a record's arrays
unfoldable pub command_places : PartCommands → Commands
command_places C =
    record {
      generators = places (λ i. C (generator i));
      generator_breakers = places (λ i. C (generator_breaker i));
      bus_breakers = places (λ i. C (bus_breaker i));
    }

-- n buses, "every part fit and ordered off or open"
unfoldable pub blank_ring : ℕ → Ring
blank_ring n = record { n = n; health = health_places all_fit; commands = command_places all_off }

-- what a report does to a ring before any command: its word's effect on the health or the lock
unfoldable pub told : Ring → Report → Ring
told ring r = record { n = ring.n; health = health_places (reported (health_of ring.health) r); commands = ring.commands }

-- the commands that a ring's health and locks call for
unfoldable pub planned : Ring → PartCommands
planned ring = commands ring.n (health_of ring.health)

-- "the choices it calls for" (document 02, Note 2), bus by bus
abbrev pub called_for : Ring → List BusChoice
called_for ring = choices ring.n (health_of ring.health)

-- the ring with the commands that its health and locks call for: the one maker of rings after a served call
unfoldable pub with_plan : Ring → Ring
with_plan ring = record { n = ring.n; health = ring.health; commands = command_places (planned ring) }
