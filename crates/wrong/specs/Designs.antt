-- Wrong designs: those that document 01 holds against the contracts, its classroom errors, and of document 02 closing phases in another order
-- than Note 4's and choosing without Note 7's locks.
use Rattle.std.specs.Prelude.{false, not, ◌&&◌, cond, ℕ, zero, suc, ◌+◌, eqb, length, take, drop}
use mathlib.Core.List.{List, [], ◌∷◌, ◌++◌, map, flat_map, reverse}
use Rattle.std.proofs.Math.Option.{none}
use Rattle.model.specs.declared.Part.{Part}
use Rattle.model.specs.declared.Part.TheVariants.{Generator}
use Rattle.model.specs.declared.Word.TheVariants.{StuckOff}
use Rattle.model.specs.Lists.{below, keep, first, any_of}
use Rattle.model.specs.Values.{same_part, part_code}
use Rattle.model.specs.Plant.{PartHealth, PartCommands, generator, generator_breaker, bus_breaker, parts, stuck_closed}
use Rattle.model.specs.Priority.{Path, sources, path_bus_breakers, path_parts, high_path, low_path, paths}
use Rattle.model.specs.Choosing.{permitted, add_path, plan}
use Rattle.model.specs.Sheet.{first_occurrences, sheet_of}
use Rattle.model.specs.Reports.{reported, all_fit}
use Rattle.designs.specs.Designs.{Design, right_order}

-- paths chosen one bus after the other, each the first permitted of those that a rule tries
unfoldable pub chosen_by : (ℕ → ℕ → List Path) → ℕ → PartHealth → ℕ → List Path
chosen_by tries n H zero = []
chosen_by tries n H (suc k) = let ws = chosen_by tries n H k in add_path (first (permitted n H ws) (tries n k)) ws

-- the right design with another rule of what is tried
unfoldable pub trying : (ℕ → ℕ → List Path) → Design
trying tries = record {
  paths_of = λ n H b. first (permitted n H (chosen_by tries n H b)) (tries n b);
  parts_of_lem = path_parts;
  order_of = right_order;
  sheet_of_lem = sheet_of;
}

-- the right design, planning for another health
unfoldable pub planning_for : (ℕ → PartHealth → PartHealth) → Design
planning_for f = record { paths_of = λ n H. plan n (f n H); parts_of_lem = path_parts; order_of = right_order; sheet_of_lem = sheet_of }

-- the right design with another sheet
unfoldable pub writing : (List Part → List Part → List ℕ) → Design
writing f = record { paths_of = plan; parts_of_lem = path_parts; order_of = right_order; sheet_of_lem = f }

-- the right design with other parts of a path, or another sequence of them
unfoldable pub walking : (ℕ → Path → List Part) → Design
walking f = record { paths_of = plan; parts_of_lem = f; order_of = right_order; sheet_of_lem = sheet_of }

-- the right design with another order of what closes
unfoldable pub ordering : (ℕ → PartCommands → (ℕ → List Part) → List Part) → Design
ordering f = record { paths_of = plan; parts_of_lem = path_parts; order_of = f; sheet_of_lem = sheet_of }

-- "a controller that leaves every bus dark"
unfoldable pub all_buses_dark : Design
all_buses_dark = record { paths_of = λ n H b. none; parts_of_lem = path_parts; order_of = right_order; sheet_of_lem = sheet_of }

-- "or finds no way before trying one"
unfoldable pub gives_up : Design
gives_up = trying (λ n b. take 0 (paths n b))

-- "one that sends empty waves"
unfoldable pub empty_phases : Design
empty_phases = writing (λ xs ys. sheet_of [] [])

-- "one that plans the start well and repeats it after every report"
unfoldable pub repeats_start : Design
repeats_start = planning_for (λ n H. all_fit)

-- "one plan for all faults": with any fault the plan for G1 off
unfoldable pub one_plan : Design
one_plan =
    planning_for (λ n H.
    cond (any_of (λ p. not (eqb (H.health p) 0)) (parts n)) (reported all_fit (record { part = Generator 1; word = StuckOff })) all_fit)

-- "sheets whose sizes don't count their orders": the sizes of the two phases exchanged
unfoldable pub miscounts : Design
miscounts = writing (λ xs ys. length ys ∷ length xs ∷ drop 2 (sheet_of xs ys))

-- the codes and the commands of a sheet that closes before it opens
unfoldable pub closings_first : List Part → List Part → List ℕ
closings_first xs ys = map part_code (ys ++ xs) ++ (map (λ p. 1) ys ++ map (λ p. 0) xs)

-- "One wave, closing first."
unfoldable pub one_wave : Design
one_wave = writing (λ xs ys. (length ys + length xs) ∷ 0 ∷ closings_first xs ys)

-- two waves, the closing one first
unfoldable pub waves_exchanged : Design
waves_exchanged = writing (λ xs ys. length ys ∷ length xs ∷ closings_first xs ys)

-- "A stuck-closed breaker counted as open because it was ordered open."
unfoldable pub stuck_closed_open : Design
stuck_closed_open =
    planning_for (λ n H. record { health = λ p. cond (stuck_closed (H.health p)) 0 (H.health p); locked = H.locked })

-- "A way that takes in the breaker behind its end bus": a rising path from another generator takes the breaker after its bus
unfoldable pub breaker_behind : Design
breaker_behind =
    walking (λ n w. path_parts n w ++ cond (w.rising && not (eqb w.source w.bus)) (bus_breaker w.bus ∷ []) [])

-- "High ways of all generators before low ones"
unfoldable pub high_first : Design
high_first = trying (λ n b. map (λ g. high_path n b g) (sources n b) ++ map (λ g. low_path n b g) (sources n b))

-- ---- the closing phase in another order than Note 4's

-- in rising code, as document 01 had it
unfoldable pub closes_by_code : Design
closes_by_code = ordering (λ n old each. keep (λ p. not (old p) && any_of (same_part p) (flat_map each (below n))) (parts n))

-- bus breakers from the bus back to the generator
unfoldable pub closes_inward : Design
closes_inward = walking (λ n w. generator w.source ∷ generator_breaker w.source ∷ map bus_breaker (reverse (path_bus_breakers n w)))

-- a part that two paths share, twice
unfoldable pub lists_twice : Design
lists_twice = ordering (λ n old each. keep (λ p. not (old p)) (flat_map each (below n)))

-- a part that stands commanded, again
unfoldable pub lists_standing : Design
lists_standing = ordering (λ n old each. first_occurrences (flat_map each (below n)))

-- buses in falling order
unfoldable pub buses_backwards : Design
buses_backwards = ordering (λ n old each. keep (λ p. not (old p)) (first_occurrences (flat_map each (reverse (below n)))))

-- ---- locks (document 02, Note 7)

-- "A generator under maintenance must never start": one that chooses without looking at the locks
unfoldable pub locks_unread : Design
locks_unread = planning_for (λ n H. record { health = H.health; locked = λ g. false })
