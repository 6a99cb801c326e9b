-- The bytes of a stored case (tests/make_vectors.py) that stand for the parts of a ring: twenty of each kind, one after the other.
use Rattle.std.specs.Prelude.{Bool, List, ℕ, ◌+◌, eqb, get_or}
use Rattle.model.specs.declared.Health.{Health}
use Rattle.model.specs.declared.Commands.{Commands}
use Rattle.model.specs.declared.Ring.{Ring}
use Rattle.model.specs.Reports.{places}

-- twenty bytes from an index on
abbrev pub bytes_at : List ℕ → ℕ → List ℕ
bytes_at case from = places (λ i. get_or case (from + i) 0)

-- twenty commands or locks: 1 is on or closed, or locked
abbrev pub bools_at : List ℕ → ℕ → List Bool
bools_at case from = places (λ i. eqb (get_or case (from + i) 0) 1)

-- the health of every part, and the locks
abbrev pub health_at : List ℕ → ℕ → Health
health_at case from = record {
  generators = bytes_at case from;
  generator_breakers = bytes_at case (from + 20);
  bus_breakers = bytes_at case (from + 40);
  locked = bools_at case (from + 60);
}

-- the command of every part
abbrev pub commands_at : List ℕ → ℕ → Commands
commands_at case from = record {
  generators = bools_at case from;
  generator_breakers = bools_at case (from + 20);
  bus_breakers = bools_at case (from + 40);
}

-- a ring of n buses with its healths, its locks and its commands
abbrev pub ring_at : List ℕ → ℕ → ℕ → Ring
ring_at case n from = record { n = n; health = health_at case from; commands = commands_at case (from + 80) }
