-- `answers::part_of` meets its contract.
use native.Mathlib.Omega.{arith}
use Rattle.answers.specs.Answers.{part_generator, part_generator_breaker, part_bus_breaker}
use Rattle.answers.proofs.part_of.Goals as goal

pub returns-in-0 : goal.returns-in-0
returns-in-0 c p h = part_generator _ _ p h c.in-0.is

pub returns-in-1 : goal.returns-in-1
returns-in-1 c p h = part_generator_breaker _ _ p h c.in-1.is

pub returns-in_default : goal.returns-in_default
returns-in_default c p h = part_bus_breaker _ _ p h (omega arith)
