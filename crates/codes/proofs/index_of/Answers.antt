-- `codes::index_of` meets its contract.
use native.Mathlib.Omega.{arith}
use Rattle.codes.specs.Codes.{index_less}
use Rattle.codes.proofs.index_of.Goals as goal

pub returns-then-number-gt0 : goal.returns-then-number-gt0
returns-then-number-gt0 c = omega (arith, index_less c.args.number)

pub returns-else-number-gt0 : goal.returns-else-number-gt0
returns-else-number-gt0 c = omega (arith, index_less c.args.number)
