-- `codes::code_of` meets its contract.
use native.Mathlib.Omega.{arith}
use Rattle.model.specs.Values.{part_code}
use Rattle.codes.specs.Codes.{index_less, first_code_most}
use Rattle.codes.proofs.code_of.Goals as goal

pub overflow_add-result : goal.overflow_add-result
overflow_add-result c = omega (arith, index_less c.part_number.result, first_code_most c.args.part)

pub returns : goal.returns
unfolding part_code
returns c = rw (c.first_code.ensures, c.index_of.ensures, c.part_number.ensures)
