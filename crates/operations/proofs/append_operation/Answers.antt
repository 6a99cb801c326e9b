-- `append_operation`: a space, then the part and the sign.
use native.Mathlib.Omega.{arith}
use lib.ListN.{length-set}
use Rattle.model.specs.Text.{ascii}
use Rattle.model.specs.Laws.Appended.{appended_byte, appended_more}
use Rattle.operations.proofs.append_operation.Goals as goal

pub append_part-requires : goal.append_part-requires
append_part-requires c = simp length-set (omega arith)

pub shape_of-out : goal.shape_of-out
shape_of-out c = simp length-set at c.append_part.auto.out

pub returns : goal.returns
unfolding ascii
returns c =
    rw (← c.sign.ensures) (appended_more (appended_byte _ _ _) c.append_part.ensures)
