-- `append_marked`: a number of two digits is the digit of its tens, then its last.
use Prim.Native.Nat.{◌-◌, ◌/◌, ◌%◌}
use native.Mathlib.Omega.{arith}
use lib.ListN.{length-set}
use Rattle.numbers.specs.Numbers.{marked_more}
use Rattle.model.specs.Laws.Appended.{appended_byte, appended_more}
use Rattle.numbers.proofs.append_marked.Goals as goal

pub append_digit-requires-then-k-lt20 : goal.append_digit-requires-then-k-lt20
append_digit-requires-then-k-lt20 c = simp length-set (omega arith)

pub shape_of-out-then-k-lt20 : goal.shape_of-out-then-k-lt20
shape_of-out-then-k-lt20 c = simp length-set at c.append_digit-then-k-lt20.auto.out

pub returns-then-k-lt20 : goal.returns-then-k-lt20
returns-then-k-lt20 c =
    rw (marked_more c.args.k 1 (c.args.k - 10) c.args.mark (omega arith) (omega arith) (omega arith) (omega arith))
    (appended_more (appended_byte _ _ _) c.append_digit-then-k-lt20.ensures)

pub append_digit-requires-2 : goal.append_digit-requires-2
append_digit-requires-2 c = simp length-set (omega arith)

pub shape_of-out : goal.shape_of-out
shape_of-out c = simp length-set at c.append_digit-2.auto.out

pub returns : goal.returns
returns c =
    rw (marked_more c.args.k (c.args.k / 10) (c.args.k % 10) c.args.mark (omega arith) (omega arith) (omega arith) (omega arith))
    (appended_more (appended_byte _ _ _) c.append_digit-2.ensures)
