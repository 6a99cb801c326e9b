-- `append_kind`: the code's range gives the kind.
use native.Mathlib.Omega.{arith}
use lib.ListN.{length-set}
use borrow.Author.Tests.{lt-ltb, le-ltb}
use Rattle.model.specs.Text.{ascii}
use Rattle.model.specs.Laws.Appended.{appended_byte, appended_two}
use Rattle.operations.specs.Operations.{kind_of}
use Rattle.operations.proofs.append_kind.Goals as goal

pub returns-then-code-lt32 : goal.returns-then-code-lt32
unfolding kind_of ascii
returns-then-code-lt32 c = rw (lt-ltb _ _ c.if-code-lt32.true) (appended_byte _ _ _)

pub bounds-out-at-then-code-lt64-2 : goal.bounds-out-at-then-code-lt64-2
bounds-out-at-then-code-lt64-2 c = simp length-set (omega arith)

pub returns-then-code-lt64 : goal.returns-then-code-lt64
unfolding kind_of ascii
returns-then-code-lt64 c = rw (le-ltb _ _ c.if-code-lt32.false, lt-ltb _ _ c.if-code-lt64.true) (appended_two _ _ _ _)

pub bounds-out-at-3 : goal.bounds-out-at-3
bounds-out-at-3 c = simp length-set (omega arith)

pub returns : goal.returns
unfolding kind_of ascii
returns c = rw (le-ltb _ _ c.if-code-lt32.false, le-ltb _ _ c.if-code-lt64.false) (appended_two _ _ _ _)
