-- `append_digit`: a digit is its number's decimal.
use native.Mathlib.Omega.{arith}
use lib.ListN.{length-set}
use borrow.Author.Rules.{rules}
use Rattle.numbers.specs.Numbers.{decimal_digit}
use Rattle.model.specs.Laws.Appended.{appended_two}
use Rattle.numbers.proofs.append_digit.Goals as goal

pub bounds-out-at-2 : goal.bounds-out-at-2
bounds-out-at-2 c = simp length-set (omega arith)

pub returns : goal.returns
returns c = rw (decimal_digit c.args.digit (search rules)) (appended_two _ _ _ _)
