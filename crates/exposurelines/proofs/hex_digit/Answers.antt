-- `hex_digit`: one of the first ten, or one of the other six.
use native.Mathlib.Omega.{arith}
use borrow.Author.Rules.{rules}
use Rattle.exposurelines.specs.Digits.{digit_low, digit_high}
use Rattle.exposurelines.proofs.hex_digit.Goals as goal

pub returns-then-digit-lt10 : goal.returns-then-digit-lt10
returns-then-digit-lt10 c = digit_low _ _ (search rules) (omega arith)

pub returns-else-digit-lt10 : goal.returns-else-digit-lt10
returns-else-digit-lt10 c = digit_high _ _ (search rules) (omega arith)
