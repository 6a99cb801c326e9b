-- `append_number`: a number's tens, then its last digit.
use mathlib.Core.Path.{◌≡◌, refl}
use Prim.Native.Nat.{◌+◌, ◌/◌, ◌%◌, ◌≤◌}
use native.Mathlib.Omega.{arith}
use borrow.Author.Rules.{rules}
use Rattle.numbers.specs.Numbers.{decimal_digit, decimal_more, marked_length}
use Rattle.model.specs.Laws.Appended.{appended_byte, appended_one}
use Rattle.numbers.proofs.append_number.Goals as goal
use Rattle.numbers.proofs.append_number.Goals.{After-append_marked-end}

-- where all digits but the last end
end : (c : After-append_marked-end) → c.append_marked-end.result ≤ c.args.at + 3
end c =
    omega (arith, c.append_marked-end.ensures.end, marked_length (c.args.k / 10 / 10) (48 + c.args.k / 10 % 10) (omega arith))

pub returns-then-k-lt10 : goal.returns-then-k-lt10
returns-then-k-lt10 c =
    let e : c.args.k % 10 ≡ c.args.k = omega arith in
    rw (e, decimal_digit c.args.k (search rules)) (appended_byte _ _ _)

pub returns-then-tens-lt100 : goal.returns-then-tens-lt100
returns-then-tens-lt100 c =
    rw (decimal_more c.args.k (search rules)) c.append_marked.ensures

pub bounds-out-end : goal.bounds-out-end
bounds-out-end c = omega (arith, end (goal.at.bounds-out-end c).After-append_marked-end)

pub overflow_add-result-2 : goal.overflow_add-result-2
overflow_add-result-2 c = omega (arith, end (goal.at.overflow_add-result-2 c).After-append_marked-end)

pub returns : goal.returns
returns c =
    rw (decimal_more c.args.k (search rules), decimal_more (c.args.k / 10) (search rules)) (appended_one _ refl refl c.append_marked-end.ensures)
