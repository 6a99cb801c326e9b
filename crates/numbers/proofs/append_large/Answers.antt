-- `append_large`: a number's tens, then its last digit.
use Prim.Native.Nat.{◌+◌, ◌≤◌}
use native.Mathlib.Omega.{arith}
use Rattle.model.specs.Laws.Appended.{appended_one}
use Rattle.numbers.specs.Numbers.{decimal_last, decimal_end}
use Rattle.numbers.proofs.append_large.Goals as goal
use Rattle.numbers.proofs.append_large.Goals.{After-append_number-end}

-- where the tens end
end : (c : After-append_number-end) → c.append_number-end.result ≤ c.args.at + 4
end c = decimal_end 3 _ c.append_number-end.ensures (omega (arith, c.requires))

pub bounds-out-end : goal.bounds-out-end
bounds-out-end c = omega (arith, end (goal.at.bounds-out-end c).After-append_number-end, c.requires)

pub overflow_add-result : goal.overflow_add-result
overflow_add-result c = omega (arith, end (goal.at.overflow_add-result c).After-append_number-end, c.requires)

pub returns : goal.returns
returns c =
    appended_one _ (decimal_last c.args.k _ _ (omega arith) (omega arith) (omega arith)) (omega arith) c.append_number-end.ensures
