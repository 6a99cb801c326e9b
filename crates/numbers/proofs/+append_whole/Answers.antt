-- `append_whole`: a number's tens, then its last digit. The measure is the number.
use Prim.Native.Nat.{ℕ, ◌+◌, ◌≤◌}
use native.Mathlib.Omega.{arith}
use Rattle.model.specs.Laws.Appended.{appended_one}
use Rattle.numbers.specs.Numbers.{decimal_last, decimal_end}
use Rattle.numbers.proofs.+append_whole.Goals as goal

-- where the tens end
end : (t : ℕ) (c : goal.After-slice_known-2-1 t) → c.append_whole-last.result ≤ c.args.at + 9
end t c = decimal_end 8 _ c.append_whole-last.ensures.text (omega (arith, c.ranges.k.fits))

pub returns-then-k-lt100000-clause-within : goal.returns-then-k-lt100000-clause-within
returns-then-k-lt100000-clause-within t c = omega (arith, decimal_end 4 _ c.append_large.ensures c.if-k-lt100000.true)

pub bounds-out-last : goal.bounds-out-last
bounds-out-last t c = omega (arith, end t c)

pub returns-clause-text : goal.returns-clause-text
returns-clause-text t c =
    let k = c.args.k in
    appended_one _ (decimal_last k _ _ (omega arith) (omega arith) (omega arith)) (omega arith) c.append_whole-last.ensures.text

pub returns-clause-within : goal.returns-clause-within
returns-clause-within t c = omega (arith, end t c)
