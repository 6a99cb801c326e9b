-- `append_hex`: a number's sixteens, then its last digit. The measure is the number of digits.
use mathlib.Core.Path.{◌≡◌}
use Prim.Native.Nat.{ℕ, ◌+◌}
use native.Mathlib.Omega.{arith}
use Rattle.model.specs.Laws.Appended.{appended_one}
use Rattle.exposurelines.specs.Digits.{hex_none, hex_more, hex_end}
use Rattle.exposurelines.proofs.+append_hex.Goals as goal

-- where the digits before the last end
end : (t : ℕ) (c : goal.After-hex_digit t) → c.append_hex-last.result + 1 ≡ c.args.at + c.args.digits
end t c = omega (arith, hex_end _ _ c.append_hex-last.ensures)

pub returns-then-digits-eq0 : goal.returns-then-digits-eq0
returns-then-digits-eq0 t c = hex_none _ _ _ _ (omega arith)

pub bounds-out-last : goal.bounds-out-last
bounds-out-last t c = omega (arith, end t c, c.requires, c.append_hex-last.auto)

pub overflow_add-result : goal.overflow_add-result
overflow_add-result t c = omega (arith, end t c, c.requires)

pub returns : goal.returns
returns t c =
    appended_one _ (hex_more _ _ _ _ _ _ (omega arith) (omega arith) (omega arith) c.hex_digit.ensures) (omega arith)
    c.append_hex-last.ensures
