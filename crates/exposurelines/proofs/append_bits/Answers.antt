-- `append_bits`: sixteen digits, then a space.
use mathlib.Core.Path.{◌≡◌, refl}
use Prim.Native.Nat.{◌+◌}
use native.Mathlib.Omega.{arith}
use lib.ListN.{length-set}
use Rattle.model.specs.Text.{ascii}
use Rattle.model.specs.Laws.Appended.{appended_one}
use Rattle.exposurelines.specs.Digits.{hex_end}
use Rattle.exposurelines.specs.Lines.{bits_is}
use Rattle.exposurelines.proofs.append_bits.Goals as goal
use Rattle.exposurelines.proofs.append_bits.Goals.{After-append_hex-end}

-- where the digits end
end : (c : After-append_hex-end) → c.append_hex-end.result ≡ c.args.at + 16
end c = omega (arith, hex_end _ _ c.append_hex-end.ensures)

pub bounds-out-end : goal.bounds-out-end
bounds-out-end c = omega (arith, end (goal.at.bounds-out-end c).After-append_hex-end, c.append_hex-end.auto, c.requires)

pub overflow_add-result : goal.overflow_add-result
overflow_add-result c = omega (arith, end (goal.at.overflow_add-result c).After-append_hex-end, c.requires, c.well_formed)

pub shape_of-out : goal.shape_of-out
shape_of-out c = simp length-set c.append_hex-end.auto.out

pub returns : goal.returns
unfolding ascii
returns c = appended_one _ (bits_is _ _ refl) (omega arith) c.append_hex-end.ensures
