-- `exposure::with_product` meets its contract.
use mathlib.Core.Path.{refl}
use native.Mathlib.Omega.{arith}
use Rattle.exposure.proofs.Sets.{one_more}
use Rattle.exposure.proofs.with_product.Goals as goal

pub returns : goal.returns
returns c = one_more _ _ refl c.greater.ensures (omega arith)
