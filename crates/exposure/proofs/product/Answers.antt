-- `exposure::product` meets its contract.
use native.Mathlib.Omega.{arith}
use lib.Ieee.{of_bits}
use Rattle.exposure.proofs.Sets.{product_of_lem}
use Rattle.exposure.proofs.product.Goals as goal

pub returns : goal.returns
unfolding of_bits
returns c =
    product_of_lem _ _ _ _ _ (omega arith) (omega arith) c.times-first.ensures c.times-second.ensures
    c.times.ensures
