-- `exposure::greater` meets its contract.
use Rattle.exposure.proofs.Sets.{gives_way, stays}
use Rattle.exposure.proofs.greater.Goals as goal

pub returns-then-largest-product : goal.returns-then-largest-product
returns-then-largest-product c = gives_way _ _ c.if-largest-product.true

pub returns-else-largest-product : goal.returns-else-largest-product
returns-else-largest-product c = stays _ _ c.if-largest-product.false
