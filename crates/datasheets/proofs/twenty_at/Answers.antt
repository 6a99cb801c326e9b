-- `datasheets::twenty_at` meets its contract: each call gives the rate of its index.
use Rattle.std.proofs.Common.{rules}
use Rattle.cases.specs.Items.{places_made}
use Rattle.datasheets.proofs.twenty_at.Goals as goal

pub returns : goal.returns
returns c = places_made _ _ _ (λ i x q l k. search rules) _ c.from_fn.ensures.items
