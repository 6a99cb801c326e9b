-- `loads::bookings_at` meets its contract: each call gives the booking of its index.
use Rattle.std.proofs.Common.{rules}
use Rattle.cases.specs.Items.{items_made}
use Rattle.loads.specs.Loads.{bookings_at}
use Rattle.loads.proofs.bookings_at.Goals as goal

pub returns : goal.returns
unfolding bookings_at
returns c = items_made _ _ _ _ (λ i x q l k. search rules) _ c.from_fn.ensures.items
