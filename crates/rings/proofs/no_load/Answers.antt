-- `rings::no_load` meets its contract: both sides compute to arrays of 64 and 20 places.
use mathlib.Core.Path.{refl}
use Rattle.model.specs.Lists.{below}
use Rattle.model.specs.Reports.{places}
use Rattle.model.specs.Bookings.{no_load}
use Rattle.rings.proofs.no_load.Goals as goal

pub returns : goal.returns
unfolding below places no_load
returns c = refl
