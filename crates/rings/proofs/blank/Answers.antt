-- `rings::blank` meets its contract: both sides compute to arrays of 20 places.
use mathlib.Core.Path.{refl}
use Rattle.model.specs.Lists.{below}
use Rattle.model.specs.Reports.{places, health_places, command_places, blank_ring}
use Rattle.rings.proofs.blank.Goals as goal

pub returns : goal.returns
unfolding below places health_places command_places blank_ring
returns c = refl
