-- `plant::dark_buses` meets its contract: both sides compute to 20 dark places.
use mathlib.Core.Path.{refl}
use Rattle.model.specs.Lists.{below}
use Rattle.model.specs.Reports.{places}
use Rattle.plant.proofs.dark_buses.Goals as goal

pub returns : goal.returns
unfolding places below
returns c = refl
