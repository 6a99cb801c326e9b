-- `plant::refused` meets its contract: every bus is dark.
use Rattle.plant.proofs.refused.Goals as goal

pub returns : goal.returns
returns c = rw c.dark_buses.ensures
