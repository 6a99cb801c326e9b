-- `plant::with_feeder` meets its contract: in each arm the answer is known.
use Rattle.plant.specs.Feeders.{with_feeder}
use Rattle.plant.proofs.with_feeder.Goals as goal

pub returns-in-Dark : goal.returns-in-Dark
unfolding with_feeder
returns-in-Dark c = rw c.in-Dark.is

pub returns-in-Fed : goal.returns-in-Fed
unfolding with_feeder
returns-in-Fed c = rw c.in-Fed.is

pub returns-in-Clash : goal.returns-in-Clash
unfolding with_feeder
returns-in-Clash c = rw c.in-Clash.is
