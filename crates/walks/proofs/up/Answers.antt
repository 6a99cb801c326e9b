-- `walks::up` meets its contract.
use Rattle.model.specs.Laws.Tests.{auto}
use Rattle.model.specs.Plant.{up}
use Rattle.walks.proofs.up.Goals as goal

pub returns-then-a-b : goal.returns-then-a-b
unfolding up
returns-then-a-b c = search auto

pub returns-else-a-b : goal.returns-else-a-b
unfolding up
returns-else-a-b c = search auto
