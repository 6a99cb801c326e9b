-- `walks::previous` meets its contract.
use Rattle.model.specs.Laws.Tests.{auto}
use Rattle.walks.specs.Walk.{previous}
use Rattle.walks.proofs.previous.Goals as goal

pub returns-then-k-eq0 : goal.returns-then-k-eq0
unfolding previous
returns-then-k-eq0 c = search auto

pub returns-else-k-eq0 : goal.returns-else-k-eq0
unfolding previous
returns-else-k-eq0 c = search auto
