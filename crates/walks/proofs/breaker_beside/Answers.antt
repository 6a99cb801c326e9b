-- `walks::breaker_beside` meets its contract.
use Rattle.walks.proofs.breaker_beside.Goals as goal

pub returns-else-rising : goal.returns-else-rising
returns-else-rising c = rw c.if-rising.false c.previous.ensures
