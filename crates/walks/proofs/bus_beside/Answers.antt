-- `walks::bus_beside` meets its contract.
use Rattle.walks.proofs.bus_beside.Goals as goal

pub returns-then-rising : goal.returns-then-rising
returns-then-rising c = rw c.if-rising.true c.next.ensures

pub returns-else-rising : goal.returns-else-rising
returns-else-rising c = rw c.if-rising.false c.previous.ensures
