-- `paths::span_of` meets its contract.
use Rattle.paths.proofs.span_of.Goals as goal

pub returns-then-rising : goal.returns-then-rising
returns-then-rising c = rw (c.if-rising.true, c.up.ensures)

pub returns : goal.returns
returns c = rw (c.if-rising.false, c.up-2.ensures)
