-- `paths::candidate` meets its contract.
use Rattle.paths.proofs.candidate.Goals as goal

pub returns-then-free : goal.returns-then-free
returns-then-free c =
    rw (← c.source-g.ensures, c.if-usable-g.true, ← c.number_of-number.ensures, ← c.free.ensures, c.if-free.true)
    c.free-then-free.ensures

pub returns-else-free : goal.returns-else-free
returns-else-free c =
    rw (← c.source-g.ensures, c.if-usable-g.true, ← c.number_of-number.ensures, ← c.free.ensures, c.if-free.false)

pub returns-else-usable-g : goal.returns-else-usable-g
returns-else-usable-g c = rw (← c.source-g.ensures, c.if-usable-g.false)
