-- `sign`: 0 is off or open.
use borrow.Author.Tests.{eq-eqb, ne_eqb}
use Rattle.operations.proofs.sign.Goals as goal

pub returns-then-command-eq0 : goal.returns-then-command-eq0
returns-then-command-eq0 c = simp (eq-eqb _ _ c.if-command-eq0.true)

pub returns-else-command-eq0 : goal.returns-else-command-eq0
returns-else-command-eq0 c = simp (ne_eqb _ _ c.if-command-eq0.false)
