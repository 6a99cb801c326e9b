-- `planner::progress::named` meets its contract.
use borrow.Author.Tests.{eq-eqb, ne_eqb}
use Rattle.model.specs.Choosing.{choice_of}
use Rattle.planner.proofs.progress.named.Goals as goal

pub returns-then-g-b : goal.returns-then-g-b
unfolding choice_of
returns-then-g-b c = rw (eq-eqb _ _ c.if-g-b.true, c.number_of-number.ensures)

pub returns-then-rising-high_rises : goal.returns-then-rising-high_rises
unfolding choice_of
returns-then-rising-high_rises c =
    rw (ne_eqb _ _ c.if-g-b.false, c.number_of-number.ensures, ← c.high_rises.ensures, c.if-rising-high_rises.true)

pub returns : goal.returns
unfolding choice_of
returns c =
    rw (ne_eqb _ _ c.if-g-b.false, c.number_of-number.ensures, ← c.high_rises.ensures, c.if-rising-high_rises.false)
