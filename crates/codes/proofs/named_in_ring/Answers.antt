-- `codes::named_in_ring` meets its contract.
use Rattle.model.specs.Answers.{part_answer}
use Rattle.codes.specs.Codes.{of_ring}
use Rattle.codes.proofs.named_in_ring.Goals as goal

pub returns-then-not_of_ring : goal.returns-then-not_of_ring
unfolding part_answer of_ring
returns-then-not_of_ring c = rw (← c.not_of_ring.ensures, c.if-not_of_ring.true)

pub returns-else-not_of_ring : goal.returns-else-not_of_ring
unfolding part_answer of_ring
returns-else-not_of_ring c = rw (← c.not_of_ring.ensures, c.if-not_of_ring.false)
