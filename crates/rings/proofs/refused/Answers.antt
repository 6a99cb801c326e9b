-- `rings::refused` meets its contract: both sides compute to the refusal that has the number, and to 20 dark places.
use Rattle.model.specs.Lists.{below}
use Rattle.model.specs.Reports.{places}
use Rattle.model.specs.Answers.{all_dark, refused_answer}
use Rattle.rings.proofs.refused.Goals as goal

pub returns : goal.returns
unfolding below places all_dark refused_answer
returns c = rw (c.refusal_of.ensures)
