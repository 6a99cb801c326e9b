-- `begin`: no line is passed, and every run has a first line.
use Rattle.cursor.specs.Run.{at_beginning}
use Rattle.run.proofs.begin.Goals as goal

pub returns : goal.returns
returns c = let whole = at_beginning c.blank-ring.ensures in record { cursor = whole.0; run = whole.1 }
