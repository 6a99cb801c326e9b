-- `append_bus`: the line of what is answered for a ring without bookings.
use native.Mathlib.Omega.{arith}
use Rattle.chances.specs.Chances.{bus_line}
use Rattle.chances.proofs.append_bus.Goals as goal

pub append_line-requires-clause-figures : goal.append_line-requires-clause-figures
append_line-requires-clause-figures c = c.of_bus-answer.ensures.figures

pub returns-clause-text : goal.returns-clause-text
returns-clause-text c = bus_line _ _ _ _ _ _ c.no_load-load.ensures (omega arith) (omega arith) c.of_bus-answer.ensures.answer c.append_line.ensures.text

pub returns-clause-within : goal.returns-clause-within
returns-clause-within c = c.append_line.ensures.within
