-- `faults::code_at` meets its contract: by the kind of the part.
use Rattle.std.proofs.Common.{arith}
use Rattle.model.specs.Values.{part_code}
use Rattle.faults.specs.Places.{index_less}
use Rattle.faults.proofs.code_at.Goals as goal

pub returns-in-Generator : goal.returns-in-Generator
unfolding part_code
returns-in-Generator c = rw (← c.in-Generator.ensures.part) (omega (arith, index_less c.in-Generator.number))

pub returns-in-GeneratorBreaker : goal.returns-in-GeneratorBreaker
unfolding part_code
returns-in-GeneratorBreaker c = rw (← c.in-GeneratorBreaker.ensures.part) (omega (arith, index_less c.in-GeneratorBreaker.number, c.in-GeneratorBreaker.ensures.inside.0))

pub returns-in-BusBreaker : goal.returns-in-BusBreaker
unfolding part_code
returns-in-BusBreaker c = rw (← c.in-BusBreaker.ensures.part) (omega (arith, index_less c.in-BusBreaker.number, c.in-BusBreaker.ensures.inside.0))
