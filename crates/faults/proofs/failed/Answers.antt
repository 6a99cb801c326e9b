-- `faults::failed` meets its contract: by the kind of the part.
use Rattle.std.proofs.Common.{◌≡◌, ◌-◌, length, arith, rules}
use Rattle.model.specs.declared.Part.TheVariants.{Generator, GeneratorBreaker, BusBreaker}
use Rattle.faults.specs.Places.{fault_stored}
use Rattle.faults.proofs.failed.Goals as goal

pub returns-in-Generator : goal.returns-in-Generator
returns-in-Generator c =
    let k = c.in-Generator.number in
    let full : length c.args.health.generators ≡ 20 = search rules in
    let at = c.in-Generator.ensures.inside in
    rw (← c.in-Generator.ensures.part) (fault_stored c.args.health (Generator k) (k - 1) (omega (arith, at.0)) (omega (arith, at.0, at.1)))

pub returns-in-GeneratorBreaker : goal.returns-in-GeneratorBreaker
returns-in-GeneratorBreaker c =
    let k = c.in-GeneratorBreaker.number in
    let full : length c.args.health.generator_breakers ≡ 20 = search rules in
    let at = c.in-GeneratorBreaker.ensures.inside in
    rw (← c.in-GeneratorBreaker.ensures.part)
    (fault_stored c.args.health (GeneratorBreaker k) (k - 1) (omega (arith, at.0)) (omega (arith, at.0, at.1)))

pub returns-in-BusBreaker : goal.returns-in-BusBreaker
returns-in-BusBreaker c =
    let k = c.in-BusBreaker.number in
    let full : length c.args.health.bus_breakers ≡ 20 = search rules in
    let at = c.in-BusBreaker.ensures.inside in
    rw (← c.in-BusBreaker.ensures.part) (fault_stored c.args.health (BusBreaker k) (k - 1) (omega (arith, at.0)) (omega (arith, at.0, at.1)))
