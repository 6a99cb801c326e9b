-- `rates::rate_of` meets its contract.
use native.Mathlib.Omega.{arith}
use Rattle.model.specs.Exposure.{rate_of}
use Rattle.rates.specs.Places.{held_number}
use Rattle.rates.proofs.rate_of.Goals as goal

pub overflow_sub-held : goal.overflow_sub-held
overflow_sub-held c = omega (arith, rw c.in-Generator.is at c.requires)

pub bounds-rates-number : goal.bounds-rates-number
bounds-rates-number c = omega (arith, rw c.in-Generator.is at c.requires)

pub overflow_sub-held-in-GeneratorBreaker : goal.overflow_sub-held-in-GeneratorBreaker
overflow_sub-held-in-GeneratorBreaker c = omega (arith, rw c.in-GeneratorBreaker.is at c.requires)

pub bounds-rates-number-in-GeneratorBreaker : goal.bounds-rates-number-in-GeneratorBreaker
bounds-rates-number-in-GeneratorBreaker c = omega (arith, rw c.in-GeneratorBreaker.is at c.requires)

pub overflow_sub-held-in-BusBreaker : goal.overflow_sub-held-in-BusBreaker
overflow_sub-held-in-BusBreaker c = omega (arith, rw c.in-BusBreaker.is at c.requires)

pub bounds-rates-number-in-BusBreaker : goal.bounds-rates-number-in-BusBreaker
bounds-rates-number-in-BusBreaker c = omega (arith, rw c.in-BusBreaker.is at c.requires)

pub returns-in-Generator : goal.returns-in-Generator
unfolding rate_of
returns-in-Generator c =
    let p = rw c.in-Generator.is at c.requires in
    rw c.in-Generator.is
    (held_number c.args.rates.generators _ _ p.0 (omega (arith, c.well_formed.0.1.1.0.1.0.1)))

pub returns-in-GeneratorBreaker : goal.returns-in-GeneratorBreaker
unfolding rate_of
returns-in-GeneratorBreaker c =
    let p = rw c.in-GeneratorBreaker.is at c.requires in
    rw c.in-GeneratorBreaker.is
    (held_number c.args.rates.generator_breakers _ _ p.0 (omega (arith, c.well_formed.0.1.1.1.0.1.0.1)))

pub returns-in-BusBreaker : goal.returns-in-BusBreaker
unfolding rate_of
returns-in-BusBreaker c =
    let p = rw c.in-BusBreaker.is at c.requires in
    rw c.in-BusBreaker.is
    (held_number c.args.rates.bus_breakers _ _ p.0 (omega (arith, c.well_formed.0.1.1.1.1.0.1.0.1)))
