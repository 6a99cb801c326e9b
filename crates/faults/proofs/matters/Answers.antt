-- `faults::matters` meets its contract: by the kind of the part.
use Rattle.std.proofs.Common.{◌-◌, sym, ◌∙◌, ap, inl, inr, arith}
use Rattle.model.specs.declared.Part.TheVariants.{Generator, GeneratorBreaker, BusBreaker}
use Rattle.model.specs.Plant.{bus_breaker}
use Rattle.model.specs.Reports.{health_of}
use Rattle.model.specs.Laws.Tests.{facts}
use Rattle.sources.specs.Sources.{may_feed}
use Rattle.faults.specs.Places.{numbered_from, breaker_test}
use Rattle.faults.specs.Idle.{generator_matters, generator_breaker_matters, bus_breaker_matters}
use Rattle.faults.proofs.matters.Goals as goal

pub returns-in-BusBreaker : goal.returns-in-BusBreaker
unfolding health_of
returns-in-BusBreaker c =
    let k = c.in-BusBreaker.number in
    rw (sym c.in-BusBreaker.ensures.part ∙ ap BusBreaker (numbered_from k c.in-BusBreaker.ensures.inside.0))
    (bus_breaker_matters c.args.n (health_of c.args.health) (k - 1)
    (breaker_test ((health_of c.args.health).health (bus_breaker (k - 1))) (λ e t. omega (arith, facts, t)) (λ e t. omega (arith, facts, t))))

pub returns-in-Generator : goal.returns-in-Generator
unfolding health_of may_feed
returns-in-Generator c =
    let k = c.in-Generator.number in
    let part = sym c.part_at.ensures.part in
    elim c.in-Generator.is [
      | inl p ↦ rw (part ∙ p ∙ ap Generator (numbered_from k (rw p at c.part_at.ensures.inside.0)))
          (generator_matters c.args.n (health_of c.args.health) (k - 1) c.may_feed.ensures)
      | inr p ↦ rw (part ∙ p ∙ ap GeneratorBreaker (numbered_from k (rw p at c.part_at.ensures.inside.0)))
          (generator_breaker_matters c.args.n (health_of c.args.health) (k - 1) c.may_feed.ensures)
    ]
