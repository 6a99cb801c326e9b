-- `healths::health_outside` meets its contract, kind by kind.
use Rattle.std.proofs.Common.{◌≡◌, ◌∙◌, rules, sym, inl, inr, ◌||◌, take}
use Rattle.model.specs.Lists.{any_of}
use Rattle.model.specs.Plant.{parts}
use Rattle.model.specs.Reports.{health_of}
use Rattle.model.specs.Refusals.{health_outside}
use Rattle.components.specs.Searches.{FirstTwo, some_of_two, none_of_two}
use Rattle.healths.specs.Kinds.{no_generator, no_breaker, outside_kinds}
use Rattle.healths.proofs.health_outside.Goals as goal
use Rattle.healths.proofs.health_outside.Goals.{Joined-any_generator_outside, then-any_generator_outside, else-any_generator_outside}

kinds : (c : Joined-any_generator_outside) → health_outside (health_of c.args.health) (parts c.args.n)
    ≡ any_of no_generator (take c.min-held.result c.args.health.generators)
    || (any_of no_breaker (take c.min-held.result c.args.health.generator_breakers)
    || any_of no_breaker (take c.min-held.result c.args.health.bus_breakers))
kinds c =
    rw c.min-held.ensures
    (outside_kinds c.args.health
    (record { generators = search rules; generator_breakers_lem = search rules; bus_breakers_lem = search rules; locked = search rules })
    c.args.n)

-- the kinds tested before the last
before : (c : Joined-any_generator_outside)
    → FirstTwo (any_of no_generator (take c.min-held.result c.args.health.generators))
    (any_of no_breaker (take c.min-held.result c.args.health.generator_breakers))
    c.if-any_generator_outside.value
before c =
    elim c.if-any_generator_outside.branch [
      | then-any_generator_outside w ↦
          inl (sym c.any_generator_outside.ensures ∙ w.if-any_generator_outside.true, w.value-is ∙ w.if-any_generator_outside.true)
      | else-any_generator_outside w ↦
          inr (sym c.any_generator_outside.ensures ∙ w.if-any_generator_outside.false, w.value-is ∙ w.any_breaker_outside.ensures)
    ]

pub returns-then-any_breaker_outside : goal.returns-then-any_breaker_outside
returns-then-any_breaker_outside c =
    let j = (goal.at.returns-then-any_breaker_outside c).Joined-any_generator_outside in
    some_of_two _ _ _ (kinds j) (before j) c.if-any_breaker_outside.true

pub returns-else-any_breaker_outside : goal.returns-else-any_breaker_outside
returns-else-any_breaker_outside c =
    let j = (goal.at.returns-else-any_breaker_outside c).Joined-any_generator_outside in
    none_of_two _ _ _ (kinds j) (before j) c.if-any_breaker_outside.false c.any_breaker_outside-else-any_breaker_outside.ensures
