-- `standing::active_above` meets its contract, kind by kind.
use Rattle.std.proofs.Common.{◌≡◌, ◌∙◌, rules, sym, inl, inr, ◌||◌}
use Rattle.model.specs.Refusals.{active_above}
use Rattle.model.specs.Reports.{health_of, commands_of}
use Rattle.components.specs.Searches.{FirstTwo, some_of_two, none_of_two, rest}
use Rattle.standing.specs.Standing.{any_active, active_kinds}
use Rattle.standing.proofs.active_above.Goals as goal
use Rattle.standing.proofs.active_above.Goals.{Joined-any_active, then-any_active, else-any_active}

kinds : (c : Joined-any_active) → active_above c.args.n (health_of c.args.health) (commands_of c.args.commands)
    ≡ any_active (rest c.args.n c.args.health.generators) (rest c.args.n c.args.commands.generators)
    || (any_active (rest c.args.n c.args.health.generator_breakers) (rest c.args.n c.args.commands.generator_breakers)
    || any_active (rest c.args.n c.args.health.bus_breakers) (rest c.args.n c.args.commands.bus_breakers))
kinds c =
    active_kinds c.args.n c.args.health
    (record { generators = search rules; generator_breakers_lem = search rules; bus_breakers_lem = search rules; locked = search rules })
    c.args.commands
    (record { generators = search rules; generator_breakers_lem = search rules; bus_breakers_lem = search rules })

-- the kinds tested before the last
before : (c : Joined-any_active)
    → FirstTwo (any_active (rest c.args.n c.args.health.generators) (rest c.args.n c.args.commands.generators))
    (any_active (rest c.args.n c.args.health.generator_breakers) (rest c.args.n c.args.commands.generator_breakers))
    c.if-any_active.value
before c =
    elim c.if-any_active.branch [
      | then-any_active w ↦ inl (sym c.any_active.ensures ∙ w.if-any_active.true, w.value-is ∙ w.if-any_active.true)
      | else-any_active w ↦ inr (sym c.any_active.ensures ∙ w.if-any_active.false, w.value-is ∙ w.any_active-else-any_active.ensures)
    ]

pub returns-then-any_active-2 : goal.returns-then-any_active-2
returns-then-any_active-2 c =
    let j = (goal.at.returns-then-any_active-2 c).Joined-any_active in some_of_two _ _ _ (kinds j) (before j) c.if-any_active-2.true

pub returns-else-any_active-2 : goal.returns-else-any_active-2
returns-else-any_active-2 c =
    let j = (goal.at.returns-else-any_active-2 c).Joined-any_active in
    none_of_two _ _ _ (kinds j) (before j) c.if-any_active-2.false c.any_active-else-any_active-2.ensures
