-- `rates::some_outside` meets its contract, kind by kind.
use Rattle.std.proofs.Common.{◌≡◌, ◌∙◌, rules, sym, inl, inr, ◌||◌, take}
use Rattle.model.specs.Exposure.{some_outside}
use Rattle.components.specs.Searches.{FirstTwo, some_of_two, none_of_two}
use Rattle.rates.specs.Places.{any_outside, outside_kinds}
use Rattle.rates.proofs.some_outside.Goals as goal
use Rattle.rates.proofs.some_outside.Goals.{Joined-any_outside, then-any_outside, else-any_outside}

kinds : (c : Joined-any_outside) → some_outside c.args.n c.args.rates
    ≡ any_outside (take c.args.n c.args.rates.generators)
    || (any_outside (take c.args.n c.args.rates.generator_breakers)
    || any_outside (take c.args.n c.args.rates.bus_breakers))
kinds c =
    outside_kinds c.args.rates
    (record { generators = search rules; generator_breakers_lem = search rules; bus_breakers_lem = search rules })
    c.args.n c.requires

-- the kinds tested before the last
before : (c : Joined-any_outside)
    → FirstTwo (any_outside (take c.args.n c.args.rates.generators))
    (any_outside (take c.args.n c.args.rates.generator_breakers))
    c.if-any_outside.value
before c =
    elim c.if-any_outside.branch [
      | then-any_outside w ↦ inl (sym c.any_outside.ensures ∙ w.if-any_outside.true, w.value-is ∙ w.if-any_outside.true)
      | else-any_outside w ↦ inr (sym c.any_outside.ensures ∙ w.if-any_outside.false, w.value-is ∙ w.any_outside-else-any_outside.ensures)
    ]

pub returns-then-any_outside-2 : goal.returns-then-any_outside-2
returns-then-any_outside-2 c =
    let j = (goal.at.returns-then-any_outside-2 c).Joined-any_outside in some_of_two _ _ _ (kinds j) (before j) c.if-any_outside-2.true

pub returns-else-any_outside-2 : goal.returns-else-any_outside-2
returns-else-any_outside-2 c =
    let j = (goal.at.returns-else-any_outside-2 c).Joined-any_outside in
    none_of_two _ _ _ (kinds j) (before j) c.if-any_outside-2.false c.any_outside-else-any_outside-2.ensures
