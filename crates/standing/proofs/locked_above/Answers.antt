-- `standing::locked_above` meets its contract: the locks from place n on.
use Rattle.std.proofs.Common.{◌∙◌, rules, tests, sym}
use Rattle.std.proofs.lemmas.Iterator.{YieldsList-from_slice}
use Rattle.std.proofs.lemmas.Iterator.Search.{any_from_yields_List}
use Rattle.components.specs.Searches.{any_listed, rest}
use Rattle.standing.specs.Standing.{locked_rest}
use Rattle.standing.proofs.locked_above.Goals as goal

pub returns : goal.returns
returns c =
    any_from_yields_List (λ l. l) _ _ _ c.any.ensures.ran
    (YieldsList-from_slice (rest c.args.n c.args.health.locked) (search rules)) (λ x b q k. search (rules, tests))
    ∙ (any_listed _ _
    ∙ sym (locked_rest c.args.n c.args.health
    (record { generators = search rules; generator_breakers_lem = search rules; bus_breakers_lem = search rules; locked = search rules })))
