-- `standing::any_active` meets its contract: the test of the rules, of two slices side by side.
use Rattle.std.proofs.Common.{◌∙◌, rules, tests, not, ◌||◌}
use Rattle.std.proofs.lemmas.Iterator.{YieldsList-from_slice, YieldsList-from_zip}
use Rattle.std.proofs.lemmas.Iterator.Consumers.{YieldsList-at}
use Rattle.std.proofs.lemmas.Iterator.Search.{any_from_yields_List}
use Rattle.model.specs.Plant.{fit}
use Rattle.components.specs.Searches.{any_listed}
use Rattle.standing.specs.Standing.{any_active}
use Rattle.standing.proofs.any_active.Goals as goal

pub returns : goal.returns
unfolding any_active
returns c =
    any_from_yields_List (λ p. not (fit p.0) || p.1) c.any.new.self _ _ c.any.ensures.ran
    (YieldsList-from_zip {s = c.zip.result} (YieldsList-at c.zip.ensures.first (YieldsList-from_slice c.args.healths.now c.iter.ensures.rest)) (YieldsList-from_slice c.args.commands.now cc))
    (λ x b q k. search (rules, tests))
    ∙ any_listed _ _
