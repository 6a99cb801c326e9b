-- `rates::any_outside` meets its contract.
use Rattle.std.proofs.Common.{◌∙◌, rules, tests}
use Rattle.std.proofs.lemmas.Iterator.{YieldsList-from_slice}
use Rattle.std.proofs.lemmas.Iterator.Search.{any_from_yields_List}
use Rattle.model.specs.Exposure.{rate_outside}
use Rattle.components.specs.Searches.{any_listed}
use Rattle.rates.proofs.any_outside.Goals as goal

pub returns : goal.returns
returns c =
    any_from_yields_List (λ p. rate_outside p.rate) _ _ _ c.any.ensures.ran (YieldsList-from_slice c.args.parts.now cc) (λ x b q k. search (rules, tests))
    ∙ any_listed _ _
