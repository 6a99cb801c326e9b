-- `healths::any_breaker_outside` meets its contract.
use Rattle.std.proofs.Common.{◌∙◌, rules, tests}
use Rattle.std.proofs.lemmas.Iterator.{YieldsList-from_slice}
use Rattle.std.proofs.lemmas.Iterator.Search.{any_from_yields_List}
use Rattle.components.specs.Searches.{any_listed}
use Rattle.healths.specs.Kinds.{no_breaker}
use Rattle.healths.proofs.any_breaker_outside.Goals as goal

pub returns : goal.returns
returns c =
    any_from_yields_List no_breaker _ _ _ c.any.ensures.ran (YieldsList-from_slice c.args.healths.now cc) (λ x b q k. search (rules, tests)) ∙ any_listed _ _
