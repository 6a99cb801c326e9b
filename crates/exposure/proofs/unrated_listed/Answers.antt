-- `exposure::unrated_listed` meets its contract: the test of the bytes behind the count.
use Rattle.std.proofs.Common.{◌∙◌, ◌*◌, rules, tests, sym, arith, take, drop}
use Rattle.std.proofs.lemmas.Iterator.{YieldsList-from_slice}
use Rattle.std.proofs.lemmas.Iterator.Search.{any_from_yields_List}
use Rattle.components.specs.Searches.{any_listed}
use Rattle.exposure.specs.Bytes.{unrated_code}
use Rattle.exposure.proofs.Sets.{unrated_behind}
use Rattle.exposure.proofs.unrated_listed.Goals as goal

pub returns : goal.returns
returns c =
    any_from_yields_List (unrated_code c.args.rates) _ _ _ c.any.ensures.ran
    (YieldsList-from_slice (take (3 * c.args.count) (drop 2 c.args.sheet.now)) (search rules)) (λ x b q k. search (rules, tests))
    ∙ (any_listed _ _ ∙ sym (unrated_behind c.args.rates c.args.sheet.now (3 * c.args.count) (omega (arith, c.requires.1))))
