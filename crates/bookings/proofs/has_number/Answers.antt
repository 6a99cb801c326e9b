-- `bookings::has_number` meets its contract: the test of the rules, of a slice.
use Rattle.std.proofs.Common.{◌∙◌, rules, tests, eqb}
use Rattle.std.proofs.lemmas.Iterator.{YieldsList-from_slice}
use Rattle.std.proofs.lemmas.Iterator.Search.{any_from_yields_List}
use Rattle.model.specs.Bookings.{is_live}
use Rattle.components.specs.Searches.{any_listed}
use Rattle.bookings.proofs.has_number.Goals as goal

pub returns : goal.returns
unfolding is_live
returns c =
    any_from_yields_List (λ b. eqb b.number c.args.number) _ _ _ c.any.ensures.ran (YieldsList-from_slice c.args.bookings.now cc)
    (λ x b q k. search (rules, tests))
    ∙ any_listed _ _
