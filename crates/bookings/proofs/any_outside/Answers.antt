-- `bookings::any_outside` meets its contract: the test of the rules, of the live bookings.
use Rattle.std.proofs.Common.{◌∙◌, rules, tests}
use Rattle.std.proofs.lemmas.Iterator.{YieldsList-from_slice}
use Rattle.std.proofs.lemmas.Iterator.Search.{any_from_yields_List}
use Rattle.model.specs.Bookings.{live_bookings, booking_outside}
use Rattle.components.specs.Searches.{any_listed}
use Rattle.bookings.proofs.any_outside.Goals as goal

pub returns : goal.returns
unfolding booking_outside
returns c =
    any_from_yields_List (booking_outside c.args.n) _ _ _ c.any.ensures.ran (YieldsList-from_slice (live_bookings c.args.load) cc)
    (λ x b q k. search (rules, tests))
    ∙ any_listed _ _
