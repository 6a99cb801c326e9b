-- `plant::feeds` meets its contract: refused by 2, refused by 9, or served.
use mathlib.Core.Path.{sym, ◌∙◌}
use Rattle.model.specs.Laws.Refusals.{size_bounds}
use Rattle.plant.specs.Answer.{answered, size_refused, health_refused, served}
use Rattle.plant.proofs.feeds.Goals as goal

-- n is below 3 or above 20
pub returns-then-size_outside : goal.returns-then-size_outside
returns-then-size_outside c = let whole = answered _ _ _ _ (c.refused.ensures
    ∙ size_refused _ _ _ (sym c.size_outside.ensures ∙ c.if-size_outside.true)) in record { answer = whole.0; number = whole.1.0; values = whole.1.1 }

-- a health is not one of its part's kind
pub returns-then-health_outside : goal.returns-then-health_outside
returns-then-health_outside c = let whole = answered _ _ _ _
    (c.refused-then-health_outside.ensures
    ∙ health_refused _ _ _ (sym c.size_outside.ensures ∙ c.if-size_outside.false)
    (sym c.health_outside.ensures ∙ c.if-health_outside.true)) in record { answer = whole.0; number = whole.1.0; values = whole.1.1 }

pub bus_feeds-requires : goal.bus_feeds-requires
bus_feeds-requires c = (size_bounds _ (sym c.size_outside.ensures ∙ c.if-size_outside.false)).1

pub returns : goal.returns
returns c = let whole = answered _ _ _ _
    (rw c.bus_feeds.ensures
    (served _ _ _ (sym c.size_outside.ensures ∙ c.if-size_outside.false) (sym c.health_outside.ensures ∙ c.if-health_outside.false))) in record { answer = whole.0; number = whole.1.0; values = whole.1.1 }
