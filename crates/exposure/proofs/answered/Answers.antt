-- `exposure::answered` meets its contract: 15, then 16, then the figures.
use mathlib.Core.Path.{◌≡◌, sym, ◌∙◌}
use mathlib.Core.Bool.{false}
use Rattle.model.specs.Exposure.{some_outside}
use Rattle.exposure.proofs.Calls.{outside_15, unrated_16, reckoned}
use Rattle.exposure.proofs.answered.Goals as goal
use Rattle.exposure.proofs.answered.Goals.{Else-some_outside}

-- 15 is not met
inside : (c : Else-some_outside) → (some_outside c.args.n c.args.rates ≡ false)
inside c = sym c.some_outside.ensures ∙ c.if-some_outside.false

pub returns-then-some_outside : goal.returns-then-some_outside
returns-then-some_outside c =
    c.refused.ensures ∙ outside_15 _ _ _ _ (sym c.some_outside.ensures ∙ c.if-some_outside.true)

pub returns-then-unrated_listed : goal.returns-then-unrated_listed
returns-then-unrated_listed c =
    c.refused-then-unrated_listed.ensures
    ∙ unrated_16 _ _ _ _ (inside (goal.at.returns-then-unrated_listed c).Else-some_outside) (sym c.unrated_listed.ensures ∙ c.if-unrated_listed.true)

pub returns : goal.returns
returns c =
    reckoned _ _ _ _ (inside (goal.at.returns c).Else-some_outside) (sym c.unrated_listed.ensures ∙ c.if-unrated_listed.false)
    c.reckon.ensures
