-- `exposure::reckon` meets its contract. The loop's invariant: the figures are those of the sets passed.
use mathlib.Core.Path.{◌≡◌, ◌∙◌}
use native.Mathlib.Omega.{arith}
use lib.ListN.{length, length-append}
use borrow.Author.Rules.{rules}
use Rattle.exposure.proofs.Sets.{figures_none, figures_more, figures_count, sets_turn, sets_end}
use Rattle.exposure.proofs.reckon.Goals as goal

pub loop-set-init : goal.loop-set-init
loop-set-init c = (figures_none _ _ c.no_figures-figures.ensures, search rules, search rules, search rules)

-- as many are counted as are passed
pub with_product-figures-requires : goal.with_product-figures-requires
with_product-figures-requires c =
    omega (arith, figures_count _ _ _ c.loop-set.invariant.0, c.loop-set.invariant, c.requires)

-- a set has three bytes
pub product-requires : goal.product-requires
product-requires c =
    let steps = c.in-Some.ensures.steps in steps.1.1 ∙ c.loop-set.invariant.2

-- one set more
pub loop-set-preserved : goal.loop-set-preserved
loop-set-preserved c =
    let k = length c.loop-set.yielded in
    let steps = c.in-Some.ensures.steps in
    let t = sets_turn c.args.rates c.args.sheet.now c.args.count c.requires.1 k c.loop-set.invariant.1 _ _ steps.1.0 (steps.1.1 ∙ c.loop-set.invariant.2) in
    rw (length-append c.loop-set.yielded) (
      c.with_product-figures.ensures ∙ figures_more _ _ _ _ (omega arith) c.loop-set.invariant.0 (c.product.ensures ∙ t.2),
      t.1,
      steps.0 ∙ c.loop-set.invariant.2,
      omega arith,
    )

-- every set is passed
pub returns : goal.returns
returns c =
    let e : length c.loop-set.yielded ≡ c.args.count = sets_end c.args.rates c.args.sheet.now c.args.count c.requires.1 _ c.loop-set.invariant.1 c.loop-set.invariant.3 (omega (arith, c.in-None.ensures.steps, c.loop-set.invariant)) in
    rw (← e) c.loop-set.invariant.0
