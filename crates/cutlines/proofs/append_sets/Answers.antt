-- `append_sets`: after k turns the lines of the first k sets are stored.
use mathlib.Core.Path.{◌≡◌, ◌∙◌, refl}
use native.Mathlib.Omega.{arith}
use lib.ListN.{length, length-append}
use borrow.Author.Rules.{rules}
use Rattle.cutlines.specs.Sets.{lines_none, lines_more, lines_length, sets_turn, sets_end}
use Rattle.cutlines.proofs.append_sets.Goals as goal

pub loop-set-init : goal.loop-set-init
loop-set-init c = (lines_none _ _ refl, search rules, search rules, search rules)

pub append_set-end-requires : goal.append_set-end-requires
append_set-end-requires c =
    let k = length c.loop-set.yielded in
    let steps = c.in-Some.ensures.steps in
    let t = sets_turn c.args.sheet.now c.args.count c.requires.0 k c.loop-set.invariant.1 _ _ steps.1.0 (steps.1.1 ∙ c.loop-set.invariant.2) in
    omega (arith, t.0, c.loop-set.invariant, c.loop-set.invariant.0.end, lines_length c.args.sheet.now k, c.requires)

pub loop-set-preserved : goal.loop-set-preserved
loop-set-preserved c =
    let k = length c.loop-set.yielded in
    let steps = c.in-Some.ensures.steps in
    let t = sets_turn c.args.sheet.now c.args.count c.requires.0 k c.loop-set.invariant.1 _ _ steps.1.0 (steps.1.1 ∙ c.loop-set.invariant.2) in
    rw (length-append c.loop-set.yielded) (
      lines_more _ _ _ refl c.loop-set.invariant.0 (rw t.2 at c.append_set-end.ensures),
      t.1,
      steps.0 ∙ c.loop-set.invariant.2,
      omega arith,
    )

pub returns : goal.returns
returns c =
    let e : length c.loop-set.yielded ≡ c.args.count = sets_end c.args.sheet.now c.args.count c.requires.0 _ c.loop-set.invariant.1 c.loop-set.invariant.3 (omega (arith, c.in-None.ensures.steps, c.loop-set.invariant)) in
    rw (← e) c.loop-set.invariant.0
