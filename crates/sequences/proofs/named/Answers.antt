-- `named`: what a choice names, case by case.
use native.Mathlib.Omega.{arith}
use Rattle.sequences.specs.Outward.{own_inside, high_inside, low_inside, index_is}
use Rattle.sequences.proofs.named.Goals as goal

pub overflow_sub-result : goal.overflow_sub-result
overflow_sub-result c =
    omega (arith, own_inside c.args.n _ c.args.choice c.requires.2 c.in-Own.is)

pub overflow_sub-g : goal.overflow_sub-g
overflow_sub-g c =
    omega (arith, high_inside c.args.n _ c.args.choice c.requires.2 c.in-High.is)

pub high_rises-rising-requires : goal.high_rises-rising-requires
high_rises-rising-requires c =
    omega (arith, c.requires, high_inside c.args.n _ c.args.choice c.requires.2 c.in-High.is)

pub overflow_sub-g-in-Low : goal.overflow_sub-g-in-Low
overflow_sub-g-in-Low c =
    omega (arith, low_inside c.args.n _ c.args.choice c.requires.2 c.in-Low.is)

pub high_rises-rising-requires-in-Low : goal.high_rises-rising-requires-in-Low
high_rises-rising-requires-in-Low c =
    omega (arith, c.requires, low_inside c.args.n _ c.args.choice c.requires.2 c.in-Low.is)

pub returns-in-Own : goal.returns-in-Own
returns-in-Own c = rw (c.in-Own.is, index_is)

pub returns-in-High : goal.returns-in-High
returns-in-High c = rw (c.in-High.is, c.high_rises-rising.ensures, index_is)

pub returns-in-Low : goal.returns-in-Low
returns-in-Low c = rw (c.in-Low.is, c.high_rises-rising-in-Low.ensures, index_is)
