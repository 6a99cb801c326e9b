-- `planner::plan` meets its contract. The loop's invariant: what is kept and the choices are those of the buses served.
use Rattle.model.specs.Laws.Tests.{auto}
use mathlib.Core.Path.{◌∙◌, ap}
use native.Mathlib.Nat.{le_antisymm}
use Rattle.model.specs.Reports.{health_of}
use Rattle.model.specs.Laws.Choosing.{choices_values}
use Rattle.planner.specs.Progress.{served_none, choices_none, choices_more, choices_all, commands_all}
use Rattle.planner.proofs.plan.Goals as goal

pub loop-b-init : goal.loop-b-init
loop-b-init c = (search auto, c.new-progress.ensures ∙ served_none _ _, choices_none _ _)

pub serve-choice-requires-clause-table : goal.serve-choice-requires-clause-table
serve-choice-requires-clause-table c = c.table-table.ensures

pub serve-choice-requires-clause-fed : goal.serve-choice-requires-clause-fed
serve-choice-requires-clause-fed c = c.usable_generators-usable.ensures

pub serve-choice-requires-clause-before : goal.serve-choice-requires-clause-before
serve-choice-requires-clause-before c = c.loop-b.invariant.1

pub loop-b-preserved : goal.loop-b-preserved
loop-b-preserved c =
    (search auto, c.serve-choice.ensures.after, rw (c.loop-b.invariant.2, c.serve-choice.ensures.chosen) (choices_more c.args.n (health_of c.args.health) c.loop-b.b))

pub returns-clause-chosen : goal.returns-clause-chosen
returns-clause-chosen c =
    let e = le_antisymm c.loop-b.invariant.0 c.loop-b-test.false in
    let H = health_of c.args.health in
    let s = (rw e at c.loop-b.invariant.2) ∙ choices_all c.args.n H in s

pub returns-clause-commanded : goal.returns-clause-commanded
returns-clause-commanded c =
    let e = le_antisymm c.loop-b.invariant.0 c.loop-b-test.false in
    let H = health_of c.args.health in
    let s = (rw e at c.loop-b.invariant.2) ∙ choices_all c.args.n H in ap (λ p. p.commands) (rw e at c.loop-b.invariant.1) ∙ commands_all c.args.n H

pub returns-clause-values : goal.returns-clause-values
returns-clause-values c =
    let e = le_antisymm c.loop-b.invariant.0 c.loop-b-test.false in
    let H = health_of c.args.health in
    let s = (rw e at c.loop-b.invariant.2) ∙ choices_all c.args.n H in rw s (choices_values c.args.n H)
