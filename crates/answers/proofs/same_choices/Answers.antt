-- `answers::same_choices` meets its contract. The loop's invariant: the choices of the buses passed are those of the case.
use native.Mathlib.Omega.{arith}
use borrow.Author.Rules.{rules}
use Rattle.model.specs.Laws.Tests.{never}
use Rattle.answers.specs.Answers.{choices_more}
use Rattle.answers.proofs.same_choices.Goals as goal

pub loop-b-init : goal.loop-b-init
loop-b-init c = (search rules, λ b h. absurd (omega arith))

pub returns-then-not-same_choice : goal.returns-then-not-same_choice
returns-then-not-same_choice c e = never cc

pub loop-b-preserved : goal.loop-b-preserved
loop-b-preserved c =
    let here = c.same_choice.ensures (c.if-not-same_choice.false) in
    (search rules, choices_more _ c.args.case.now c.args.from c.args.choices c.loop-b.invariant.1 here)

pub returns : goal.returns
returns c e b h = c.loop-b.invariant.1 b (omega arith)
