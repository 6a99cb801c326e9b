-- `answers::same_choices` meets its contract. The loop's invariant: the choices of the buses passed are those of the case.
use Prim.Native.Nat.{◌≤◌, ◌-◌}
use Rattle.answers.specs.Answers.{ChoicesIn}
use Rattle.answers.proofs.same_choices.Given as goal

abbrev pub invariant-loop-b : goal.invariant-loop-b
invariant-loop-b l = (l.b ≤ 20) × ChoicesIn l.b l.case l.from l.choices

abbrev pub decreases-loop-b : goal.decreases-loop-b
decreases-loop-b l = 20 - l.b
