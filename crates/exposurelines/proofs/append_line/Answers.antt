-- `append_line`: the bus, then its answer.
use mathlib.Core.Path.{refl, ◌∙◌}
use Prim.Native.Nat.{◌+◌, ◌≤◌}
use native.Mathlib.Omega.{arith}
use lib.ListN.{length-set}
use Rattle.model.specs.Text.{ascii}
use Rattle.model.specs.Laws.Appended.{appended_none, appended_one, appended_more}
use Rattle.numbers.specs.Numbers.{marked_end}
use Rattle.exposurelines.specs.Lines.{line_parts}
use Rattle.exposurelines.proofs.append_line.Goals as goal
use Rattle.exposurelines.proofs.append_line.Goals.{After-append_marked-answered}

-- where the bus ends
bus-end : (c : After-append_marked-answered) → c.append_marked-answered.result ≤ c.args.at + 4
bus-end c = omega (arith, marked_end _ _ c.append_marked-answered.ensures (omega (arith, c.requires.bus)))

pub append_marked-answered-requires : goal.append_marked-answered-requires
append_marked-answered-requires c = simp length-set (omega arith)

pub append_answer-requires : goal.append_answer-requires
append_answer-requires c =
    (c.requires.figures.0, c.requires.figures.1, omega (arith, bus-end (goal.at.append_answer-requires c).After-append_marked-answered, simp length-set at c.append_marked-answered.auto.out, c.requires.room))

pub shape_of-out : goal.shape_of-out
shape_of-out c = c.append_answer.auto.out ∙ simp length-set at c.append_marked-answered.auto.out

pub returns-clause-text : goal.returns-clause-text
unfolding ascii
returns-clause-text c = line_parts _ _ _ (omega arith) (appended_more (appended_one _ refl (omega arith) (appended_none _ _)) c.append_marked-answered.ensures)
    c.append_answer.ensures.text

pub returns-clause-within : goal.returns-clause-within
unfolding ascii
returns-clause-within c = omega (arith, bus-end (goal.at.returns-clause-within c).After-append_marked-answered, c.append_answer.ensures.within)
