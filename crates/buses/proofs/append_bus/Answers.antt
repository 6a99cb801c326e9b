-- `append_bus`: in each branch the bus's number and its choice follow one another.
use mathlib.Core.Path.{◌∙◌}
use native.Mathlib.Omega.{arith}
use lib.ListN.{length-set}
use borrow.Author.Rules.{rules}
use Rattle.model.specs.Text.{ascii}
use Rattle.numbers.specs.Numbers.{marked_length}
use Rattle.model.specs.Laws.Appended.{appended_two, appended_more}
use Rattle.buses.proofs.append_bus.Goals as goal

pub bounds-out-at-2 : goal.bounds-out-at-2
bounds-out-at-2 c = simp length-set (omega arith)

pub append_digit-end-requires : goal.append_digit-end-requires
append_digit-end-requires c = simp length-set (omega arith)

pub append_choice-requires : goal.append_choice-requires
append_choice-requires c = (
  search rules,
  omega (
    arith,
    simp length-set at c.append_digit-end.auto.out,
    c.append_digit-end.ensures.end,
    marked_length
        c.args.bus 61 c.requires.0,
    c.requires.2,
  ),
)

pub shape_of-out-then-bus-lt10 : goal.shape_of-out-then-bus-lt10
shape_of-out-then-bus-lt10 c = c.append_choice.auto.out ∙ simp length-set at
    c.append_digit-end.auto.out

pub returns-then-bus-lt10 : goal.returns-then-bus-lt10
unfolding ascii
returns-then-bus-lt10 c =
    appended_more (appended_two _ _ _ _) (appended_more c.append_digit-end.ensures
    c.append_choice.ensures)

pub append_marked-end-requires : goal.append_marked-end-requires
append_marked-end-requires c = simp length-set (omega arith)

pub append_choice-requires-2 : goal.append_choice-requires-2
append_choice-requires-2 c = (
  search rules,
  omega (
    arith,
    simp length-set at c.append_marked-end.auto.out,
    c.append_marked-end.ensures.end,
    marked_length
        c.args.bus 61 c.requires.0,
    c.requires.2,
  ),
)

pub shape_of-out : goal.shape_of-out
shape_of-out c = c.append_choice-2.auto.out ∙ simp length-set at
    c.append_marked-end.auto.out

pub returns : goal.returns
unfolding ascii
returns c =
    appended_more (appended_two _ _ _ _) (appended_more c.append_marked-end.ensures
    c.append_choice-2.ensures)
