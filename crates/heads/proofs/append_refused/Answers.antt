-- `append_refused`: the word and the number, then a line feed.
use mathlib.Core.Path.{refl}
use Prim.Native.Nat.{◌+◌, ◌≤◌}
use native.Mathlib.Omega.{arith}
use lib.ListN.{length-set, length-append}
use Rattle.model.specs.Text.{ascii, decimal, refused_text}
use Rattle.model.specs.Laws.Appended.{appended_one}
use Rattle.numbers.specs.Numbers.{decimal_length}
use Rattle.heads.proofs.append_refused.Goals as goal
use Rattle.heads.proofs.append_refused.Goals.{After-append_labelled-end}

-- where the number ends
end : (c : After-append_labelled-end) → c.append_labelled-end.result ≤ c.args.at + 12
unfolding ascii
end c =
    omega (arith, c.append_labelled-end.ensures.end, length-append (ascii "refused ") (decimal c.args.number), decimal_length 3 c.args.number (omega (arith, c.ranges.number)))

pub bounds-out-end : goal.bounds-out-end
bounds-out-end c = omega (arith, end (goal.at.bounds-out-end c).After-append_labelled-end, c.append_labelled-end.auto, c.requires)

pub overflow_add-result : goal.overflow_add-result
overflow_add-result c = omega (arith, end (goal.at.overflow_add-result c).After-append_labelled-end, c.requires, c.well_formed)

pub shape_of-out : goal.shape_of-out
shape_of-out c = simp length-set c.append_labelled-end.auto.out

pub returns-clause-text : goal.returns-clause-text
unfolding ascii refused_text
returns-clause-text c = appended_one 10 refl refl c.append_labelled-end.ensures

pub returns-clause-within : goal.returns-clause-within
returns-clause-within c = omega (arith, end (goal.at.returns-clause-within c).After-append_labelled-end)
