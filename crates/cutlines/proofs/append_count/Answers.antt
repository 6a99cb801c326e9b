-- `append_count`: the bus's number and the count follow one another, then a line feed.
use mathlib.Core.Path.{◌≡◌, refl, ◌∙◌}
use Prim.Native.Nat.{◌+◌, ◌≤◌}
use native.Mathlib.Omega.{arith}
use lib.ListN.{length, length-set}
use Rattle.model.specs.Text.{ascii}
use Rattle.model.specs.Laws.Appended.{appended_none, appended_one, appended_more}
use Rattle.numbers.specs.Numbers.{marked_end, decimal_end}
use Rattle.cutlines.specs.Sets.{count_parts_lem}
use Rattle.cutlines.proofs.append_count.Goals as goal
use Rattle.cutlines.proofs.append_count.Goals.{After-append_large-end}

-- where the count ends
count_end : (c : After-append_large-end) → c.append_large-end.result ≤ c.args.at + 9
count_end c = omega (arith, marked_end _ _ c.append_marked-number.ensures (omega (arith, c.requires)), decimal_end 4 _ c.append_large-end.ensures (omega (arith, c.requires)))

-- the buffer is as long as it was
sized : (c : After-append_large-end) → length c.append_large-end.new.out ≡ length c.args.out.now
sized c = c.append_large-end.auto.out ∙ simp length-set at c.append_marked-number.auto.out

pub append_marked-number-requires : goal.append_marked-number-requires
append_marked-number-requires c = simp length-set (omega arith)

pub append_large-end-requires : goal.append_large-end-requires
append_large-end-requires c =
    (omega (arith, c.requires), omega (arith, marked_end _ _ c.append_marked-number.ensures (omega (arith, c.requires)), simp length-set at c.append_marked-number.auto.out, c.requires))

pub bounds-out-end : goal.bounds-out-end
bounds-out-end c = omega (arith, count_end (goal.at.bounds-out-end c).After-append_large-end, sized (goal.at.bounds-out-end c).After-append_large-end, c.requires)

pub overflow_add-result : goal.overflow_add-result
overflow_add-result c = omega (arith, count_end (goal.at.overflow_add-result c).After-append_large-end, c.requires, c.well_formed)

pub shape_of-out : goal.shape_of-out
shape_of-out c = simp length-set (sized (goal.at.shape_of-out c).After-append_large-end)

pub returns : goal.returns
unfolding ascii
returns c =
    appended_one _ (count_parts_lem _ _ _ _ (omega arith) (omega arith)) (omega arith)
    (appended_more (appended_more (appended_one _ refl (omega arith) (appended_none _ _)) c.append_marked-number.ensures)
    c.append_large-end.ensures)
