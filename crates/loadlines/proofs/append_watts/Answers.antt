-- `append_watts`: the generator's number and its watts follow one another, then a space.
use mathlib.Core.Path.{◌≡◌, refl, ◌∙◌}
use Prim.Native.Nat.{◌+◌, ◌≤◌}
use native.Mathlib.Omega.{arith}
use lib.ListN.{length, length-set}
use Rattle.model.specs.Text.{ascii}
use Rattle.model.specs.Laws.Appended.{appended_none, appended_one, appended_more}
use Rattle.numbers.specs.Numbers.{marked_end}
use Rattle.loadlines.specs.Figures.{watts_is}
use Rattle.loadlines.proofs.append_watts.Goals as goal
use Rattle.loadlines.proofs.append_watts.Goals.{After-append_whole-end}

-- where the watts end
watts-end : (c : After-append_whole-end) → c.append_whole-end.result ≤ c.args.at + 14
watts-end c = omega (arith, marked_end _ _ c.append_marked-figure.ensures (omega (arith, c.requires)), c.append_whole-end.ensures.within)

-- the buffer is as long as it was
sized : (c : After-append_whole-end) → length c.append_whole-end.new.out ≡ length c.args.out.now
sized c = c.append_whole-end.auto.out ∙ simp length-set at c.append_marked-figure.auto.out

pub append_marked-figure-requires : goal.append_marked-figure-requires
append_marked-figure-requires c = simp length-set (omega arith)

pub append_whole-end-requires : goal.append_whole-end-requires
append_whole-end-requires c =
    omega (arith, marked_end _ _ c.append_marked-figure.ensures (omega (arith, c.requires)), simp length-set at c.append_marked-figure.auto.out, c.requires)

pub bounds-out-end : goal.bounds-out-end
bounds-out-end c = omega (arith, watts-end (goal.at.bounds-out-end c).After-append_whole-end, sized (goal.at.bounds-out-end c).After-append_whole-end, c.requires)

pub overflow_add-result : goal.overflow_add-result
overflow_add-result c = omega (arith, watts-end (goal.at.overflow_add-result c).After-append_whole-end, c.requires, c.well_formed)

pub shape_of-out : goal.shape_of-out
shape_of-out c = simp length-set (sized (goal.at.shape_of-out c).After-append_whole-end)

pub returns-clause-text : goal.returns-clause-text
unfolding ascii
returns-clause-text c = appended_one _ (watts_is _ _ _ _ (omega arith) (omega arith)) (omega arith)
    (appended_more (appended_more (appended_one _ refl (omega arith) (appended_none _ _)) c.append_marked-figure.ensures)
    c.append_whole-end.ensures.text)

pub returns-clause-within : goal.returns-clause-within
unfolding ascii
returns-clause-within c = omega (arith, watts-end (goal.at.returns-clause-within c).After-append_whole-end)
