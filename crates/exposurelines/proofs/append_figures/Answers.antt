-- `append_figures`: both floats and the count follow one another, then a line feed.
use mathlib.Core.Path.{◌≡◌, ◌∙◌}
use Prim.Native.Nat.{◌+◌, ◌≤◌}
use native.Mathlib.Omega.{arith}
use lib.ListN.{length, length-set}
use borrow.Author.Rules.{rules}
use Rattle.model.specs.Text.{ascii}
use Rattle.model.specs.Laws.Appended.{appended_one, appended_more}
use Rattle.numbers.specs.Numbers.{decimal_end}
use Rattle.exposurelines.specs.Lines.{bits_end, figures_parts}
use Rattle.exposurelines.proofs.append_figures.Goals as goal
use Rattle.exposurelines.proofs.append_figures.Goals.{After-append_large-end}

-- where the count ends
count_end : (c : After-append_large-end) → c.append_large-end.result ≤ c.args.at + 39
count_end c = omega (arith, decimal_end 4 _ c.append_large-end.ensures (omega arith), bits_end _ c.append_bits-count.ensures, bits_end _ c.append_bits-largest.ensures)

-- the buffer is as long as it was
sized : (c : After-append_large-end) → length c.append_large-end.new.out ≡ length c.args.out.now
sized c = c.append_large-end.auto.out ∙ c.append_bits-count.auto.out ∙ c.append_bits-largest.auto.out

pub append_bits-count-requires : goal.append_bits-count-requires
append_bits-count-requires c =
    (search rules, omega (arith, bits_end _ c.append_bits-largest.ensures, c.append_bits-largest.auto, c.requires))

pub append_large-end-requires : goal.append_large-end-requires
append_large-end-requires c =
    (omega arith, omega (arith, bits_end _ c.append_bits-count.ensures, bits_end _ c.append_bits-largest.ensures, c.append_bits-count.auto.out ∙ c.append_bits-largest.auto.out, c.requires))

pub bounds-out-end : goal.bounds-out-end
bounds-out-end c = omega (arith, count_end (goal.at.bounds-out-end c).After-append_large-end, sized (goal.at.bounds-out-end c).After-append_large-end, c.requires)

pub overflow_add-result : goal.overflow_add-result
overflow_add-result c = omega (arith, count_end (goal.at.overflow_add-result c).After-append_large-end, c.requires, c.well_formed)

pub shape_of-out : goal.shape_of-out
shape_of-out c = simp length-set (sized (goal.at.shape_of-out c).After-append_large-end)

pub returns-clause-text : goal.returns-clause-text
unfolding ascii
returns-clause-text c = appended_one _ (figures_parts c.args.figures c.args.figures.count (omega arith)) (omega arith)
    (appended_more (appended_more c.append_bits-largest.ensures c.append_bits-count.ensures) c.append_large-end.ensures)

pub returns-clause-within : goal.returns-clause-within
unfolding ascii
returns-clause-within c = omega (arith, count_end (goal.at.returns-clause-within c).After-append_large-end)
