-- `header`: both numbers behind their words, then a line feed.
use mathlib.Core.Path.{◌≡◌, refl, ◌∙◌}
use mathlib.Core.List.{append_assoc}
use Prim.Native.Nat.{◌+◌, ◌≤◌}
use native.Mathlib.Omega.{arith}
use lib.ListN.{length, set, length-set}
use borrow.Author.Rules.{rules}
use Rattle.model.specs.Text.{ascii, header}
use Rattle.numbers.specs.Numbers.{decimal_length}
use Rattle.model.specs.Laws.Appended.{Appended, appended_one, appended_more, appended_all}
use Rattle.heads.specs.Heads.{header_fits}
use Rattle.heads.proofs.header.Goals as goal
use Rattle.heads.proofs.header.Goals.{After-append_labelled-end}

-- the whole text, which fits
stored : (c : After-append_labelled-end)
    → Appended (header c.args.n c.args.m) c.args.out.now 0
    (set c.append_labelled-end.new.out c.append_labelled-end.result 10) (c.append_labelled-end.result + 1)
unfolding header ascii
stored c = appended_one 10 (simp append_assoc) refl (appended_more c.append_labelled-reports.ensures c.append_labelled-end.ensures)

fits : (c : After-append_labelled-end)
    → length (header c.args.n c.args.m) ≤ length c.args.out.now
fits c = omega (arith, c.requires, header_fits c.args.n c.args.m (omega (arith, c.ranges.n.fits)) c.requires.0)

sized : (c : After-append_labelled-end) → length c.append_labelled-end.new.out ≡ length c.args.out.now
sized c = c.append_labelled-end.auto.out ∙ c.append_labelled-reports.auto.out

pub append_labelled-end-requires : goal.append_labelled-end-requires
append_labelled-end-requires c = (
  search rules,
  omega (
    arith,
    c.append_labelled-reports,
    c.append_labelled-reports.ensures.end,
    decimal_length 3 c.args.n (omega arith),
    c.requires,
  ),
)

pub bounds-out-end : goal.bounds-out-end
bounds-out-end c = omega (arith, (stored (goal.at.bounds-out-end c).After-append_labelled-end).end, fits (goal.at.bounds-out-end c).After-append_labelled-end, sized (goal.at.bounds-out-end c).After-append_labelled-end)

pub overflow_add-result : goal.overflow_add-result
overflow_add-result c = omega (arith, (stored (goal.at.overflow_add-result c).After-append_labelled-end).end, fits (goal.at.overflow_add-result c).After-append_labelled-end, c.well_formed)

pub shape_of-out : goal.shape_of-out
shape_of-out c = simp length-set (sized (goal.at.shape_of-out c).After-append_labelled-end)

pub returns : goal.returns
returns c = let whole = appended_all (stored (goal.at.returns c).After-append_labelled-end) (fits (goal.at.returns c).After-append_labelled-end) in record { bytes = whole.0; end = whole.1 }
