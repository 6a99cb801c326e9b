-- `fill`: at each turn the lines passed stand in the buffer, and at least one does where nothing is left or no line is sure to have room.
use mathlib.Core.Path.{refl}
use Prim.Native.Nat.{◌≤◌}
use native.Mathlib.Omega.{arith}
use lib.ListN.{length as len, length-take, length-drop}
use borrow.Author.Rules.{rules}
use borrow.Author.Tests.{leb-true, leb-false}
use Rattle.model.specs.Laws.Appended.{stored_fits}
use Rattle.run.specs.Filling.{filling_none, filling_within, filling_more, passed_less, stored_kept}
use Rattle.run.proofs.fill.Goals as goal
use Rattle.run.proofs.fill.Goals.{At-loop-more}

-- what was written fits
fits : (c : At-loop-more) → c.loop-more.length ≤ len c.loop-more.out
fits c = stored_fits c.loop-more.invariant.0.stored

pub loop-more-init : goal.loop-more-init
loop-more-init c = (filling_none c.requires.cursor _, refl)

pub overflow_sub-out : goal.overflow_sub-out
overflow_sub-out c = search (rules, fits (goal.at.overflow_sub-out c).At-loop-more)

pub slice_bounds-next_line-count : goal.slice_bounds-next_line-count
slice_bounds-next_line-count c = search (rules, fits (goal.at.slice_bounds-next_line-count c).At-loop-more)

pub slice_bounds-next_line-start : goal.slice_bounds-next_line-start
slice_bounds-next_line-start c = search (rules, fits (goal.at.slice_bounds-next_line-start c).At-loop-more)

pub slice_bounds-next_line-end : goal.slice_bounds-next_line-end
slice_bounds-next_line-end c = search (rules, fits (goal.at.slice_bounds-next_line-end c).At-loop-more)

pub next_line-line-requires : goal.next_line-line-requires
next_line-line-requires c = (
  filling_within c.loop-more.invariant.0 c.loop-more-test.true,
  simp (length-take, length-drop)
      (omega (arith, leb-true, fits (goal.at.next_line-line-requires c).At-loop-more)),
)

pub overflow_add-length : goal.overflow_add-length
overflow_add-length c =
    let more = filling_more _ c.loop-more.invariant.0 c.loop-more-test.true c.next_line-line.ensures refl in
    search (rules, c.well_formed, stored_fits more.stored)

pub loop-more-smaller : goal.loop-more-smaller
loop-more-smaller c =
    passed_less (filling_within c.loop-more.invariant.0 c.loop-more-test.true)
    c.next_line-line.ensures

pub loop-more-preserved : goal.loop-more-preserved
loop-more-preserved c =
    (filling_more _ c.loop-more.invariant.0 c.loop-more-test.true c.next_line-line.ensures (omega arith), search rules)

pub shape_of-out-else-out-length-ge-ROOM : goal.shape_of-out-else-out-length-ge-ROOM
shape_of-out-else-out-length-ge-ROOM c = c.loop-more.invariant.1

pub returns-else-out-length-ge-ROOM-clause-run : goal.returns-else-out-length-ge-ROOM-clause-run
returns-else-out-length-ge-ROOM-clause-run c = c.loop-more.invariant.0.run

pub returns-else-out-length-ge-ROOM-clause-kept : goal.returns-else-out-length-ge-ROOM-clause-kept
returns-else-out-length-ge-ROOM-clause-kept c = stored_kept c.loop-more.invariant.0.stored

pub returns-else-out-length-ge-ROOM-clause-length : goal.returns-else-out-length-ge-ROOM-clause-length
returns-else-out-length-ge-ROOM-clause-length c = (omega (arith, leb-false), fits (goal.at.returns-else-out-length-ge-ROOM-clause-length c).At-loop-more)

pub returns-else-out-length-ge-ROOM-clause-cursor : goal.returns-else-out-length-ge-ROOM-clause-cursor
returns-else-out-length-ge-ROOM-clause-cursor c = c.loop-more.invariant.0.cursor

pub returns-else-out-length-ge-ROOM-clause-more : goal.returns-else-out-length-ge-ROOM-clause-more
returns-else-out-length-ge-ROOM-clause-more c = c.loop-more.invariant.0.more

pub shape_of-out-after-loop-more : goal.shape_of-out-after-loop-more
shape_of-out-after-loop-more c = c.loop-more.invariant.1

pub returns-after-loop-more-clause-run : goal.returns-after-loop-more-clause-run
returns-after-loop-more-clause-run c = c.loop-more.invariant.0.run

pub returns-after-loop-more-clause-kept : goal.returns-after-loop-more-clause-kept
returns-after-loop-more-clause-kept c = stored_kept c.loop-more.invariant.0.stored

pub returns-after-loop-more-clause-length : goal.returns-after-loop-more-clause-length
returns-after-loop-more-clause-length c = (c.loop-more.invariant.0.some c.loop-more-test.false, fits (goal.at.returns-after-loop-more-clause-length c).At-loop-more)

pub returns-after-loop-more-clause-cursor : goal.returns-after-loop-more-clause-cursor
returns-after-loop-more-clause-cursor c = c.loop-more.invariant.0.cursor

pub returns-after-loop-more-clause-more : goal.returns-after-loop-more-clause-more
returns-after-loop-more-clause-more c = c.loop-more.invariant.0.more
