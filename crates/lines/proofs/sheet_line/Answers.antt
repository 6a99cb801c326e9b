-- `sheet_line`: number, buses and phases follow one another, then a line feed.
use mathlib.Core.Path.{◌≡◌, refl, ◌∙◌}
use Prim.Native.Nat.{◌+◌, ◌≤◌}
use native.Mathlib.Omega.{arith}
use lib.ListN.{length, set, length-set}
use Rattle.model.specs.Text.{ascii}
use Rattle.numbers.specs.Numbers.{decimal_length}
use Rattle.model.specs.Laws.Appended.{Appended, appended_one, appended_more, appended_all}
use Rattle.buses.specs.Buses.{buses_length}
use Rattle.lines.specs.SheetLine.{sheet_line, line_parts, line_length}
use Rattle.lines.proofs.sheet_line.Goals as goal
use Rattle.lines.proofs.sheet_line.Goals.{After-append_phases-feed}

-- the whole line, which fits
stored : (c : After-append_phases-feed)
    → Appended (sheet_line c.args.i c.args.n c.args.choices c.args.sheet.now) c.args.out.now 0
    (set c.append_phases-feed.new.out c.append_phases-feed.result 10)
    (c.append_phases-feed.result + 1)
unfolding ascii
stored c =
    rw (line_parts c.args.i c.args.n c.args.choices c.args.sheet.now c.requires.1)
    (appended_one 10 refl refl (appended_more (appended_more c.append_number-buses.ensures c.append_buses-phases.ensures)
    c.append_phases-feed.ensures))

fits : (c : After-append_phases-feed)
    → length (sheet_line c.args.i c.args.n c.args.choices c.args.sheet.now) ≤ length c.args.out.now
fits c =
    omega (arith, c.requires.5, line_length c.args.sheet.now c.requires.4 c.args.i c.args.n c.args.choices c.requires.0 c.requires.1 c.requires.2 c.requires.3)

sized : (c : After-append_phases-feed) → length c.append_phases-feed.new.out ≡ length c.args.out.now
sized c = c.append_phases-feed.auto.out ∙ c.append_buses-phases.auto.out ∙ c.append_number-buses.auto.out

pub append_buses-phases-requires : goal.append_buses-phases-requires
append_buses-phases-requires c = (
  c.requires.2,
  c.requires.3,
  omega (
    arith,
    c.append_number-buses.auto,
    c.append_number-buses.ensures.end,
    decimal_length 3 c.args.i
        c.requires.0,
    c.requires,
  ),
)

pub append_phases-feed-requires : goal.append_phases-feed-requires
append_phases-feed-requires c = (
  c.requires.4,
  omega (
    arith,
    c.append_buses-phases.auto,
    c.append_buses-phases.ensures.end,
    c.append_number-buses.ensures.end,
    decimal_length 3 c.args.i c.requires.0,
    buses_length c.args.choices c.args.n c.requires.2 c.requires.3,
    c.requires.4.few,
    c.requires,
  ),
)

pub bounds-out-feed : goal.bounds-out-feed
bounds-out-feed c = omega (arith, (stored (goal.at.bounds-out-feed c).After-append_phases-feed).end, fits (goal.at.bounds-out-feed c).After-append_phases-feed, sized (goal.at.bounds-out-feed c).After-append_phases-feed)

pub overflow_add-result : goal.overflow_add-result
overflow_add-result c = omega (arith, (stored (goal.at.overflow_add-result c).After-append_phases-feed).end, fits (goal.at.overflow_add-result c).After-append_phases-feed, c.well_formed)

pub shape_of-out : goal.shape_of-out
shape_of-out c = simp length-set (sized (goal.at.shape_of-out c).After-append_phases-feed)

pub returns : goal.returns
returns c = let whole = appended_all (stored (goal.at.returns c).After-append_phases-feed) (fits (goal.at.returns c).After-append_phases-feed) in record { bytes = whole.0; end = whole.1 }
