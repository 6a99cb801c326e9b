-- `sheet::write` meets its contract: the sheet is laid out where it fits.
use mathlib.Core.Path.{◌≡◌, sym, ◌∙◌}
use mathlib.Core.List.{List, map}
use Prim.Native.Nat.{ℕ, ◌+◌, ◌*◌, ◌≤◌}
use native.Mathlib.Omega.{arith}
use lib.ListN.{length, take}
use lib.Seq.{length-take-le}
use Rattle.model.specs.Values.{part_code}
use Rattle.model.specs.Sheet.{closing}
use Rattle.model.specs.Reports.{commands_of}
use Rattle.model.specs.Laws.Tests.{facts}
use Rattle.model.specs.Laws.Appended.{appended_length, appended_front}
use Rattle.phases.specs.Codes.{opening_codes}
use Rattle.layout.specs.Layout.{layout}
use Rattle.sequences.specs.Outward.{named_paths}
use Rattle.sheet.specs.Writing.{sheet_by, all_inside, closing_counted, sheet_length_lem, sheet_laid, write_refused, write_served}
use Rattle.sheet.proofs.write.Goals as goal
use Rattle.sheet.proofs.write.Goals.{After-opening-counts, After-closing}

-- the sheet
abbrev bytes : After-opening-counts → List ℕ
bytes d = sheet_by d.args.n d.args.old d.args.new d.args.choices

-- the counts are the phases' sizes
counted : (d : After-opening-counts)
    → (length (bytes d) ≡ 2 + 2 * (d.opening-counts.result.opening + d.opening-counts.result.closing)) × (length (bytes d) ≤ 122)
counted d =
    sheet_length_lem d.args.n d.requires.size d.args.old d.args.new d.args.choices _ d.requires.planned.1 d.requires.planned.2
    (omega (arith, d.opening-counts.ensures.opening_phase.end))
    d.opening-counts.ensures.closing_count

-- what is laid out of the arrays
abbrev laid : After-closing → List ℕ
laid e =
    layout
    (take e.opening-counts.result.opening e.opening-counts.new.opening)
    (take e.opening-counts.result.closing e.closing.new.codes)

-- the codes that the arrays hold are the phases'
made : (e : After-closing)
    → (let sheet = sheet_by e.args.n e.args.old e.args.new e.args.choices in
    (length sheet ≡ 2 + 2 * (e.opening-counts.result.opening + e.opening-counts.result.closing)) × (length sheet ≤ 122) → laid e ≡ sheet)
made e s =
    let o : length (opening_codes e.args.n e.args.old e.args.new) ≤ 60 = omega (arith, s, e.opening-counts.ensures.opening_phase.end) in
    let k : length (map part_code (closing e.args.n (commands_of e.args.old) (named_paths e.args.n e.args.choices))) ≤ 60 =
    omega (arith, s, e.closing.ensures.end) in
    rw (appended_front e.opening-counts.ensures.opening_phase o, appended_front e.closing.ensures k)
    (sym (sheet_laid e.args.n e.args.old e.args.new e.args.choices))

pub overflow_add-size : goal.overflow_add-size
overflow_add-size c = omega (arith, counted (goal.at.overflow_add-size c).After-opening-counts)

pub overflow_mul-size : goal.overflow_mul-size
overflow_mul-size c = omega (arith, counted (goal.at.overflow_mul-size c).After-opening-counts)

pub overflow_add-size-2 : goal.overflow_add-size-2
overflow_add-size-2 c = omega (arith, counted (goal.at.overflow_add-size-2 c).After-opening-counts)

pub returns-then-room-size : goal.returns-then-room-size
returns-then-room-size c = let whole = write_refused _ _ (omega (arith, facts, counted (goal.at.returns-then-room-size c).After-opening-counts)) in record { answer = whole.0; number = whole.1.0; bytes = whole.1.1 }

pub closing-requires-clause-size : goal.closing-requires-clause-size
closing-requires-clause-size c = c.requires.size

pub closing-requires-clause-named : goal.closing-requires-clause-named
closing-requires-clause-named c = all_inside c.args.n c.requires.size c.args.old c.args.new c.args.choices _ c.requires.planned.1 c.requires.planned.2

pub closing-requires-clause-counted : goal.closing-requires-clause-counted
closing-requires-clause-counted c = c.opening-counts.ensures.closing_count ∙ closing_counted c.args.n c.requires.size c.args.old c.args.new c.args.choices _ c.requires.planned.1 c.requires.planned.2

pub closing-requires-clause-fits : goal.closing-requires-clause-fits
closing-requires-clause-fits c = omega (arith, counted (goal.at.closing-requires-clause-fits c).After-opening-counts)

pub slice_bounds-lay_out-end : goal.slice_bounds-lay_out-end
slice_bounds-lay_out-end c = omega (arith, facts)

pub slice_bounds-lay_out-end-2 : goal.slice_bounds-lay_out-end-2
slice_bounds-lay_out-end-2 c =
    sym (length-take-le _ _ (omega (arith, facts, counted (goal.at.slice_bounds-lay_out-end-2 c).After-opening-counts)))

pub lay_out-requires-clause-opening_held : goal.lay_out-requires-clause-opening_held
lay_out-requires-clause-opening_held c = appended_length c.opening-counts.ensures.opening_phase

pub lay_out-requires-clause-closing_held : goal.lay_out-requires-clause-closing_held
lay_out-requires-clause-closing_held c = appended_length c.closing.ensures

pub lay_out-requires-clause-opening_most : goal.lay_out-requires-clause-opening_most
lay_out-requires-clause-opening_most c = omega (arith, counted (goal.at.lay_out-requires-clause-opening_most c).After-opening-counts)

pub lay_out-requires-clause-closing_most : goal.lay_out-requires-clause-closing_most
lay_out-requires-clause-closing_most c = omega (arith, counted (goal.at.lay_out-requires-clause-closing_most c).After-opening-counts)

pub lay_out-requires-clause-exact : goal.lay_out-requires-clause-exact
lay_out-requires-clause-exact c =
    length-take-le _ c.args.buffer.now (omega (arith, facts, counted (goal.at.lay_out-requires-clause-exact c).After-opening-counts))

pub returns : goal.returns
returns c =
    let d = (goal.at.returns c).After-opening-counts in
    let e = (goal.at.returns c).After-closing in
    let whole = write_served (bytes d) c.args.buffer.now (omega (arith, facts, counted d)) _ _
    (◌∙◌ {b = laid e} c.lay_out.ensures (made e (counted d))) (sym (counted d).0) in
    record { answer = whole.0; number = whole.1.0; bytes = whole.1.1 }
