-- Safe: the texts fit, and a started ring is a good one.
use Rattle.std.proofs.Common.{rules, sym, ◌∙◌, length-take-le, arith}
use Rattle.model.specs.Laws.Appended.{stored_fits}
use Rattle.model.specs.Laws.Refusals.{size_bounds}
use Rattle.calls.specs.Served.{start_good}
use Rattle.ringscan.proofs.print_ring.Goals as goal

-- the text of the refusal
pub slice_bounds-write_all-end : goal.slice_bounds-write_all-end
slice_bounds-write_all-end g c =
    let t = c.refused_text-length.ensures in
    stored_fits (record { bytes = t.bytes; sized = t.end })

pub slice_bounds-write_all-end-then-size_outside :
    goal.slice_bounds-write_all-end-then-size_outside
slice_bounds-write_all-end-then-size_outside g c =
    let t = c.refused_text-length.ensures in
    sym (length-take-le _ _ (stored_fits (record { bytes = t.bytes; sized = t.end })))

-- n is a ring's
pub start_line-line-requires : goal.start_line-line-requires
start_line-line-requires g c =
    let size = size_bounds _ (sym c.size_outside.ensures ∙ c.if-size_outside.false) in
    (omega (arith, size.0), omega (arith, size.1), search rules)

-- the start's line
pub slice_bounds-write_all-end-2 : goal.slice_bounds-write_all-end-2
slice_bounds-write_all-end-2 g c = stored_fits c.start_line-line.ensures.stored

pub slice_bounds-write_all-end-3 : goal.slice_bounds-write_all-end-3
slice_bounds-write_all-end-3 g c = sym (length-take-le _ _ (stored_fits c.start_line-line.ensures.stored))

pub print_scans-requires : goal.print_scans-requires
print_scans-requires g c =
    let size = size_bounds _ (sym c.size_outside.ensures ∙ c.if-size_outside.false) in
    (rw c.start_line-line.ensures.ring_is (start_good _ (omega (arith, size.0)) (omega (arith, size.1))), search rules)
