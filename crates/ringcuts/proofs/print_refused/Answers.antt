-- Safe: the text of a refusal fits the buffer.
use Rattle.std.proofs.Common.{sym, length-take-le}
use Rattle.model.specs.Laws.Appended.{stored_fits}
use Rattle.ringcuts.proofs.print_refused.Goals as goal

pub slice_bounds-write_all-end : goal.slice_bounds-write_all-end
slice_bounds-write_all-end g c =
    let t = c.refused_text-length.ensures in
    stored_fits (record { bytes = t.bytes; sized = t.end })

pub slice_bounds-write_all-end-2 : goal.slice_bounds-write_all-end-2
slice_bounds-write_all-end-2 g c =
    let t = c.refused_text-length.ensures in
    sym (length-take-le _ _ (stored_fits (record { bytes = t.bytes; sized = t.end })))
