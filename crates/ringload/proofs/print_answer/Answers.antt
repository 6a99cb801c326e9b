-- Safe: the line of figures fits, and so does the text of a refusal.
use Rattle.std.proofs.Common.{sym, length-take-le}
use Rattle.model.specs.Laws.Appended.{stored_fits}
use Rattle.ringload.proofs.print_answer.Goals as goal

pub slice_bounds-write_all-end : goal.slice_bounds-write_all-end
slice_bounds-write_all-end g c =
    let t = c.figures_line-length.ensures in
    stored_fits (record { bytes = t.bytes; sized = t.end })

pub slice_bounds-write_all-end-in-Ok : goal.slice_bounds-write_all-end-in-Ok
slice_bounds-write_all-end-in-Ok g c =
    let t = c.figures_line-length.ensures in
    sym (length-take-le _ _ (stored_fits (record { bytes = t.bytes; sized = t.end })))

pub slice_bounds-write_all-end-in-Err : goal.slice_bounds-write_all-end-in-Err
slice_bounds-write_all-end-in-Err g c =
    let t = c.refused_text-length.ensures in
    stored_fits (record { bytes = t.bytes; sized = t.end })

pub slice_bounds-write_all-end-in-Err-2 : goal.slice_bounds-write_all-end-in-Err-2
slice_bounds-write_all-end-in-Err-2 g c =
    let t = c.refused_text-length.ensures in
    sym (length-take-le _ _ (stored_fits (record { bytes = t.bytes; sized = t.end })))
