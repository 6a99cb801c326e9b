-- Safe: each scan gets a good ring state, and its text fits.
use Rattle.std.proofs.Common.{sym, length-take-le}
use Rattle.model.specs.Laws.Appended.{stored_fits}
use Rattle.ringscan.proofs.print_scans.Goals as goal

pub slice_bounds-write_all-end : goal.slice_bounds-write_all-end
slice_bounds-write_all-end g c = stored_fits c.scan_text-line.ensures.stored

pub slice_bounds-write_all-end-in-loop-i : goal.slice_bounds-write_all-end-in-loop-i
slice_bounds-write_all-end-in-loop-i g c = sym (length-take-le _ _ (stored_fits c.scan_text-line.ensures.stored))
