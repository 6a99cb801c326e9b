-- Safe: each scan gets a good ring state, and its text fits.
use Rattle.std.proofs.Common.{◌≡◌, false, ◌≤◌, length}
use Rattle.model.specs.Refusals.{bad_ring}
use Rattle.model.specs.Text.{line_room}
use Rattle.ringscan.proofs.print_scans.Given as goal

abbrev pub invariant-loop-i : goal.invariant-loop-i
invariant-loop-i g l = (bad_ring l.ring ≡ false) × (line_room ≤ length l.out) × (length l.out ≡ length l.initial.out)
