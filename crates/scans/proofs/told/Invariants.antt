-- `scans::told` meets its contract. The loop's invariant: the ring is told the reports before the i-th.
use Rattle.std.proofs.Common.{◌≡◌}
use Rattle.scans.specs.Reports.{told_first}
use Rattle.scans.proofs.told.Given as goal

abbrev pub invariant-loop-report : goal.invariant-loop-report
invariant-loop-report l = l.next ≡ told_first l.initial.next l.report-items l.report-index
