-- `scans::check` meets its contract. The loop's invariant: the reports before the i-th are not refused.
use Rattle.scans.specs.Reports.{DecidedFrom}
use Rattle.scans.proofs.check.Given as goal

abbrev pub invariant-loop-report : goal.invariant-loop-report
invariant-loop-report l = DecidedFrom l.n l.report-items l.report-index
