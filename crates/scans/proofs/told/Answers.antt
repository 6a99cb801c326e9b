-- `scans::told` meets its contract. The loop's invariant: the ring is told the reports before the i-th.
use Rattle.std.proofs.Common.{arith}
use Rattle.scans.specs.Reports.{told_none, told_more, told_every}
use Rattle.scans.proofs.told.Goals as goal

pub loop-report-init : goal.loop-report-init
loop-report-init c = told_none _ _

pub loop-report-preserved : goal.loop-report-preserved
loop-report-preserved c = told_more _ _ c.loop-report.report-index _ (omega arith) c.loop-report.invariant c.told-next.ensures

pub returns : goal.returns
returns c = told_every _ _ c.loop-report.report-index (omega arith) c.loop-report.invariant
