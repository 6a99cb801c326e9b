-- `scans::check` meets its contract. The loop's invariant: the reports before the i-th are not refused.
use Rattle.std.proofs.Common.{arith}
use Rattle.std.proofs.lemmas.Result.{err_from_is_err_and}
use Rattle.scans.specs.Reports.{none_passed, all_passed, report_good, report_bad}
use Rattle.scans.proofs.check.Goals as goal

pub loop-report-init : goal.loop-report-init
loop-report-init c = none_passed _ _

pub returns-in_err-check_report : goal.returns-in_err-check_report
returns-in_err-check_report c =
    let p = err_from_is_err_and c.from_residual.result c.from_residual.ensures.1 in
    let whole = report_bad _ _ c.loop-report.report-index _ (omega arith) c.loop-report.invariant _ c.check_report.ensures.answer _
    c.in_err-check_report.was in
    rw (p.1, p.2) (record { answer = whole.0; number = whole.1 })

pub loop-report-preserved : goal.loop-report-preserved
loop-report-preserved c =
    report_good _ _ c.loop-report.report-index _ (omega arith) c.loop-report.invariant _ c.check_report.ensures.answer c.in_ok-check_report.was

pub returns : goal.returns
returns c =
    let whole = all_passed _ _ c.loop-report.report-index (omega arith) c.loop-report.invariant in record { answer = whole.0; number = whole.1 }
