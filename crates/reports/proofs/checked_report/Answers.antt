-- `reports::checked_report` meets its contract.
use Rattle.std.proofs.Common.{Ok, Err, Some}
use Rattle.std.proofs.lemmas.Result.{err_from_is_err_and}
use Rattle.model.specs.Refusals.{report_of}
use Rattle.model.specs.Laws.Refusals.{when_served, when_refused}
use Rattle.reports.proofs.checked_report.Goals as goal

pub returns-in_err-check_report : goal.returns-in_err-check_report
unfolding report_of
returns-in_err-check_report c =
    let p = err_from_is_err_and c.from_residual.result c.from_residual.ensures.1 in
    rw (p.1, p.2) (when_refused (Ok (Some c.args.report)) Err _ _ c.check_report.ensures.answer _ c.in_err-check_report.was)

pub returns : goal.returns
unfolding report_of
returns c = when_served _ Err _ _ c.check_report.ensures.answer c.in_ok-check_report.was
