-- `files::check_reports` meets its contract. The loop's invariant: the reports before the i-th are not refused.
use mathlib.Core.Path.{refl}
use borrow.Author.Rules.{rules}
use Rattle.std.proofs.Common.{◌∙◌, ap, Ok}
use Rattle.std.proofs.lemmas.Result.{err_from_is_err_and}
use Rattle.files.specs.Sequence.{reports_done, report_read, report_refused, report_missing}
use Rattle.files.proofs.check_reports.Goals as goal

pub loop-i-init : goal.loop-i-init
loop-i-init c = (refl, search rules)

pub returns-in_err-report_at : goal.returns-in_err-report_at
returns-in_err-report_at c =
    let p = err_from_is_err_and c.from_residual.result c.from_residual.ensures.1 in
    rw (p.1, p.2) (report_refused _ _ _ _ c.loop-i.invariant.0 _ c.report_at.ensures.answer _ c.in_err-report_at.was)

pub returns-in_default : goal.returns-in_default
returns-in_default c = report_missing _ _ _ _ c.loop-i.invariant.0 _ c.report_at.ensures.answer (c.in_ok-report_at.was ∙ ap Ok c.in_default.is)

pub loop-i-preserved : goal.loop-i-preserved
loop-i-preserved c = (report_read _ _ _ _ c.loop-i.invariant.0 _ c.report_at.ensures.answer _ (c.in_ok-report_at.was ∙ ap Ok c.in-Some.is), search rules)

-- every report is looked at
pub returns : goal.returns
returns c = search (reports_done, rules)
