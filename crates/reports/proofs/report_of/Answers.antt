-- `reports::report_of` meets its contract: the code's answer, then the word's, then the report's conditions.
use Rattle.std.proofs.Common.{◌∙◌}
use Rattle.std.proofs.lemmas.Result.{err_from_is_err_and}
use Rattle.reports.specs.Reports.{code_refused, word_refused, both_named}
use Rattle.reports.proofs.report_of.Goals as goal

pub returns-in_err-part : goal.returns-in_err-part
returns-in_err-part c =
    let p = err_from_is_err_and c.from_residual.result c.from_residual.ensures.1 in
    rw (p.1, p.2) (code_refused _ _ _ _ c.part_of.ensures.answer _ c.in_err-part.was)

pub returns-in_err-word : goal.returns-in_err-word
returns-in_err-word c =
    let p = err_from_is_err_and c.from_residual-in_err-word.result c.from_residual-in_err-word.ensures.1 in
    rw (p.1, p.2) (word_refused _ _ _ _ c.part_of.ensures.answer _ c.in_ok-part.was _ c.word_of.ensures.answer _ c.in_err-word.was)

pub returns : goal.returns
returns c = c.checked_report.ensures ∙ both_named _ _ _ _ c.part_of.ensures.answer _ c.in_ok-part.was _ c.word_of.ensures.answer _ c.in_ok-word.was
