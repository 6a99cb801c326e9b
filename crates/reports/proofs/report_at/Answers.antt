-- `reports::report_at` meets its contract.
use mathlib.Core.Path.{◌∙◌}
use mathlib.Core.Logic.{⊎_elim}
use Rattle.reports.specs.Reports.{report_gives, past_codes, past_words, within_both}
use Rattle.reports.proofs.report_at.Goals as goal

pub returns-then-codes-i : goal.returns-then-codes-i
returns-then-codes-i c = let whole = report_gives _ _ _ _ _
    (⊎_elim (λ w. past_codes _ _ _ _ w) (λ w. past_words _ _ _ _ w.1) c.then-codes-i.either) in record { answer = whole.0; values = whole.1 }

pub returns : goal.returns
returns c = let whole = report_gives _ _ _ _ _ (c.report_of.ensures ∙ search within_both) in record { answer = whole.0; values = whole.1 }
