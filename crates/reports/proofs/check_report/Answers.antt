-- `reports::check_report` meets its contract: condition 5, then those of the word.
use Rattle.model.specs.Values.{refusal_of, outcome_of}
use Rattle.model.specs.Refusals.{first_met, report_conditions}
use Rattle.model.specs.Laws.Refusals.{outcome_is}
use Rattle.reports.specs.Reports.{word_conditions}
use Rattle.reports.proofs.check_report.Goals as goal

pub returns-then-not_of_ring : goal.returns-then-not_of_ring
unfolding outcome_of refusal_of first_met report_conditions word_conditions
returns-then-not_of_ring c = let whole = outcome_is _ _ (rw (← c.not_of_ring.ensures, c.if-not_of_ring.true)) in record { answer = whole.0; number = whole.1 }

pub returns-else-not_of_ring : goal.returns-else-not_of_ring
unfolding outcome_of refusal_of first_met report_conditions word_conditions
returns-else-not_of_ring c = let whole = outcome_is _ _ (rw (← c.not_of_ring.ensures, c.if-not_of_ring.false) c.check_word.ensures) in record { answer = whole.0; number = whole.1 }
