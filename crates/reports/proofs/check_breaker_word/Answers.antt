-- `reports::check_breaker_word` meets its contract: the conditions compute at each word.
use Rattle.model.specs.Values.{refusal_of, outcome_of}
use Rattle.model.specs.Refusals.{first_met, word_of_other_kind}
use Rattle.reports.specs.Reports.{word_conditions}
use Rattle.reports.proofs.check_breaker_word.Goals as goal

pub returns-in-Fit : goal.returns-in-Fit
unfolding outcome_of refusal_of first_met word_of_other_kind word_conditions
returns-in-Fit c = rw c.in-Fit.is

pub returns-in-StuckOff : goal.returns-in-StuckOff
unfolding outcome_of refusal_of first_met word_of_other_kind word_conditions
returns-in-StuckOff c = rw c.in-StuckOff.is

pub returns-in-StuckOpen : goal.returns-in-StuckOpen
unfolding outcome_of refusal_of first_met word_of_other_kind word_conditions
returns-in-StuckOpen c = rw c.in-StuckOpen.is

pub returns-in-StuckClosed : goal.returns-in-StuckClosed
unfolding outcome_of refusal_of first_met word_of_other_kind word_conditions
returns-in-StuckClosed c = rw c.in-StuckClosed.is

pub returns-in-Lock : goal.returns-in-Lock
unfolding outcome_of refusal_of first_met word_of_other_kind word_conditions
returns-in-Lock c = rw c.in-Lock.is

pub returns-in-Unlock : goal.returns-in-Unlock
unfolding outcome_of refusal_of first_met word_of_other_kind word_conditions
returns-in-Unlock c = rw c.in-Unlock.is
