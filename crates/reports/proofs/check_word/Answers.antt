-- `reports::check_word` meets its contract: the conditions compute at each kind and word.
use Rattle.model.specs.Values.{refusal_of, outcome_of}
use Rattle.model.specs.Refusals.{first_met, word_of_other_kind}
use Rattle.reports.specs.Reports.{word_conditions}
use Rattle.reports.proofs.check_word.Goals as goal

pub returns-in-Fit : goal.returns-in-Fit
unfolding outcome_of refusal_of first_met word_of_other_kind word_conditions
returns-in-Fit c = rw (c.in-Generator.is, c.in-Fit.is)

pub returns-in-StuckOff : goal.returns-in-StuckOff
unfolding outcome_of refusal_of first_met word_of_other_kind word_conditions
returns-in-StuckOff c = rw (c.in-Generator.is, c.in-StuckOff.is)

pub returns-in-StuckOpen : goal.returns-in-StuckOpen
unfolding outcome_of refusal_of first_met word_of_other_kind word_conditions
returns-in-StuckOpen c = rw (c.in-Generator.is, c.in-StuckOpen.is)

pub returns-in-StuckClosed : goal.returns-in-StuckClosed
unfolding outcome_of refusal_of first_met word_of_other_kind word_conditions
returns-in-StuckClosed c = rw (c.in-Generator.is, c.in-StuckClosed.is)

pub returns-in-Lock : goal.returns-in-Lock
unfolding outcome_of refusal_of first_met word_of_other_kind word_conditions
returns-in-Lock c = rw (c.in-Generator.is, c.in-Lock.is)

pub returns-in-Unlock : goal.returns-in-Unlock
unfolding outcome_of refusal_of first_met word_of_other_kind word_conditions
returns-in-Unlock c = rw (c.in-Generator.is, c.in-Unlock.is)

pub returns-in-GeneratorBreaker : goal.returns-in-GeneratorBreaker
unfolding outcome_of refusal_of first_met word_of_other_kind word_conditions
returns-in-GeneratorBreaker c = rw c.in-GeneratorBreaker.is c.check_breaker_word.ensures

pub returns-in-BusBreaker : goal.returns-in-BusBreaker
unfolding outcome_of refusal_of first_met word_of_other_kind word_conditions
returns-in-BusBreaker c = rw c.in-BusBreaker.is c.check_breaker_word-in-BusBreaker.ensures
