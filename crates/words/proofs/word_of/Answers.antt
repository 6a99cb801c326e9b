-- `words::word_of` meets its contract: each byte is the number of the word that it names.
use native.Mathlib.Omega.{arith}
use Rattle.model.specs.declared.Word.TheVariants.{Fit, StuckOff, StuckOpen, StuckClosed, Lock, Unlock}
use Rattle.words.specs.Words.{word_of_number, word_above}
use Rattle.words.proofs.word_of.Goals as goal

pub returns-in-0 : goal.returns-in-0
returns-in-0 c = let whole = word_of_number _ Fit c.in-0.is in record { answer = whole.0; values = whole.1 }

pub returns-in-1 : goal.returns-in-1
returns-in-1 c = let whole = word_of_number _ StuckOff c.in-1.is in record { answer = whole.0; values = whole.1 }

pub returns-in-2 : goal.returns-in-2
returns-in-2 c = let whole = word_of_number _ StuckOpen c.in-2.is in record { answer = whole.0; values = whole.1 }

pub returns-in-3 : goal.returns-in-3
returns-in-3 c = let whole = word_of_number _ StuckClosed c.in-3.is in record { answer = whole.0; values = whole.1 }

pub returns-in-4 : goal.returns-in-4
returns-in-4 c = let whole = word_of_number _ Lock c.in-4.is in record { answer = whole.0; values = whole.1 }

pub returns-in-5 : goal.returns-in-5
returns-in-5 c = let whole = word_of_number _ Unlock c.in-5.is in record { answer = whole.0; values = whole.1 }

pub returns-in_default : goal.returns-in_default
returns-in_default c = let whole = word_above _ (omega arith) in record { answer = whole.0; values = whole.1 }
