-- `answers::word_of` meets its contract: a word's number is read as the word.
use Rattle.answers.specs.Answers.{word_answer_lem}
use Rattle.answers.proofs.word_of.Goals as goal

pub returns : goal.returns
returns c w e = rw (c.unwrap_or.ensures, c.word_of.ensures.answer, word_answer_lem _ w e)
