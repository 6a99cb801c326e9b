-- `answers::same` meets its contract.
use Rattle.model.specs.Laws.Tests.{never}
use Rattle.answers.proofs.same.Goals as goal

pub returns-then-not-same_record : goal.returns-then-not-same_record
returns-then-not-same_record c e = never cc

pub returns : goal.returns
returns c e =
    record { record_in = c.same_record.ensures (c.if-not-same_record.false); choices = c.same_choices.ensures e }
