-- `answers::same_record` meets its contract.
use mathlib.Core.Path.{sym, ◌∙◌}
use Rattle.model.specs.Laws.Tests.{never}
use Rattle.answers.proofs.same_record.Goals as goal

pub returns-then-outcome_number-case : goal.returns-then-outcome_number-case
returns-then-outcome_number-case c e = never cc

pub returns : goal.returns
returns c e =
    record {
      numbered = sym c.outcome_number.ensures ∙ c.if-outcome_number-case.false;
      recorded = c.same_state.ensures e ∙ c.state_at.ensures;
    }
