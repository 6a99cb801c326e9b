-- `rings::refused_by` meets its contract: the number that is handed on is the refusal's.
use Rattle.std.proofs.Common.{◌∙◌, ap}
use Rattle.model.specs.Answers.{refused_answer}
use Rattle.rings.proofs.refused_by.Goals as goal

pub returns : goal.returns
returns c = c.refused.ensures ∙ ap (λ k. refused_answer k c.args.ring) c.refusal_number.ensures
