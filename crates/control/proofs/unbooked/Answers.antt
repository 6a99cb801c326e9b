-- `control::unbooked` meets its contract: a refusal's number names it.
use Rattle.model.specs.Laws.Refusals.{refusal_named}
use Rattle.control.proofs.unbooked.Goals as goal

pub returns : goal.returns
returns c = rw (refusal_named c.args.refusal)
