-- `cutsets::refused` meets its contract.
use Rattle.model.specs.CutSets.{refused_cut_sets}
use Rattle.model.specs.Laws.Refusals.{refusal_named}
use Rattle.cutsets.proofs.refused.Goals as goal

pub returns : goal.returns
unfolding refused_cut_sets
returns c buffer = rw (refusal_named c.args.refusal)
