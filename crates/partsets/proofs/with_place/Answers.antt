-- `partsets::with_place` meets its contract.
use borrow.Author.Rules.{rules}
use Rattle.partsets.specs.Sets.{with_place}
use Rattle.partsets.proofs.with_place.Goals as goal

pub returns : goal.returns
unfolding with_place
returns c = search rules
