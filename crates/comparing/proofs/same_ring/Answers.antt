-- `comparing::same_ring` meets its contract: the derived test tells that the rings are the same.
use Rattle.std.proofs.Common.{sym, ◌∙◌}
use Rattle.comparing.specs.Comparing.{same_rings}
use Rattle.comparing.proofs.same_ring.Goals as goal

pub returns : goal.returns
returns c e = same_rings _ _ (sym c.eq.ensures ∙ e)
