-- `exposure::refused` meets its contract.
use Rattle.exposure.specs.Bytes.{refused_exposure}
use Rattle.exposure.proofs.refused.Goals as goal

pub returns : goal.returns
unfolding refused_exposure
returns c = rw c.no_figures.ensures
