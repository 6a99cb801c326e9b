-- `datasheets::rate_at` meets its contract.
use Rattle.datasheets.proofs.rate_at.Goals as goal

pub returns : goal.returns
returns c = cc
