-- `datasheets::float_at` meets its contract.
use Rattle.datasheets.proofs.float_at.Goals as goal

pub returns : goal.returns
returns c = cc
