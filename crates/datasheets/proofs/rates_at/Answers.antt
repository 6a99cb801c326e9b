-- `datasheets::rates_at` meets its contract.
use Rattle.datasheets.proofs.rates_at.Goals as goal

pub returns : goal.returns
returns c = cc
