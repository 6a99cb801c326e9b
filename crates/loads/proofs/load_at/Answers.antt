-- `loads::load_at` meets its contract.
use Rattle.loads.proofs.load_at.Goals as goal

pub returns : goal.returns
returns c = cc
