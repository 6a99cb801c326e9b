-- `loads::state_at` meets its contract.
use Rattle.loads.proofs.state_at.Goals as goal

pub returns : goal.returns
returns c = cc
