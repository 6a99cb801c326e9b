-- `cases::health_at` meets its contract.
use Rattle.cases.proofs.health_at.Goals as goal

pub returns : goal.returns
returns c = cc
