-- `cases::ring_at` meets its contract.
use Rattle.cases.proofs.ring_at.Goals as goal

pub returns : goal.returns
returns c = cc
