-- `loads::booking_at` meets its contract.
use Rattle.loads.proofs.booking_at.Goals as goal

pub returns : goal.returns
returns c = cc
