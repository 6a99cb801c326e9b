-- `cases::commands_at` meets its contract.
use Rattle.cases.proofs.commands_at.Goals as goal

pub returns : goal.returns
returns c = cc
