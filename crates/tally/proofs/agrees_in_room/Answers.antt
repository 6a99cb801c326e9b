-- `tally::agrees_in_room` meets its contract: the call is lent the first bytes of the buffer.
use Rattle.std.proofs.Common.{ℕ, arith}
use Rattle.std.proofs.lemmas.List.{take-replicate}
use Rattle.tally.proofs.agrees_in_room.Goals as goal

pub returns-clause-agrees : goal.returns-clause-agrees
returns-clause-agrees g c e = (_, rw (take-replicate {X = ℕ} c.args.room 1024 170 (omega arith)) at (c.agrees_on.ensures e))
