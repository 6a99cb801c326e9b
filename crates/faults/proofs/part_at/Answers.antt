-- `faults::part_at` meets its contract: by the range of the place.
use Rattle.std.proofs.Common.{add-one}
use Rattle.faults.specs.Places.{in_first, in_second, in_third}
use Rattle.faults.proofs.part_at.Goals as goal

pub returns-then-p-n-clause-part : goal.returns-then-p-n-clause-part
returns-then-p-n-clause-part c = rw (in_first c.args.n c.args.p c.if-p-n.true, add-one)

pub returns-then-p-n-2-clause-part : goal.returns-then-p-n-2-clause-part
returns-then-p-n-2-clause-part c = rw (in_second c.args.n c.args.p c.if-p-n.false c.if-p-n-2.true, add-one)

pub returns-else-p-n-2-clause-part : goal.returns-else-p-n-2-clause-part
returns-else-p-n-2-clause-part c = rw (in_third c.args.n c.args.p c.if-p-n-2.false, add-one)
