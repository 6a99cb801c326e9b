-- `partsets::with_faults` meets its contract. The loop's invariant: the faults of all places are those of the rest, after the faults so far.
use Rattle.std.proofs.Common.{sym, ◌∙◌, arith}
use Rattle.model.specs.Reports.{health_of}
use Rattle.partsets.specs.Sets.{fault_step, fault_end}
use Rattle.partsets.proofs.with_faults.Goals as goal

pub failed-after-requires : goal.failed-after-requires
failed-after-requires c = (c.requires.1 c.loop-place.place-index (omega arith), c.requires.0)

pub loop-place-preserved : goal.loop-place-preserved
loop-place-preserved c =
    c.loop-place.invariant
    ∙ rw c.failed-after.ensures (fault_step c.args.n (health_of c.loop-place.after) c.args.places.now c.loop-place.place-index (omega arith))

pub returns : goal.returns
returns c =
    sym (c.loop-place.invariant ∙ fault_end c.args.n (health_of c.loop-place.after) c.args.places.now c.loop-place.place-index (omega arith))
