-- `partsets::with_faults` meets its contract. The loop's invariant: the faults of all places are those of the rest, after the faults so far.
use Rattle.std.proofs.Common.{◌≡◌, map, drop}
use Rattle.model.specs.Reports.{health_of}
use Rattle.model.specs.CutSets.{with_faults}
use Rattle.faults.specs.Places.{part_at}
use Rattle.partsets.proofs.with_faults.Given as goal

abbrev pub invariant-loop-place : goal.invariant-loop-place
invariant-loop-place l =
    with_faults (health_of l.initial.after) (map (part_at l.n) l.places) ≡ with_faults (health_of l.after) (map (part_at l.n) (drop l.place-index l.places))
