-- Safe: no more cases are counted than turns are made.
use Rattle.std.proofs.Common.{◌≤◌}
use Rattle.tally.proofs.run.Given as goal

abbrev pub invariant-loop : goal.invariant-loop
invariant-loop g l = (l.tally.cases ≤ l.counter) × (l.tally.differ ≤ l.counter)
