-- `cutsets::search` meets its contract. The measure: parts left plus faults left.
use Rattle.std.specs.Prelude.{◌+◌}
use Rattle.cutsets.proofs.+search.Given as goal

abbrev pub decreases-search : goal.decreases-search
decreases-search l = l.parts + l.faults
