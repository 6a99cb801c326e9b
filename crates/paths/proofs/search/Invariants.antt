-- `paths::search` meets its contract. Both loops' invariants: nothing is found yet, and the whole search is the search of what
-- is left.
use Rattle.paths.specs.Search.{paths_after, paths_left, Left}
use Rattle.paths.proofs.search.Given as goal

abbrev pub invariant-paths : goal.invariant-paths
invariant-paths l = Left l.n l.usable l.breakers l.owners l.b l.found (paths_left l.n l.b l.r l.rising-index)

abbrev pub invariant-sources : goal.invariant-sources
invariant-sources l = Left l.n l.usable l.breakers l.owners l.b l.found (paths_after l.n l.b l.r)
