-- `paths::search` meets its contract. Both loops' invariants: nothing is found yet, and the whole search is the search of what
-- is left.
use Rattle.model.specs.Laws.Tests.{auto}
use mathlib.Core.Path.{◌∙◌}
use Rattle.paths.specs.Search.{place_there, place_number, place_source, place_inside, left_start, left_source, left_out, left_miss, left_hit, left_next, left_none}
use Rattle.paths.proofs.search.Goals as goal
use Rattle.paths.proofs.search.Goals.{then-candidate+else-paths-test, else-candidate}

pub sources-init : goal.sources-init
sources-init c = left_start _ _ _ _ _

pub candidate-requires-clause-place : goal.candidate-requires-clause-place
candidate-requires-clause-place c =
    let i = place_inside {r = c.sources.r} (search auto) (search auto) c.requires.row in place_there (search auto) (search auto) c.requires.row

pub candidate-requires-clause-number : goal.candidate-requires-clause-number
candidate-requires-clause-number c =
    let i = place_inside {r = c.sources.r} (search auto) (search auto) c.requires.row in (place_number (search auto) (search auto) c.requires.row, search auto)

pub source-g-requires-clause-place : goal.source-g-requires-clause-place
source-g-requires-clause-place c = place_there (search auto) (search auto) c.requires.row

pub source-g-requires-clause-number : goal.source-g-requires-clause-number
source-g-requires-clause-number c = place_number (search auto) (search auto) c.requires.row

pub high_rises-high-requires : goal.high_rises-high-requires
high_rises-high-requires c =
    (search auto, rw c.source-g.ensures (place_inside (search auto) (search auto) c.requires.row), search auto)

pub permitted-requires : goal.permitted-requires
permitted-requires c =
    (search auto, rw c.source-g.ensures (place_inside (search auto) (search auto) c.requires.row), search auto)

pub paths-init : goal.paths-init
paths-init c = left_source c.sources.r (search auto) (search auto) c.sources.invariant

pub paths-preserved : goal.paths-preserved
paths-preserved c =
    let g = c.source-g.ensures ∙ place_source (search auto) (search auto) c.requires.row in
    left_miss c.sources.r c.paths.rising-index (search auto) g c.high_rises-high.ensures c.permitted.ensures c.paths.invariant c.if-permitted.false

pub sources-preserved : goal.sources-preserved
sources-preserved c =
    let i = place_inside {r = c.sources.r} (search auto) (search auto) c.requires.row in
    let g = place_source {r = c.sources.r} (search auto) (search auto) c.requires.row in
    elim c.if-candidate.branch [
      | then-candidate+else-paths-test w ↦ rw w.found-is (left_next c.sources.r w.paths.rising-index (search auto) w.paths.invariant)
      | else-candidate w ↦ rw w.found-is
          (left_out c.sources.r (search auto) (search auto) i g c.candidate.ensures w.if-candidate.false c.sources.invariant)
    ]

pub returns-after-sources : goal.returns-after-sources
returns-after-sources c = left_none c.sources.r (search auto) (search auto) c.sources.invariant

pub returns-then-permitted : goal.returns-then-permitted
returns-then-permitted c =
    left_hit c.sources.r c.paths.rising-index (search auto)
    (c.source-g.ensures ∙ place_source (search auto) (search auto) c.requires.row)
    c.high_rises-high.ensures c.permitted.ensures c.paths.invariant
    (rw (← c.source-g.ensures) at c.candidate.ensures) c.if-candidate.true c.if-permitted.true
