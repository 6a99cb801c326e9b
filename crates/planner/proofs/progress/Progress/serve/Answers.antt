-- `planner::progress::Progress::serve` meets its contract: the search, by the bus's row of the table, finds the plan's path, which is taken.
use Rattle.model.specs.Laws.Tests.{auto}
use mathlib.Core.Path.{◌≡◌, ap}
use Prim.Native.Nat.{◌+◌, ◌-◌, ◌<◌}
use native.Mathlib.Omega.{arith}
use lib.ListN.{length}
use Rattle.sources.specs.Table.{table_length, row_at}
use Rattle.planner.specs.Progress.{serve_dark, serve_source, serve_path}
use Rattle.planner.specs.Kept.{kept_in}
use Rattle.planner.proofs.progress.Progress.serve.Goals as goal
use Rattle.planner.proofs.progress.Progress.serve.Goals.{In-Some}

-- the path's generator is one of the ring's
source : (c : In-Some) → c.in-Some.path.source < c.args.n
source c =
    serve_source c.args.n c.args.health c.args.b c.args.usable.now (kept_in c.args.self.now)
    c.search.result (search auto) (search auto) c.requires.fed c.requires.before c.search.ensures _ c.in-Some.is

pub slice_bounds-search-end : goal.slice_bounds-search-end
slice_bounds-search-end c = omega (arith, c.row_start-start.ensures.inside, table_length, ap length c.requires.table)

pub search-requires-clause-row : goal.search-requires-clause-row
search-requires-clause-row c =
    let e : c.row_start-start.result + c.args.n - c.row_start-start.result ≡ c.args.n = omega arith in rw (e, c.row_start-start.ensures.start, c.requires.table) (row_at c.args.n c.args.b (search auto) (search auto) (search auto))

pub take-requires : goal.take-requires
take-requires c = let l = source (goal.at.take-requires c).In-Some in search auto

pub named-requires : goal.named-requires
named-requires c = let l = source (goal.at.named-requires c).In-Some in search auto

pub returns-in-None : goal.returns-in-None
returns-in-None c = let whole = serve_dark c.args.n c.args.health c.args.b c.args.usable.now (kept_in c.args.self.now)
    c.search.result (search auto) (search auto) c.requires.fed c.requires.before c.search.ensures c.in-None.is in record { chosen = whole.0; after = whole.1 }

pub returns-in-Some : goal.returns-in-Some
returns-in-Some c = let whole = serve_path c.args.n c.args.health c.args.b c.args.usable.now (kept_in c.args.self.now)
    c.search.result (search auto) (search auto) c.requires.fed c.requires.before c.search.ensures _ c.in-Some.is
    {t = kept_in c.take.new.self} c.take.ensures c.named.ensures in record { chosen = whole.0; after = whole.1 }
