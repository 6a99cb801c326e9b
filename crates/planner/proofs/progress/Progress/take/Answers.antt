-- `planner::progress::Progress::take` meets its contract.
use Rattle.model.specs.Laws.Tests.{auto}
use Rattle.paths.specs.Search.{span_lt}
use Rattle.planner.specs.Progress.{taken_by}
use Rattle.planner.proofs.progress.Progress.take.Goals as goal

pub close-requires : goal.close-requires
close-requires c =
    rw c.span_of-span.ensures (search auto, (span_lt c.args.n c.args.b c.args.path.source c.args.path.rising (search auto) (search auto)).1, search auto)

pub returns : goal.returns
returns c =
    taken_by _ _ _ _ _ _ _ _ _ _ _ c.number_of-number.ensures c.span_of-span.ensures c.close.ensures
    c.spread.ensures c.spread-2.ensures
