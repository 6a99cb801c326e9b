-- `plant::bus_feed` meets its contract. The loop's invariant: the answer is that of the generators passed.
use mathlib.Core.Path.{◌∙◌}
use borrow.Author.Rules.{rules}
use Rattle.plant.specs.Feeders.{feed_none, feed_more, feed_done}
use Rattle.plant.proofs.bus_feed.Goals as goal
use Rattle.plant.proofs.bus_feed.Goals.{then-feeds_bus, else-feeds_bus}

pub loop-g-init : goal.loop-g-init
loop-g-init c = (feed_none _, search rules)

pub returns : goal.returns
returns c = c.loop-g.invariant.0 ∙ feed_done _ _ _ _ _ c.loop-g.invariant.1 c.loop-g-test.false

pub loop-g-preserved : goal.loop-g-preserved
loop-g-preserved c =
    let i = c.loop-g.invariant in (
      elim c.if-feeds_bus.branch [
        | then-feeds_bus w ↦ rw (w.feed-is, w.with_feeder-feed.ensures, feed_more, ← i.0, ← c.feeds_bus.ensures, w.if-feeds_bus.true)
        | else-feeds_bus w ↦ rw (w.feed-is, feed_more, ← i.0, ← c.feeds_bus.ensures, w.if-feeds_bus.false)
      ],
      search rules,
    )
