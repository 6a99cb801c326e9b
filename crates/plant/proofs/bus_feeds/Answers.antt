-- `plant::bus_feeds` meets its contract. The loop's invariant: the buses passed have their answers, and all others are dark.
use mathlib.Core.Path.{◌∙◌, ap}
use native.Mathlib.Nat.{le_antisymm}
use borrow.Author.Rules.{rules}
use Rattle.plant.specs.Buses.{feeds_below, buses_none, buses_more}
use Rattle.plant.proofs.bus_feeds.Goals as goal

pub loop-b-init : goal.loop-b-init
loop-b-init c = (c.dark_buses-buses.ensures ∙ buses_none _, search rules)

pub loop-b-preserved : goal.loop-b-preserved
loop-b-preserved c = (rw (c.loop-b.invariant.0, c.bus_feed-feed.ensures) (buses_more _ _), search rules)

pub returns : goal.returns
returns c = c.loop-b.invariant.0 ∙ ap (feeds_below _) (le_antisymm c.loop-b.invariant.1 c.loop-b-test.false)
