-- `plant::bus_feeds` meets its contract. The loop's invariant: the buses passed have their answers, and all others are dark.
use mathlib.Core.Path.{◌≡◌}
use Prim.Native.Nat.{◌≤◌, ◌-◌}
use Rattle.model.specs.Plant.{bus_feed}
use Rattle.model.specs.Reports.{health_of, commands_of}
use Rattle.plant.specs.Buses.{feeds_below}
use Rattle.plant.proofs.bus_feeds.Given as goal

abbrev pub invariant-loop-b : goal.invariant-loop-b
invariant-loop-b l = (l.buses ≡ feeds_below (bus_feed l.n (health_of l.health) (commands_of l.commands)) l.b) × (l.b ≤ l.n)

abbrev pub decreases-loop-b : goal.decreases-loop-b
decreases-loop-b l = l.n - l.b
