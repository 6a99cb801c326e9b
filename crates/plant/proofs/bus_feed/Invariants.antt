-- `plant::bus_feed` meets its contract. The loop's invariant: the answer is that of the generators passed.
use mathlib.Core.Path.{◌≡◌}
use Prim.Native.Nat.{◌≤◌, ◌-◌}
use Rattle.model.specs.Plant.{feeds}
use Rattle.model.specs.Reports.{health_of, commands_of}
use Rattle.plant.specs.Feeders.{feed_among}
use Rattle.plant.proofs.bus_feed.Given as goal

abbrev pub invariant-loop-g : goal.invariant-loop-g
invariant-loop-g l = (l.feed ≡ feed_among (feeds l.n (health_of l.health) (commands_of l.commands) l.b) l.g) × (l.g ≤ l.n)

abbrev pub decreases-loop-g : goal.decreases-loop-g
decreases-loop-g l = l.n - l.g
