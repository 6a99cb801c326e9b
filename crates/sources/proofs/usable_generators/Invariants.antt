-- `sources::usable_generators` meets its contract. The loop's invariant: each place passed says whether its generator may feed.
use mathlib.Core.Path.{◌≡◌}
use mathlib.Core.Bool.{false, not, ◌&&◌}
use Prim.Native.Nat.{◌≤◌, ◌-◌}
use lib.ListN.{get_or}
use Rattle.model.specs.Plant.{fit, stuck_open}
use Rattle.model.specs.Laws.Parts.{filled_to}
use Rattle.sources.proofs.usable_generators.Given as goal

abbrev pub invariant-loop-g : goal.invariant-loop-g
invariant-loop-g l =
    (l.usable ≡ filled_to false (λ i. (fit (get_or l.generators i 0) && not (get_or l.locked i false)) && not (stuck_open (get_or l.generator_breakers i 0))) l.g) × (l.g ≤ 20)

abbrev pub decreases-loop-g : goal.decreases-loop-g
decreases-loop-g l = 20 - l.g
