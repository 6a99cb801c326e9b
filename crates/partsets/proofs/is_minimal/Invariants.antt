-- `partsets::is_minimal` meets its contract. The loop's invariant: no set with one of the parts passed left out leaves the bus dark.
use mathlib.Core.Path.{◌≡◌}
use mathlib.Core.Bool.{false}
use Prim.Native.Nat.{ℕ, ◌≤◌, ◌<◌, ◌-◌}
use Rattle.model.specs.Reports.{health_of}
use Rattle.model.specs.CutSets.{darkens}
use Rattle.theory.proofs.Proofs.Subsets.{without}
use Rattle.partsets.specs.Sets.{parts_of}
use Rattle.partsets.proofs.is_minimal.Given as goal

abbrev pub invariant-loop-i : goal.invariant-loop-i
invariant-loop-i l =
    (l.i ≤ l.set.count) × ((j : ℕ) → j < l.i → darkens l.n (health_of l.health) l.b (without j (parts_of l.n l.set)) ≡ false)

abbrev pub decreases-loop-i : goal.decreases-loop-i
decreases-loop-i l = l.set.count - l.i
