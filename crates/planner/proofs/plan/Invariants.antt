-- `planner::plan` meets its contract. The loop's invariant: what is kept and the choices are those of the buses served.
use mathlib.Core.Path.{◌≡◌}
use Prim.Native.Nat.{◌≤◌, ◌-◌}
use Rattle.model.specs.Reports.{health_of}
use Rattle.planner.specs.Progress.{served, choices_to}
use Rattle.planner.specs.Kept.{kept_in}
use Rattle.planner.proofs.plan.Given as goal

abbrev pub invariant-loop-b : goal.invariant-loop-b
invariant-loop-b l =
    (l.b ≤ l.n) × (kept_in l.progress ≡ served l.n (health_of l.health) l.b) × (l.choices ≡ choices_to l.n (health_of l.health) l.b)

abbrev pub decreases-loop-b : goal.decreases-loop-b
decreases-loop-b l = l.n - l.b
