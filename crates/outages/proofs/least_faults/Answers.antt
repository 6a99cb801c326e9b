-- `outages::least_faults` meets its contract: a fault for each path that has no part in common with the others.
use native.Mathlib.Omega.{arith}
use mathlib.Core.Path.{◌≡◌, sym, ◌∙◌}
use mathlib.Core.Bool.{Bool, true, false}
use Rattle.model.specs.Reports.{health_of}
use Rattle.sources.specs.Sources.{may_feed}
use Rattle.outages.specs.Least.{least_own, least_sides}
use Rattle.outages.proofs.least_faults.Goals as goal
use Rattle.outages.proofs.least_faults.Goals.{After-may_feed}

-- whether the bus's own generator may feed
own : (c : After-may_feed) (t : Bool) → c.may_feed.result ≡ t →
    may_feed (health_of c.args.health) c.args.b ≡ t
unfolding health_of may_feed
own c t e = sym c.may_feed.ensures ∙ e

pub returns-then-may_feed : goal.returns-then-may_feed
returns-then-may_feed c =
    least_own _ _ _ c.requires.0 _ _ c.steps_to_generator-rise.ensures c.steps_to_generator-fall.ensures _
    (own (goal.at.returns-then-may_feed c).After-may_feed true c.if-may_feed.true) (omega (arith, c.side_paths-sides.ensures.0))

pub returns : goal.returns
returns c =
    least_sides _ _ _ c.requires.0 _ _ c.steps_to_generator-rise.ensures c.steps_to_generator-fall.ensures _
    (own (goal.at.returns c).After-may_feed false c.if-may_feed.false) (omega (arith, c.side_paths-sides.ensures.0))
