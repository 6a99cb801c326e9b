-- `partsets::hopeless` meets its contract: more faults are needed than there are to spend, or none.
use native.Mathlib.Omega.{arith}
use Rattle.model.specs.Reports.{health_of}
use Rattle.model.specs.CutSets.{with_faults}
use Rattle.model.specs.Laws.Tests.{facts}
use Rattle.outages.specs.Least.{Least}
use Rattle.partsets.specs.Sets.{parts_of}
use Rattle.partsets.specs.Minimal.{too_few, too_many, least_after}
use Rattle.partsets.proofs.hopeless.Goals as goal
use Rattle.partsets.proofs.hopeless.Goals.{After-least_faults-least}

-- how many faults it takes after those of the set
needed : (c : After-least_faults-least) →
    Least c.args.n (with_faults (health_of c.args.health) (parts_of c.args.n c.args.set)) c.args.b c.least_faults-least.result
needed c =
    least_after c.args.n (health_of c.args.health) c.args.b c.args.set c.with_faults-after.ensures c.least_faults-least.ensures

pub returns-then-least-eq0 : goal.returns-then-least-eq0
returns-then-least-eq0 c e = too_many _ _ _ _ _ _ (needed (goal.at.returns-then-least-eq0 c).After-least_faults-least) c.if-least-eq0.true (omega (arith, facts, e))

pub returns : goal.returns
returns c e = too_few _ _ _ _ _ _ (needed (goal.at.returns c).After-least_faults-least) (omega (arith, facts, e))
