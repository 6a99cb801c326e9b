-- `outages::steps_to_generator` meets its contract. The loop's invariant: the buses passed lead to no generator that may feed.
use mathlib.Core.Path.{◌≡◌, sym, ◌∙◌}
use mathlib.Core.Bool.{Bool, true, false}
use mathlib.Core.Logic.{◌≢◌}
use Prim.Native.Nat.{◌<◌}
use native.Mathlib.Omega.{arith}
use borrow.Author.Rules.{rules}
use Rattle.model.specs.Plant.{bus_breaker}
use Rattle.model.specs.Reports.{health_of}
use Rattle.sources.specs.Sources.{may_feed}
use Rattle.walks.specs.Walk.{bus_beside, breaker_lt, bus_lt}
use Rattle.outages.specs.Sides.{walked_start, walked_open, walked_end, walked_met, walked_on}
use Rattle.outages.proofs.steps_to_generator.Goals as goal
use Rattle.outages.proofs.steps_to_generator.Goals.{After-bus_beside-k, After-may_feed}

-- the bus behind it
behind-lt : (c : After-bus_beside-k) → c.bus_beside-k.result < c.args.n
behind-lt c =
    omega (arith, c.bus_beside-k.ensures, bus_lt c.args.n c.args.rising c.loop-steps.k c.loop-steps.invariant.0)

in_array : (c : After-bus_beside-k) → c.bus_beside-k.result < 20
in_array c = omega (arith, behind-lt c, c.requires.1)

-- whether the generator of the bus reached may feed
judged : (c : After-may_feed) (t : Bool) → c.may_feed.result ≡ t →
    may_feed (health_of c.args.health) (bus_beside c.args.n c.args.rising c.loop-steps.k) ≡ t
unfolding health_of may_feed
judged c t e = rw c.bus_beside-k.ensures at (sym c.may_feed.ensures ∙ e)

pub loop-steps-init : goal.loop-steps-init
loop-steps-init c = (search rules, walked_start _ _ _ _ c.requires.0)

-- the breaker beside the bus that was reached
pub bounds-health-i : goal.bounds-health-i
bounds-health-i c =
    omega (arith, c.breaker_beside-i.ensures, breaker_lt c.args.n c.args.rising c.loop-steps.k c.loop-steps.invariant.0, c.requires.1)

pub returns-then-health-i-eq-STUCK_OPEN : goal.returns-then-health-i-eq-STUCK_OPEN
unfolding health_of
returns-then-health-i-eq-STUCK_OPEN c =
    let e : (health_of c.args.health).health (bus_breaker c.breaker_beside-i.result) ≡ 2 = omega (arith, c.if-health-i-eq-STUCK_OPEN.true) in
    walked_open _ _ _ _ c.requires.0 _ _ c.loop-steps.invariant.1 (rw c.breaker_beside-i.ensures at e)

pub bounds-health-k : goal.bounds-health-k
bounds-health-k c = in_array (goal.at.bounds-health-k c).After-bus_beside-k

pub bounds-health-k-in-loop-steps : goal.bounds-health-k-in-loop-steps
bounds-health-k-in-loop-steps c = in_array (goal.at.bounds-health-k-in-loop-steps c).After-bus_beside-k

pub bounds-health-k-in-loop-steps-2 : goal.bounds-health-k-in-loop-steps-2
bounds-health-k-in-loop-steps-2 c = in_array (goal.at.bounds-health-k-in-loop-steps-2 c).After-bus_beside-k

pub returns-then-may_feed : goal.returns-then-may_feed
unfolding health_of
returns-then-may_feed c =
    let e : (health_of c.args.health).health (bus_breaker c.breaker_beside-i.result) ≢ 2 = λ z. omega (arith, c.if-health-i-eq-STUCK_OPEN.false) in
    walked_met _ _ _ _ c.requires.0 _ _ c.loop-steps.invariant.1 (omega (arith, c.loop-steps-test.true)) (rw c.breaker_beside-i.ensures at e)
    (judged (goal.at.returns-then-may_feed c).After-may_feed true c.if-may_feed.true)

pub loop-steps-preserved : goal.loop-steps-preserved
unfolding health_of
loop-steps-preserved c =
    let clear : (health_of c.args.health).health (bus_breaker c.breaker_beside-i.result) ≢ 2 = λ z. omega (arith, c.if-health-i-eq-STUCK_OPEN.false) in
    let room : c.loop-steps.steps < c.args.n = omega (arith, c.loop-steps-test.true) in (
      behind-lt (goal.at.loop-steps-preserved c).After-bus_beside-k,
      rw c.bus_beside-k.ensures
          (walked_on _ _ _ _ c.requires.0 _ _ c.loop-steps.invariant.1 room (rw c.breaker_beside-i.ensures at clear)
          (judged (goal.at.loop-steps-preserved c).After-may_feed false c.if-may_feed.false)),
    )

pub returns : goal.returns
returns c = walked_end _ _ _ _ c.requires.0 _ _ c.loop-steps.invariant.1 (omega (arith, c.loop-steps-test.false))
