-- `walks::spread` meets its contract. The loop's invariant: what is stored on the whole walk is what is stored from here.
use Rattle.model.specs.Laws.Tests.{auto}
use mathlib.Core.Path.{sym, ◌∙◌}
use native.Mathlib.Nat.{sub-zero}
use native.Mathlib.Omega.{arith}
use Rattle.walks.specs.Arrays.{at}
use Rattle.walks.specs.Walk.{closed_by, breaker_lt, bus_lt, reach_step, reach_stop, reach_end}
use Rattle.walks.proofs.spread.Goals as goal

pub loop-init : goal.loop-init
loop-init c = (search auto, rw sub-zero)

pub bounds-closed-i : goal.bounds-closed-i
bounds-closed-i c =
    let l = breaker_lt c.args.n c.args.rising c.loop.k c.loop.invariant.0 in
    omega (arith, c.breaker_beside-i.ensures)

pub bounds-breakers-i : goal.bounds-breakers-i
bounds-breakers-i c =
    let l = breaker_lt c.args.n c.args.rising c.loop.k c.loop.invariant.0 in
    omega (arith, c.breaker_beside-i.ensures)

pub returns-then-not-counted_closed : goal.returns-then-not-counted_closed
returns-then-not-counted_closed c =
    let e = rw c.breaker_beside-i.ensures at (sym c.counted_closed.ensures ∙ c.if-not-counted_closed.true) in
    sym (c.loop.invariant.1 ∙ reach_stop c.args.number c.args.n c.loop.k c.args.n c.loop.counter c.loop.owners
    (closed_by (at c.args.breakers.now) c.args.closed.now) c.args.rising c.loop-test.true e)

pub loop-preserved : goal.loop-preserved
loop-preserved c =
    let e = rw c.breaker_beside-i.ensures at (sym c.counted_closed.ensures ∙ c.if-not-counted_closed.false) in
    rw c.bus_beside-k.ensures (
      bus_lt c.args.n c.args.rising c.loop.k c.loop.invariant.0,
      c.loop.invariant.1
          ∙ reach_step c.args.number c.args.n c.loop.k c.args.n c.loop.counter c.loop.owners
          (closed_by (at c.args.breakers.now) c.args.closed.now) c.args.rising c.loop-test.true e,
    )

pub returns : goal.returns
returns c =
    sym (c.loop.invariant.1 ∙ reach_end c.args.number c.args.n c.loop.k c.args.n c.loop.counter c.loop.owners
    (closed_by (at c.args.breakers.now) c.args.closed.now) c.args.rising c.loop-test.false)
