-- `next` of `walks::Outward` meets its contract: it goes over the breaker beside the bus reached.
use Rattle.std.proofs.Common.{◌<◌, ◌≤◌, length, ap, arith}
use Rattle.walks.specs.Walk.{outward_none, outward_some, bus_lt}
use Rattle.walks.proofs.OutwardIterator.next.Goals as goal

pub returns-then-self-eq0-clause-steps : goal.returns-then-self-eq0-clause-steps
returns-then-self-eq0-clause-steps c =
    let e = outward_none c.args.self.now.n c.args.self.now.rising c.args.self.now.bus _ c.if-self-eq0.true in (e, e)

pub returns-clause-steps : goal.returns-clause-steps
returns-clause-steps c =
    rw (c.breaker_beside-i.ensures, c.bus_beside-self.ensures)
    (outward_some c.args.self.now.n c.args.self.now.rising c.args.self.now.bus c.args.self.now.left c.if-self-eq0.false)

pub returns-clause-goes : goal.returns-clause-goes
returns-clause-goes c =
    let w = c.args.self.now in
    let at : (c.bus_beside-self.result < w.n) × (w.n ≤ 20) = (rw c.bus_beside-self.ensures (bus_lt w.n w.rising w.bus c.requires.0), c.requires.1) in
    record {
      on = λ f. (
        at,
        f,
        rw c.bus_beside-self.ensures (omega (arith, ap length (outward_some w.n w.rising w.bus w.left c.if-self-eq0.false))),
      );
      keeps = at;
      rests = λ f. f;
    }
