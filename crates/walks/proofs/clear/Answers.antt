-- `walks::clear` meets its contract. The loop's invariant: the whole walk is the walk from here.
use Rattle.model.specs.Laws.Tests.{auto}
use mathlib.Core.Path.{sym, ◌∙◌}
use native.Mathlib.Nat.{sub-zero}
use borrow.Author.Tests.{eq-eqb, ne_eqb}
use Rattle.theory.specs.Proofs.Geometry.{next_lt}
use Rattle.walks.specs.Arrays.{at}
use Rattle.walks.specs.Walk.{clear_open, clear_met, clear_step, clear_end}
use Rattle.walks.proofs.clear.Goals as goal

pub loop-init : goal.loop-init
loop-init c = (search auto, rw sub-zero)

pub returns-then-breakers-k-eq-STUCK_OPEN : goal.returns-then-breakers-k-eq-STUCK_OPEN
returns-then-breakers-k-eq-STUCK_OPEN c =
    sym (c.loop.invariant.1 ∙ clear_open c.args.n (at c.args.breakers.now) (at c.args.owners.now) c.args.number c.loop.k c.args.steps c.loop.counter
    c.loop-test.true (eq-eqb _ _ c.if-breakers-k-eq-STUCK_OPEN.true))

pub returns-then-not-free : goal.returns-then-not-free
returns-then-not-free c =
    sym (c.loop.invariant.1 ∙ clear_met c.args.n (at c.args.breakers.now) (at c.args.owners.now) c.args.number c.loop.k c.args.steps c.loop.counter
    c.loop-test.true (ne_eqb _ _ c.if-breakers-k-eq-STUCK_OPEN.false) (sym c.free.ensures ∙ c.if-not-free.true))

pub loop-preserved : goal.loop-preserved
loop-preserved c =
    rw c.next-k.ensures (
      next_lt c.args.n c.loop.k c.loop.invariant.0,
      c.loop.invariant.1
          ∙ clear_step c.args.n (at c.args.breakers.now) (at c.args.owners.now) c.args.number c.loop.k c.args.steps c.loop.counter
          c.loop-test.true (ne_eqb _ _ c.if-breakers-k-eq-STUCK_OPEN.false)
          (sym c.free.ensures ∙ c.if-not-free.false),
    )

pub returns : goal.returns
returns c =
    c.free-2.ensures
    ∙ sym (c.loop.invariant.1 ∙ clear_end c.args.n (at c.args.breakers.now) (at c.args.owners.now) c.args.number c.loop.k c.args.steps c.loop.counter
    c.loop-test.false)
