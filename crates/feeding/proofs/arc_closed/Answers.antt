-- `feeding::arc_closed` meets its contract. The loop's invariant: the arc is closed exactly when what is left of it is. The measure is the
-- number of bus breakers left.
use mathlib.Core.Path.{refl, sym, ◌∙◌}
use native.Mathlib.Omega.{arith}
use borrow.Author.Rules.{rules}
use Rattle.model.specs.Reports.{health_of, commands_of}
use Rattle.theory.specs.Proofs.Geometry.{next_lt, up_next}
use Rattle.feeding.specs.Walk.{walk_stop, walk_on, walk_end}
use Rattle.feeding.proofs.arc_closed.Goals as goal

pub loop-i-init : goal.loop-i-init
loop-i-init c = (search rules, refl)

pub returns-then-not-is_closed : goal.returns-then-not-is_closed
unfolding health_of commands_of
returns-then-not-is_closed c =
    sym (c.loop-i.invariant.1 ∙ walk_stop _ _ _ _ c.loop-i.invariant.0 (search rules) c.loop-i-test.true
    (sym c.is_closed.ensures ∙ c.if-not-is_closed.true))

pub loop-i-smaller : goal.loop-i-smaller
loop-i-smaller c =
    rw c.next-i.ensures (omega (arith, up_next _ _ _ c.loop-i.invariant.0 (search rules) c.loop-i-test.true))

pub loop-i-preserved : goal.loop-i-preserved
unfolding health_of commands_of
loop-i-preserved c =
    rw c.next-i.ensures (
      next_lt _ _ c.loop-i.invariant.0,
      c.loop-i.invariant.1 ∙ walk_on _ _ _ _ c.loop-i.invariant.0 (search rules) c.loop-i-test.true
          (sym c.is_closed.ensures ∙ c.if-not-is_closed.false),
    )

pub returns : goal.returns
returns c = sym (c.loop-i.invariant.1 ∙ walk_end _ _ _ _ c.loop-i.invariant.0 c.loop-i-test.false)
