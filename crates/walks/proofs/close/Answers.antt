-- `walks::close` meets its contract. The loop's invariant: what is stored on the whole way is what is stored from here.
use Rattle.std.proofs.Common.{sym, ◌∙◌, arith}
use Rattle.walks.specs.Arrays.{set_all}
use Rattle.walks.specs.Walk.{outward_lt}
use Rattle.walks.proofs.close.Goals as goal

pub loop-i-init : goal.loop-i-init
loop-i-init c = rw (c.into_iter-i-iterator.ensures.into_iter_gives, c.new-i-items.ensures.ahead)

pub bounds-closed-i : goal.bounds-closed-i
bounds-closed-i c =
    let s = c.loop-i.i-iterator in
    omega (arith, outward_lt s.n s.rising s.bus s.left c.loop-i.iterator.0.0 c.in-Some.ensures.steps, c.loop-i.iterator.0.1)

pub loop-i-preserved : goal.loop-i-preserved
unfolding set_all
loop-i-preserved c = c.loop-i.invariant ∙ rw c.in-Some.ensures.steps

pub returns : goal.returns
unfolding set_all
returns c = sym (c.loop-i.invariant ∙ rw c.in-None.ensures.steps.0)
