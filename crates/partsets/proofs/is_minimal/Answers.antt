-- `partsets::is_minimal` meets its contract. The loop's invariant: no set with one of the parts passed left out leaves the bus dark.
use borrow.Author.Count.{below_more}
use borrow.Author.Rules.{rules}
use mathlib.Core.Path.{◌≡◌, sym, ◌∙◌}
use mathlib.Core.Bool.{Bool, true, false}
use native.Mathlib.Omega.{arith}
use lib.ListN.{length}
use Rattle.model.specs.Reports.{health_of}
use Rattle.model.specs.CutSets.{darkens}
use Rattle.theory.proofs.Proofs.Subsets.{without}
use Rattle.partsets.specs.Sets.{parts_of, parts_count}
use Rattle.partsets.specs.Minimal.{dark_after, dark_without, lit, larger, least}
use Rattle.partsets.proofs.is_minimal.Goals as goal
use Rattle.partsets.proofs.is_minimal.Goals.{After-is_dark, After-is_dark-in-loop-i, Start}

size : (c : Start) → length (parts_of c.args.n c.args.set) ≡ c.args.set.count
size c = let full : length c.args.set.places ≡ 3 = search rules in parts_count _ _ full c.requires.2.few

-- the set itself
itself : (c : After-is_dark) (t : Bool) → c.is_dark.result ≡ t →
    darkens c.args.n (health_of c.args.health) c.args.b (parts_of c.args.n c.args.set) ≡ t
itself c t e =
    dark_after c.args.n (health_of c.args.health) c.args.b c.args.set c.with_faults-all.ensures (sym c.is_dark.ensures ∙ e)

-- the set with one part left out
one-left-out : (c : After-is_dark-in-loop-i) (t : Bool) → c.is_dark-in-loop-i.result ≡ t →
    darkens c.args.n (health_of c.args.health) c.args.b (without c.loop-i.i (parts_of c.args.n c.args.set)) ≡ t
one-left-out c t e =
    dark_without c.args.n (health_of c.args.health) c.args.b c.args.set c.loop-i.i c.loop-i-test.true
    c.with_faults-before.ensures c.with_faults-others.ensures (sym c.is_dark-in-loop-i.ensures ∙ e)

pub returns-then-not-is_dark : goal.returns-then-not-is_dark
returns-then-not-is_dark c = lit _ _ _ c.requires.0 _ (itself (goal.at.returns-then-not-is_dark c).After-is_dark false c.if-not-is_dark.true)

pub loop-i-init : goal.loop-i-init
loop-i-init c = (search rules, λ j l. absurd (omega arith))

pub returns-then-is_dark : goal.returns-then-is_dark
returns-then-is_dark c =
    larger _ _ _ c.requires.0 _ c.loop-i.i (omega (arith, c.loop-i-test.true, size (goal.at.returns-then-is_dark c).Start))
    (one-left-out (goal.at.returns-then-is_dark c).After-is_dark-in-loop-i true c.if-is_dark.true)

pub loop-i-preserved : goal.loop-i-preserved
loop-i-preserved c =
    (search rules, below_more _ _ c.loop-i.invariant.1 (one-left-out (goal.at.loop-i-preserved c).After-is_dark-in-loop-i false c.if-is_dark.false))

pub returns : goal.returns
returns c =
    least _ _ _ c.requires.0 _ (itself (goal.at.returns c).After-is_dark true c.if-not-is_dark.false)
    (λ j l. c.loop-i.invariant.1 j (omega (arith, c.loop-i-test.false, size (goal.at.returns c).Start)))
