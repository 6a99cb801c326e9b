-- `collect`: after i turns the codes of the first i parts that open are stored, and those that close counted.
use mathlib.Core.Path.{◌≡◌, sym, ◌∙◌}
use mathlib.Core.List.{[], ◌∷◌}
use mathlib.Core.Bool.{true, false, not, beq}
use Prim.Native.Nat.{◌≤◌, ◌<◌}
use native.Mathlib.Omega.{arith}
use lib.ListN.{get_or, length, take, length-append}
use borrow.Author.Rules.{rules}
use Rattle.std.proofs.lemmas.Iterator.{YieldsList-from_slice, YieldsList-from_zip}
use Rattle.std.proofs.lemmas.Iterator.Consumers.{YieldsList-from_enumerate, YieldsList-turn}
use Rattle.model.specs.Lists.{below, keep}
use Rattle.model.specs.Laws.Tests.{compared}
use Rattle.model.specs.Laws.Appended.{appended_none}
use Rattle.phases.specs.Codes.{codes, walked, turned_on, turned_off, kept, unchanged, codes_none, codes_miss, codes_hit, count_none, count_miss, count_hit}
use Rattle.phases.proofs.collect.Goals as goal
use Rattle.phases.proofs.collect.Goals.{In-Some}

pub returns-then-eq-clause-opening_phase : goal.returns-then-eq-clause-opening_phase
returns-then-eq-clause-opening_phase c = codes_none _ _ _ (λ i m. (unchanged _ _ (sym c.eq.ensures ∙ c.if-eq.true) i).0)

pub returns-then-eq-clause-closing_count : goal.returns-then-eq-clause-closing_count
returns-then-eq-clause-closing_count c = count_none _ _ _ (λ i m. (unchanged _ _ (sym c.eq.ensures ∙ c.if-eq.true) i).1)

pub loop-i-init : goal.loop-i-init
unfolding codes below keep
loop-i-init c = (appended_none _ _, omega arith, search rules, search rules)

-- where a turn's commands stand
turn : (c : In-Some) → (length c.loop-i.yielded < c.args.n) × (c.in-Some.i ≡ length c.loop-i.yielded) × (c.in-Some.was.now ≡ get_or c.args.old.now (length c.loop-i.yielded) false) × (c.in-Some.command.now ≡ get_or c.args.new.now (length c.loop-i.yielded) false)
turn c =
    let short : (c.args.n ≤ length c.args.old.now) × (c.args.n ≤ length c.args.new.now) = (omega (arith, c.requires), omega (arith, c.requires)) in
    let road = YieldsList-from_enumerate (YieldsList-from_zip (YieldsList-from_slice (take c.args.n c.args.old.now) cc) (YieldsList-from_slice (take c.args.n c.args.new.now) cc)) cc in
    let t = YieldsList-turn road c.loop-i.yielded _ c.loop-i.yielded_by _ c.next.new.self _ c.in-Some.is c.next.ensures.steps in
    walked _ _ _ _ _ _ _ short.0 short.1 t.0 t.1

pub loop-i-preserved-then-command : goal.loop-i-preserved-then-command
loop-i-preserved-then-command c =
    let t = turn (goal.at.loop-i-preserved-then-command c).In-Some in
    let one = length-append c.loop-i.yielded ((c.in-Some.i, (c.in-Some.was, c.in-Some.command)) ∷ []) in
    let d : not (beq c.in-Some.was.now c.in-Some.command.now) ≡ true = search compared in
    let o = turned_on c.in-Some.was.now c.in-Some.command.now d c.if-command.true in (
      rw one (codes_miss _ _ _ c.loop-i.invariant.0 (rw (← t.2, ← t.3) o.0)),
      rw one (count_hit _ _ _ c.loop-i.invariant.1 (rw (← t.2, ← t.3) o.1)),
      omega arith,
      omega arith,
    )

pub loop-i-preserved-else-command : goal.loop-i-preserved-else-command
loop-i-preserved-else-command c =
    let t = turn (goal.at.loop-i-preserved-else-command c).In-Some in
    let one = length-append c.loop-i.yielded ((c.in-Some.i, (c.in-Some.was, c.in-Some.command)) ∷ []) in
    let d : not (beq c.in-Some.was.now c.in-Some.command.now) ≡ true = search compared in
    let o = turned_off c.in-Some.was.now c.in-Some.command.now d c.if-command.false in (
      rw (one, t.1) (codes_hit _ _ _ c.loop-i.invariant.0 (rw (← t.2, ← t.3) o.0)),
      rw one (count_miss _ _ _ c.loop-i.invariant.1 (rw (← t.2, ← t.3) o.1)),
      omega arith,
      omega arith,
    )

pub loop-i-preserved : goal.loop-i-preserved
loop-i-preserved c =
    let t = turn (goal.at.loop-i-preserved c).In-Some in
    let one = length-append c.loop-i.yielded ((c.in-Some.i, (c.in-Some.was, c.in-Some.command)) ∷ []) in
    let d : not (beq c.in-Some.was.now c.in-Some.command.now) ≡ false = search compared in
    let o = kept c.in-Some.was.now c.in-Some.command.now d in (
      rw one (codes_miss _ _ _ c.loop-i.invariant.0 (rw (← t.2, ← t.3) o.0)),
      rw one (count_miss _ _ _ c.loop-i.invariant.1 (rw (← t.2, ← t.3) o.1)),
      omega arith,
      omega arith,
    )
