-- `append_generators`: after g turns the watts of the first g generators are stored.
use mathlib.Core.Path.{◌≡◌, refl, ◌∙◌}
use Prim.Native.Nat.{◌<◌}
use native.Mathlib.Omega.{arith}
use borrow.Author.Rules.{rules}
use Rattle.std.proofs.lemmas.List.{get_or-take, length-take-le}
use Rattle.loadlines.specs.Figures.{generators_none, generators_more}
use Rattle.loadlines.proofs.append_generators.Goals as goal

pub loop-g-init : goal.loop-g-init
loop-g-init c = (generators_none _ _ (omega arith), search rules, search rules, search rules)

pub append_watts-end-requires : goal.append_watts-end-requires
append_watts-end-requires c =
    let held = length-take-le c.args.n c.args.load.watts (omega (arith, c.requires)) in
    (omega (arith, held, c.loop-g.invariant, c.requires), omega (arith, held, c.loop-g.invariant, c.requires))

pub loop-g-preserved : goal.loop-g-preserved
loop-g-preserved c =
    let held = length-take-le c.args.n c.args.load.watts (omega (arith, c.requires)) in
    let h : c.loop-g.g < c.args.n = omega (arith, held) in (
      generators_more _ _ _ _ (omega arith) refl c.loop-g.invariant.0 (rw (get_or-take c.args.n c.args.load.watts c.loop-g.g 0 h) at c.append_watts-end.ensures.text),
      c.append_watts-end.auto.out ∙ c.loop-g.invariant.1,
      omega (arith, c.loop-g.invariant, c.append_watts-end.ensures.within),
      omega arith,
    )

pub returns-clause-text : goal.returns-clause-text
returns-clause-text c =
    let held = length-take-le c.args.n c.args.load.watts (omega (arith, c.requires)) in
    let e : c.loop-g.g ≡ c.args.n = omega (arith, held) in rw (← e) c.loop-g.invariant.0
