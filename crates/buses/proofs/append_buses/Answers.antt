-- `append_buses`: after b turns the first b buses are stored.
use mathlib.Core.Path.{◌≡◌, ◌∙◌}
use Prim.Native.Nat.{◌<◌}
use native.Mathlib.Omega.{arith}
use borrow.Author.Rules.{rules}
use Rattle.std.proofs.lemmas.List.{get_or-take, length-take-le}
use Rattle.model.specs.Lists.{below}
use Rattle.model.specs.Laws.Appended.{appended_none, appended_more}
use Rattle.model.specs.Laws.Spaced.{behind_spaces}
use Rattle.buses.specs.Buses.{buses_more, buses_length}
use Rattle.buses.proofs.append_buses.Goals as goal

pub loop-b-init : goal.loop-b-init
unfolding below behind_spaces
loop-b-init c = (appended_none _ _, search rules, search rules)

pub append_bus-end-requires : goal.append_bus-end-requires
append_bus-end-requires c =
    let held = length-take-le c.args.n c.args.choices (omega (arith, c.requires)) in
    let h : c.loop-b.b < c.args.n = omega (arith, held) in
    let most = buses_length c.args.choices c.loop-b.b (omega (arith, c.requires)) (λ b k. c.requires.1 b (omega arith)) in
    (omega (arith, c.requires), rw (get_or-take c.args.n c.args.choices c.loop-b.b _ h) (c.requires.1 c.loop-b.b h), omega (arith, c.loop-b.invariant, c.loop-b.invariant.0.end, most, c.requires))

pub loop-b-preserved : goal.loop-b-preserved
loop-b-preserved c =
    let held = length-take-le c.args.n c.args.choices (omega (arith, c.requires)) in
    let h : c.loop-b.b < c.args.n = omega (arith, held) in
    (rw (buses_more, ← get_or-take c.args.n c.args.choices c.loop-b.b _ h) (appended_more c.loop-b.invariant.0 c.append_bus-end.ensures), c.append_bus-end.auto.out ∙ c.loop-b.invariant.1, omega arith)

pub returns : goal.returns
returns c =
    let held = length-take-le c.args.n c.args.choices (omega (arith, c.requires)) in
    let e : c.loop-b.b ≡ c.args.n = omega (arith, held) in rw (← e) c.loop-b.invariant.0
