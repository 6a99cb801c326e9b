-- `append_operations`: after i turns the first i operations are stored.
use mathlib.Core.Path.{◌≡◌, ◌∙◌}
use mathlib.Core.List.{zip_with}
use Prim.Native.Nat.{ℕ, ◌<◌}
use native.Mathlib.Omega.{arith}
use lib.ListN.{length, take, get_or, length-append}
use lib.Seq.{length-take-le}
use borrow.Author.Rules.{rules}
use Rattle.std.proofs.lemmas.Slice.Zip.{zip_turn, zip_end}
use Rattle.model.specs.Laws.Appended.{appended_none, appended_more}
use Rattle.model.specs.Laws.Spaced.{behind_spaces}
use Rattle.operations.specs.Operations.{first_more, first_all, operations_length}
use Rattle.operations.proofs.append_operations.Goals as goal
use Rattle.operations.proofs.append_operations.Goals.{In-Some}

-- an operation's code and command stand at the place of its turn
turn : (c : In-Some) → (length c.loop-code.yielded < length c.args.codes.now) × (length c.loop-code.yielded < length c.args.commands.now) × ((d : ℕ) → c.in-Some.code.now ≡ get_or c.args.codes.now (length c.loop-code.yielded) d) × ((d : ℕ) → c.in-Some.command.now ≡ get_or c.args.commands.now (length c.loop-code.yielded) d)
turn c = zip_turn c.args.codes.now c.args.commands.now c.loop-code.yielded _ _ c.next.new.self _ (search rules) (search rules) c.loop-code.yielded_by _ c.in-Some.is c.next.ensures.steps

pub loop-code-init : goal.loop-code-init
unfolding zip_with behind_spaces
loop-code-init c = (appended_none _ _, search rules)

pub append_operation-end-requires : goal.append_operation-end-requires
append_operation-end-requires c =
    let t = turn (goal.at.append_operation-end-requires c).In-Some in
    let k = length c.loop-code.yielded in
    omega (
      arith,
      t.0,
      c.loop-code.invariant,
      c.loop-code.invariant.0.end,
      operations_length (take k c.args.codes.now) (take k c.args.commands.now),
      length-take-le k c.args.codes.now (omega (arith, t.0)),
      c.requires,
    )

pub loop-code-preserved : goal.loop-code-preserved
loop-code-preserved c =
    let t = turn (goal.at.loop-code-preserved c).In-Some in (
      rw (length-append c.loop-code.yielded, first_more c.args.codes.now c.args.commands.now (length c.loop-code.yielded) c.requires.0 t.0, ← t.2 0, ← t.3 0)
          (appended_more c.loop-code.invariant.0 c.append_operation-end.ensures),
      c.append_operation-end.auto.out ∙ c.loop-code.invariant.1,
    )

pub returns : goal.returns
returns c =
    let e = zip_end c.args.codes.now c.args.commands.now c.loop-code.yielded _ _ c.next.new.self _ (search rules) (search rules) c.loop-code.yielded_by c.in-None.is c.next.ensures.steps in
    rw (← first_all c.args.codes.now c.args.commands.now (length c.loop-code.yielded) c.requires.0 (omega (arith, c.requires))) c.loop-code.invariant.0
