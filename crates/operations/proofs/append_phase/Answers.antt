-- `append_phase`: a lone `-`, or the operations.
use native.Mathlib.Omega.{arith}
use Rattle.model.specs.Text.{ascii}
use Rattle.model.specs.Laws.Appended.{appended_more}
use Rattle.operations.specs.Operations.{phase_none, phase_some}
use Rattle.operations.proofs.append_phase.Goals as goal

pub returns-then-is_empty : goal.returns-then-is_empty
unfolding ascii
returns-then-is_empty c = rw (phase_none c.args.codes.now c.args.commands.now (grind arith)) c.append.ensures

pub returns : goal.returns
unfolding ascii
returns c =
    rw (phase_some c.args.codes.now c.args.commands.now c.requires.0 (λ e. grind arith))
    (appended_more c.append-operations.ensures c.append_operations.ensures)
