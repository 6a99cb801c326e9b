-- `append_operations`: after i turns the first i operations are stored.
use mathlib.Core.Path.{◌≡◌}
use lib.ListN.{length}
use Rattle.model.specs.Laws.Appended.{Appended}
use Rattle.operations.specs.Operations.{first_operations}
use Rattle.operations.proofs.append_operations.Given as goal

abbrev pub invariant-loop-code : goal.invariant-loop-code
invariant-loop-code l =
    Appended (first_operations l.codes l.commands (length l.yielded)) l.initial.out l.at l.out l.end × (length l.out ≡ length l.initial.out)
