-- `files::check_reports` meets its contract. The loop's invariant: the reports before the i-th are not refused.
use Prim.Native.Nat.{◌≤◌}
use Rattle.files.specs.Sequence.{DecidedFrom}
use Rattle.files.proofs.check_reports.Given as goal

abbrev pub invariant-loop-i : goal.invariant-loop-i
invariant-loop-i l = DecidedFrom l.n l.codes l.words l.i × (l.i ≤ l.i-end)
