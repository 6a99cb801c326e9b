-- Safe and ending: the cursor is one of the file's run while more is left, and each piece brings the end nearer.
use Rattle.std.proofs.Common.{length, ◌≡◌, true}
use Rattle.model.specs.Text.{run_left, Within}
use Rattle.vectors.proofs.run_agrees.Given as goal

abbrev pub invariant-loop-more : goal.invariant-loop-more
invariant-loop-more g l =
    (l.more ≡ true → Within l.file l.cursor) × (length l.out ≡ length l.initial.out) × (length l.expected ≡ length l.initial.expected)

abbrev pub decreases-loop-more : goal.decreases-loop-more
decreases-loop-more g l = length (run_left l.file l.cursor.place)
