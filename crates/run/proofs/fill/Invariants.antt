-- `fill`: at each turn the lines passed stand in the buffer, and at least one does where nothing is left or no line is sure to have room.
use mathlib.Core.Path.{◌≡◌}
use Prim.Native.Nat.{◌-◌}
use lib.ListN.{length as len}
use Rattle.model.specs.Text.{run_lines}
use Rattle.run.specs.Filling.{Filling}
use Rattle.run.proofs.fill.Given as goal

abbrev pub invariant-loop-more : goal.invariant-loop-more
invariant-loop-more l =
    Filling l.file l.initial.cursor.place l.initial.out l.out l.cursor l.length l.more × (len l.out ≡ len l.initial.out)

abbrev pub decreases-loop-more : goal.decreases-loop-more
decreases-loop-more l = len (run_lines l.file) - l.cursor.place
