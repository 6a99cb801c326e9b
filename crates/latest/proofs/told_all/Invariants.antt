-- `latest::told_all`: after i turns the ring is told the first i reports.
use mathlib.Core.Path.{◌≡◌}
use Prim.Native.Nat.{◌≤◌}
use Rattle.latest.specs.Told.{told_reports}
use Rattle.latest.proofs.told_all.Given as goal

abbrev pub invariant-loop-i : goal.invariant-loop-i
invariant-loop-i l = (l.ring ≡ told_reports l.n l.codes l.words l.i) × (l.i ≤ l.i-end)
