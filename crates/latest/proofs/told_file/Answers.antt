-- `latest::told_file`: no bytes, or two stretches of them; a served file that has bytes has the length that its count says.
use mathlib.Core.Path.{◌≡◌}
use Prim.Native.Nat.{◌+◌}
use native.Mathlib.Omega.{arith}
use lib.ListN.{length}
use Rattle.model.specs.Laws.Tests.{facts}
use Rattle.latest.specs.Told.{told_empty, served_length, told_stretches}
use Rattle.latest.proofs.told_file.Goals as goal
use Rattle.latest.proofs.told_file.Goals.{Else-file-eq0}

-- its bytes
whole : (c : Else-file-eq0) → length c.args.file.now ≡ 3 + c.args.head.m + c.args.head.m
whole c = served_length _ _ c.requires (omega (arith, facts))

pub returns-then-file-eq0 : goal.returns-then-file-eq0
returns-then-file-eq0 c = told_empty _ _ c.requires _ (omega (arith, facts)) c.told_all.ensures

pub overflow_add-m : goal.overflow_add-m
overflow_add-m c = omega (arith, whole (goal.at.overflow_add-m c).Else-file-eq0)

pub slice_bounds-told_all-end : goal.slice_bounds-told_all-end
slice_bounds-told_all-end c = omega (arith, whole (goal.at.slice_bounds-told_all-end c).Else-file-eq0)

pub overflow_add-m-2 : goal.overflow_add-m-2
overflow_add-m-2 c = omega (arith, whole (goal.at.overflow_add-m-2 c).Else-file-eq0)

pub slice_bounds-told_all-count-2 : goal.slice_bounds-told_all-count-2
slice_bounds-told_all-count-2 c = omega (arith, whole (goal.at.slice_bounds-told_all-count-2 c).Else-file-eq0)

pub slice_bounds-told_all-start-2 : goal.slice_bounds-told_all-start-2
slice_bounds-told_all-start-2 c = omega (arith, whole (goal.at.slice_bounds-told_all-start-2 c).Else-file-eq0)

pub returns : goal.returns
returns c = told_stretches _ _ c.requires _ c.told_all-2.ensures
