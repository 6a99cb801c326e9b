-- `report_count`: a served file has no bytes and no report, or the length that its count says.
use mathlib.Core.Path.{◌≡◌}
use Prim.Native.Nat.{◌+◌, ◌*◌}
use native.Mathlib.Omega.{arith}
use lib.ListN.{length}
use Rattle.model.specs.Reports.{file_count}
use Rattle.model.specs.Laws.Tests.{facts}
use Rattle.files.specs.Served.{file_served, own_whole, no_reports}
use Rattle.cursor.proofs.report_count.Goals as goal
use Rattle.cursor.proofs.report_count.Goals.{Else-file-eq0}

-- its bytes
whole : (c : Else-file-eq0) → length c.args.file.now ≡ 3 + 2 * file_count c.args.file.now
whole c = own_whole (file_served _ c.requires) (omega (arith, facts))

pub returns-then-file-eq0 : goal.returns-then-file-eq0
returns-then-file-eq0 c = no_reports c.args.file.now (omega (arith, facts))

pub overflow_sub-result : goal.overflow_sub-result
overflow_sub-result c = omega (arith, whole (goal.at.overflow_sub-result c).Else-file-eq0)

pub returns : goal.returns
returns c = omega (arith, whole (goal.at.returns c).Else-file-eq0)
