-- `report_line`: the report is read, and the ring is told it. A served file that has a report has the length that its count says.
use mathlib.Core.Path.{◌≡◌}
use mathlib.Core.Logic.{◌≢◌}
use Prim.Native.Nat.{◌+◌, ◌*◌}
use native.Mathlib.Omega.{arith}
use lib.ListN.{length}
use Rattle.model.specs.declared.Report.{Report}
use Rattle.model.specs.declared.Refusal.{Refusal}
use Rattle.std.specs.Prelude.{Option, None, Some, Result, Ok, Err}
use Rattle.std.proofs.Common.{◌∙◌, ap}
use Rattle.model.specs.Laws.Tests.{never}
use Rattle.calls.specs.Lines.{same_line}
use Rattle.files.specs.Served.{file_served, own_whole, has_bytes}
use Rattle.cursor.specs.Run.{report_next, report_sure}
use Rattle.cursor.proofs.report_line.Goals as goal
use Rattle.cursor.proofs.report_line.Goals.{After-report_count-m}

not_refused : (r : Report) (k : Refusal) → Ok (Some r) ≢ Err k
not_refused r k e = never cc

not-missing : (r : Report) → ◌≢◌ {A = Result (Option Report) Refusal} (Ok (Some r)) (Ok None)
not-missing r e = never cc

-- its bytes, of which m are part codes and m are words
whole : (c : After-report_count-m) → length c.args.file.now ≡ 3 + 2 * c.report_count-m.result
whole c =
    omega (arith, c.report_count-m.ensures, own_whole (file_served _ c.requires.0) (has_bytes c.args.file.now (omega (arith, c.requires.1))))

pub overflow_add-m : goal.overflow_add-m
overflow_add-m c = omega (arith, whole (goal.at.overflow_add-m c).After-report_count-m)

pub slice_bounds-report_at-end : goal.slice_bounds-report_at-end
slice_bounds-report_at-end c = omega (arith, whole (goal.at.slice_bounds-report_at-end c).After-report_count-m)

pub overflow_add-m-2 : goal.overflow_add-m-2
overflow_add-m-2 c = omega (arith, whole (goal.at.overflow_add-m-2 c).After-report_count-m)

pub slice_bounds-report_at-count-2 : goal.slice_bounds-report_at-count-2
slice_bounds-report_at-count-2 c = omega (arith, whole (goal.at.slice_bounds-report_at-count-2 c).After-report_count-m)

pub slice_bounds-report_at-start-2 : goal.slice_bounds-report_at-start-2
slice_bounds-report_at-start-2 c = omega (arith, whole (goal.at.slice_bounds-report_at-start-2 c).After-report_count-m)

pub overflow_add-i : goal.overflow_add-i
overflow_add-i c = omega (arith, c.requires.1, (file_served _ c.requires.0).few)

pub step_line-requires : goal.step_line-requires
step_line-requires c =
    let t = report_next _ c.requires.0 c.requires.1 c.report_count-m.ensures c.requires.2 c.report_at.ensures.answer _ (c.in-Ok-Some.is ∙ ap Ok c.in-Ok-Some.field-0-is) in
    (t.0, t.1, omega (arith, c.requires.1, (file_served _ c.requires.0).few), c.requires.3)

pub returns-in-Ok-Some : goal.returns-in-Ok-Some
returns-in-Ok-Some c =
    let t = report_next _ c.requires.0 c.requires.1 c.report_count-m.ensures c.requires.2 c.report_at.ensures.answer _ (c.in-Ok-Some.is ∙ ap Ok c.in-Ok-Some.field-0-is) in
    same_line c.step_line.ensures (omega arith) t.2

pub returns-in-Err : goal.returns-in-Err
returns-in-Err c =
    absurd
    (report_sure _ c.requires.0 c.requires.1 c.report_count-m.ensures c.requires.2 c.report_at.ensures.answer c.in-Err.is
    (λ r e. not_refused r _ e))

pub returns-in-Ok-None : goal.returns-in-Ok-None
returns-in-Ok-None c =
    absurd
    (report_sure _ c.requires.0 c.requires.1 c.report_count-m.ensures c.requires.2 c.report_at.ensures.answer (c.in-Ok-None.is ∙ ap Ok c.in-Ok-None.field-0-is)
    not-missing)
