-- `next_line`: the place tells which line is next; behind the first the file is served.
use mathlib.Core.Path.{◌≡◌}
use Prim.Native.Nat.{◌+◌, ◌-◌, ◌≤◌}
use native.Mathlib.Omega.{arith}
use Rattle.model.specs.Reports.{file_count}
use Rattle.model.specs.Refusals.{file_refusal}
use Rattle.model.specs.Text.{run_ring}
use Rattle.files.specs.Served.{Served, file_served}
use Rattle.cursor.specs.Run.{first_state, behind_first, report_state, passed_line}
use Rattle.cursor.proofs.next_line.Goals as goal
use Rattle.cursor.proofs.next_line.Goals.{Else-place-eq0}

-- behind the first line the file is served
behind : (c : Else-place-eq0) → (file_refusal c.args.file.now ≡ 0) × Served c.args.file.now × (c.args.cursor.place ≤ file_count c.args.file.now + 1)
behind c =
    let t = behind_first c.requires.0 (λ e. omega (arith, c.if-place-eq0.false)) in
    (t.0, file_served _ t.0, t.1)

pub first_line-requires : goal.first_line-requires
first_line-requires c =
    (first_state c.requires.0 (omega arith), c.requires.1)

pub returns-then-place-eq0 : goal.returns-then-place-eq0
returns-then-place-eq0 c =
    let e : c.args.cursor.place ≡ 0 = omega arith in
    rw e c.first_line.ensures

pub report_count-lines-requires : goal.report_count-lines-requires
report_count-lines-requires c = (behind (goal.at.report_count-lines-requires c).Else-place-eq0).0

pub overflow_add-lines : goal.overflow_add-lines
overflow_add-lines c = omega (arith, c.report_count-lines.ensures, (behind (goal.at.overflow_add-lines c).Else-place-eq0).1.few)

pub overflow_add-next : goal.overflow_add-next
overflow_add-next c = omega (arith, (behind (goal.at.overflow_add-next c).Else-place-eq0).2, (behind (goal.at.overflow_add-next c).Else-place-eq0).1.few)

pub start_line-line-requires : goal.start_line-line-requires
start_line-line-requires c =
    (omega (arith, c.bus_count.ensures, (behind (goal.at.start_line-line-requires c).Else-place-eq0).1.big), omega (arith, c.bus_count.ensures, (behind (goal.at.start_line-line-requires c).Else-place-eq0).1.small), c.requires.1)

pub returns-then-place-eq1 : goal.returns-then-place-eq1
unfolding run_ring
returns-then-place-eq1 c =
    passed_line 0 _ _ _ (behind (goal.at.returns-then-place-eq1 c).Else-place-eq0).0 (omega arith) (rw (← c.bus_count.ensures) c.start_line-line.ensures) c.piece_of.ensures
    (omega arith) (omega arith) (omega (arith, c.report_count-lines.ensures))

pub report_line-line-requires : goal.report_line-line-requires
report_line-line-requires c =
    ((behind (goal.at.report_line-line-requires c).Else-place-eq0).0, omega (arith, (behind (goal.at.report_line-line-requires c).Else-place-eq0).2), report_state c.requires.0 _ (omega arith), c.requires.1)

pub returns : goal.returns
returns c =
    let i = c.args.cursor.place - 2 + 1 in
    passed_line i _ _ _ (behind (goal.at.returns c).Else-place-eq0).0 (omega (arith, (behind (goal.at.returns c).Else-place-eq0).2)) c.report_line-line.ensures
    c.piece_of-2.ensures (omega arith) (omega arith) (omega (arith, c.report_count-lines.ensures))
