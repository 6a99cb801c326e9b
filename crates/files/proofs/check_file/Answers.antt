-- `files::check_file` meets its contract: the tests that lead to each return are those of the file's refusal.
use mathlib.Core.Path.{sym, ◌∙◌, refl}
use native.Mathlib.Omega.{arith}
use Rattle.std.proofs.lemmas.Result.{err_from_is_err_and}
use Rattle.model.specs.Laws.Tests.{facts}
use Rattle.files.specs.File.{file_empty, file_short, file_size_lem, Sized, file_count_lem, file_length_lem, file_served, file_refused}
use Rattle.files.proofs.check_file.Goals as goal
use Rattle.files.proofs.check_file.Goals.{Else-size_outside}

-- neither 1 nor 2
sized : (c : Else-size_outside) → Sized c.args.file.now c.bus_count-n.result
sized c = record {
  three = omega (arith, facts);
  size = c.bus_count-n.ensures;
  inside = sym c.size_outside.ensures ∙ c.if-size_outside.false;
}

-- no byte
pub returns-then-file-eq0 : goal.returns-then-file-eq0
returns-then-file-eq0 c = let whole = file_empty _ _ _ c.bus_count-n.ensures (omega (arith, facts)) (omega arith) in record { answer = whole.0; values = whole.1 }

-- 1
pub returns-then-file-lt3 : goal.returns-then-file-lt3
returns-then-file-lt3 c = let whole = file_short _ (omega (arith, facts)) (omega (arith, facts)) in record { answer = whole.0; values = whole.1 }

-- 2
pub returns-then-size_outside : goal.returns-then-size_outside
returns-then-size_outside c = let whole = file_size_lem _ _ (omega (arith, facts)) c.bus_count-n.ensures (sym c.size_outside.ensures ∙ c.if-size_outside.true) in record { answer = whole.0; values = whole.1 }

pub overflow_cast-m : goal.overflow_cast-m
overflow_cast-m c = omega (arith, c.type_inv.file 1)

pub overflow_cast-m-2 : goal.overflow_cast-m-2
overflow_cast-m-2 c = omega (arith, c.type_inv.file 2)

pub overflow_mul-m : goal.overflow_mul-m
overflow_mul-m c = omega (arith, c.type_inv.file 2)

pub overflow_add-m : goal.overflow_add-m
overflow_add-m c = omega (arith, c.type_inv.file 1, c.type_inv.file 2)

-- 3
pub returns-then-m-gt4096 : goal.returns-then-m-gt4096
returns-then-m-gt4096 c = let whole = file_count_lem _ _ (sized (goal.at.returns-then-m-gt4096 c).Else-size_outside) _ refl (omega (arith, facts)) in record { answer = whole.0; values = whole.1 }

-- 4
pub returns-then-file-m : goal.returns-then-file-m
returns-then-file-m c = let whole = file_length_lem _ _ (sized (goal.at.returns-then-file-m c).Else-size_outside) _ refl (omega (arith, facts)) (omega (arith, facts)) in record { answer = whole.0; values = whole.1 }

-- 5, 6
pub returns-in_err-check_reports : goal.returns-in_err-check_reports
returns-in_err-check_reports c =
    let p = err_from_is_err_and c.from_residual.result c.from_residual.ensures.1 in
    let whole = file_refused _ _ (sized (goal.at.returns-in_err-check_reports c).Else-size_outside) _ refl (omega (arith, facts)) (omega (arith, facts)) _
    c.check_reports.ensures _ c.in_err-check_reports.was in
    rw (p.1, p.2) (record { answer = whole.0; values = whole.1 })

pub returns : goal.returns
returns c =
    let whole = file_served _ _ (sized (goal.at.returns c).Else-size_outside) _ refl (omega (arith, facts)) (omega (arith, facts)) _
    c.check_reports.ensures c.in_ok-check_reports.was in
    record { answer = whole.0; values = whole.1 }
