-- `cutsets::listed` meets its contract: 8, or the sheet.
use Prim.Native.Nat.{ℕ, ◌*◌, ◌≤◌}
use native.Mathlib.Omega.{arith}
use lib.ListN.{length, replicate, length-replicate}
use Rattle.cutsets.specs.Sheet.{sheet_short, sheet_served}
use Rattle.cutsets.proofs.listed.Goals as goal

room : (c : ℕ) → c ≤ 36051 → 3 * c ≤ length (replicate {A = ℕ} 108153 0)
room c l = omega (arith, length-replicate {A = ℕ} 108153 0)

pub returns-then-buffer-count : goal.returns-then-buffer-count
returns-then-buffer-count c = let whole = sheet_short _ _ _ c.search_sizes-count.result c.search_sizes-count.ensures.stored (room c.search_sizes-count.result c.search_sizes-count.ensures.few) _
    (omega (arith, c.if-buffer-count.true)) (c.refused.ensures _) in record { answer = whole.0; bytes = whole.1 }

pub returns : goal.returns
returns c = let whole = sheet_served _ _ _ c.search_sizes-count.result c.search_sizes-count.ensures.stored (room c.search_sizes-count.result c.search_sizes-count.ensures.few) _ (omega (arith, c.if-buffer-count.false))
    c.write_sheet.ensures in record { answer = whole.0; bytes = whole.1 }
