-- Document 02, Note 2, "Several reports from one scan": its reports, the ring told all of them, its refusals and its whole answer.
use Rattle.std.specs.Prelude.{List, [], ◌∷◌, ℕ, length, take}
use Rattle.model.specs.declared.Report.{Report}
use Rattle.model.specs.declared.Ring.{Ring}
use Rattle.model.specs.declared.Scan.{Scan}
use Rattle.model.specs.Reports.{told}
use Rattle.model.specs.Refusals.{first_met, or_else, bad_ring, count_above, next_sheet, report_conditions, sheet_refusal}
use Rattle.model.specs.Answers.{Reply, reply_by}

-- "as 64 places and a count; places past the count are not read"
abbrev pub scan_reports : Scan → List Report
scan_reports s = take s.count s.reports

-- a ring told several reports, first to last, before any command
unfoldable pub told_all : Ring → List Report → Ring
told_all ring [] = ring
told_all ring (r ∷ rs) = told_all (told ring r) rs

-- "The first bad report refuses the scan with the refusal that report alone would get": 5 or 6 of the first that meets one
unfoldable pub first_refusal : ℕ → List Report → ℕ
first_refusal n [] = 0
first_refusal n (r ∷ rs) = let rest = first_refusal n rs in or_else (first_met (report_conditions n r)) rest

-- "11 for a count above 64, after 9 and before the reports; 8 is checked last, for the scan's own sheet."
unfoldable pub scan_refusal : Ring → Scan → ℕ → ℕ
scan_refusal ring s room =
    let reports = first_refusal ring.n (scan_reports s) in
    let own = sheet_refusal room (next_sheet (told_all ring (scan_reports s))) in
    or_else (first_met ((9, bad_ring ring) ∷ (11, count_above s.count) ∷ [])) (or_else reports own)

-- "The record and choices must be those that single steps would end with, and the sheet goes straight from the first standing orders
-- to the last."; refused, ".. and nothing changes"
unfoldable pub scan_reply : Ring → Scan → List ℕ → Reply
scan_reply ring s buffer = reply_by (scan_refusal ring s (length buffer)) (told_all ring (scan_reports s)) ring buffer
