-- The text of a scan's answer (document 02, Note 2) in the manner of document 01's printed run.
use Rattle.std.specs.Prelude.{cond, List, ℕ, eqb}
use Rattle.model.specs.declared.Ring.{Ring}
use Rattle.model.specs.declared.Scan.{Scan}
use Rattle.model.specs.Reports.{with_plan}
use Rattle.model.specs.Text.{transition_line, refused_text}
use Rattle.model.specs.Scans.{scan_reports, told_all, scan_refusal}

-- "never more than 122": the room in which every sheet fits
abbrev pub sheet_room : ℕ
sheet_room = 122

-- a scan with room for its sheet: line i where it is served, `refused` and its number where it is not
unfoldable pub scan_text : ℕ → Ring → Scan → List ℕ
scan_text i ring s =
    let k = scan_refusal ring s sheet_room in
    cond (eqb k 0) (transition_line i (told_all ring (scan_reports s))) (refused_text k)

-- the ring behind it
unfoldable pub scan_ring : Ring → Scan → Ring
scan_ring ring s = cond (eqb (scan_refusal ring s sheet_room) 0) (with_plan (told_all ring (scan_reports s))) ring
