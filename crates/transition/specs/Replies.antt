-- The replies to a start, a step and a scan, by the checks that they pass.
use Rattle.std.specs.Prelude.{◌≡◌, false, List, ℕ, ◌≤◌, ◌<◌, length, Ok, Err}
use Rattle.std.proofs.Common.{sym, ◌∙◌, arith}
use Rattle.std.proofs.Math.Path.{ap}
use borrow.Author.Tests.{lt-ltb, le-ltb, ne_eqb}
use Rattle.model.specs.declared.Report.{Report}
use Rattle.model.specs.declared.Ring.{Ring}
use Rattle.model.specs.declared.RingAnswer.{RingAnswer}
use Rattle.model.specs.declared.Scan.{Scan}
use Rattle.model.specs.declared.Refusal.{Refusal}
use Rattle.model.specs.Values.{Outcome, refusal_number, outcome_of}
use Rattle.model.specs.Plant.{smallest, largest}
use Rattle.model.specs.Reports.{blank_ring, told}
use Rattle.model.specs.Refusals.{
  first_met,
  or_else,
  bad_ring,
  count_above,
  next_sheet,
  report_conditions,
  sheet_refusal,
  start_refusal,
  step_refusal,
}
use Rattle.model.specs.Answers.{refused_answer}
use Rattle.model.specs.Scans.{scan_reports, told_all, first_refusal, scan_refusal}
use Rattle.model.specs.Laws.Refusals.{inside, good_size, served_zero, refused_number}
use Rattle.model.specs.Laws.Answers.{Gives, gives_refused}
use Rattle.model.specs.Laws.Calls.{step_refusal_lem, scan_refusal_lem}
use Rattle.model.specs.Laws.Scans.{told_size}

-- the start of a ring of a good size: 8 is left
module _ (n : ℕ) (big : smallest ≤ n) (small : n ≤ largest) where
  start_refusal_lem : (room : ℕ) → start_refusal n room ≡ sheet_refusal room (next_sheet (blank_ring n))
  unfolding start_refusal sheet_refusal first_met
  start_refusal_lem room = rw (inside n big small)

  pub start_advanced : (ring kept : Ring) → ring ≡ blank_ring n → kept ≡ blank_ring 0 → (buffer : List ℕ) (a : RingAnswer) (after : List ℕ)
      → Gives (sheet_refusal (length buffer) (next_sheet ring)) ring kept buffer a after
      → Gives (start_refusal n (length buffer)) (blank_ring n) (blank_ring 0) buffer a after
  start_advanced ring kept e f buffer a after gives = rw (start_refusal_lem (length buffer)) (rw (e, f) at gives)

-- a call of the number k, for a ring that was told its reports: 8 comes after the refusal of the reports, whose checks have the outcome o
module _ (k reports : ℕ) (ring all_told : Ring) (buffer : List ℕ)
    (number : k ≡ or_else reports (sheet_refusal (length buffer) (next_sheet all_told))) (o : Outcome) (checked : o ≡ outcome_of reports)
    (a : RingAnswer) where
  reports_good : o ≡ Ok tt → (next kept : Ring) (after : List ℕ)
      → Gives (sheet_refusal (length buffer) (next_sheet next)) next kept buffer a after → next ≡ all_told → kept ≡ ring
      → Gives k all_told ring buffer a after
  reports_good e next kept after gives is same = rw (number, served_zero checked e) (rw (is, same) at gives)

  reports_bad : (r : Refusal) → o ≡ Err r → a ≡ refused_answer (refusal_number r) ring → Gives k all_told ring buffer a buffer
  reports_bad r e is =
      let z = refused_number checked r e in
      let early : k ≡ reports = number ∙ rw (ne_eqb reports 0 z.1) in
      rw early (gives_refused _ _ _ _ _ z.1 (is ∙ ap (λ l. refused_answer l ring) (sym z.0)))

-- the step of a good record
module _ (ring : Ring) (good : bad_ring ring ≡ false) (r : Report) (buffer : List ℕ) (o : Outcome)
    (checked : o ≡ outcome_of (first_met (report_conditions ring.n r))) (a : RingAnswer) where
  pub step_advanced : o ≡ Ok tt → (next kept : Ring) (after : List ℕ)
      → Gives (sheet_refusal (length buffer) (next_sheet next)) next kept buffer a after → next ≡ told ring r → kept ≡ ring
      → Gives (step_refusal ring r (length buffer)) (told ring r) ring buffer a after
  step_advanced = reports_good _ _ ring (told ring r) buffer (step_refusal_lem ring good r (length buffer)) o checked a

  pub step_refused : (k : Refusal) → o ≡ Err k → a ≡ refused_answer (refusal_number k) ring
      → Gives (step_refusal ring r (length buffer)) (told ring r) ring buffer a buffer
  step_refused = reports_bad _ _ ring (told ring r) buffer (step_refusal_lem ring good r (length buffer)) o checked a

-- the scan of a good record
module _ (ring : Ring) (good : bad_ring ring ≡ false) (s : Scan) where
  -- the ring told the scan's reports
  abbrev scanned : Ring
  scanned = told_all ring (scan_reports s)

  -- no report changes the size of the ring
  pub scanned_size : (next : Ring) → next ≡ scanned → (smallest ≤ next.n) × (next.n ≤ largest)
  scanned_size next is = rw (is, told_size ring (scan_reports s)) (good_size ring good)

  -- k is the number that the code refuses by
  pub scan_above : 64 < s.count → (buffer : List ℕ) (k : ℕ) → k ≡ 11 → (a : RingAnswer) → a ≡ refused_answer k ring
      → Gives (scan_refusal ring s (length buffer)) scanned ring buffer a buffer
  unfolding first_met count_above
  scan_above h buffer k e a is =
      rw (scan_refusal_lem ring good s (length buffer), lt-ltb 64 s.count h)
      (gives_refused 11 _ _ _ _ (λ z. omega arith) (is ∙ ap (λ l. refused_answer l ring) e))

  module _ (few : s.count ≤ 64) (buffer : List ℕ) (o : Outcome) (checked : o ≡ outcome_of (first_refusal ring.n (scan_reports s)))
      (a : RingAnswer) where
    number_is : scan_refusal ring s (length buffer)
        ≡ or_else (first_refusal ring.n (scan_reports s)) (sheet_refusal (length buffer) (next_sheet scanned))
    unfolding first_met count_above
    number_is = scan_refusal_lem ring good s (length buffer) ∙ rw (le-ltb 64 s.count few)

    pub scan_advanced : o ≡ Ok tt → (next kept : Ring) (after : List ℕ)
        → Gives (sheet_refusal (length buffer) (next_sheet next)) next kept buffer a after → next ≡ scanned → kept ≡ ring
        → Gives (scan_refusal ring s (length buffer)) scanned ring buffer a after
    scan_advanced = reports_good _ _ ring scanned buffer number_is o checked a

    pub scan_refused : (k : Refusal) → o ≡ Err k → a ≡ refused_answer (refusal_number k) ring
        → Gives (scan_refusal ring s (length buffer)) scanned ring buffer a buffer
    scan_refused = reports_bad _ _ ring scanned buffer number_is o checked a
