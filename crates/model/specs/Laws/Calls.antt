-- The refusals of a step and of a scan with a record that 9 does not meet, one after the other.
use Rattle.std.specs.Prelude.{◌≡◌, refl, Bool, true, false, cond, ◌⊎◌, ◌≢◌, [], ◌∷◌}
use Rattle.std.proofs.Common.{inl, inr, ne_eqb}
use Prim.Native.Nat.{ℕ}
use Rattle.model.specs.declared.Report.{Report}
use Rattle.model.specs.declared.Ring.{Ring}
use Rattle.model.specs.declared.Scan.{Scan}
use Rattle.model.specs.Values.{word_number}
use Rattle.model.specs.Reports.{told}
use Rattle.model.specs.Refusals.{
  first_met,
  or_else,
  not_of_ring,
  word_of_other_kind,
  bad_ring,
  count_above,
  next_sheet,
  report_conditions,
  sheet_refusal,
  step_refusal,
}
use Rattle.model.specs.Scans.{scan_reports, told_all, first_refusal, scan_refusal}
use Rattle.model.specs.Laws.Tests.{dec_eq}

-- nothing after a refusal
pub or_nothing : (k : ℕ) → or_else k 0 ≡ k
or_nothing k = go (dec_eq k 0)
  where
    go : (k ≡ 0) ⊎ (k ≢ 0) → or_else k 0 ≡ k
    go (inl e) = rw e
    go (inr e) = rw (ne_eqb k 0 e)

module _ (ring : Ring) (good : bad_ring ring ≡ false) where
  -- 5 and 6 come before 8
  pub step_refusal_lem : (r : Report) (room : ℕ)
      → step_refusal ring r room ≡ or_else (first_met (report_conditions ring.n r)) (sheet_refusal room (next_sheet (told ring r)))
  unfolding step_refusal sheet_refusal first_met report_conditions
  step_refusal_lem r room =
      rw good (go (not_of_ring ring.n r.part) (word_of_other_kind r.part (word_number r.word)))
    where
      eight : ℕ
      eight = sheet_refusal room (next_sheet (told ring r))

      go : (five six : Bool) → cond five 5 (cond six 6 eight) ≡ or_else (cond five 5 (cond six 6 0)) eight
      go true six = refl
      go false true = refl
      go false false = refl

  -- 11 comes before the reports, and they before 8
  pub scan_refusal_lem : (s : Scan) (room : ℕ)
      → scan_refusal ring s room ≡ or_else (first_met ((11, count_above s.count) ∷ []))
      (or_else (first_refusal ring.n (scan_reports s)) (sheet_refusal room (next_sheet (told_all ring (scan_reports s)))))
  unfolding scan_refusal first_met
  scan_refusal_lem s room = rw good
