-- The reports of a scan, one after the other: a ring told each, and the first that is refused. Reports are counted from 0.
use Rattle.std.specs.Prelude.{◌≡◌, refl, List, ℕ, suc, ◌+◌, ◌≤◌, ◌<◌, length, get_or, take, drop, Ok, Err}
use Rattle.std.proofs.Common.{sym, ◌∙◌, ap, drop-cons, ne_eqb}
use Rattle.std.proofs.Math.Numerals.{add-one}
use Rattle.std.proofs.Math.ListN.{drop_of_length-le}
use Rattle.std.proofs.Math.Seq.{take-suc, take-length}
use Rattle.model.specs.declared.Report.{Report}
use Rattle.model.specs.declared.Ring.{Ring}
use Rattle.model.specs.declared.Refusal.{Refusal}
use Rattle.model.specs.Values.{Outcome, outcome_number, outcome_of}
use Rattle.model.specs.Reports.{told}
use Rattle.model.specs.Refusals.{first_met, or_else, report_conditions}
use Rattle.model.specs.Scans.{told_all, first_refusal}
use Rattle.model.specs.Laws.Refusals.{outcome_is, served_zero, refused_by}
use Rattle.model.specs.Laws.Scans.{told_append}

-- ---- the ring told each report

-- a ring told the first i reports of l
unfoldable pub told_first : Ring → List Report → ℕ → Ring
told_first ring l i = told_all ring (take i l)

module _ (ring : Ring) (l : List Report) where
  pub told_none : ring ≡ told_first ring l 0
  unfolding told_first told_all
  told_none = refl

  pub told_more : (i : ℕ) (d : Report) {next after : Ring} → i < length l → next ≡ told_first ring l i
      → after ≡ told next (get_or l i d) → after ≡ told_first ring l (i + 1)
  unfolding told_first
  told_more i d h e is = is ∙ rw (e, add-one, take-suc l i d h, told_append ring (take i l) (get_or l i d))

  pub told_every : (i : ℕ) {next : Ring} → i ≡ length l → next ≡ told_first ring l i → next ≡ told_all ring l
  unfolding told_first
  told_every i h is = is ∙ rw (h, take-length l)

-- ---- the first report that is refused

-- the reports before the i-th of l are not refused: those from the i-th on decide
unfoldable pub DecidedFrom : ℕ → List Report → ℕ → Type 0
DecidedFrom n l i = first_refusal n l ≡ first_refusal n (drop i l)

-- o is the outcome of the reports l
abbrev pub Checked : ℕ → List Report → Outcome → Type 0
Checked n l o = (o ≡ outcome_of (first_refusal n l)) × (outcome_number o ≡ first_refusal n l)

module _ (n : ℕ) (l : List Report) where
  pub none_passed : DecidedFrom n l 0
  unfolding DecidedFrom
  none_passed = refl

  pub all_passed : (i : ℕ) → length l ≤ i → DecidedFrom n l i → Checked n l (Ok tt)
  unfolding DecidedFrom first_refusal outcome_of
  all_passed i h decided = outcome_is _ (Ok tt) (rw (decided, drop_of_length-le l {i = i} h))

  module _ (i : ℕ) (d : Report) (h : i < length l) (decided : DecidedFrom n l i) (o : Outcome)
      (is : o ≡ outcome_of (first_met (report_conditions n (get_or l i d)))) where
    -- the refusal of the i-th
    abbrev own : ℕ
    own = first_met (report_conditions n (get_or l i d))

    -- the i-th, then those after it
    then_rest_lem : first_refusal n l ≡ or_else own (first_refusal n (drop (suc i) l))
    unfolding DecidedFrom first_refusal
    then_rest_lem = decided ∙ rw (drop-cons l i d h)

    pub report_good : o ≡ Ok tt → DecidedFrom n l (i + 1)
    unfolding DecidedFrom
    report_good e = then_rest_lem ∙ rw (served_zero is e, add-one)

    -- the first report that is refused refuses them
    pub report_bad : (r : Refusal) → o ≡ Err r → Checked n l (Err r)
    report_bad r e =
        let z = refused_by is r e in
        let first : first_refusal n l ≡ own = then_rest_lem ∙ rw (ne_eqb own 0 z.1) in
        outcome_is _ (Err r) (sym e ∙ is ∙ ap outcome_of (sym first))
