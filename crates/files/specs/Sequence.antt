-- The reports of a file, first to last: the first refusal among them. Reports are counted from 0.
use Rattle.std.specs.Prelude.{◌≡◌, refl, true, false, cond, ◌⊎◌, ◌≢◌, List, ℕ, ◌+◌, ◌≤◌, ◌<◌, eqb, length, drop, Result, Ok, Err}
use Rattle.std.specs.Prelude as std
use Rattle.std.proofs.Math.Path.{sym, ap}
use Rattle.std.proofs.Common.{◌∙◌, inl, inr, ne_eqb, add-one, drop_of_length-le, drop-cons}
use Rattle.std.proofs.lemmas.Bool.{eqb-false}
use Rattle.std.proofs.Math.Option.{Option, none, some}
use Rattle.model.specs.declared.Part.{Part}
use Rattle.model.specs.declared.Word.{Word}
use Rattle.model.specs.declared.Report.{Report}
use Rattle.model.specs.declared.Refusal.{Refusal}
use Rattle.model.specs.Values.{Outcome, refusal_number, refusal_of, outcome_of, report_values}
use Rattle.model.specs.Reports.{part_named, word_named}
use Rattle.model.specs.Refusals.{first_met, or_else, report_conditions, report_of, report_answer, report_refusal, reports_refusal}
use Rattle.model.specs.Answers.{report_at}
use Rattle.model.specs.Laws.Tests.{dec, dec_lt}
use Rattle.model.specs.Laws.Refusals.{refusal_named, number_of_refusal, refused_of}
use Rattle.reports.specs.Reports.{past_codes, past_words, within_both}

-- the outcome of a report, then of those after it
abbrev then_rest : Result (std.Option Report) Refusal → Outcome → Outcome
then_rest (Ok (std.Some r)) rest = rest
then_rest (Ok std.None) rest = Ok tt
then_rest (Err r) rest = Err r

-- a refusal whose number is not 0 comes before what follows it
refused_first : (r : Refusal) (rest : ℕ) → refusal_number r ≢ 0 → outcome_of (or_else (refusal_number r) rest) ≡ Err r
refused_first r rest numbered = rw (ne_eqb (refusal_number r) 0 numbered) (refused_of (refusal_number r) numbered ∙ ap Err (refusal_named r))

one_report : (n c v rest : ℕ) → outcome_of (or_else (report_refusal n c v) rest) ≡ then_rest (report_answer n c v) (outcome_of rest)
unfolding report_refusal report_answer report_of outcome_of refusal_of
one_report n c v rest = go (part_named n c) (word_named v)
  where
    by_number : (k : ℕ) (r : Report) → (eqb k 0 ≡ true) ⊎ (eqb k 0 ≡ false)
        → outcome_of (or_else (report_values (cond (eqb k 0) (Ok (std.Some r)) (Err (refusal_of k)))).0 rest)
        ≡ then_rest (cond (eqb k 0) (Ok (std.Some r)) (Err (refusal_of k))) (outcome_of rest)
    by_number k r (inl q) = rw q
    by_number k r (inr q) = simp q (refused_first (refusal_of k) rest (λ z. eqb-false k 0 q (sym (number_of_refusal k) ∙ z)))

    go : (o : Option Part) (u : Option Word)
        → outcome_of (or_else (report_values (report_of n o u)).0 rest) ≡ then_rest (report_of n o u) (outcome_of rest)
    go none u = refl
    go (some p) none = refl
    go (some p) (some w) = by_number (first_met (report_conditions n (record { part = p; word = w }))) (record { part = p; word = w }) (dec _)

-- the outcome of the reports from the i-th on
abbrev outcome_from : ℕ → List ℕ → List ℕ → ℕ → Outcome
outcome_from n cs vs i = outcome_of (reports_refusal n (drop i cs) (drop i vs))

reports_step : (n : ℕ) (cs vs : List ℕ) (i : ℕ) → outcome_from n cs vs i ≡ then_rest (report_at n cs vs i) (outcome_from n cs vs (i + 1))
unfolding outcome_of reports_refusal
reports_step n cs vs i = go (dec_lt i (length cs)) (dec_lt i (length vs))
  where
    go : (i < length cs) ⊎ (length cs ≤ i) → (i < length vs) ⊎ (length vs ≤ i)
        → outcome_from n cs vs i ≡ then_rest (report_at n cs vs i) (outcome_from n cs vs (i + 1))
    go (inl p) (inl q) = rw (← within_both n cs vs i p q, add-one, drop-cons cs i 0, drop-cons vs i 0) (one_report n _ _ _)
    go (inl p) (inr q) = rw (← past_words n cs vs i q, drop_of_length-le vs q, drop-cons cs i 0)
    go (inr p) q = rw (← past_codes n cs vs i p, drop_of_length-le cs p)

-- the reports before the i-th are not refused: those from it on decide
abbrev pub DecidedFrom : ℕ → List ℕ → List ℕ → ℕ → Type 0
DecidedFrom n cs vs i = outcome_of (reports_refusal n cs vs) ≡ outcome_from n cs vs i

module _ (n : ℕ) (cs vs : List ℕ) (i : ℕ) (decided : DecidedFrom n cs vs i) where
  pub reports_done : length cs ≤ i → Ok tt ≡ outcome_of (reports_refusal n cs vs)
  unfolding reports_refusal outcome_of
  reports_done h = sym (decided ∙ rw (drop_of_length-le cs h))

  module _ (a : Result (std.Option Report) Refusal) (is : a ≡ report_at n cs vs i) where
    then_rest_lem : outcome_of (reports_refusal n cs vs) ≡ then_rest a (outcome_from n cs vs (i + 1))
    then_rest_lem = decided ∙ rw is (reports_step n cs vs i)

    pub report_read : (r : Report) → a ≡ Ok (std.Some r) → DecidedFrom n cs vs (i + 1)
    report_read r e = then_rest_lem ∙ rw e

    pub report_refused : (k : Refusal) → a ≡ Err k → Err k ≡ outcome_of (reports_refusal n cs vs)
    report_refused k e = sym (then_rest_lem ∙ rw e)

    pub report_missing : a ≡ Ok std.None → Ok tt ≡ outcome_of (reports_refusal n cs vs)
    report_missing e = sym (then_rest_lem ∙ rw e)
