-- Laws of the answers to a start, a step or a scan: served or refused, with the number of the outcome and the values of the choices.
use Rattle.std.specs.Prelude.{◌≡◌, refl, List, ◌≢◌, ℕ}
use Rattle.std.proofs.Common.{ne_eqb}
use Rattle.model.specs.declared.Ring.{Ring}
use Rattle.model.specs.declared.RingAnswer.{RingAnswer}
use Rattle.model.specs.Values.{outcome_number, choice_values}
use Rattle.model.specs.Sheet.{written}
use Rattle.model.specs.Reports.{health_of}
use Rattle.model.specs.Refusals.{next_sheet}
use Rattle.model.specs.Answers.{refused_answer, refused_reply, served_answer, served_reply, reply_by, call_values}
use Rattle.model.specs.Laws.Refusals.{number_of_refusal}
use Rattle.model.specs.Laws.Choosing.{choices_values, dark_values}

-- a call of refusal k answers r and leaves the bytes `after` in the buffer: its reply, its number and the values of its choices
abbrev pub Gives : ℕ → Ring → Ring → List ℕ → RingAnswer → List ℕ → Type 0
Gives k ring kept buffer r after =
    (r ≡ (reply_by k ring kept buffer).answer)
    × ((after ≡ (reply_by k ring kept buffer).buffer)
    × ((outcome_number r.outcome ≡ k) × (choice_values r.choices ≡ call_values k ring)))

module _ (k : ℕ) (ring kept : Ring) (buffer : List ℕ) (r : RingAnswer) where
  pub gives_served : (after : List ℕ) → k ≡ 0 → r ≡ served_answer ring → after ≡ written (next_sheet ring) buffer
      → Gives k ring kept buffer r after
  unfolding served_reply served_answer call_values
  gives_served after e is left = rw (e, is) (refl, (left, (refl, choices_values ring.n (health_of ring.health))))

  pub gives_refused : k ≢ 0 → r ≡ refused_answer k kept → Gives k ring kept buffer r buffer
  unfolding refused_reply refused_answer call_values
  gives_refused e is = rw (ne_eqb k 0 e, is) (refl, (refl, (number_of_refusal k, dark_values ring.n)))
