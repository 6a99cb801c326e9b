-- A ring that was told its reports, taken to the commands that its health and locks call for: served, or refused by 8.
use Rattle.std.specs.Prelude.{◌≡◌, List, ℕ, ◌≤◌, length, Ok, Err}
use Rattle.std.proofs.Common.{sym, ◌∙◌, eq-eqb, ne_eqb}
use Rattle.std.proofs.Math.Path.{ap}
use Rattle.model.specs.declared.Commands.{Commands}
use Rattle.model.specs.declared.Ring.{Ring}
use Rattle.model.specs.declared.BusChoice.{BusChoice}
use Rattle.model.specs.declared.RingAnswer.{RingAnswer}
use Rattle.model.specs.declared.Refusal.{Refusal}
use Rattle.model.specs.Values.{Outcome, refusal_number, outcome_of}
use Rattle.model.specs.Plant.{largest}
use Rattle.model.specs.Choosing.{choices}
use Rattle.model.specs.Reports.{health_of, command_places, planned, with_plan}
use Rattle.model.specs.Refusals.{sheet_refusal, next_sheet}
use Rattle.model.specs.Answers.{buffer_after, refused_answer, served_answer}
use Rattle.model.specs.Laws.Refusals.{served_zero, refused_number}
use Rattle.model.specs.Laws.Answers.{Gives, gives_served, gives_refused}
use Rattle.sheet.specs.Writing.{sheet_by, sheet_is}

-- the answer of a ring with new commands and choices
abbrev pub with_commands : Ring → Commands → List BusChoice → RingAnswer
with_commands ring new cs = record { outcome = Ok tt; ring = record { n = ring.n; health = ring.health; commands = new }; choices = cs }

module _ (ring : Ring) (small : ring.n ≤ largest) (new : Commands) (planned_is : new ≡ command_places (planned ring)) (cs : List BusChoice)
    (chosen_is : cs ≡ choices ring.n (health_of ring.health)) where
  -- the sheet to the commands planned is the next one
  next_sheet_lem : sheet_by ring.n ring.commands new cs ≡ next_sheet ring
  unfolding next_sheet planned
  next_sheet_lem = sheet_is ring.n small ring.commands new cs (health_of ring.health) planned_is chosen_is

  -- what the writing of that sheet says
  module _ (kept : Ring) (buffer after : List ℕ) (o : Outcome)
      (wrote : o ≡ outcome_of (sheet_refusal (length buffer) (sheet_by ring.n ring.commands new cs)))
      (left : after ≡ buffer_after (sheet_by ring.n ring.commands new cs) buffer) where
    -- the refusal, of the next sheet
    abbrev refusal : ℕ
    refusal = sheet_refusal (length buffer) (next_sheet ring)

    outcome_is : o ≡ outcome_of refusal
    outcome_is = wrote ∙ ap (λ s. outcome_of (sheet_refusal (length buffer) s)) next_sheet_lem

    left_is : after ≡ buffer_after (next_sheet ring) buffer
    left_is = left ∙ ap (λ s. buffer_after s buffer) next_sheet_lem

    pub advance_served : o ≡ Ok tt → Gives refusal ring kept buffer (with_commands ring new cs) after
    unfolding buffer_after served_answer with_plan
    advance_served e =
        let z = served_zero outcome_is e in
        gives_served _ _ _ _ _ _ z (rw (chosen_is, planned_is)) (left_is ∙ rw (eq-eqb refusal 0 z))

    pub advance_refused : (r : Refusal) → o ≡ Err r → (a : RingAnswer) → a ≡ refused_answer (refusal_number r) kept
        → Gives refusal ring kept buffer a after
    unfolding buffer_after
    advance_refused r e a is =
        let z = refused_number outcome_is r e in
        let kept_bytes : after ≡ buffer = left_is ∙ rw (ne_eqb refusal 0 z.1) in
        rw kept_bytes (gives_refused _ _ _ _ _ z.1 (is ∙ ap (λ k. refused_answer k kept) (sym z.0)))
