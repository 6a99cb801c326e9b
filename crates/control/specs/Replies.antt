-- The replies to a start, a step and a scan: the inner answer with the load beside the ring.
use Rattle.std.specs.Prelude.{◌≡◌, true, false, ◌⊎◌, ◌≢◌, List, ℕ, ◌≤◌, length, Ok}
use Rattle.std.proofs.Common.{sym, ◌∙◌, ap, inl, inr, arith}
use mathlib.Core.List.Memᴰ
use borrow.Author.Tests.{eq-eqb, ne_eqb}
use Rattle.model.specs.declared.Load.{Load}
use Rattle.model.specs.declared.Ring.{Ring}
use Rattle.model.specs.declared.RingState.{RingState}
use Rattle.model.specs.declared.RingAnswer.{RingAnswer}
use Rattle.model.specs.declared.StateAnswer.{StateAnswer}
use Rattle.model.specs.Values.{outcome_number, choice_values}
use Rattle.model.specs.Plant.{largest}
use Rattle.model.specs.Reports.{blank_ring, called_for, with_plan}
use Rattle.model.specs.Refusals.{first_met, size_outside, start_refusal}
use Rattle.model.specs.Answers.{refused_answer, refused_reply, served_answer, served_reply, reply_by, call_values}
use Rattle.model.specs.Bookings.{most_live, live_bookings, no_load}
use Rattle.model.specs.States.{unloaded, reckoned, bad_record, state_refusal, refused_state, served_state, state_by}
use Rattle.model.specs.Laws.Tests.{dec_eq}
use Rattle.model.specs.Laws.Refusals.{served_refused}
use Rattle.model.specs.Laws.Answers.{Gives, gives_refused}
use Rattle.model.specs.Laws.Bookings.{AllBookable, OnRing}
use Rattle.theory.specs.Proofs.Choosing.{choices_inside}
use Rattle.reckoning.specs.Loads.{with_load}

-- a call of refusal k answers r and leaves the bytes `after` in the buffer: its reply, its number and the values of its choices
abbrev pub StateGives : ℕ → RingState → RingState → List ℕ → StateAnswer → List ℕ → Type 0
StateGives k state kept buffer r after =
    (r ≡ (state_by k state kept buffer).answer)
    × ((after ≡ (state_by k state kept buffer).buffer)
    × ((outcome_number r.outcome ≡ k) × (choice_values r.choices ≡ call_values k state.ring)))

-- an inner reply, with a load beside the ring
module _ (k : ℕ) (ring kept : Ring) (load : Load) (buffer after : List ℕ) (a : RingAnswer) (r : StateAnswer) (is : r ≡ with_load a load)
    (gives : Gives k ring kept buffer a after) where
  abbrev state : RingState
  state = record { ring = ring; load = load }

  abbrev back : RingState
  back = record { ring = kept; load = load }

  answer_is : r ≡ (state_by k state back buffer).answer
  unfolding with_load served_reply served_answer refused_reply refused_answer served_state refused_state reckoned with_plan
  answer_is = is ∙ go (dec_eq k 0)
    where
      go : (k ≡ 0) ⊎ (k ≢ 0) → with_load a load ≡ (state_by k state back buffer).answer
      go (inl e) = rw (gives.0, eq-eqb k 0 e)
      go (inr e) = rw (gives.0, ne_eqb k 0 e)

  bytes_are : after ≡ (state_by k state back buffer).buffer
  unfolding served_reply refused_reply
  bytes_are = gives.1.0 ∙ go (dec_eq k 0)
    where
      go : (k ≡ 0) ⊎ (k ≢ 0) → (reply_by k ring kept buffer).buffer ≡ (state_by k state back buffer).buffer
      go (inl e) = rw (eq-eqb k 0 e)
      go (inr e) = rw (ne_eqb k 0 e)

  pub gives_state : StateGives k state back buffer r after
  unfolding with_load
  gives_state = (answer_is, (bytes_are, rw is gives.1.1))

-- where an inner call is served, its choices are those of the ring that was told its reports
pub served_choices : (k : ℕ) (ring kept : Ring) (buffer after : List ℕ) (a : RingAnswer) → Gives k ring kept buffer a after
    → a.outcome ≡ Ok tt
    → a.choices ≡ called_for ring
unfolding served_reply served_answer
served_choices k ring kept buffer after a gives e =
    let z : 0 ≡ k = ap outcome_number (sym e) ∙ gives.1.1.0 in
    let f : a ≡ (reply_by 0 ring kept buffer).answer = rw (← z) at gives.0 in
    rw f

-- .. so that a load on it has figures
pub on_ring : (k : ℕ) (ring kept : Ring) (buffer after : List ℕ) (a : RingAnswer) → Gives k ring kept buffer a after → (load : Load)
    → ring.n ≤ largest
    → load.live ≤ most_live
    → AllBookable ring.n (live_bookings load)
    → a.outcome ≡ Ok tt
    → (load.live ≤ most_live) × OnRing a.choices (live_bookings load)
on_ring k ring kept buffer after a gives load small few all e = (
  few,
  record {
    n = ring.n;
    small = small;
    inside = rw (served_choices k ring kept buffer after a gives e) (choices_inside ring.n _ small);
    bookable = all;
  },
)

-- a refused answer is not served
pub never_served : {A : Type 0} (k : ℕ) (ring : Ring) {a : RingAnswer} → a ≡ refused_answer k ring → a.outcome ≡ Ok tt → A
unfolding refused_answer
never_served k ring is e = served_refused e (ap (λ (x : RingAnswer). x.outcome) is)

-- ---- start

module _ (n : ℕ) (buffer : List ℕ) (a : RingAnswer) (load : Load) (none : load ≡ no_load) (r : StateAnswer) (is : r ≡ with_load a load) where
  abbrev Starts : List ℕ → Type 0
  Starts after = StateGives (start_refusal n (length buffer)) (unloaded (blank_ring n)) (unloaded (blank_ring 0)) buffer r after

  pub start_inner : (after : List ℕ) → Gives (start_refusal n (length buffer)) (blank_ring n) (blank_ring 0) buffer a after → Starts after
  unfolding unloaded
  start_inner after gives = gives_state _ (blank_ring n) (blank_ring 0) no_load buffer after a r (is ∙ rw none) gives

  -- 2 comes first; k is the number that the code refuses by
  pub start_refused : (k : ℕ) (kept : Ring) → size_outside n ≡ true → a ≡ refused_answer k kept → k ≡ 2 → kept ≡ blank_ring 0 → Starts buffer
  unfolding start_refusal first_met
  start_refused k kept e back f g = start_inner buffer (rw e (gives_refused 2 _ _ _ _ (λ z. omega arith) (back ∙ rw (f, g))))

-- a load without bookings is within its bounds
pub none_bookable : (n : ℕ) (load : Load) → load ≡ no_load → (load.live ≤ most_live) × AllBookable n (live_bookings load)
unfolding no_load
none_bookable n load e = rw e (omega arith, λ b m. absurd (Memᴰ.not-nil m))

-- ---- step and scan: 9 comes first

module _ (state : RingState) (k : ℕ) (ring : Ring) (buffer : List ℕ) (a : RingAnswer) (r : StateAnswer) (is : r ≡ with_load a state.load)
  where
    abbrev Answers : List ℕ → Type 0
    Answers after = StateGives (state_refusal state k) (record { ring = ring; load = state.load }) state buffer r after

    -- j is the number that the code refuses by
    pub bad_refused : (j : ℕ) (kept : Ring) → bad_record state ≡ true → a ≡ refused_answer j kept → j ≡ 9 → kept ≡ state.ring → Answers buffer
    unfolding state_refusal first_met
    bad_refused j kept e back f g =
        gives_state _ ring state.ring state.load buffer buffer a r is (rw e (gives_refused 9 _ _ _ _ (λ z. omega arith) (back ∙ rw (f, g))))

    pub good_inner : (after : List ℕ) → bad_record state ≡ false → Gives k ring state.ring buffer a after → Answers after
    unfolding state_refusal first_met
    good_inner after e gives = gives_state _ ring state.ring state.load buffer after a r is (rw e gives)
