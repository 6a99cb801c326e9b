-- Document 02, Note 5: "Choices don't depend on load." Of our calls: two records with one ring, neither refused by 9, are switched alike. Of every
-- controller that meets demand 3: a list with bookings and cancellations leads to the plant and to what is shown that it leads to without them.
use Rattle.std.specs.Prelude.{◌≡◌, Bool, true, false, cond, ◌⊎◌, List, ℕ, ◌≤◌, eqb}
use Rattle.std.proofs.Math.Path.{refl}
use Rattle.std.proofs.Common.{sym, ◌∙◌, ap, inl, inr}
use Rattle.std.proofs.Math.Option.{some}
use Rattle.model.specs.declared.RingState.{RingState}
use Rattle.model.specs.Values.{refusal_number}
use Rattle.model.specs.Refusals.{first_met}
use Rattle.model.specs.States.{told_state, reckoned, bad_record, state_refusal, StateReply, refused_state, served_state, served_by, refused_by, state_by}
use Rattle.model.specs.CutSets.{cut_sets_refusal, cut_sets_reply}
use Rattle.model.specs.Plant.{smallest, largest}
use Rattle.model.specs.Laws.Tests.{contra, dec}
use Rattle.model.specs.Laws.Refusals.{good_size}
use Rattle.demands.specs.Statements.Demand3.{
  Controller,
  PlantState,
  after_words,
  Phases,
  decode,
  Call,
  step,
  scan,
  BookingCall,
  Calls,
  ◌then◌,
  reply_to,
  answer_to,
  words,
  lent,
  served_outcome,
  is_served,
  is_booked,
  World,
  Performed,
  Ended,
  started,
  served,
  refused,
  booked,
  not_booked,
  whole,
  AsChosen,
  Answered,
  Demand3,
}
use Rattle.demands.specs.Statements.Records.{Arrays}
use Rattle.demands.specs.Statements.Bookings.{SwitchAlike, unbooked, SeenAlike}
use Rattle.demands.specs.Controller.{controller}
use Rattle.demands.proofs.Proofs.Answering.{refusal_in, ring_good, call_refusal, call_reply_lem}
use Rattle.demands.proofs.Proofs.Standing.{same_phases, stands_good, booked_is, unbooked_is, booking_stands}
use Rattle.demands.proofs.Theorems.Records.{good_stands}

-- ---- two records with one ring

-- a call of one refusal
by_alike : (k : ℕ) (state other kept left : RingState) (buffer : List ℕ) → state.ring ≡ other.ring → kept.ring ≡ left.ring
    → SwitchAlike (state_by k state kept buffer) (state_by k other left buffer)
unfolding served_state refused_state reckoned
by_alike k state other kept left buffer e f = go (eqb k 0)
  where
    go : (t : Bool) → SwitchAlike
        (cond t (served_by state buffer) (refused_by k kept buffer)) (cond t (served_by other buffer) (refused_by k left buffer))
    go true = record { outcome = refl; ring = rw e; choices = rw e; buffer = rw e }
    go false = record { outcome = refl; ring = f; choices = refl; buffer = refl }

module _ (state other : RingState) (one : state.ring ≡ other.ring) (good : bad_record state ≡ false) (right : bad_record other ≡ false) where
  -- the same refusal meets a step or a scan
  same_refusal : (call : Call) → call_refusal state call ≡ call_refusal other call
  unfolding state_refusal first_met
  same_refusal (step r buffer) = rw (good, right, one)
  same_refusal (scan s buffer) = rw (good, right, one)

  told_alike : (call : Call) → (told_state state (words call)).ring ≡ (told_state other (words call)).ring
  unfolding told_state
  told_alike call = rw one

  -- "Choices don't depend on load.", nor do sheets
  pub switched_alike : (call : Call) → SwitchAlike (reply_to controller state call) (reply_to controller other call)
  switched_alike call =
      rw (call_reply_lem state call, call_reply_lem other call, same_refusal call)
      (by_alike (call_refusal other call) (told_state state (words call)) (told_state other (words call)) state other (lent call) (told_alike call) one)

  -- nor do cut sets
  pub listed_alike : (bus : ℕ) (buffer : List ℕ) → cut_sets_reply state bus buffer ≡ cut_sets_reply other bus buffer
  unfolding cut_sets_reply cut_sets_refusal first_met
  listed_alike bus buffer = rw (good, right, one)

-- ---- before and after a booking or a cancellation

-- it leaves the ring
pub booking_ring : (state : RingState) (b : BookingCall) → (answer_to controller state b).state.ring ≡ state.ring
unfolding reckoned
booking_ring state b = go (dec (is_booked (answer_to controller state b)))
  where
    go : (is_booked (answer_to controller state b) ≡ true) ⊎ (is_booked (answer_to controller state b) ≡ false)
        → (answer_to controller state b).state.ring ≡ state.ring
    go (inl e) = ap (λ (x : RingState). x.ring) (booked_is state b e)
    go (inr e) = ap (λ (x : RingState). x.ring) (unbooked_is state b e)

module _ (state : RingState) (arrays : Arrays state) (good : bad_record state ≡ false) (b : BookingCall) where
  -- .. and a record that 9 does not meet
  pub booking_good : bad_record (answer_to controller state b).state ≡ false
  booking_good = go (dec (is_booked (answer_to controller state b)))
    where
      size : (smallest ≤ state.ring.n) × (state.ring.n ≤ largest)
      size = good_size state.ring (ring_good state good)

      go : (is_booked (answer_to controller state b) ≡ true) ⊎ (is_booked (answer_to controller state b) ≡ false)
          → bad_record (answer_to controller state b).state ≡ false
      go (inl e) = stands_good size.0 size.1 (booking_stands size.0 size.1 (good_stands state good arrays) b e)
      go (inr e) = rw (unbooked_is state b e) good

  -- so the next step or scan is what it would have been without it, to the last byte of the sheet
  pub booked_alike : (call : Call) → SwitchAlike (reply_to controller (answer_to controller state b).state call) (reply_to controller state call)
  booked_alike = switched_alike (answer_to controller state b).state state (booking_ring state b) booking_good good

-- ---- a list without its bookings and cancellations

-- two calls that the same refusals meet are served alike
serve_alike : {Met : ℕ → Type 0} {kept left : RingState} {buffer : List ℕ} {a b : StateReply} → Answered Met kept buffer a
    → Answered Met left buffer b → is_served a ≡ true → is_served b ≡ true
serve_alike {a = a} {b = b} p q e = go (dec (is_served b))
  where
    go : (is_served b ≡ true) ⊎ (is_served b ≡ false) → is_served b ≡ true
    go (inl f) = f
    go (inr f) =
        let t = refusal_in b.answer.outcome f in
        contra e (ap served_outcome (p.always (refusal_number t.0) (q.only t.0 t.1)))

-- two replies that are document 01's for one plant have one sheet's phases and the same choices
phases_alike : {n : ℕ} {P : PlantState} {a b : StateReply} {ph : Phases} → AsChosen n P a → AsChosen n P b → decode n a.buffer ≡ some ph
    → (decode n b.buffer ≡ some ph) × (b.answer.choices ≡ a.answer.choices)
phases_alike {n} {b = b} {ph = ph} p q d =
    let z = same_phases d p.decodes in
    let same : q.phases ≡ ph = (λ i. record {
      first = (q.first_is ∙ sym p.first_is) i;
      second = (q.second_is ∙ sym p.second_is) i;
    }) ∙ sym z in
    (q.decodes ∙ ap some same, q.choices_are ∙ sym p.choices_are)

module _ {c : Controller} (meets : Demand3 c) (n : ℕ) (buffer : List ℕ) (begun : is_served (c.start n buffer) ≡ true) where
  -- one call more
  call_alike : {calls left : Calls} {W U : World} (call : Call) {ph : Phases} {Q : PlantState} → Ended c n buffer calls W
      → Ended c n buffer left U → SeenAlike U W
      → is_served (reply_to c W.state call) ≡ true → decode n (reply_to c W.state call).buffer ≡ some ph
      → Performed ph (after_words (words call) W.plant) Q
      → (T : World) × Ended c n buffer (left then call) T × (T.plant ≡ Q) × (T.shown ≡ (reply_to c W.state call).answer.choices)
  call_alike {calls} {left} {W} {U} call {ph} {Q} h k alike e d q =
      let there = meets.holds n buffer begun (calls then call) in
      let here = meets.holds n buffer begun (left then call) in
      let yes = serve_alike (there.answered call whole h) (rw alike.plant at (here.answered call whole k)) e in
      let t = phases_alike (there.chosen call whole h e) (rw alike.plant at (here.chosen call whole k yes)) d in
      let same : Performed ph (after_words (words call) U.plant) Q = rw alike.plant q in
      (_, served call k yes t.0 same, refl, t.1)

  -- .. or one that is refused
  refused_alike : {calls left : Calls} {W U : World} (call : Call) → Ended c n buffer calls W → Ended c n buffer left U → SeenAlike U W
      → is_served (reply_to c W.state call) ≡ false → is_served (reply_to c U.state call) ≡ false
  refused_alike {calls} {left} {W} {U} call h k alike e = go (dec (is_served (reply_to c U.state call)))
    where
      go : (is_served (reply_to c U.state call) ≡ true) ⊎ (is_served (reply_to c U.state call) ≡ false)
          → is_served (reply_to c U.state call) ≡ false
      go (inr f) = f
      go (inl f) =
          let there = (meets.holds n buffer begun (calls then call)).answered call whole h in
          let here = (meets.holds n buffer begun (left then call)).answered call whole k in
          contra (serve_alike (rw alike.plant at here) there f) e

  -- a start and any calls: "they do nothing to the plant or to what is shown"
  pub without_bookings : {calls : Calls} {W : World} → Ended c n buffer calls W
      → (U : World) × Ended c n buffer (unbooked calls) U × SeenAlike U W
  unfolding unbooked
  without_bookings (started e d q) = (_, started e d q, record { plant = refl; shown = refl })
  without_bookings (served call h e d q) =
      let t = without_bookings h in
      let u = call_alike call h t.1 t.2 e d q in
      (u.0, u.1, record { plant = u.2; shown = u.3 })
  without_bookings (refused call h e) =
      let t = without_bookings h in
      (_, refused call t.1 (refused_alike call h t.1 t.2 e), record { plant = t.2.plant; shown = t.2.shown })
  without_bookings (booked call h e) =
      let t = without_bookings h in
      (t.0, t.1, record { plant = t.2.plant; shown = t.2.shown })
  without_bookings (not_booked call h e) =
      let t = without_bookings h in
      (t.0, t.1, record { plant = t.2.plant; shown = t.2.shown })
