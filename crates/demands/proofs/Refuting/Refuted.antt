-- A controller that fails the test of a claim does not meet the demand: of each claim, by its field and no other.
use Rattle.std.specs.Prelude.{◌≡◌, Bool, ◌&&◌, ◌||◌, ◌≢◌, ◌⊎◌, ◌↔◌, ltb, eqb, length, take, Ok, Err}
use Rattle.std.proofs.Math.Path.{refl, ap}
use Rattle.std.proofs.Common.{sym, ◌∙◌, inl, inr, arith, eq-eqb, ltb-true, lt-ltb}
use Rattle.std.proofs.Math.Bool.{true, false, not, beq}
use mathlib.Core.List.Memᴰ
use mathlib.Core.List.{List, [], ◌∷◌, map}
use Rattle.std.proofs.Math.Option.{Option, none, some}
use Prim.Native.Nat.{ℕ, zero, suc, ◌≤◌, ◌<◌}
use Rattle.std.proofs.Math.ListN.{drop}
use Rattle.std.proofs.lemmas.Bool.{not-true}
use Rattle.model.specs.declared.Part.{Part}
use Rattle.model.specs.declared.Report.{Report}
use Rattle.model.specs.declared.RingState.{RingState}
use Rattle.model.specs.declared.Choice.{Choice}
use Rattle.model.specs.declared.Choice.TheVariants as choice
use Rattle.model.specs.declared.BookingAnswer.{BookingAnswer}
use Rattle.model.specs.declared.Refusal.{Refusal}
use Rattle.model.specs.declared.Feed.{Feed}
use Rattle.model.specs.declared.Feed.TheVariants as feed
use Rattle.model.specs.Lists.{below, first, any_of, sum, is_none, ◌∈◌, RisingBy, empty, more}
use Rattle.model.specs.Values.{part_code, same_part, Outcome, refusal_number, refusal_of, outcome_number, choice_source, choice_at}
use Rattle.model.specs.Plant.{PartHealth, largest, InRing, parts, bus_feed, Reaches}
use Rattle.model.specs.Priority.{Path}
use Rattle.model.specs.Choosing.{permitted, choose, chosen, plan, commands, choice_of}
use Rattle.model.specs.Sheet.{opening, closing}
use Rattle.model.specs.Reports.{blank_ring}
use Rattle.model.specs.States.{StateReply, unloaded}
use Rattle.model.specs.Laws.Tests.{contra, dec, dec_lt, or_cases, and_left, and_right, and_intro, not_less}
use Rattle.model.specs.Laws.Refusals.{number_of_refusal}
use Rattle.model.specs.Laws.Lists.{any_at, any_in, below_lt, first_none, first_past, none_some}
use Rattle.model.specs.Laws.Parts.{parts_at, same_refl}
use Rattle.model.specs.Laws.Sheet.{closing_paths}
use Rattle.model.specs.Laws.Choosing.{choices_at}
use Rattle.theory.specs.Theorems.Completeness.{de_energized_exactly}
use Rattle.theory.specs.Theorems.Feeds.{reaches_usable, usable_reaches}
use Rattle.demands.specs.Statements.Demand3.{
  Controller,
  PlantState,
  fresh_plant,
  after_words,
  Operation,
  operation,
  perform_all,
  Phases,
  decode,
  Call,
  Calls,
  ◌then◌,
  ◌also◌,
  nothing,
  is_stuck_closed,
  whole,
  longer,
  longer_booking,
  reply_to,
  answer_to,
  words,
  lent,
  served_outcome,
  is_served,
  World,
  Performed,
  Ended,
  started,
  served,
  refused,
  Moment,
  in_first,
  in_second,
  excepted,
  Interrupted,
  in_start,
  between,
  in_call,
  shown_at,
  BusShown,
  RecordGiven,
  LoadGiven,
  AsChosen,
  StartMeets,
  too_large,
  Meets,
  BookingMeets,
  BookingAnswered,
  Answered,
  Holds,
  Demand3,
}
use Rattle.theory.proofs.Theorems.Closing.{closing_at}
use Rattle.demands.proofs.Proofs.Operations.{opening_at}
use Rattle.demands.proofs.Proofs.Standing.{same_phases}
use Rattle.demands.proofs.Proofs.Answering.{Judged, met, fine, judge_start, judge_call, CallFine}
use Rattle.demands.proofs.Proofs.Booking.{booking_number, judge_booking}
use Rattle.demands.specs.Statements.Demand2.{FirstPermitted, found, not_found, earlier, Needed, ToOpen, ToClose, Serves, Demand2}
use Rattle.demands.proofs.Theorems.Demand2.{earlier_chosen, needed_commanded}
use Rattle.demands.proofs.Refuting.Runs.{ordered, ordered_perm, cut_perm, both_phases, both_performed, run, run_ended, ended_begun}
use Rattle.demands.proofs.Refuting.Claims as claim
use Rattle.demands.proofs.Refuting.Claims.{
  Instance,
  differ,
  is_dark,
  feed_number,
  is_clash,
  rises,
  on_world,
  on_phases,
  state_sum,
  bookings_digest,
  choices_sum,
  choice_number,
  operations_digest,
  due,
  refused_in_vain,
  not_refused,
  record_changed,
  buffer_changed,
  choices_lit,
  behind_changed,
  length_changed,
  dark_though_reached,
  lit_though_unreached,
  lit_by_another,
  dark_though_fed,
  other_health,
  other_lock,
  other_command,
  unfit_above,
  lock_above,
  on_above,
  other_live,
  other_count,
  other_watts,
  watts_above,
  other_dark_watts,
  other_sum,
  any_clash,
  other_choice,
  new_commands,
  other_first,
  other_second,
  clash_in_first,
  clash_in_second,
  extra_open,
  extra_close,
  has_operation,
  other_outcome,
  start_of,
  start_due,
  at_call,
  at_served,
  at_phases,
  at_start,
  at_end,
  at_last,
  at_either,
  at_booking,
  first_reply,
  fails3,
  fails2,
  Claim3,
  Claim2,
}

-- ---- what a test that passed says

unequal : (a b : ℕ) → a ≡ b → differ a b ≡ true → ⊥
unequal a b e f = contra (eq-eqb a b e) (not-true (eqb a b) f)

beq_same : (a b : Bool) → a ≡ b → not (beq a b) ≡ true → ⊥
beq_same true true e f = contra f refl
beq_same true false e f = contra refl e
beq_same false true e f = contra e refl
beq_same false false e f = contra f refl

both : (a b : Bool) → a && b ≡ true → (a ≡ true) × (b ≡ true)
both a b e = (and_left a b e, and_right a b e)

is_dark_lem : (c : Choice) → is_dark c ≡ true → c ≡ choice.Dark
unfolding is_dark
is_dark_lem choice.Dark e = refl
is_dark_lem (choice.Own g) e = contra e refl
is_dark_lem (choice.High g) e = contra e refl
is_dark_lem (choice.Low g) e = contra e refl

is_lit : (c : Choice) → not (is_dark c) ≡ true → c ≢ choice.Dark
unfolding is_dark
is_lit c e z = contra (rw z at e) refl

is_clash_lem : (f : Feed) → is_clash f ≡ true → (g : ℕ) × (h : ℕ) × (f ≡ feed.Clash g h)
unfolding is_clash
is_clash_lem feed.Dark e = contra e refl
is_clash_lem (feed.Fed g) e = contra e refl
is_clash_lem (feed.Clash g h) e = (g, h, refl)

is_none_lem : {A : Type 0} (o : Option A) → is_none o ≡ true → o ≡ none
is_none_lem none e = refl
is_none_lem (some x) e = contra e refl

not_none : {A : Type 0} (o : Option A) → not (is_none o) ≡ true → o ≡ none → ⊥
not_none o e z = contra (rw z at e) refl

some_world : (o : Option World) (f : World → Bool) → on_world o f ≡ true → (W : World) × (o ≡ some W) × (f W ≡ true)
unfolding on_world
some_world none f e = contra e refl
some_world (some W) f e = (W, refl, e)

some_phases : (o : Option Phases) (f : Phases → Bool) → on_phases o f ≡ true → (ph : Phases) × (o ≡ some ph) × (f ph ≡ true)
unfolding on_phases
some_phases none f e = contra e refl
some_phases (some ph) f e = (ph, refl, e)

-- no outcome is both served and refused
not_served : (o : Outcome) {r : Refusal} → served_outcome o ≡ true → o ≡ Err r → ⊥
not_served o e q = contra (rw q at e) refl

-- ---- a call is served or refused as it must be

-- refused, and something else
refused_too : (o : Outcome) (b : Bool) → not (served_outcome o) && b ≡ true → (served_outcome o ≡ false) × (b ≡ true)
refused_too o b e = let t = both (not (served_outcome o)) b e in (not-true (served_outcome o) t.0, t.1)

-- the outcome of a call whose number is k
module _ {Met : ℕ → Type 0} {Fine : Type 0} (o : Outcome) where
  only_sound : {k : ℕ} → ((r : Refusal) → o ≡ Err r → Met (refusal_number r)) → Judged Met Fine k → refused_in_vain k o ≡ true → ⊥
  unfolding refused_in_vain
  only_sound {k} only j e = let t = refused_too o (differ (outcome_number o) k) e in go o refl t
    where
      by : {i : ℕ} → Judged Met Fine i → (m : ℕ) → Met m → m ≡ i
      by (met i l x one) m y = one m y
      by (fine free f) m y = absurd (free m y)

      go : (p : Outcome) → o ≡ p → (served_outcome o ≡ false) × (differ (outcome_number o) k ≡ true) → ⊥
      go (Ok _) q t = contra (rw q) t.0
      go (Err r) q t = unequal (outcome_number o) k (rw q (by j (refusal_number r) (only r q))) t.1

  always_sound : {k : ℕ} → ((i : ℕ) → Met i → o ≡ Err (refusal_of i)) → Judged Met Fine k → not_refused k o ≡ true → ⊥
  unfolding not_refused
  always_sound always (met k l m one) e = unequal (outcome_number o) k (ap outcome_number (always k m) ∙ number_of_refusal k) (both (differ k 0) _ e).1
  always_sound always (fine free f) e = contra e refl

-- .. and the record that it gives where it is refused
record_sound : (o : Outcome) {kept given : RingState} → (served_outcome o ≡ false → given ≡ kept) → record_changed kept o given ≡ true → ⊥
unfolding record_changed
record_sound o {kept} {given} same e =
    let t = refused_too o _ e in unequal (state_sum given) (state_sum kept) (ap state_sum (same t.0)) t.1

-- .. and what a call with orders does to its buffer, and its choices
module _ {Met : ℕ → Type 0} {kept : RingState} {buffer : List ℕ} {reply : StateReply} (a : Answered Met kept buffer reply) where
  buffer_sound : buffer_changed buffer reply ≡ true → ⊥
  unfolding buffer_changed
  buffer_sound e =
      let t = refused_too reply.answer.outcome _ e in unequal (sum reply.buffer) (sum buffer) (ap sum (a.buffer_kept t.0)) t.1

  choices_sound : choices_lit reply ≡ true → ⊥
  unfolding choices_lit
  choices_sound e =
      let t = refused_too reply.answer.outcome _ e in
      unequal (choices_sum reply.answer.choices) _ (ap choices_sum (a.choices_dark t.0)) t.1

  behind_sound : behind_changed buffer reply ≡ true → ⊥
  unfolding behind_changed
  behind_sound e = let t = both (is_served reply) _ e in unequal (sum _) (sum _) (ap sum (a.behind_kept t.0)) t.1

  length_sound : length_changed buffer reply ≡ true → ⊥
  unfolding length_changed
  length_sound e = unequal (length reply.buffer) (length buffer) a.length_kept e

-- ---- the list of a test

-- where the start is served, n is a ring's
in_range : (c : Controller) (n : ℕ) (buffer : List ℕ)
    → Answered (StartMeets n (length buffer)) (unloaded (blank_ring 0)) buffer (c.start n buffer)
    → is_served (c.start n buffer) ≡ true → n ≤ largest
in_range c n buffer a s = go (dec_lt largest n)
  where
    go : (largest < n) ⊎ (n ≤ largest) → n ≤ largest
    go (inl l) = absurd (not_served (c.start n buffer).answer.outcome s (a.always 2 (too_large l)))
    go (inr l) = l

-- the refusal due to a call is the one that meets it
due_judged : (n : ℕ) (P : PlantState) (call : Call) → n ≤ largest → Judged (Meets n P call) (CallFine n P call) (due n P call)
unfolding due
due_judged n P call small = judge_call n P call _ small refl

module _ (c : Controller) (i : Instance) where
  abbrev n : ℕ
  n = i.size

  abbrev start : StateReply
  start = c.start n i.lending

  abbrev EndedBefore : World → Type 0
  EndedBefore W = Ended c n i.lending i.calls W

  abbrev reply_in : World → StateReply
  reply_in W = reply_to c W.state i.call

  abbrev plant_in : World → PlantState
  plant_in W = after_words (words i.call) W.plant

  at_call_lem : (f : World → StateReply → Bool) → at_call c i f ≡ true → (W : World) × EndedBefore W × (f W (reply_in W) ≡ true)
  unfolding at_call
  at_call_lem f e =
      let t = some_world (run c i.backward n i.lending i.calls) (λ W. f W (reply_in W)) e in
      (t.0, run_ended c i.backward n i.lending i.calls t.0 t.1, t.2)

  at_served_lem : (f : PlantState → StateReply → Bool) → at_served c i f ≡ true
      → (W : World) × EndedBefore W × (is_served (reply_in W) ≡ true) × (f (plant_in W) (reply_in W) ≡ true)
  unfolding at_served
  at_served_lem f e =
      let t = at_call_lem (λ W reply. is_served reply && f (plant_in W) reply) e in
      let u = both (is_served (reply_in t.0)) _ t.2 in
      (t.0, t.1, u.0, u.1)

  at_phases_lem : (f : PlantState → Phases → Bool) → at_phases c i f ≡ true
      → (W : World) × EndedBefore W × (is_served (reply_in W) ≡ true) × (ph : Phases) × (decode n (reply_in W).buffer ≡ some ph) ×
      (f (plant_in W) ph ≡ true)
  unfolding at_phases
  at_phases_lem f e =
      let t = at_served_lem (λ P reply. on_phases (decode n reply.buffer) (f P)) e in
      let u = some_phases (decode n (reply_in t.0).buffer) (f (plant_in t.0)) t.3 in
      (t.0, t.1, t.2, u.0, u.1, u.2)

  at_start_lem : (f : Phases → Bool) → at_start c i f ≡ true
      → (is_served start ≡ true) × (ph : Phases) × (decode n start.buffer ≡ some ph) × (f ph ≡ true)
  unfolding at_start start_of
  at_start_lem f e =
      let t = both (is_served start) _ e in
      let u = some_phases (decode n start.buffer) f t.1 in
      (t.0, u.0, u.1, u.2)

  at_end_lem : (f : World → Bool) → at_end c i f ≡ true → (W : World) × Ended c n i.lending (i.calls then i.call) W × (f W ≡ true)
  unfolding at_end
  at_end_lem f e =
      let t = some_world (run c i.backward n i.lending (i.calls then i.call)) f e in
      (t.0, run_ended c i.backward n i.lending (i.calls then i.call) t.0 t.1, t.2)

  -- the world after the calls before it
  at_last_lem : (f : World → Bool) → at_last c i f ≡ true → (W : World) × EndedBefore W × (f W ≡ true)
  unfolding at_last
  at_last_lem f e =
      let t = some_world (run c i.backward n i.lending i.calls) f e in
      (t.0, run_ended c i.backward n i.lending i.calls t.0 t.1, t.2)

  -- what the booking or the cancellation is answered there
  abbrev answer_in : World → BookingAnswer
  answer_in W = answer_to c W.state i.booking

  at_booking_lem : (f : World → BookingAnswer → Bool) → at_booking c i f ≡ true → (W : World) × EndedBefore W × (f W (answer_in W) ≡ true)
  unfolding at_booking
  at_booking_lem f e = at_last_lem (λ W. f W (answer_in W)) e

-- ---- what is shown and given when the orders have ended

module _ {n b : ℕ} {W : World} (hb : b < n) (s : BusShown n W b) where
  abbrev H : PartHealth
  H = W.plant.health

  unreached : plan n H b ≡ none → (g : ℕ) → Reaches n H b g → ⊥
  unreached e g r = let t = reaches_usable hb r in (de_energized_exactly n H b hb).0 e g t.0 r.inside t.1

  reached : ((g : ℕ) → Reaches n H b g → ⊥) → plan n H b ≡ none
  reached f = (de_energized_exactly n H b hb).1 (λ g r hg u. f g (usable_reaches r hg hb u))

  dark_sound : dark_though_reached n W b ≡ true → ⊥
  unfolding dark_though_reached
  dark_sound e =
      let t = both (is_dark (shown_at W b)) _ e in
      not_none (plan n H b) t.1 (reached (s.dark_unreached (is_dark_lem (shown_at W b) t.0)))

  lit_sound : lit_though_unreached n W b ≡ true → ⊥
  unfolding lit_though_unreached
  lit_sound e =
      let t = both (not (is_dark (shown_at W b))) _ e in
      is_lit (shown_at W b) t.0 (s.unreached_dark (unreached (is_none_lem (plan n H b) t.1)))

  energized_sound : lit_by_another n W b ≡ true → ⊥
  unfolding lit_by_another feed_number
  energized_sound e =
      let t = both (not (is_dark (shown_at W b))) _ e in
      unequal (feed_number (bus_feed n H W.plant.last b)) (choice_source (shown_at W b)) (rw (s.energized (is_lit (shown_at W b) t.0)))
      t.1

  de_energized_sound : dark_though_fed n W b ≡ true → ⊥
  unfolding dark_though_fed feed_number
  de_energized_sound e =
      let t = both (is_dark (shown_at W b)) _ e in
      unequal (feed_number (bus_feed n H W.plant.last b)) 0 (rw (s.de_energized (is_dark_lem (shown_at W b) t.0))) t.1

-- some bus of the ring, and some part, that fails a test
some_bus : (n : ℕ) (f : ℕ → Bool) → any_of f (below n) ≡ true → (b : ℕ) × (b < n) × (f b ≡ true)
some_bus n f e = let t = any_at f (below n) e in (t.0, below_lt n t.0 t.1, t.2)

some_part : (n : ℕ) (f : Part → Bool) → any_of f (parts n) ≡ true → (p : Part) × InRing n p × (f p ≡ true)
some_part n f e = let t = any_at f (parts n) e in (t.0, parts_at n t.0 t.1, t.2)

module _ {n : ℕ} {W : World} (g : RecordGiven n W) where
  health_sound : any_of (other_health W) (parts n) ≡ true → ⊥
  unfolding other_health
  health_sound e = let t = some_part n (other_health W) e in unequal _ _ (g.health t.0 t.1) t.2

  locked_sound : any_of (other_lock W) (below n) ≡ true → ⊥
  unfolding other_lock
  locked_sound e = let t = some_bus n (other_lock W) e in beq_same _ _ (g.locked t.0 t.1) t.2

  standing_sound : any_of (other_command W) (parts n) ≡ true → ⊥
  unfolding other_command
  standing_sound e = let t = some_part n (other_command W) e in beq_same _ _ (g.standing t.0 t.1) t.2

  health_above_sound : any_of (unfit_above n W) (parts largest) ≡ true → ⊥
  unfolding unfit_above
  health_above_sound e =
      let t = some_part largest (unfit_above n W) e in
      let u = both (ltb n _) _ t.2 in
      unequal _ _ (g.health_above t.0 t.1 (ltb-true n _ u.0)) u.1

  locked_above_sound : any_of (lock_above n W) (below largest) ≡ true → ⊥
  unfolding lock_above
  locked_above_sound e =
      let t = some_bus largest (lock_above n W) e in
      let u = both (not (ltb t.0 n)) _ t.2 in
      contra u.1 (g.locked_above_lem t.0 t.1 (not_less t.0 n u.0))

  commands_above_sound : any_of (on_above n W) (parts largest) ≡ true → ⊥
  unfolding on_above
  commands_above_sound e =
      let t = some_part largest (on_above n W) e in
      let u = both (ltb n _) _ t.2 in
      contra u.1 (g.commands_above t.0 t.1 (ltb-true n _ u.0))

-- what the record gives of bookings
module _ {n : ℕ} {W : World} (l : LoadGiven n W) where
  bookings_sound : other_live W ≡ true → ⊥
  unfolding other_live
  bookings_sound e = unequal _ _ (ap bookings_digest l.bookings) e

  live_sound : other_count W ≡ true → ⊥
  unfolding other_count
  live_sound e = unequal _ _ l.live e

  watts_sound : any_of (other_watts n W) (below n) ≡ true → ⊥
  unfolding other_watts
  watts_sound e = let t = some_bus n (other_watts n W) e in unequal _ _ (l.watts t.0 t.1) t.2

  watts_above_sound : any_of (watts_above n W) (below largest) ≡ true → ⊥
  unfolding watts_above
  watts_above_sound e =
      let t = any_at (watts_above n W) (below largest) e in
      let u = both (not (ltb t.0 n)) _ t.2 in
      unequal _ _ (l.watts_above_lem t.0 (not_less t.0 n u.0)) u.1

  dark_watts_sound : other_dark_watts n W ≡ true → ⊥
  unfolding other_dark_watts
  dark_watts_sound e = unequal _ _ l.dark_watts_lem e

  sums_sound : other_sum W ≡ true → ⊥
  unfolding other_sum
  sums_sound e = unequal _ _ l.sums e

-- ---- a served call's choices and phases

module _ {n : ℕ} {P : PlantState} {reply : StateReply} (small : n ≤ largest) (a : AsChosen n P reply) where
  names : (b : ℕ) → b < n → choice_at reply.answer.choices b ≡ choice_of n (plan n P.health b)
  names b hb = rw a.choices_are (choices_at n P.health b (record { choice = choice.Dark }) hb small)

  chosen_sound : any_of (other_choice n P reply) (below n) ≡ true → ⊥
  unfolding other_choice
  chosen_sound e =
      let t = some_bus n (other_choice n P reply) e in
      unequal _ _ (ap choice_number (names t.0 t.1)) t.2

  decodes_sound : is_none (decode n reply.buffer) ≡ true → ⊥
  decodes_sound e = contra (rw a.decodes at e) refl

  first_sound : {ph : Phases} → decode n reply.buffer ≡ some ph → other_first n P ph ≡ true → ⊥
  unfolding other_first new_commands
  first_sound d e = unequal _ _ (ap operations_digest (rw (same_phases d a.decodes) a.first_is)) e

  second_sound : {ph : Phases} → decode n reply.buffer ≡ some ph → other_second n P ph ≡ true → ⊥
  unfolding other_second
  second_sound d e = unequal _ _ (ap operations_digest (rw (same_phases d a.decodes) a.second_is)) e

-- ---- no bus is fed by two generators

clash_sound : (n : ℕ) (P : PlantState) → ((b g h : ℕ) → b < n → bus_feed n P.health P.last b ≢ feed.Clash g h)
    → any_clash n P ≡ true → ⊥
unfolding any_clash
clash_sound n P free e =
    let t = some_bus n (λ b. is_clash (bus_feed n P.health P.last b)) e in
    let k = is_clash_lem (bus_feed n P.health P.last t.0) t.2 in
    free t.0 k.0 k.1 t.1 k.2

-- when no operation of the first phase is left nothing is excepted
none_left : (rs : List Report) → excepted rs [] ≡ false
unfolding excepted
none_left rs = go (any_of (λ r. is_stuck_closed r.word) rs)
  where
    go : (b : Bool) → b && false ≡ false
    go true = refl
    go false = refl

-- the moments of a phase that a test looks at
module _ (backward : Bool) (k : ℕ) (ph : Phases) (P : PlantState) where
  first_moment : Moment ph P (drop k (ordered backward ph.first)) (perform_all (take k (ordered backward ph.first)) P)
  first_moment = in_first (take k (ordered backward ph.first)) (cut_perm backward k ph.first)

  second_moment : Moment ph P [] (perform_all (take k (ordered backward ph.second)) (perform_all (ordered backward ph.first) P))
  second_moment =
      let os = ordered backward ph.second in
      in_second (ordered backward ph.first) (take k os) (drop k os) (ordered_perm backward ph.first)
      (cut_perm backward k ph.second)

-- ---- demand 3

module _ (c : Controller) (i : Instance) (d : Demand3 c) where
  abbrev N : ℕ
  N = i.size

  abbrev list : Calls
  list = i.calls then i.call

  -- the start, and what holds of the list up to the call
  start_claimed : Answered (StartMeets N (length i.lending)) (unloaded (blank_ring 0)) i.lending (c.start N i.lending)
  start_claimed = d.start_answered N i.lending

  small : is_served (c.start N i.lending) ≡ true → N ≤ largest
  small s = in_range c N i.lending start_claimed s

  module _ {W : World} (h : Ended c N i.lending i.calls W) where
    holds : Holds c N i.lending list
    holds = d.holds N i.lending (ended_begun h) list

    claimed : Answered (Meets N W.plant i.call) W.state (lent i.call) (reply_in c i W)
    claimed = holds.answered i.call whole h

    judged : Judged (Meets N W.plant i.call) (CallFine N W.plant i.call) (due N W.plant i.call)
    judged = due_judged N W.plant i.call (small (ended_begun h))

    chosen_in : is_served (reply_in c i W) ≡ true → AsChosen N (plant_in c i W) (reply_in c i W)
    chosen_in s = holds.chosen i.call whole h s

    free_in : (rest : List Operation) {P : PlantState} {ph : Phases} → is_served (reply_in c i W) ≡ true
        → decode N (reply_in c i W).buffer ≡ some ph
        → Moment ph (plant_in c i W) rest P → excepted (words i.call) rest ≡ false → any_clash N P ≡ true → ⊥
    free_in rest {P} s q m x = clash_sound N P (holds.no_clash (rw x at (in_call i.call whole h s q m)))

    -- .. of the list up to a booking or a cancellation in its place: what is given of bookings before it, and its answer
    record_in : RecordGiven N W
    record_in = (d.holds N i.lending (ended_begun h) (i.calls also i.booking)).given (longer_booking whole) h

    load_in : LoadGiven N W
    load_in = (d.holds N i.lending (ended_begun h) (i.calls also i.booking)).load_given (longer_booking whole) h

    booking_claimed : BookingAnswered (BookingMeets N W.history i.booking) W.state (answer_in c i W)
    booking_claimed = (d.holds N i.lending (ended_begun h) (i.calls also i.booking)).booking_answered i.booking whole h

  -- .. and of the list after the call, with another call behind it
  module _ {W : World} (h : Ended c N i.lending list W) where
    after : Holds c N i.lending (list then i.call)
    after = d.holds N i.lending (ended_begun h) (list then i.call)

    bus_sound : (f : ℕ → Bool) → ((b : ℕ) → b < N → BusShown N W b → f b ≡ true → ⊥) → any_of f (below N) ≡ true → ⊥
    bus_sound f out e = let t = some_bus N f e in out t.0 t.1 (after.shown (longer whole) h t.0 t.1) t.2

    given_in : RecordGiven N W
    given_in = after.given (longer whole) h

  -- after the call, or before it
  given_either : (f : World → Bool) → at_either c i f ≡ true → (W : World) × RecordGiven N W × (f W ≡ true)
  unfolding at_either
  given_either f e = go (or_cases (at_end c i f) (at_last c i f) e)
    where
      go : (at_end c i f ≡ true) ⊎ (at_last c i f ≡ true) → (W : World) × RecordGiven N W × (f W ≡ true)
      go (inl q) = let t = at_end_lem c i f q in (t.0, given_in t.1, t.2)
      go (inr q) = let t = at_last_lem c i f q in (t.0, record_in t.1, t.2)

  module _ (s : is_served (c.start N i.lending) ≡ true) where
    begun : Holds c N i.lending i.calls
    begun = d.holds N i.lending s i.calls

    start_free : (rest : List Operation) {P : PlantState} {ph : Phases} → decode N (c.start N i.lending).buffer ≡ some ph
        → Moment ph fresh_plant rest P → excepted [] rest ≡ false → any_clash N P ≡ true → ⊥
    start_free rest {P} q m x =
        let t : Interrupted c N i.lending i.calls P (excepted [] rest) = in_start s q m in
        clash_sound N P (begun.no_clash (rw x at t))

  -- a controller that meets the demand fails no test of its claims
  pub refutes3 : (claim : Claim3) → fails3 c i claim ≡ true → ⊥
  unfolding fails3 start_of first_reply start_due clash_in_first clash_in_second
  refutes3 claim.start_only e = only_sound (c.start N i.lending).answer.outcome start_claimed.only (judge_start N (length i.lending)) e
  refutes3 claim.start_always e = always_sound (c.start N i.lending).answer.outcome start_claimed.always (judge_start N (length i.lending)) e
  refutes3 claim.start_record_kept e = record_sound (c.start N i.lending).answer.outcome start_claimed.record_kept e
  refutes3 claim.start_buffer_kept e = buffer_sound start_claimed e
  refutes3 claim.start_choices_dark e = choices_sound start_claimed e
  refutes3 claim.start_behind_kept e = behind_sound start_claimed e
  refutes3 claim.start_length_kept e = length_sound start_claimed e
  refutes3 claim.only e =
      let t = at_call_lem c i (λ W reply. refused_in_vain (due N W.plant i.call) reply.answer.outcome) e in
      only_sound (reply_in c i t.0).answer.outcome (claimed t.1).only (judged t.1) t.2
  refutes3 claim.always e =
      let t = at_call_lem c i (λ W reply. not_refused (due N W.plant i.call) reply.answer.outcome) e in
      always_sound (reply_in c i t.0).answer.outcome (claimed t.1).always (judged t.1) t.2
  refutes3 claim.record_kept e =
      let t = at_call_lem c i (λ W reply. record_changed W.state reply.answer.outcome reply.answer.state) e in
      record_sound (reply_in c i t.0).answer.outcome (claimed t.1).record_kept t.2
  refutes3 claim.buffer_kept e =
      let t = at_call_lem c i (λ W reply. buffer_changed (lent i.call) reply) e in buffer_sound (claimed t.1) t.2
  refutes3 claim.choices_dark e = let t = at_call_lem c i (λ W reply. choices_lit reply) e in choices_sound (claimed t.1) t.2
  refutes3 claim.behind_kept e =
      let t = at_call_lem c i (λ W reply. behind_changed (lent i.call) reply) e in behind_sound (claimed t.1) t.2
  refutes3 claim.length_kept e =
      let t = at_call_lem c i (λ W reply. length_changed (lent i.call) reply) e in length_sound (claimed t.1) t.2
  refutes3 claim.ends e =
      let t = both (is_served (c.start N i.lending)) _ e in
      unended (is_none_lem (decode N (c.start N i.lending).buffer) t.1) (d.holds N i.lending t.0 nothing).ends.1
    where
      unended : {W : World} → decode N (c.start N i.lending).buffer ≡ none → Ended c N i.lending nothing W → ⊥
      unended z (started s q p) = none_some z q
  refutes3 claim.ends_after e =
      let reply = reply_to c (c.start N i.lending).answer.state i.call in
      let t = both (is_served (c.start N i.lending)) _ e in
      let u = both (is_served reply) _ t.1 in
      unended u.0 (is_none_lem (decode N reply.buffer) u.1) (d.holds N i.lending t.0 (nothing then i.call)).ends.1
    where
      unended : {W : World} → is_served (reply_to c (c.start N i.lending).answer.state i.call) ≡ true
          → decode N (reply_to c (c.start N i.lending).answer.state i.call).buffer ≡ none
          → Ended c N i.lending (nothing then i.call) W → ⊥
      unended s z (served call (started a b p) x q r) = none_some z q
      unended s z (refused call (started a b p) x) = contra s x
  refutes3 claim.start_chosen e =
      let t = both (is_served (c.start N i.lending)) _ e in chosen_sound (small t.0) (begun t.0).start_chosen t.1
  refutes3 claim.start_first e =
      let t = at_start_lem c i (other_first N fresh_plant) e in
      first_sound (small t.0) (begun t.0).start_chosen t.2 t.3
  refutes3 claim.start_second e =
      let t = at_start_lem c i (other_second N fresh_plant) e in
      second_sound (small t.0) (begun t.0).start_chosen t.2 t.3
  refutes3 claim.choices_are e =
      let t = at_served_lem c i (λ P reply. any_of (other_choice N P reply) (below N)) e in
      chosen_sound (small (ended_begun t.1)) (chosen_in t.1 t.2) t.3
  refutes3 claim.decodes e =
      let t = at_served_lem c i (λ P reply. is_none (decode N reply.buffer)) e in
      decodes_sound (small (ended_begun t.1)) (chosen_in t.1 t.2) t.3
  refutes3 claim.first_is e =
      let t = at_phases_lem c i (other_first N) e in
      first_sound (small (ended_begun t.1)) (chosen_in t.1 t.2) t.4 t.5
  refutes3 claim.second_is e =
      let t = at_phases_lem c i (other_second N) e in
      second_sound (small (ended_begun t.1)) (chosen_in t.1 t.2) t.4 t.5
  refutes3 claim.dark_exactly e =
      let t = at_end_lem c i (λ W. any_of (dark_though_reached N W) (below N)) e in
      bus_sound t.1 (dark_though_reached N t.0) (λ b hb s x. dark_sound hb s x) t.2
  refutes3 claim.lit_exactly e =
      let t = at_end_lem c i (λ W. any_of (lit_though_unreached N W) (below N)) e in
      bus_sound t.1 (lit_though_unreached N t.0) (λ b hb s x. lit_sound hb s x) t.2
  refutes3 claim.energized e =
      let t = at_end_lem c i (λ W. any_of (lit_by_another N W) (below N)) e in
      bus_sound t.1 (lit_by_another N t.0) (λ b hb s x. energized_sound hb s x) t.2
  refutes3 claim.de_energized e =
      let t = at_end_lem c i (λ W. any_of (dark_though_fed N W) (below N)) e in
      bus_sound t.1 (dark_though_fed N t.0) (λ b hb s x. de_energized_sound hb s x) t.2
  refutes3 claim.size e =
      let t = at_end_lem c i (λ W. differ W.state.ring.n N) e in unequal t.0.state.ring.n N (given_in t.1).size t.2
  refutes3 claim.health e = let t = given_either (λ W. any_of (other_health W) (parts N)) e in health_sound t.1 t.2
  refutes3 claim.standing e = let t = given_either (λ W. any_of (other_command W) (parts N)) e in standing_sound t.1 t.2
  refutes3 claim.locked e = let t = given_either (λ W. any_of (other_lock W) (below N)) e in locked_sound t.1 t.2
  refutes3 claim.locked_above_lem e =
      let t = at_end_lem c i (λ W. any_of (lock_above N W) (below largest)) e in locked_above_sound (given_in t.1) t.2
  refutes3 claim.health_above e =
      let t = at_end_lem c i (λ W. any_of (unfit_above N W) (parts largest)) e in health_above_sound (given_in t.1) t.2
  refutes3 claim.commands_above e =
      let t = at_end_lem c i (λ W. any_of (on_above N W) (parts largest)) e in commands_above_sound (given_in t.1) t.2
  refutes3 claim.clash_in_start_first e =
      let t = at_start_lem c i (clash_in_first N i.backward i.done [] fresh_plant) e in
      let rest = drop i.done (ordered i.backward t.1.first) in
      let u = both (not (excepted [] rest)) _ t.3 in
      start_free t.0 rest t.2 (first_moment i.backward i.done t.1 fresh_plant) (not-true (excepted [] rest) u.0) u.1
  refutes3 claim.clash_in_start_second e =
      let t = at_start_lem c i (clash_in_second N i.backward i.done fresh_plant) e in
      start_free t.0 [] t.2 (second_moment i.backward i.done t.1 fresh_plant) (none_left []) t.3
  refutes3 claim.clash_in_first_lem e =
      let t = at_phases_lem c i (λ P. clash_in_first N i.backward i.done (words i.call) P) e in
      let rest = drop i.done (ordered i.backward t.3.first) in
      let u = both (not (excepted (words i.call) rest)) _ t.5 in
      free_in t.1 rest t.2 t.4 (first_moment i.backward i.done t.3 (plant_in c i t.0))
      (not-true (excepted (words i.call) rest) u.0) u.1
  refutes3 claim.clash_in_second_lem e =
      let t = at_phases_lem c i (λ P. clash_in_second N i.backward i.done P) e in
      free_in t.1 [] t.2 t.4 (second_moment i.backward i.done t.3 (plant_in c i t.0)) (none_left (words i.call))
      t.5
  refutes3 claim.clash_between e =
      let t = at_end_lem c i (λ W. any_clash N W.plant) e in
      clash_sound N t.0.plant ((after t.1).no_clash (between (longer whole) t.1)) t.2
  refutes3 claim.bookings e = let t = at_last_lem c i other_live e in bookings_sound (load_in t.1) t.2
  refutes3 claim.live e = let t = at_last_lem c i other_count e in live_sound (load_in t.1) t.2
  refutes3 claim.watts e =
      let t = at_last_lem c i (λ W. any_of (other_watts N W) (below N)) e in watts_sound (load_in t.1) t.2
  refutes3 claim.watts_above_lem e =
      let t = at_last_lem c i (λ W. any_of (watts_above N W) (below largest)) e in watts_above_sound (load_in t.1) t.2
  refutes3 claim.dark_watts_lem e = let t = at_last_lem c i (other_dark_watts N) e in dark_watts_sound (load_in t.1) t.2
  refutes3 claim.sums e = let t = at_last_lem c i other_sum e in sums_sound (load_in t.1) t.2
  refutes3 claim.booking_only e =
      let t = at_booking_lem c i (λ W answer. refused_in_vain (booking_number N W.history i.booking) answer.outcome) e in
      only_sound (answer_in c i t.0).outcome (booking_claimed t.1).only (judge_booking i.booking) t.2
  refutes3 claim.booking_always e =
      let t = at_booking_lem c i (λ W answer. not_refused (booking_number N W.history i.booking) answer.outcome) e in
      always_sound (answer_in c i t.0).outcome (booking_claimed t.1).always (judge_booking i.booking) t.2
  refutes3 claim.booking_record_kept e =
      let t = at_booking_lem c i (λ W answer. record_changed W.state answer.outcome answer.state) e in
      record_sound (answer_in c i t.0).outcome (booking_claimed t.1).record_kept t.2

-- ---- demand 2

first_unique : {n : ℕ} {H : PartHealth} {ws tried : List Path} {o : Option Path} → FirstPermitted n H ws tried o
    → o ≡ first (permitted n H ws) tried
unfolding first
first_unique {n} {H} {ws} (found front w back e p r) = rw (e, first_past (permitted n H ws) front (w ∷ back) r, p)
first_unique {n} {H} {ws} {tried} (not_found r) = sym (first_none (permitted n H ws) tried r)

rises_by : {A : Type 0} {g : A → ℕ} {xs : List A} → RisingBy g xs → rises (map g xs) ≡ true
unfolding rises
rises_by empty = refl
rises_by (more l empty) = refl
rises_by {g = g} (more {x = x} l (more {x = y} k r)) =
    and_intro (ltb (g x) (g y)) _ (lt-ltb (g x) (g y) (l y (Memᴰ.head refl))) (rises_by (more k r))

module _ {n : ℕ} {P : PlantState} {reply : StateReply} (s : Serves n P reply) where
  abbrev R : PartHealth
  R = P.health

  -- the answer's paths are the plan's
  earlier_is : (k : ℕ) → k ≤ n → earlier s.path k ≡ chosen n R k
  unfolding earlier chosen choose
  earlier_is zero h = refl
  earlier_is (suc k) h = rw (first_unique (s.first_permitted k h), earlier_is k (omega arith))

  path_is : (b : ℕ) → b < n → s.path b ≡ plan n R b
  unfolding plan choose
  path_is b hb = first_unique (s.first_permitted b hb) ∙ rw (earlier_is b (omega arith))

  path_sound : any_of (other_choice n P reply) (below n) ≡ true → ⊥
  unfolding other_choice
  path_sound e = let t = some_bus n (other_choice n P reply) e in unequal _ _ (ap choice_number (named t.0 t.1)) t.2
    where
      named : (b : ℕ) → b < n → choice_at reply.answer.choices b ≡ choice_of n (plan n R b)
      named b hb = s.named b hb ∙ rw (path_is b hb)

  -- a part is on a path exactly when it is commanded
  on_path : (p : Part) → commands n R p ≡ true → Needed n s.path p
  on_path p e = let t = (needed_commanded n R p).1 e in (t.0, rw (earlier_is n (omega arith) ∙ sym (earlier_chosen n R n)) t.1, t.2)

  off_path : (p : Part) → commands n R p ≡ false → Needed n s.path p → ⊥
  off_path p e t =
      contra ((needed_commanded n R p).0 (t.0, rw (← earlier_is n (omega arith) ∙ sym (earlier_chosen n R n)) t.1, t.2)) e

  module _ {ph : Phases} (d : decode n reply.buffer ≡ some ph) where
    is : ph ≡ s.phases
    is = same_phases d s.decodes

    to_open : (o : Operation) → o ∈ ph.first → ToOpen n P s.path o
    to_open o m = s.opens o (rw is at m)

    to_close : (o : Operation) → o ∈ ph.second → ToClose n P s.path o
    to_close o m = s.closes o (rw is at m)

    brought : (Q : PlantState) → Performed ph P Q → (p : Part) → InRing n p → Q.last p ≡ true ↔ Needed n s.path p
    brought Q q = s.brings_about Q (rw is at q)

    opens_sound : any_of (extra_open n P) ph.first ≡ true → ⊥
    unfolding extra_open new_commands
    opens_sound e = let t = any_at (extra_open n P) ph.first e in go t.0 (to_open t.0 t.1) (or_cases t.0.command _ t.2)
      where
        late : (o : Operation) → ToOpen n P s.path o → (not (P.last o.part) ≡ true) ⊎ (commands n R o.part ≡ true) → ⊥
        late o t (inl x) = contra t.2 (not-true (P.last o.part) x)
        late o t (inr x) = t.3 (on_path o.part x)

        go : (o : Operation) → ToOpen n P s.path o → (o.command ≡ true) ⊎ (not (P.last o.part) || commands n R o.part ≡ true) → ⊥
        go o t (inl x) = contra x t.0
        go o t (inr x) = late o t (or_cases (not (P.last o.part)) _ x)

    closes_sound : any_of (extra_close n P) ph.second ≡ true → ⊥
    unfolding extra_close new_commands
    closes_sound e =
        let t = any_at (extra_close n P) ph.second e in go t.0 (to_close t.0 t.1) (or_cases (not t.0.command) _ t.2)
      where
        late : (o : Operation) → ToClose n P s.path o → (P.last o.part ≡ true) ⊎ (not (commands n R o.part) ≡ true) → ⊥
        late o t (inl x) = contra x t.2
        late o t (inr x) = off_path o.part (not-true (commands n R o.part) x) t.3

        go : (o : Operation) → ToClose n P s.path o
            → (not o.command ≡ true) ⊎ (P.last o.part || not (commands n R o.part) ≡ true) → ⊥
        go o t (inl x) = contra t.0 (not-true o.command x)
        go o t (inr x) = late o t (or_cases (P.last o.part) _ x)

    has_operation_lem : (c : Bool) (p : Part) (os : List Operation) → operation c p ∈ os → has_operation c p os ≡ true
    unfolding has_operation
    has_operation_lem true p os m =
        any_in (λ o. same_part p o.part && beq true o.command) m (and_intro (same_part p p) _ (same_refl p) refl)
    has_operation_lem false p os m =
        any_in (λ o. same_part p o.part && beq false o.command) m (and_intro (same_part p p) _ (same_refl p) refl)

    missing : (c : Bool) (os : List Operation) (ps : List Part) → ((p : Part) → p ∈ ps → operation c p ∈ os)
        → any_of (λ p. not (has_operation c p os)) ps ≡ true → ⊥
    missing c os ps all e =
        let t = any_at (λ p. not (has_operation c p os)) ps e in
        contra (has_operation_lem c t.0 os (all t.0 t.1)) (not-true (has_operation c t.0 os) t.2)

    all_open_sound : any_of (λ p. not (has_operation false p ph.first)) (opening n P.last (new_commands n P)) ≡ true → ⊥
    unfolding new_commands
    all_open_sound e = missing false ph.first (opening n P.last (commands n R)) (λ p m.
        let t = opening_at n P.last (commands n R) p m in
        rw is (s.all_open (operation false p) (refl, t.0, t.1, off_path p t.2))) e

    all_close_sound : any_of (λ p. not (has_operation true p ph.second)) (closing n P.last (plan n P.health)) ≡ true → ⊥
    all_close_sound e = missing true ph.second (closing n P.last (plan n R)) (λ p m.
        let t = closing_at n R P.last p m in
        rw is (s.all_close (operation true p) (refl, t.0, t.1, on_path p t.2))) e

    opens_rising_sound : not (rises (map (λ o. part_code o.part) ph.first)) ≡ true → ⊥
    opens_rising_sound e = contra (rw is (rises_by s.opens_rising)) (not-true (rises (map (λ o. part_code o.part) ph.first)) e)

    closes_outward_sound : other_second n P ph ≡ true → ⊥
    unfolding other_second
    closes_outward_sound e = unequal _ _ (ap operations_digest (rw is (s.second_is ∙ ap (map (operation true)) same))) e
      where
        same : closing n P.last s.path ≡ closing n P.last (plan n R)
        same = closing_paths n P.last s.path (plan n R) path_is

    brings_about_sound : (backward : Bool) → any_of (other_outcome n P (both_phases backward ph P)) (parts n) ≡ true → ⊥
    unfolding other_outcome new_commands
    brings_about_sound backward e =
        let t = some_part n (other_outcome n P (both_phases backward ph P)) e in
        beq_same ((both_phases backward ph P).last t.0) (commands n R t.0) (same t.0 t.1 (dec (commands n R t.0))) t.2
      where
        about : (p : Part) → InRing n p → (both_phases backward ph P).last p ≡ true ↔ Needed n s.path p
        about p r = brought (both_phases backward ph P) (both_performed backward ph P) p r

        same : (p : Part) → InRing n p → (commands n R p ≡ true) ⊎ (commands n R p ≡ false)
            → (both_phases backward ph P).last p ≡ commands n R p
        same p r (inl x) = (about p r).1 (on_path p x) ∙ sym x
        same p r (inr x) = off (dec ((both_phases backward ph P).last p))
          where
            off : ((both_phases backward ph P).last p ≡ true) ⊎ ((both_phases backward ph P).last p ≡ false)
                → (both_phases backward ph P).last p ≡ commands n R p
            off (inl y) = absurd (off_path p x ((about p r).0 y))
            off (inr y) = y ∙ sym x

module _ (c : Controller) (i : Instance) (d : Demand2 c) where
  abbrev M : ℕ
  M = i.size

  starting : Answered (StartMeets M (length i.lending)) (unloaded (blank_ring 0)) i.lending (c.start M i.lending)
  starting = d.start_answered M i.lending

  module _ {W : World} (h : Ended c M i.lending i.calls W) where
    answering : Answered (Meets M W.plant i.call) W.state (lent i.call) (reply_in c i W)
    answering = d.call_answered M i.lending (ended_begun h) i.call h

    serving : is_served (reply_in c i W) ≡ true → Serves M (plant_in c i W) (reply_in c i W)
    serving s = d.call_serves M i.lending (ended_begun h) i.call h s

    judging : Judged (Meets M W.plant i.call) (CallFine M W.plant i.call) (due M W.plant i.call)
    judging = due_judged M W.plant i.call (in_range c M i.lending starting (ended_begun h))

  -- a controller that meets the demand fails no test of its claims
  pub refutes2 : (claim : Claim2) → fails2 c i claim ≡ true → ⊥
  unfolding fails2 start_of start_due
  refutes2 claim.start_answered e = only_sound (c.start M i.lending).answer.outcome starting.only (judge_start M (length i.lending)) e
  refutes2 claim.call_answered e =
      let t = at_call_lem c i (λ W reply. refused_in_vain (due M W.plant i.call) reply.answer.outcome) e in
      only_sound (reply_in c i t.0).answer.outcome (answering t.1).only (judging t.1) t.2
  refutes2 claim.start_path e =
      let t = both (is_served (c.start M i.lending)) _ e in path_sound (d.start_serves M i.lending t.0) t.1
  refutes2 claim.call_path e =
      let t = at_served_lem c i (λ P reply. any_of (other_choice M P reply) (below M)) e in
      path_sound (serving t.1 t.2) t.3
  refutes2 claim.opens e =
      let t = at_phases_lem c i (λ P ph. any_of (extra_open M P) ph.first) e in
      opens_sound (serving t.1 t.2) t.4 t.5
  refutes2 claim.all_open e =
      let t = at_phases_lem c i (λ P ph. any_of (λ p. not (has_operation false p ph.first)) (opening M P.last (new_commands M P))) e in
      all_open_sound (serving t.1 t.2) t.4 t.5
  refutes2 claim.closes e =
      let t = at_phases_lem c i (λ P ph. any_of (extra_close M P) ph.second) e in
      closes_sound (serving t.1 t.2) t.4 t.5
  refutes2 claim.all_close e =
      let t = at_phases_lem c i (λ P ph. any_of (λ p. not (has_operation true p ph.second)) (closing M P.last (plan M P.health))) e in
      all_close_sound (serving t.1 t.2) t.4 t.5
  refutes2 claim.opens_rising e =
      let t = at_phases_lem c i (λ P ph. not (rises (map (λ o. part_code o.part) ph.first))) e in
      opens_rising_sound (serving t.1 t.2) t.4 t.5
  refutes2 claim.closes_outward e =
      let t = at_phases_lem c i (other_second M) e in
      closes_outward_sound (serving t.1 t.2) t.4 t.5
  refutes2 claim.brings_about e =
      let t = at_phases_lem c i (λ P ph. any_of (other_outcome M P (both_phases i.backward ph P)) (parts M)) e in
      brings_about_sound (serving t.1 t.2) t.4 i.backward t.5
