-- What stands between the calls of a list, of the ring and of the bookings: it stands after a start, and after every call.
use Rattle.std.specs.Prelude.{◌≡◌, refl, ◌≢◌, ◌⊎◌, ℕ, ◌≤◌, ◌<◌, eqb, length}
use Rattle.std.proofs.Common.{sym, ◌∙◌, inl, inr, arith, eq-eqb, ne_eqb}
use Rattle.std.proofs.Math.Path.{ap}
use Rattle.std.proofs.Math.Bool.{true, false, cond}
use mathlib.Core.List.{List, []}
use Rattle.std.proofs.Math.Option.{Option, some}
use Rattle.model.specs.declared.Part.{Part}
use Rattle.model.specs.declared.Part.TheVariants.{Generator, GeneratorBreaker, BusBreaker}
use Rattle.model.specs.declared.Word.{Word}
use Rattle.model.specs.declared.Word.TheVariants.{Fit, StuckOff, StuckOpen, StuckClosed, Lock, Unlock}
use Rattle.model.specs.declared.Report.{Report}
use Rattle.model.specs.declared.Booking.{Booking}
use Rattle.model.specs.declared.Load.{Load}
use Rattle.model.specs.declared.Ring.{Ring}
use Rattle.model.specs.declared.RingState.{RingState}
use Rattle.model.specs.declared.BusChoice.{BusChoice}
use Rattle.model.specs.declared.BookingAnswer.{BookingAnswer}
use Rattle.model.specs.Values.{number, same_part, refusal_number, outcome_of}
use Rattle.model.specs.Plant.{smallest, largest, generator, health_of_kind, InRing}
use Rattle.model.specs.Reports.{health_by, lock_by, reported, health_of, blank_ring, told, called_for, with_plan}
use Rattle.model.specs.Sheet.{written}
use Rattle.model.specs.Refusals.{first_met, next_sheet}
use Rattle.model.specs.Scans.{told_all}
use Rattle.model.specs.Bookings.{live_bookings, with_figures, with_booking, without_booking, is_live, no_place}
use Rattle.model.specs.States.{
  unloaded,
  told_state,
  reckoned,
  bad_record,
  refused_state,
  served_state,
  state_start,
  book_refusal,
  cancel_refusal,
  booking_by,
  book_answer,
  cancel_answer,
}
use Rattle.model.specs.Laws.Tests.{contra, dec, dec_eq}
use Rattle.model.specs.Laws.Lists.{any_in, any_false}
use Rattle.model.specs.Laws.Refusals.{refused_number}
use Rattle.model.specs.Laws.Parts.{same_eq, health_places_lem, lock_places}
use Rattle.demands.specs.Statements.Demand3.{
  PlantState,
  fresh_plant,
  after_words,
  Phases,
  decode,
  Call,
  BookingCall,
  book,
  cancel,
  Calls,
  reply_to,
  answer_to,
  words,
  lent,
  is_served,
  is_booked,
  History,
  no_history,
  noted,
  World,
  switched,
  unswitched,
  Performed,
  Ended,
  started,
  served,
  refused,
  booked,
  not_booked,
  word_refusal,
  Good,
  AllGood,
  no_reports,
  good_and,
  Live,
  BookingMeets,
  BookingAnswered,
}
use Rattle.demands.specs.Controller.{controller}
use Rattle.demands.proofs.Proofs.Steady.{Ready, Steady, fit_of_kind, steady_ring, served_choices, served_decodes, transition_steady}
use Rattle.demands.proofs.Proofs.Answering.{
  Judged,
  judged_fine,
  judged_zero,
  judged_met,
  judged_outcome,
  start_served,
  start_ready,
  blank_fit,
  blank_unlocked,
  call_ready,
  served_fine,
  call_served,
  call_refused,
}
use Rattle.demands.proofs.Proofs.Loads.{Loaded, loaded_none, loaded_anew, live_count, loaded_book, loaded_cancel, load_good}
use Rattle.demands.proofs.Proofs.Booking.{booking_number, BookingFine, fine_book, fine_cancel, none_booking, judge_booking}

-- ---- words

-- a word that is not refused leaves a health of its part's kind
word_of_kind : (p : Part) (w : Word) (h : ℕ) → word_refusal p w ≡ 0 → health_of_kind p h ≡ true → health_of_kind p (health_by w h) ≡ true
unfolding word_refusal health_of_kind
word_of_kind (Generator k) Fit h e i = refl
word_of_kind (Generator k) StuckOff h e i = refl
word_of_kind (Generator k) StuckOpen h e i = absurd (omega arith)
word_of_kind (Generator k) StuckClosed h e i = absurd (omega arith)
word_of_kind (Generator k) Lock h e i = i
word_of_kind (Generator k) Unlock h e i = i
word_of_kind (GeneratorBreaker k) Fit h e i = refl
word_of_kind (GeneratorBreaker k) StuckOff h e i = absurd (omega arith)
word_of_kind (GeneratorBreaker k) StuckOpen h e i = refl
word_of_kind (GeneratorBreaker k) StuckClosed h e i = refl
word_of_kind (GeneratorBreaker k) Lock h e i = absurd (omega arith)
word_of_kind (GeneratorBreaker k) Unlock h e i = absurd (omega arith)
word_of_kind (BusBreaker k) Fit h e i = refl
word_of_kind (BusBreaker k) StuckOff h e i = absurd (omega arith)
word_of_kind (BusBreaker k) StuckOpen h e i = refl
word_of_kind (BusBreaker k) StuckClosed h e i = refl
word_of_kind (BusBreaker k) Lock h e i = absurd (omega arith)
word_of_kind (BusBreaker k) Unlock h e i = absurd (omega arith)

-- a ring of n whose parts have healths of their kinds; above n they are fit and unlocked
pub record Kinds (n : ℕ) (ring : Ring) : Type 0 where
  pub inside : (p : Part) → InRing n p → health_of_kind p ((health_of ring.health).health p) ≡ true
  pub above : (p : Part) → InRing largest p → n < number p → (health_of ring.health).health p ≡ 0
  pub unlocked : (g : ℕ) → g < largest → n ≤ g → (health_of ring.health).locked g ≡ false

pub steady_kinds : {n : ℕ} {W : World} → Steady n W → Kinds n W.state.ring
steady_kinds s = record {
  inside = λ p i. rw (s.health.health p i) (s.kinds p i);
  above = λ p i l. (s.above p i l).0;
  unlocked = s.unlocked_above;
}

-- a report that is not refused
module _ {n : ℕ} {ring : Ring} (small : n ≤ largest) (k : Kinds n ring) (r : Report) (good : Good n r) where
  told_is : (p : Part) → InRing largest p → (health_of (told ring r).health).health p ≡ (reported (health_of ring.health) r).health p
  unfolding told
  told_is p i = health_places_lem (reported (health_of ring.health) r) p i

  told_inside : (p : Part) → InRing n p → health_of_kind p ((health_of (told ring r).health).health p) ≡ true
  unfolding reported
  told_inside p i = rw (told_is p (i.0, omega (arith, i.1))) (go (dec (same_part p r.part)))
    where
      go : (same_part p r.part ≡ true) ⊎ (same_part p r.part ≡ false)
          → health_of_kind p (cond (same_part p r.part) (health_by r.word ((health_of ring.health).health p)) ((health_of ring.health).health p))
          ≡ true
      go (inl e) = rw e (word_of_kind p r.word ((health_of ring.health).health p) (rw (same_eq p r.part e) good.word) (k.inside p i))
      go (inr e) = rw e (k.inside p i)

  told_above : (p : Part) → InRing largest p → n < number p → (health_of (told ring r).health).health p ≡ 0
  unfolding reported
  told_above p i l = told_is p i ∙ go (dec (same_part p r.part))
    where
      go : (same_part p r.part ≡ true) ⊎ (same_part p r.part ≡ false)
          → cond (same_part p r.part) (health_by r.word ((health_of ring.health).health p)) ((health_of ring.health).health p) ≡ 0
      go (inl e) = absurd (omega (arith, ap number (same_eq p r.part e), good.inside.1))
      go (inr e) = rw e (k.above p i l)

  told_unlocked : (g : ℕ) → g < largest → n ≤ g → (health_of (told ring r).health).locked g ≡ false
  unfolding told reported
  told_unlocked g l m = lock_places (reported (health_of ring.health) r) g l ∙ go (dec (same_part (generator g) r.part))
    where
      go : (same_part (generator g) r.part ≡ true) ⊎ (same_part (generator g) r.part ≡ false)
          → cond (same_part (generator g) r.part) (lock_by r.word ((health_of ring.health).locked g)) ((health_of ring.health).locked g)
          ≡ false
      go (inl e) = absurd (omega (arith, ap number (same_eq (generator g) r.part e), good.inside.1))
      go (inr e) = rw e (k.unlocked g l m)

  told_kinds : Kinds n (told ring r)
  told_kinds = record { inside = told_inside; above = told_above; unlocked = told_unlocked }

-- .. and several
pub all_kinds : {n : ℕ} {ring : Ring} {rs : List Report} → n ≤ largest → Kinds n ring → AllGood n rs → Kinds n (told_all ring rs)
unfolding told_all
all_kinds small k no_reports = k
all_kinds {ring = ring} small k (good_and {r = r} g a) = all_kinds {ring = told ring r} small (told_kinds small k r g) a

-- what a buffer decodes to is one thing
pub same_phases : {o : Option Phases} {x y : Phases} → o ≡ some x → o ≡ some y → x ≡ y
same_phases {o} {x} {y} p q = cc

-- ---- what stands

-- the ring is as the plant, and its bookings are as history
pub record Stands (n : ℕ) (W : World) : Type 0 where
  pub steady : Steady n W
  pub loaded : Loaded n W.shown W.state.load W.history

-- what is shown is what the record calls for
pub called_shown : {n : ℕ} {W : World} → n ≤ largest → Steady n W → called_for W.state.ring ≡ W.shown
called_shown {n} {W} small s =
    let ready : Ready n W.state.ring W.plant = record { size = s.size; health = s.health; standing = s.standing } in
    served_choices small ready ∙ sym s.shown

-- a record that stands is not refused
pub stands_good : {n : ℕ} {W : World} → smallest ≤ n → n ≤ largest → Stands n W → bad_record W.state ≡ false
unfolding bad_record
stands_good big small s =
    rw (steady_ring s.steady big small, called_shown small s.steady, s.steady.size) (load_good s.loaded)

-- its figures are made anew
figures_anew : {n : ℕ} {h : History} (state : RingState)
    → Loaded n (called_for state.ring) (with_figures (called_for state.ring) state.load) h
    → Loaded n (served_state state).choices (served_state state).state.load h
unfolding served_state reckoned with_plan
figures_anew state l = l

-- a ring state that was told its reports, served
served_stands : {n : ℕ} (state : RingState) {P Q : PlantState} {h : History} {ph : Phases} (buffer : List ℕ) → n ≤ largest
    → Ready n state.ring P → Kinds n state.ring → (cs : List BusChoice) → Loaded n cs state.load h
    → decode n (written (next_sheet state.ring) buffer) ≡ some ph → Performed ph P Q
    → Stands n (switched Q (served_state state) h)
served_stands {n} state {h = h} buffer small ready kinds cs loaded d q = record {
  steady =
      transition_steady state h small ready kinds.inside kinds.above kinds.unlocked
      (rw (same_phases d (served_decodes small ready buffer)) at q);
  loaded = anew;
}
  where
    anew : Loaded n (served_state state).choices (served_state state).state.load h
    anew = figures_anew state (loaded_anew (called_for state.ring) loaded)

-- every part of a blank ring is fit and unlocked
blank_kinds : (n : ℕ) → n ≤ largest → Kinds n (blank_ring n)
blank_kinds n small = record {
  inside = λ p i. rw (blank_fit n p (i.0, omega (arith, i.1))) (fit_of_kind p);
  above = λ p i l. blank_fit n p i;
  unlocked = λ g l m. blank_unlocked n g l;
}

-- reports alter the ring, not its load
pub told_kinds_state : {n : ℕ} (state : RingState) (rs : List Report) → Kinds n (told_all state.ring rs) → Kinds n (told_state state rs).ring
unfolding told_state
told_kinds_state state rs k = k

told_loaded : {n : ℕ} {cs : List BusChoice} {h : History} (state : RingState) (rs : List Report) → Loaded n cs state.load h
    → Loaded n cs (told_state state rs).load h
unfolding told_state
told_loaded state rs l = l

module _ (n : ℕ) (buffer : List ℕ) (big : smallest ≤ n) (small : n ≤ largest) where
  -- a start
  pub start_stands : {ph : Phases} {Q : PlantState} → is_served (state_start n buffer) ≡ true
      → decode n (state_start n buffer).buffer ≡ some ph → Performed ph fresh_plant Q
      → Stands n (switched Q (state_start n buffer).answer no_history)
  unfolding unloaded
  start_stands e d q =
      rw (start_served n buffer e)
      (served_stands (unloaded (blank_ring n)) buffer small (start_ready n small) (blank_kinds n small) [] (loaded_none n [])
      (rw (start_served n buffer e) at d) q)

  -- a served step or scan
  pub call_stands : {W : World} {ph : Phases} {Q : PlantState} → Stands n W → (call : Call)
      → is_served (reply_to controller W.state call) ≡ true
      → decode n (reply_to controller W.state call).buffer ≡ some ph → Performed ph (after_words (words call) W.plant) Q
      → Stands n (switched Q (reply_to controller W.state call).answer W.history)
  call_stands {W} s call e d q =
      let z = call_served W.state call e in
      let good = (served_fine small s.steady (stands_good big small s) call e).good in
      rw z
      (served_stands (told_state W.state (words call)) (lent call) small (call_ready small s.steady call)
      (told_kinds_state W.state (words call) (all_kinds small (steady_kinds s.steady) good)) W.shown
      (told_loaded W.state (words call) s.loaded) (rw z at d) q)

-- ---- bookings and cancellations

-- the refusal of one by the controller, and the load that it leaves where it is served
abbrev booking_refusal : RingState → BookingCall → ℕ
booking_refusal state (book b) = book_refusal state b
booking_refusal state (cancel v) = cancel_refusal state v

abbrev pub booking_load : RingState → BookingCall → Load
booking_load state (book b) = with_booking state.load b
booking_load state (cancel v) = without_booking state.load v

booking_answer : (state : RingState) (call : BookingCall)
    → answer_to controller state call ≡ booking_by (booking_refusal state call) state (booking_load state call)
unfolding book_answer cancel_answer
booking_answer state (book b) = refl
booking_answer state (cancel v) = refl

-- the answer of refusal k
module _ (k : ℕ) (state : RingState) (load : Load) where
  abbrev answer : BookingAnswer
  answer = booking_by k state load

  answer_outcome : answer.outcome ≡ outcome_of k
  unfolding outcome_of
  answer_outcome = go (dec_eq k 0)
    where
      go : (k ≡ 0) ⊎ (k ≢ 0) → answer.outcome ≡ outcome_of k
      go (inl e) = rw e
      go (inr e) = rw (ne_eqb k 0 e)

  zero_booked : k ≡ 0 → is_booked answer ≡ true
  zero_booked e = rw e

  booked_zero : is_booked answer ≡ true → k ≡ 0
  booked_zero e = go (dec_eq k 0)
    where
      go : (k ≡ 0) ⊎ (k ≢ 0) → k ≡ 0
      go (inl z) = z
      go (inr z) = contra (rw (ne_eqb k 0 z) at e) refl

  booked_state : is_booked answer ≡ true → answer.state ≡ reckoned state.ring load
  booked_state e = rw (booked_zero e)

  unbooked_state : is_booked answer ≡ false → answer.state ≡ state
  unbooked_state e = go (dec_eq k 0)
    where
      go : (k ≡ 0) ⊎ (k ≢ 0) → answer.state ≡ state
      go (inl z) = contra refl (rw z at e)
      go (inr z) = rw (ne_eqb k 0 z)

  -- what is claimed of it, where the number is that of the call
  answered_so : {Met : ℕ → Type 0} {Fine : Type 0} → Judged Met Fine k → BookingAnswered Met state answer
  answered_so {Met} {Fine} judged = record {
    only = λ r e. let t = refused_number answer_outcome r e in judged_met judged (refusal_number r) t.0 t.1;
    always = λ i m. answer_outcome ∙ judged_outcome judged i m;
    record_kept = unbooked_state;
  }

-- the record after one that was served, and after one that was refused
pub booked_is : (state : RingState) (call : BookingCall) → is_booked (answer_to controller state call) ≡ true
    → (answer_to controller state call).state ≡ reckoned state.ring (booking_load state call)
booked_is state call e =
    let k = booking_refusal state call in
    rw (booking_answer state call) (booked_state k state (booking_load state call) (rw (booking_answer state call) at e))

pub unbooked_is : (state : RingState) (call : BookingCall) → is_booked (answer_to controller state call) ≡ false
    → (answer_to controller state call).state ≡ state
unbooked_is state call e =
    let k = booking_refusal state call in
    rw (booking_answer state call) (unbooked_state k state (booking_load state call) (rw (booking_answer state call) at e))

-- a number that is live, and one that is not
pub live_at : (h : History) (v : ℕ) → Live h v → is_live h.live v ≡ true
unfolding is_live
live_at h v l = any_in (λ b. eqb b.number v) l.1 (eq-eqb l.0.number v l.2)

not_live_at : (h : History) (v : ℕ) → (Live h v → ⊥) → is_live h.live v ≡ false
unfolding is_live
not_live_at h v free =
    any_false (λ b. eqb b.number v) h.live (λ b m. ne_eqb b.number v (λ e. free (b, m, e)))

-- the refusals by the record are those by history
book_number : {n : ℕ} (state : RingState) (h : History) (b : Booking) → bad_record state ≡ false → state.ring.n ≡ n
    → live_bookings state.load ≡ h.live → length h.live ≡ state.load.live
    → book_refusal state b ≡ booking_number n h (book b)
unfolding book_refusal booking_number first_met no_place
book_number state h b good size live count = rw (good, size, live, count)

cancel_number : (n : ℕ) (state : RingState) (h : History) (v : ℕ) → bad_record state ≡ false → live_bookings state.load ≡ h.live
    → cancel_refusal state v ≡ booking_number n h (cancel v)
unfolding cancel_refusal booking_number first_met
cancel_number n state h v good live = rw (good, live)

-- a fine call leaves what stands
fine_loaded : {n : ℕ} {cs : List BusChoice} {h : History} (state : RingState) → Loaded n cs state.load h → (call : BookingCall)
    → BookingFine n h call → Loaded n cs (with_figures cs (booking_load state call)) (noted call h)
fine_loaded {h = h} state l (book b) (fine_book on range free room) = loaded_book l b on range (not_live_at h b.number free) room
fine_loaded {h = h} state l (cancel v) (fine_cancel is) = loaded_cancel l v (live_at h v is)

-- the ring and the plant stay, whatever the load
booking_steady : {n : ℕ} {W : World} → Steady n W → (state : RingState) (h : History) → state.ring ≡ W.state.ring
    → Steady n (unswitched W state h)
booking_steady s state h e = record {
  size = rw e s.size;
  health = rw e s.health;
  standing = rw e s.standing;
  above = rw e s.above;
  unlocked_above = rw e s.unlocked_above;
  kinds = s.kinds;
  planned = s.planned;
  shown = s.shown;
}

module _ {n : ℕ} {W : World} (big : smallest ≤ n) (small : n ≤ largest) (s : Stands n W) (call : BookingCall) where
  -- by the record and by history the same refusal meets it
  booking_number_lem : booking_refusal W.state call ≡ booking_number n W.history call
  booking_number_lem = by call
    where
      by : (c : BookingCall) → booking_refusal W.state c ≡ booking_number n W.history c
      by (book b) =
          book_number W.state W.history b (stands_good big small s) s.steady.size s.loaded.live (live_count s.loaded)
      by (cancel v) = cancel_number n W.state W.history v (stands_good big small s) s.loaded.live

  judged_booking : Judged (BookingMeets n W.history call) (BookingFine n W.history call) (booking_refusal W.state call)
  judged_booking = rw booking_number_lem (judge_booking call)

  -- the whole of what is claimed of it
  pub booking_answered : BookingAnswered (BookingMeets n W.history call) W.state (answer_to controller W.state call)
  booking_answered =
      rw (booking_answer W.state call)
      (answered_so (booking_refusal W.state call) W.state (booking_load W.state call) judged_booking)

  -- a served one is fine, a fine one served
  pub booked_fine : is_booked (answer_to controller W.state call) ≡ true → BookingFine n W.history call
  booked_fine e =
      let k = booking_refusal W.state call in
      let load = booking_load W.state call in
      judged_fine judged_booking (booked_zero k W.state load (rw (booking_answer W.state call) at e))

  pub fine_booked : BookingFine n W.history call → is_booked (answer_to controller W.state call) ≡ true
  fine_booked f =
      rw (booking_answer W.state call)
      (zero_booked (booking_refusal W.state call) W.state (booking_load W.state call) (judged_zero judged_booking (none_booking f)))

  -- what stands after it
  pub booking_stands : is_booked (answer_to controller W.state call) ≡ true
      → Stands n (unswitched W (answer_to controller W.state call).state (noted call W.history))
  unfolding reckoned
  booking_stands e =
      rw (booked_is W.state call e)
      (record {
        steady = booking_steady s.steady (reckoned W.state.ring (booking_load W.state call)) (noted call W.history) refl;
        loaded = rw (called_shown small s.steady) (fine_loaded W.state s.loaded call (booked_fine e));
      })

  pub unbooked_stands : is_booked (answer_to controller W.state call) ≡ false
      → Stands n (unswitched W (answer_to controller W.state call).state W.history)
  unbooked_stands e = rw (unbooked_is W.state call e) s

-- ---- a list

-- after every call of a list all stands
pub ended_stands : {n : ℕ} {buffer : List ℕ} {calls : Calls} {W : World} → smallest ≤ n → n ≤ largest → Ended controller n buffer calls W
    → Stands n W
unfolding refused_state
ended_stands {n} {buffer} big small (started e d q) = start_stands n buffer big small e d q
ended_stands {n} {buffer} big small (served call h e d q) = call_stands n buffer big small (ended_stands big small h) call e d q
ended_stands big small (refused {W = W} call h e) = rw (call_refused W.state call e) (ended_stands big small h)
ended_stands big small (booked call h e) = booking_stands big small (ended_stands big small h) call e
ended_stands big small (not_booked call h e) = unbooked_stands big small (ended_stands big small h) call e
