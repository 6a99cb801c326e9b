-- A record, arrays of 20 and 64 places, meets no condition of refusal 9, and has no booking behind its live ones, exactly when start, steps,
-- bookings and cancellations make it.
use Rattle.std.specs.Prelude.{◌≡◌, Bool, ◌&&◌, ◌||◌, ◌⊎◌, ◌↔◌, ◌≢◌, ℕ, zero, suc, ◌-◌, ◌≤◌, ◌<◌, eqb, set, drop, replicate}
use Rattle.std.proofs.Math.Path.{refl, sym, ap}
use Rattle.std.proofs.Common.{◌∙◌, inl, inr, arith, length-append, take-append-drop}
use Rattle.std.proofs.Math.Bool.{true, false, not, cond}
use Rattle.std.specs.Bool.{beq}
use mathlib.Core.List.Memᴰ
use mathlib.Core.List.{List, [], ◌∷◌, ◌++◌, append_assoc, append-nil}
use Rattle.std.proofs.Math.Option.{some}
use Rattle.std.proofs.Math.Dec.{ltb}
use Rattle.std.proofs.Math.ListN.{length}
use Rattle.std.proofs.Math.Seq.{take-append_seam, drop-append_seam, set-append_seam}
use borrow.Author.Tests.{lt-ltb, eqb-true, eq-eqb, ne_eqb, not-false}
use Rattle.model.specs.declared.Part.{Part}
use Rattle.model.specs.declared.Part.TheVariants.{Generator, GeneratorBreaker, BusBreaker}
use Rattle.model.specs.declared.Word.{Word}
use Rattle.model.specs.declared.Word.TheVariants.{Fit, StuckOff, StuckOpen, StuckClosed, Lock}
use Rattle.model.specs.declared.Report.{Report}
use Rattle.model.specs.declared.Scan.{Scan}
use Rattle.model.specs.declared.Booking.{Booking}
use Rattle.model.specs.declared.Load.{Load}
use Rattle.model.specs.declared.Ring.{Ring}
use Rattle.model.specs.declared.RingState.{RingState}
use Rattle.model.specs.declared.BusChoice.{BusChoice}
use Rattle.model.specs.Lists.{any_of, ◌∈◌}
use Rattle.model.specs.Values.{number, index, same_part}
use Rattle.model.specs.Plant.{
  PartHealth,
  PartCommands,
  smallest,
  largest,
  parts,
  fit,
  stuck_off,
  stuck_open,
  stuck_closed,
  health_of_kind,
  generator,
  InRing,
  generator_breaker,
  bus_breaker,
}
use Rattle.model.specs.Choosing.{commands}
use Rattle.model.specs.Reports.{
  places,
  health_by,
  lock_by,
  reported,
  all_fit,
  health_of,
  commands_of,
  health_places,
  command_places,
  blank_ring,
  told,
  planned,
  called_for,
  with_plan,
}
use Rattle.model.specs.Refusals.{first_met, size_outside, health_outside, active_above, locked_above, unplanned, bad_ring, start_refusal, step_refusal}
use Rattle.model.specs.Answers.{refused_answer, refused_reply, served_answer, served_reply, reply_by, start_reply, step_reply}
use Rattle.model.specs.Scans.{scan_reports, told_all, scan_refusal, scan_reply}
use Rattle.model.specs.Bookings.{
  most_live,
  live_bookings,
  no_booking,
  no_load,
  with_figures,
  with_booking,
  other_bookings,
  without_booking,
  is_live,
  live_twice,
  bad_load,
}
use Rattle.model.specs.States.{
  unloaded,
  told_state,
  reckoned,
  bad_record,
  state_refusal,
  StateReply,
  refused_state,
  served_state,
  served_by,
  refused_by,
  state_by,
  state_start,
  state_step,
  state_scan,
  book_answer,
  cancel_answer,
}
use Rattle.model.specs.Laws.Tests.{contra, dec, dec_lt, dec_eq, or_none, or_cases}
use Rattle.model.specs.Laws.Lists.{any_in, any_none, below_in}
use Rattle.model.specs.Laws.Parts.{at_index, parts_in, parts_at, same_eq, same_refl, is_places, places_ext, health_places_lem, lock_places}
use Rattle.model.specs.Laws.Refusals.{good_size}
use Rattle.model.specs.Laws.Bookings.{Bookable, AllBookable, unloaded_bad}
use Rattle.theory.specs.Theorems.Locality.{SameHealth, commands_ext, commands_held}
use Rattle.theory.proofs.Theorems.Closing.{sheet_fits}
use Rattle.demands.specs.Statements.Demand3.{
  PlantState,
  fresh_plant,
  after_words,
  decode,
  Call,
  step,
  scan,
  BookingCall,
  book,
  cancel,
  reply_to,
  answer_to,
  words,
  lent,
  is_served,
  is_booked,
  History,
  no_history,
  World,
  switched,
  performed,
  word_refusal,
  Good,
  AllGood,
  no_reports,
  good_and,
  Live,
}
use Rattle.demands.specs.Controller.{controller}
use Rattle.demands.specs.Statements.Records.{Made, started, stepped, booked, cancelled, Arrays, BlankBehind}
use Rattle.demands.proofs.Proofs.Operations.{sheet_order}
use Rattle.demands.proofs.Proofs.Steady.{Ready, phases_of, not_commanded, Steady, steady_ring, served_decodes, transition_steady}
use Rattle.demands.proofs.Proofs.Answering.{
  full_room,
  full_length,
  start_ready,
  start_served,
  fine_begun,
  all_ready,
  call_ready,
  ring_good,
  call_served,
  call_refused,
  fine_served,
  served_fine,
}
use Rattle.demands.proofs.Proofs.Loads.{Loaded, booked_only, live_count, one_fewer, loaded_good, anew_good}
use Rattle.demands.proofs.Proofs.Booking.{BookingFine, fine_book, fine_cancel}
use Rattle.demands.proofs.Proofs.Standing.{
  steady_kinds,
  all_kinds,
  told_kinds_state,
  Stands,
  stands_good,
  start_stands,
  call_stands,
  booking_load,
  booked_is,
  unbooked_is,
  live_at,
  booked_fine,
  fine_booked,
  booking_stands,
  unbooked_stands,
}

-- ---- a record that is made is good

-- a world in which the record stands
Reached : RingState → Type 0
Reached state = (n : ℕ) × (W : World) × (smallest ≤ n) × (n ≤ largest) × Stands n W × (W.state ≡ state)

-- one step or scan more, served or refused
call_reached : {n : ℕ} {W : World} → smallest ≤ n → n ≤ largest → Stands n W → (call : Call)
    → Reached (reply_to controller W.state call).answer.state
unfolding Reached refused_state
call_reached {n} {W} big small s call = go (dec (is_served (reply_to controller W.state call)))
  where
    go : (is_served (reply_to controller W.state call) ≡ true) ⊎ (is_served (reply_to controller W.state call) ≡ false)
        → Reached (reply_to controller W.state call).answer.state
    go (inl e) =
        let d : decode n (reply_to controller W.state call).buffer ≡ some (phases_of n (after_words (words call) W.plant)) =
        rw (call_served W.state call e) (served_decodes small (call_ready small s.steady call) (lent call)) in
        (n, _, big, small, call_stands n (lent call) big small s call e d (performed (sheet_order _) (sheet_order _)), refl)
    go (inr e) = (n, W, big, small, s, rw (call_refused W.state call e))

-- one booking or cancellation more
booking_reached : {n : ℕ} {W : World} → smallest ≤ n → n ≤ largest → Stands n W → (call : BookingCall)
    → Reached (answer_to controller W.state call).state
unfolding Reached
booking_reached {n} {W} big small s call = go (dec (is_booked (answer_to controller W.state call)))
  where
    go : (is_booked (answer_to controller W.state call) ≡ true) ⊎ (is_booked (answer_to controller W.state call) ≡ false)
        → Reached (answer_to controller W.state call).state
    go (inl e) = (n, _, big, small, booking_stands big small s call e, refl)
    go (inr e) = (n, _, big, small, unbooked_stands big small s call e, refl)

made_reached : {state : RingState} → Made state → Reached state
unfolding Reached unloaded
made_reached (started n buffer big small e) =
    let d : decode n (state_start n buffer).buffer ≡ some (phases_of n fresh_plant) =
    rw (start_served n buffer e) (served_decodes small (start_ready n small) buffer) in
    (n, _, big, small, start_stands n buffer big small e d (performed (sheet_order _) (sheet_order _)), refl)
made_reached (stepped {state = state} r buffer m) = go (made_reached m)
  where
    go : Reached state → Reached (state_step state r buffer).answer.state
    go t = rw t.5 at (call_reached t.2 t.3 t.4 (step r buffer))
made_reached (booked {state = state} b m) = go (made_reached m)
  where
    go : Reached state → Reached (book_answer state b).state
    go t = rw t.5 at (booking_reached t.2 t.3 t.4 (book b))
made_reached (cancelled {state = state} v m) = go (made_reached m)
  where
    go : Reached state → Reached (cancel_answer state v).state
    go t = rw t.5 at (booking_reached t.2 t.3 t.4 (cancel v))

-- a record that start, steps, bookings and cancellations make is not refused
pub made_good : {state : RingState} → Made state → bad_record state ≡ false
unfolding Reached
made_good m = let t = made_reached m in rw t.5 at (stands_good t.2 t.3 t.4)

-- ---- the records that start and steps make, by their health

-- the record of n buses with a health, its locks and the commands that they call for
ring_for : ℕ → PartHealth → Ring
ring_for n H = record { n = n; health = health_places H; commands = command_places (commands n H) }

ring_ext : (n : ℕ) (H K : PartHealth) → n ≤ largest → SameHealth largest H K → ring_for n H ≡ ring_for n K
unfolding ring_for health_places command_places
ring_ext n H K small same = λ i. record {
  n = n;
  health = record {
    generators =
        places_ext (λ j. H.health (generator j)) (λ j. K.health (generator j)) (λ j h. same.health (generator j) (at_index largest j h)) i;
    generator_breakers =
        places_ext (λ j. H.health (generator_breaker j)) (λ j. K.health (generator_breaker j))
        (λ j h. same.health (generator_breaker j) (at_index largest j h)) i;
    bus_breakers =
        places_ext (λ j. H.health (bus_breaker j)) (λ j. K.health (bus_breaker j))
        (λ j h. same.health (bus_breaker j) (at_index largest j h)) i;
    locked = places_ext H.locked K.locked same.locked i;
  };
  commands = command_places (λ p. commands_ext n H K inside p i);
}
  where
    inside : SameHealth n H K
    inside = record { health = λ p r. same.health p (r.0, omega (arith, r.1)); locked = λ g l. same.locked g (omega arith) }

-- the arrays of a record are those of a health that it holds
pub health_is : (state : RingState) → Arrays state → (H : PartHealth) → SameHealth largest (health_of state.ring.health) H
    → state.ring.health ≡ health_places H
unfolding health_places health_of
health_is state arrays H same = λ i. record {
  generators =
      is_places (λ j. H.health (generator j)) state.ring.health.generators 0 arrays.generators
      (λ j l. same.health (generator j) (at_index largest j l)) i;
  generator_breakers =
      is_places (λ j. H.health (generator_breaker j)) state.ring.health.generator_breakers 0 arrays.generator_breakers_lem
      (λ j l. same.health (generator_breaker j) (at_index largest j l)) i;
  bus_breakers =
      is_places (λ j. H.health (bus_breaker j)) state.ring.health.bus_breakers 0 arrays.bus_breakers_lem
      (λ j l. same.health (bus_breaker j) (at_index largest j l)) i;
  locked = is_places H.locked state.ring.health.locked false arrays.locked same.locked i;
}

-- a good report and full room: served
pub served_step : {n : ℕ} {W : World} → n ≤ largest → Steady n W → bad_record W.state ≡ false → (r : Report) → Good n r
    → is_served (state_step W.state r full_room) ≡ true
served_step {n} {W} small s good_record r good =
    let call = step r full_room in
    let Q = after_words (words call) W.plant in
    let fits = sheet_fits n Q.health Q.last small in
    fine_served small s good_record call
    (record { few = omega arith; good = good_and good no_reports; fits = omega (arith, full_length) })

-- .. with the ring that was told it
stepped_state : {n : ℕ} {W : World} → n ≤ largest → Steady n W → bad_record W.state ≡ false → (r : Report) → Good n r
    → (state_step W.state r full_room).answer.state ≡ reckoned (with_plan (told W.state.ring r)) W.state.load
unfolding served_state told_state told_all
stepped_state {W = W} small s good_record r good =
    ap (λ (x : StateReply). x.answer.state) (call_served W.state (step r full_room) (served_step small s good_record r good))

-- a word for a part's health: it alters no lock
pub record Spoken (p : Part) (h : ℕ) : Type 0 where
  pub word : Word
  pub health : (x : ℕ) → health_by word x ≡ h
  pub lock : (l : Bool) → lock_by word l ≡ l
  pub served : word_refusal p word ≡ 0

breaker_word : (p : Part) (h : ℕ) → word_refusal p Fit ≡ 0 → word_refusal p StuckOpen ≡ 0 → word_refusal p StuckClosed ≡ 0
    → fit h || stuck_open h || stuck_closed h ≡ true → Spoken p h
breaker_word p h f o c e = go (or_cases (fit h || stuck_open h) (stuck_closed h) e)
  where
    early : (fit h ≡ true) ⊎ (stuck_open h ≡ true) → Spoken p h
    early (inl q) = record { word = Fit; health = λ x. sym (eqb-true h 0 q); lock = λ l. refl; served = f }
    early (inr q) = record { word = StuckOpen; health = λ x. sym (eqb-true h 2 q); lock = λ l. refl; served = o }

    go : (fit h || stuck_open h ≡ true) ⊎ (stuck_closed h ≡ true) → Spoken p h
    go (inl q) = early (or_cases (fit h) (stuck_open h) q)
    go (inr q) = record { word = StuckClosed; health = λ x. sym (eqb-true h 3 q); lock = λ l. refl; served = c }

word_for : (p : Part) (h : ℕ) → health_of_kind p h ≡ true → Spoken p h
unfolding health_of_kind word_refusal
word_for (Generator k) h e = go (or_cases (fit h) (stuck_off h) e)
  where
    go : (fit h ≡ true) ⊎ (stuck_off h ≡ true) → Spoken (Generator k) h
    go (inl q) = record { word = Fit; health = λ x. sym (eqb-true h 0 q); lock = λ l. refl; served = refl }
    go (inr q) = record { word = StuckOff; health = λ x. sym (eqb-true h 1 q); lock = λ l. refl; served = refl }
word_for (GeneratorBreaker k) h e = breaker_word (GeneratorBreaker k) h refl refl refl e
word_for (BusBreaker k) h e = breaker_word (BusBreaker k) h refl refl refl e

start_begun : (n : ℕ) → smallest ≤ n → n ≤ largest → is_served (state_start n full_room) ≡ true
start_begun n big small =
    let fits = sheet_fits n fresh_plant.health fresh_plant.last small in
    fine_begun n full_room (record { big = big; small = small; fits = omega (arith, full_length) })

-- a load whose first places hold some bookings, and the others none
load_of : List Booking → Load
load_of bs =
    record { bookings = bs ++ replicate (most_live - length bs) no_booking; live = length bs; watts = places (λ g. 0); dark_watts = 0 }

-- the record of n buses with a health and bookings, with the commands and the figures that they call for
state_for : ℕ → PartHealth → List Booking → RingState
state_for n H bs = reckoned (ring_for n H) (load_of bs)

-- the figures are made anew, whatever they were
reckoned_ext : (ring : Ring) (l m : Load) → l.bookings ≡ m.bookings → l.live ≡ m.live → reckoned ring l ≡ reckoned ring m
unfolding reckoned with_figures
reckoned_ext ring l m e f = rw (e, f)

start_made : (n : ℕ) → smallest ≤ n → n ≤ largest → Made (state_for n all_fit [])
unfolding state_for load_of ring_for served_state with_plan planned blank_ring unloaded no_load
start_made n big small =
    let begun = start_begun n big small in
    rw (ap (λ (x : StateReply). x.answer.state) (start_served n full_room begun), commands_held n small all_fit) at
    (started n full_room big small begun)

module _ (n : ℕ) (big : smallest ≤ n) (small : n ≤ largest) where
  -- one report more
  told_for : (J : PartHealth) (r : Report) → with_plan (told (ring_for n J) r) ≡ ring_for n (reported J r)
  unfolding with_plan told planned ring_for reported
  told_for J r =
      rw (commands_held n small (reported (health_of (health_places J)) r))
      (ring_ext n (reported (health_of (health_places J)) r) (reported J r) small
      (record { health = λ q i. rw (health_places_lem J q i); locked = λ g l. rw (lock_places J g l) }))

  step_made : (J K : PartHealth) (r : Report) → Good n r → SameHealth largest (reported J r) K → Made (state_for n J []) → Made (state_for n K [])
  unfolding Reached ring_for state_for reckoned with_figures
  step_made J K r good same m = go (made_reached m)
    where
      go : Reached (state_for n J []) → Made (state_for n K [])
      go t =
          let size : t.0 ≡ n = sym t.4.steady.size ∙ ap (λ (x : RingState). x.ring.n) t.5 in
          let z = stepped_state t.3 t.4.steady (stands_good t.2 t.3 t.4) r (rw size good) in
          rw (rw t.5 at z ∙ ap (λ ring. reckoned ring (load_of [])) (told_for J r ∙ ring_ext n (reported J r) K small same)) at
          (stepped r full_room m)

  module _ (H : PartHealth) (kinds : (p : Part) → InRing n p → health_of_kind p (H.health p) ≡ true) where
    -- the health H of the parts ps, all others fit, none locked
    partial : List Part → PartHealth
    partial ps = record { health = λ q. cond (any_of (same_part q) ps) (H.health q) 0; locked = λ g. false }

    makes : (ps : List Part) → ((p : Part) → p ∈ ps → InRing n p) → Made (state_for n (partial ps) [])
    unfolding partial any_of state_for reported
    makes [] all =
        rw (ring_ext n all_fit (partial []) small (record { health = λ q i. refl; locked = λ g l. refl })) at (start_made n big small)
    makes (p ∷ ps) all =
        step_made (partial ps) (partial (p ∷ ps)) (record { part = p; word = w.word }) (record { inside = i; word = w.served })
        (record { health = λ q j. go q (dec (same_part q p)); locked = λ g l. unlocked (same_part (generator g) p) })
        (makes ps (λ q m. all q (Memᴰ.tail m)))
      where
        i : InRing n p
        i = all p (Memᴰ.head refl)

        w : Spoken p (H.health p)
        w = word_for p (H.health p) (kinds p i)

        go : (q : Part) → (same_part q p ≡ true) ⊎ (same_part q p ≡ false)
            → cond (same_part q p) (health_by w.word ((partial ps).health q)) ((partial ps).health q)
            ≡ cond (same_part q p || any_of (same_part q) ps) (H.health q) 0
        go q (inl t) = rw t (w.health ((partial ps).health q) ∙ ap H.health (sym (same_eq q p t)))
        go q (inr t) = rw t

        unlocked : (t : Bool) → cond t (lock_by w.word false) false ≡ false
        unlocked true = w.lock false
        unlocked false = refl

    -- .. and its locks among the parts ps
    locked_of : List Part → PartHealth
    locked_of ps = record { health = (partial (parts n)).health; locked = λ g. any_of (same_part (generator g)) ps && H.locked g }

    -- a generator more that is not locked
    lock_none : (p : Part) (ps : List Part) → ((g : ℕ) → same_part (generator g) p ≡ true → H.locked g ≡ false)
        → SameHealth largest (locked_of ps) (locked_of (p ∷ ps))
    unfolding locked_of any_of
    lock_none p ps none = record { health = λ q j. refl; locked = λ g l. go g (dec (same_part (generator g) p)) }
      where
        either : (t u : Bool) → t && false ≡ u && false
        either true true = refl
        either true false = refl
        either false true = refl
        either false false = refl

        go : (g : ℕ) → (same_part (generator g) p ≡ true) ⊎ (same_part (generator g) p ≡ false)
            → any_of (same_part (generator g)) ps && H.locked g ≡ (same_part (generator g) p || any_of (same_part (generator g)) ps) && H.locked g
        go g (inl t) = rw (none g t) (either (any_of (same_part (generator g)) ps) (same_part (generator g) p || any_of (same_part (generator g)) ps))
        go g (inr t) = rw t

    -- .. and one that is
    lock_more : (g : ℕ) (ps : List Part) → H.locked g ≡ true
        → SameHealth largest (reported (locked_of ps) (record { part = generator g; word = Lock })) (locked_of (generator g ∷ ps))
    unfolding locked_of any_of reported same_part
    lock_more g ps e = record { health = λ q j. same (same_part q (generator g)) ((partial (parts n)).health q); locked = λ h l. go h (dec_eq (suc h) (suc g)) }
      where
        same : (t : Bool) (x : ℕ) → cond t x x ≡ x
        same true x = refl
        same false x = refl

        go : (h : ℕ) → (suc h ≡ suc g) ⊎ (suc h ≢ suc g)
            → cond (same_part (generator h) (generator g)) true (any_of (same_part (generator h)) ps && H.locked h)
            ≡ (same_part (generator h) (generator g) || any_of (same_part (generator h)) ps) && H.locked h
        go h (inl t) = let z : H.locked h ≡ true = ap (λ k. H.locked (index k)) t ∙ e in rw (eq-eqb (suc h) (suc g) t, z)
        go h (inr t) = rw (ne_eqb (suc h) (suc g) t)

    locks : (ps : List Part) → ((p : Part) → p ∈ ps → InRing n p) → Made (state_for n (locked_of ps) [])
    unfolding partial locked_of any_of state_for word_refusal same_part
    locks [] all =
        rw (ring_ext n (partial (parts n)) (locked_of []) small (record { health = λ q j. refl; locked = λ g l. refl })) at
        (makes (parts n) (parts_at n))
    locks (p ∷ ps) all = one p (all p (Memᴰ.head refl)) (locks ps (λ q m. all q (Memᴰ.tail m)))
      where
        kept : (q : Part) → ((g : ℕ) → same_part (generator g) q ≡ true → H.locked g ≡ false) → Made (state_for n (locked_of ps) [])
            → Made (state_for n (locked_of (q ∷ ps)) [])
        kept q none m = rw (ring_ext n (locked_of ps) (locked_of (q ∷ ps)) small (lock_none q ps none)) at m

        one : (q : Part) → InRing n q → Made (state_for n (locked_of ps) []) → Made (state_for n (locked_of (q ∷ ps)) [])
        one (Generator zero) i m = absurd (omega (arith, i.0))
        one (Generator (suc g)) i m = go (dec (H.locked g))
          where
            go : (H.locked g ≡ true) ⊎ (H.locked g ≡ false) → Made (state_for n (locked_of (generator g ∷ ps)) [])
            go (inl e) =
                step_made (locked_of ps) (locked_of (generator g ∷ ps)) (record { part = generator g; word = Lock })
                (record { inside = i; word = refl }) (lock_more g ps e) m
            go (inr e) = kept (generator g) (λ h t. ap (λ k. H.locked (index (number k))) (same_eq (generator h) (generator g) t) ∙ e) m
        one (GeneratorBreaker k) i m = kept (GeneratorBreaker k) (λ g t. contra t refl) m
        one (BusBreaker k) i m = kept (BusBreaker k) (λ g t. contra t refl) m

-- ---- .. and by their bookings

-- a booking more
book_load : (ring : Ring) (cs : List BusChoice) (bs : List Booking) (b : Booking) → length bs < most_live
    → reckoned ring (with_booking (with_figures cs (load_of bs)) b) ≡ reckoned ring (load_of (bs ++ (b ∷ [])))
unfolding load_of with_booking with_figures
book_load ring cs bs b room =
    reckoned_ext ring (with_booking (with_figures cs (load_of bs)) b) (load_of (bs ++ (b ∷ [])))
    (places_more (most_live - length bs) (most_live - length (bs ++ (b ∷ []))) (omega (arith, longer)))
    (sym longer)
  where
    longer : length (bs ++ (b ∷ [])) ≡ suc (length bs)
    longer = simp length-append (omega arith)

    places_more : (k j : ℕ) → k ≡ suc j → set (bs ++ replicate k no_booking) (length bs) b ≡ (bs ++ (b ∷ [])) ++ replicate j no_booking
    places_more k j e =
        rw e (set-append_seam bs no_booking (replicate j no_booking) b ∙ sym (append_assoc bs (b ∷ []) (replicate j no_booking)))

-- the bookings of such a record
live_for : (n : ℕ) (H : PartHealth) (bs : List Booking) → live_bookings (state_for n H bs).load ≡ bs
unfolding state_for reckoned with_figures load_of
live_for n H bs = take-append_seam bs (replicate (most_live - length bs) no_booking)

for_size : (n : ℕ) (H : PartHealth) (bs : List Booking) → (state_for n H bs).ring.n ≡ n
unfolding state_for reckoned ring_for
for_size n H bs = refl

for_booked : (n : ℕ) (H : PartHealth) (bs : List Booking) (b : Booking) → length bs < most_live
    → reckoned (state_for n H bs).ring (with_booking (state_for n H bs).load b) ≡ state_for n H (bs ++ (b ∷ []))
unfolding state_for reckoned
for_booked n H bs b room = book_load (ring_for n H) (called_for (ring_for n H)) bs b room

-- the number of a booking among others that are not live twice is not live before it
new_among : (front : List Booking) (b : Booking) (back : List Booking) → live_twice (front ++ (b ∷ back)) ≡ false
    → is_live front b.number ≡ false
unfolding live_twice is_live any_of
new_among [] b back e = refl
new_among (x ∷ front) b back e =
    let t = or_none (is_live (front ++ (b ∷ back)) x.number) (live_twice (front ++ (b ∷ back))) e in
    let here : eqb b.number x.number ≡ false = any_none (λ y. eqb y.number x.number) t.0 (among front) in
    rw (ne_eqb x.number b.number (λ z. contra (eq-eqb b.number x.number (sym z)) here), new_among front b back t.1)
  where
    among : (xs : List Booking) → b ∈ xs ++ (b ∷ back)
    among [] = Memᴰ.head refl
    among (y ∷ xs) = Memᴰ.tail (among xs)

module _ (n : ℕ) (H : PartHealth) where
  book_made : (bs : List Booking) (b : Booking) → Bookable n b → is_live bs b.number ≡ false → length bs < most_live
      → Made (state_for n H bs)
      → Made (state_for n H (bs ++ (b ∷ [])))
  unfolding Reached
  book_made bs b fine new room m = go (made_reached m)
    where
      go : Reached (state_for n H bs) → Made (state_for n H (bs ++ (b ∷ [])))
      go t =
          let W = t.1 in
          let size : t.0 ≡ n = sym t.4.steady.size ∙ ap (λ (x : RingState). x.ring.n) t.5 ∙ size_for in
          let live : W.history.live ≡ bs =
          sym t.4.loaded.live ∙ ap (λ (x : RingState). live_bookings x.load) t.5 ∙ live_for n H bs in
          let f : BookingFine t.0 W.history (book b) =
          fine_book (fine.low, omega (arith, fine.high)) (fine.some_watts, fine.few_watts) (not_live W.history live) (rw live room) in
          let z = booked_is W.state (book b) (fine_booked t.2 t.3 t.4 (book b) f) in
          rw (rw t.5 at z ∙ after) at (booked b m)
        where
          size_for : (state_for n H bs).ring.n ≡ n
          size_for = for_size n H bs

          after : reckoned (state_for n H bs).ring (with_booking (state_for n H bs).load b) ≡ state_for n H (bs ++ (b ∷ []))
          after = for_booked n H bs b room

          not_live : (h : History) → h.live ≡ bs → Live h b.number → ⊥
          not_live h e l = contra (live_at h b.number l) (rw e new)

  -- several, one after the other
  books : (front back : List Booking) → AllBookable n back → live_twice (front ++ back) ≡ false → length (front ++ back) ≤ most_live
      → Made (state_for n H front)
      → Made (state_for n H (front ++ back))
  books front [] fine single few m = rw (append-nil front) m
  books front (b ∷ back) fine single few m =
      let room : length front < most_live = omega (arith, length-append front (b ∷ back)) in
      let one = book_made front b (fine b (Memᴰ.head refl)) (new_among front b back single) room m in
      let same = append_assoc front (b ∷ []) back in
      rw same at (books (front ++ (b ∷ [])) back (λ x i. fine x (Memᴰ.tail i)) (rw same single) (rw same few) one)

-- ---- a good record is made

beq_eq : (a b : Bool) → not (beq a b) ≡ false → a ≡ b
beq_eq true true e = refl
beq_eq true false e = contra refl e
beq_eq false true e = contra refl e
beq_eq false false e = refl

module _ (ring : Ring) (good : bad_ring ring ≡ false) where
  abbrev H : PartHealth
  H = health_of ring.health

  abbrev C : PartCommands
  C = commands_of ring.commands

  abbrev N : ℕ
  N = ring.n

  -- none of the five conditions is met
  conditions : (size_outside N ≡ false) × (health_outside H (parts largest) ≡ false) × (active_above N H C ≡ false) × (locked_above N H ≡ false)
      × (unplanned N H C ≡ false)
  unfolding bad_ring any_of
  conditions =
      let a = or_none (size_outside N) _ good in
      let b = or_none (health_outside H (parts largest)) _ a.1 in
      let c = or_none (active_above N H C) _ b.1 in
      let d = or_none (locked_above N H) _ c.1 in
      (a.0, b.0, c.0, d.0, (or_none (unplanned N H C) false d.1).0)

  of_kind : (p : Part) → InRing N p → health_of_kind p (H.health p) ≡ true
  unfolding health_outside
  of_kind p i =
      not-false (health_of_kind p (H.health p))
      (any_none (λ q. not (health_of_kind q (H.health q))) conditions.1 (parts_in largest p (i.0, omega (arith, i.1, (good_size ring good).1))))

  above_fit : (p : Part) → InRing largest p → N < number p → H.health p ≡ 0
  unfolding active_above
  above_fit p i l =
      let t = any_none (λ q. ltb N (number q) && (not (fit (H.health q)) || C q)) conditions.2 (parts_in largest p i) in
      let u : not (fit (H.health p)) || C p ≡ false = rw (lt-ltb N (number p) l) at t in
      eqb-true (H.health p) 0 (not-false (fit (H.health p)) (or_none (not (fit (H.health p))) (C p) u).0)

  above_unlocked : (g : ℕ) → g < largest → N ≤ g → H.locked g ≡ false
  unfolding locked_above
  above_unlocked g l m =
      rw (lt-ltb N (suc g) (omega arith)) at (any_none (λ h. ltb N (suc h) && H.locked h) conditions.3 (below_in largest g l))

  pub as_planned : (p : Part) → InRing largest p → C p ≡ commands N H p
  unfolding unplanned
  as_planned p i =
      beq_eq (C p) (commands N H p) (any_none (λ q. not (beq (C q) (commands N H q))) conditions.4 (parts_in largest p i))

  above_off : (p : Part) → InRing largest p → N < number p → C p ≡ false
  above_off p i l = as_planned p i ∙ not_commanded N H p l

-- a world with the record, its health and commands in the plant, and its bookings in history
abbrev standing : RingState → World
standing state =
    record {
      plant = record { health = health_of state.ring.health; last = commands_of state.ring.commands };
      state = state;
      shown = called_for state.ring;
      history = booked_only state.load;
    }

module _ (state : RingState) (good : bad_record state ≡ false) where
  abbrev R : Ring
  R = state.ring

  right : bad_ring R ≡ false
  right = ring_good state good

  pub good_steady : Steady R.n (standing state)
  good_steady = record {
    size = refl;
    health = record { health = λ p i. refl; locked = λ g l. refl };
    standing = λ p i. refl;
    above = λ p i l. (above_fit R right p i l, above_off R right p i l);
    unlocked_above = above_unlocked R right;
    kinds = of_kind R right;
    planned = λ p i. as_planned R right p (i.0, omega (arith, i.1, (good_size R right).1));
    shown = refl;
  }

  -- none of document 02's conditions is met
  load_right : bad_load R.n (called_for R) state.load ≡ false
  unfolding bad_record
  load_right = (or_none (bad_ring R) _ good).1

  module _ (arrays : Arrays state) where
    pub good_loaded : Loaded R.n (called_for R) state.load (standing state).history
    good_loaded = loaded_good R.n (called_for R) state.load load_right arrays.bookings arrays.watts

    pub good_stands : Stands R.n (standing state)
    good_stands = record { steady = good_steady; loaded = good_loaded }

-- the figures of a good record are its own
own_figures : (state : RingState) → bad_record state ≡ false → Arrays state → state ≡ reckoned state.ring state.load
unfolding reckoned with_figures
own_figures state good arrays = λ i. record {
  ring = state.ring;
  load = record {
    bookings = state.load.bookings;
    live = state.load.live;
    watts = (good_loaded state good arrays).watts i;
    dark_watts = (good_loaded state good arrays).dark i;
  };
}

-- .. and so is its plan
own_plan : (state : RingState) → bad_record state ≡ false → Arrays state → state.ring ≡ with_plan state.ring
unfolding with_plan planned command_places commands_of
own_plan state good arrays = λ i. record {
  n = R.n;
  health = R.health;
  commands = record {
    generators =
        is_places (λ j. commands R.n (health_of R.health) (generator j)) R.commands.generators false arrays.generator_commands
        (λ j l. as_planned R (right state good) (generator j) (at_index largest j l)) i;
    generator_breakers =
        is_places (λ j. commands R.n (health_of R.health) (generator_breaker j)) R.commands.generator_breakers false
        arrays.generator_breaker_commands
        (λ j l. as_planned R (right state good) (generator_breaker j) (at_index largest j l)) i;
    bus_breakers =
        is_places (λ j. commands R.n (health_of R.health) (bus_breaker j)) R.commands.bus_breakers false arrays.bus_breaker_commands
        (λ j l. as_planned R (right state good) (bus_breaker j) (at_index largest j l)) i;
  };
}
  where
    R : Ring
    R = state.ring

pub plan_kept : (state : RingState) → bad_record state ≡ false → Arrays state → reckoned (with_plan state.ring) state.load ≡ state
plan_kept state good arrays =
    ap (λ ring. reckoned ring state.load) (sym (own_plan state good arrays)) ∙ sym (own_figures state good arrays)

-- a good record told reports is ready for its phases
told_ready : (state : RingState) {n : ℕ} → n ≤ largest → Steady n (standing state) → (rs : List Report)
    → Ready n (told_state state rs).ring (after_words rs (standing state).plant)
unfolding told_state
told_ready state small s rs = all_ready small (record { size = s.size; health = s.health; standing = s.standing }) rs

-- a good record told good reports, its ring planned
told_steady : (state : RingState) → bad_record state ≡ false → (rs : List Report) → AllGood state.ring.n rs
    → (Q : PlantState) × Steady state.ring.n (switched Q (served_state (told_state state rs)) no_history)
told_steady state good rs all =
    let small = (good_size state.ring (right state good)).1 in
    let s = good_steady state good in
    let ready = told_ready state small s rs in
    let kinds = told_kinds_state state rs (all_kinds small (steady_kinds s) all) in (
      _,
      transition_steady (told_state state rs) no_history small ready kinds.inside kinds.above kinds.unlocked
          (performed (sheet_order _) (sheet_order _)),
    )

-- a good record told good reports, and planned
told_good : (state : RingState) → bad_record state ≡ false → (rs : List Report) → AllGood state.ring.n rs
    → bad_record (served_state (told_state state rs)).state ≡ false
unfolding bad_record served_state reckoned told_state
told_good state good rs all =
    let size = good_size state.ring (right state good) in
    let after = (told_steady state good rs all).1 in
    rw (steady_ring after size.0 size.1, after.size)
    (anew_good state.ring.n (called_for state.ring) state.load (load_right state good) _)

-- a step or a scan with a good record gives one
pub call_good : (state : RingState) → bad_record state ≡ false → (call : Call)
    → bad_record (reply_to controller state call).answer.state ≡ false
unfolding refused_state
call_good state good call = go (dec (is_served (reply_to controller state call)))
  where
    go : (is_served (reply_to controller state call) ≡ true) ⊎ (is_served (reply_to controller state call) ≡ false)
        → bad_record (reply_to controller state call).answer.state ≡ false
    go (inl e) = rw (call_served state call e) (told_good state good (words call) fine)
      where
        fine : AllGood state.ring.n (words call)
        fine = (served_fine (good_size state.ring (right state good)).1 (good_steady state good) good call e).good
    go (inr e) = rw (call_refused state call e) good

-- ---- the inner calls, which take and give the ring alone

-- a reply's ring is the inner one's
inner_ring : (k : ℕ) (state kept : RingState) (buffer : List ℕ)
    → (state_by k state kept buffer).answer.state.ring ≡ (reply_by k state.ring kept.ring buffer).answer.ring
unfolding served_state refused_state reckoned served_reply served_answer refused_reply refused_answer
inner_ring k state kept buffer = go (eqb k 0)
  where
    go : (t : Bool) → (cond t (served_by state buffer) (refused_by k kept buffer)).answer.state.ring
        ≡ (cond t (served_reply state.ring buffer) (refused_reply k kept.ring buffer)).answer.ring
    go true = refl
    go false = refl

-- a start gives a good ring, and so does a step or a scan with one
pub inner_start_good : (n : ℕ) (buffer : List ℕ) → smallest ≤ n → n ≤ largest → start_refusal n (length buffer) ≡ 0
    → bad_ring (start_reply n buffer).answer.ring ≡ false
unfolding state_start start_reply unloaded served_state
inner_start_good n buffer big small e =
    rw (inner_ring (start_refusal n (length buffer)) (unloaded (blank_ring n)) (unloaded (blank_ring 0)) buffer) at
    (ring_good _ (made_good (started n buffer big small (rw e))))

module _ (ring : Ring) (good : bad_ring ring ≡ false) where
  unbooked_good : bad_record (unloaded ring) ≡ false
  unbooked_good = unloaded_bad ring ∙ good

  pub inner_step_good : (r : Report) (buffer : List ℕ) → bad_ring (step_reply ring r buffer).answer.ring ≡ false
  unfolding state_step step_reply state_refusal first_met told_state told_all unloaded
  inner_step_good r buffer =
      let k = step_refusal ring r (length buffer) in
      let t = ring_good _ (call_good (unloaded ring) unbooked_good (step r buffer)) in
      rw (unbooked_good, inner_ring k (told_state (unloaded ring) (r ∷ [])) (unloaded ring) buffer) at t

  pub inner_scan_good : (s : Scan) (buffer : List ℕ) → bad_ring (scan_reply ring s buffer).answer.ring ≡ false
  unfolding state_scan scan_reply state_refusal first_met told_state unloaded
  inner_scan_good s buffer =
      let k = scan_refusal ring s (length buffer) in
      let t = ring_good _ (call_good (unloaded ring) unbooked_good (scan s buffer)) in
      rw (unbooked_good, inner_ring k (told_state (unloaded ring) (scan_reports s)) (unloaded ring) buffer) at t

module _ (state : RingState) (arrays : Arrays state) (good : bad_record state ≡ false) where
  abbrev ring : Ring
  ring = state.ring

  abbrev whole : bad_ring state.ring ≡ false
  whole = right state good

  -- the health of all parts of the ring and its locks are the record's
  abbrev K : PartHealth
  K =
      locked_of ring.n (good_size ring whole).0 (good_size ring whole).1 (health_of ring.health) (of_kind ring whole)
      (parts ring.n)

  same_health : SameHealth largest (health_of ring.health) K
  unfolding partial locked_of
  same_health = record {
    health = λ p i. go p i (dec_lt ring.n (number p)) (dec (any_of (same_part p) (parts ring.n)));
    locked = λ g l. lock g l (dec_lt g ring.n) (dec (any_of (same_part (generator g)) (parts ring.n)));
  }
    where
      go : (p : Part) → InRing largest p → (ring.n < number p) ⊎ (number p ≤ ring.n)
          → (any_of (same_part p) (parts ring.n) ≡ true) ⊎ (any_of (same_part p) (parts ring.n) ≡ false)
          → (health_of ring.health).health p ≡ cond (any_of (same_part p) (parts ring.n)) ((health_of ring.health).health p) 0
      go p i l (inl a) = rw a
      go p i (inl l) (inr a) = rw a (above_fit ring whole p i l)
      go p i (inr l) (inr a) = contra (any_in (same_part p) (parts_in ring.n p (i.0, l)) (same_refl p)) a

      lock : (g : ℕ) → g < largest → (g < ring.n) ⊎ (ring.n ≤ g)
          → (any_of (same_part (generator g)) (parts ring.n) ≡ true) ⊎ (any_of (same_part (generator g)) (parts ring.n) ≡ false)
          → (health_of ring.health).locked g ≡ any_of (same_part (generator g)) (parts ring.n) && (health_of ring.health).locked g
      lock g l m (inl a) = rw a
      lock g l (inl m) (inr a) =
          contra (any_in (same_part (generator g)) (parts_in ring.n (generator g) (at_index ring.n g m)) (same_refl (generator g))) a
      lock g l (inr m) (inr a) = rw a (above_unlocked ring whole g l m)

  same_commands : (p : Part) → InRing largest p → commands_of ring.commands p ≡ commands ring.n K p
  same_commands p i =
      as_planned ring whole p i ∙ commands_ext ring.n (health_of ring.health) K
      (record {
        health = λ q j. same_health.health q (j.0, omega (arith, j.1, (good_size ring whole).1));
        locked = λ g l. same_health.locked g (omega (arith, (good_size ring whole).1));
      })
      p

  is_ring : ring ≡ ring_for ring.n K
  unfolding ring_for command_places commands_of
  is_ring = λ i. record {
    n = ring.n;
    health = health_is state arrays K same_health i;
    commands = record {
      generators =
          is_places (λ j. commands ring.n K (generator j)) ring.commands.generators false arrays.generator_commands
          (λ j l. same_commands (generator j) (at_index largest j l)) i;
      generator_breakers =
          is_places (λ j. commands ring.n K (generator_breaker j)) ring.commands.generator_breakers false
          arrays.generator_breaker_commands
          (λ j l. same_commands (generator_breaker j) (at_index largest j l)) i;
      bus_breakers =
          is_places (λ j. commands ring.n K (bus_breaker j)) ring.commands.bus_breakers false arrays.bus_breaker_commands
          (λ j l. same_commands (bus_breaker j) (at_index largest j l)) i;
    };
  }

  abbrev live : List Booking
  live = live_bookings state.load

  -- with blanks behind the live bookings, the load is theirs
  same_load : BlankBehind state.load → reckoned ring state.load ≡ reckoned ring (load_of live)
  unfolding load_of
  same_load blank = reckoned_ext ring state.load (load_of live) in_places (sym count)
    where
      count : length live ≡ state.load.live
      count = live_count (good_loaded state good arrays)

      in_places : state.load.bookings ≡ live ++ replicate (most_live - length live) no_booking
      in_places =
          sym (take-append-drop state.load.live state.load.bookings)
          ∙ ap (λ back. live ++ back) (blank ∙ ap (λ k. replicate (most_live - k) no_booking) (sym count))

  is_state : BlankBehind state.load → state ≡ state_for ring.n K live
  unfolding state_for
  is_state blank = own ∙ same_load blank ∙ ap (λ x. reckoned x (load_of live)) is_ring
    where
      own : state ≡ reckoned ring state.load
      own = own_figures state good arrays

  good_made : BlankBehind state.load → Made state
  good_made blank =
      let size = good_size ring whole in
      let l = good_loaded state good arrays in
      let begun = locks ring.n size.0 size.1 (health_of ring.health) (of_kind ring whole) (parts ring.n) (parts_at ring.n) in
      rw (is_state blank) (books ring.n K [] live l.bookable l.single (omega (arith, live_count l, l.few)) begun)

-- ---- a record that is made has no booking behind its live ones

-- a booking in a place leaves those behind it
drop_set : (xs : List Booking) (k : ℕ) (b : Booking) → drop (suc k) (set xs k b) ≡ drop (suc k) xs
drop_set [] k b = refl
drop_set (x ∷ xs) zero b = refl
drop_set (x ∷ xs) (suc k) b = drop_set xs k b

-- one place less
drop_more : (xs : List Booking) (k j : ℕ) → drop k xs ≡ replicate (suc j) no_booking → drop (suc k) xs ≡ replicate j no_booking
drop_more [] zero j e = ap (drop 1) e
drop_more [] (suc k) j e = ap (drop 1) e
drop_more (x ∷ xs) zero j e = ap (drop 1) e
drop_more (x ∷ xs) (suc k) j e = drop_more xs k j e

-- a step or a scan keeps the bookings
blank_call : (state : RingState) (call : Call) → BlankBehind state.load → BlankBehind (reply_to controller state call).answer.state.load
unfolding served_state refused_state reckoned with_figures told_state
blank_call state call blank = go (dec (is_served (reply_to controller state call)))
  where
    go : (is_served (reply_to controller state call) ≡ true) ⊎ (is_served (reply_to controller state call) ≡ false)
        → BlankBehind (reply_to controller state call).answer.state.load
    go (inl e) = rw (call_served state call e) blank
    go (inr e) = rw (call_refused state call e) blank

-- one booking more
blank_book : (load : Load) (b : Booking) → load.live < most_live → BlankBehind load → BlankBehind (with_booking load b)
unfolding with_booking
blank_book load b room blank =
    drop_set load.bookings load.live b ∙ by (most_live - load.live) (most_live - suc load.live) (omega arith) refl
  where
    by : (k j : ℕ) → k ≡ suc j → most_live - load.live ≡ k → drop (suc load.live) load.bookings ≡ replicate j no_booking
    by k j e f = drop_more load.bookings load.live j (blank ∙ ap (λ i. replicate i no_booking) (f ∙ e))

-- one fewer
blank_cancel : {n : ℕ} {cs : List BusChoice} {load : Load} {h : History} → Loaded n cs load h → (v : ℕ) → is_live h.live v ≡ true
    → BlankBehind load
    → BlankBehind (without_booking load v)
unfolding without_booking
blank_cancel {load = load} {h = h} l v e blank = rw l.live
    (drop-append_seam others (no_booking ∷ drop (suc (length others)) load.bookings) ∙ by (most_live - length others) (omega (arith, fewer, l.few)))
  where
    others : List Booking
    others = other_bookings h.live v

    fewer : suc (length others) ≡ load.live
    fewer = one_fewer v h.live l.single e ∙ live_count l

    by : (k : ℕ) → k ≡ suc (most_live - load.live) → no_booking ∷ drop (suc (length others)) load.bookings ≡ replicate k no_booking
    by k q = rw (q, fewer, blank)

-- a booking or a cancellation
blank_booking : {n : ℕ} {W : World} → smallest ≤ n → n ≤ largest → Stands n W → (call : BookingCall) → BlankBehind W.state.load
    → BlankBehind (answer_to controller W.state call).state.load
unfolding reckoned with_figures
blank_booking {n} {W} big small s call blank = go (dec (is_booked (answer_to controller W.state call)))
  where
    left : (c : BookingCall) → BookingFine n W.history c → BlankBehind (booking_load W.state c)
    left (book b) (fine_book on range free room) = blank_book W.state.load b (omega (arith, live_count s.loaded)) blank
    left (cancel v) (fine_cancel is) = blank_cancel s.loaded v (live_at W.history v is) blank

    go : (is_booked (answer_to controller W.state call) ≡ true) ⊎ (is_booked (answer_to controller W.state call) ≡ false)
        → BlankBehind (answer_to controller W.state call).state.load
    go (inl e) = rw (booked_is W.state call e) (left call (booked_fine big small s call e))
    go (inr e) = rw (unbooked_is W.state call e) blank

made_blank : {state : RingState} → Made state → BlankBehind state.load
unfolding Reached served_state unloaded no_load reckoned with_figures
made_blank (started n buffer big small e) = rw (start_served n buffer e) refl
made_blank (stepped {state = state} r buffer m) = blank_call state (step r buffer) (made_blank m)
made_blank (booked {state = state} b m) = go (made_reached m) (made_blank m)
  where
    go : Reached state → BlankBehind state.load → BlankBehind (book_answer state b).state.load
    go t blank = rw t.5 at (blank_booking t.2 t.3 t.4 (book b) (rw t.5 blank))
made_blank (cancelled {state = state} v m) = go (made_reached m) (made_blank m)
  where
    go : Reached state → BlankBehind state.load → BlankBehind (cancel_answer state v).state.load
    go t blank = rw t.5 at (blank_booking t.2 t.3 t.4 (cancel v) (rw t.5 blank))

-- "record not one that start and steps make": a record, arrays of 20 and 64 places, without bookings behind the live ones
pub made_exactly : (state : RingState) → Arrays state → ((bad_record state ≡ false) × BlankBehind state.load) ↔ Made state
made_exactly state arrays = (λ t. good_made state arrays t.0 t.1, λ m. (made_good m, made_blank m))
