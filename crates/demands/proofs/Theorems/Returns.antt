-- Document 02, Notes 3 and 7: a generator that returns. Of every controller that meets demand 3: nothing starts or closes but by its own
-- operation, and a dark bus is judged by the health after the latest word. Of ours: words that repeat the present health or lock change
-- nothing, and a part that fails and returns, or is locked and unlocked, leaves the very record and the choices from before.
use Rattle.std.specs.Prelude.{◌≡◌, Bool, not, ◌&&◌, ◌⊎◌, ◌↔◌, ℕ, zero, suc, ◌≤◌, ◌<◌, Ok}
use Rattle.std.proofs.Math.Path.{refl, sym, ap}
use Rattle.std.proofs.Common.{◌∙◌, inl, inr, arith}
use Rattle.std.proofs.Math.Bool.{true, false, cond}
use mathlib.Core.List.Memᴰ
use mathlib.Core.List.{List, [], ◌∷◌}
use Rattle.std.proofs.Math.Option.{some}
use Rattle.std.proofs.Math.ListN.{length}
use Rattle.model.specs.declared.Part.{Part}
use Rattle.model.specs.declared.Part.TheVariants.{Generator, GeneratorBreaker, BusBreaker}
use Rattle.model.specs.declared.Word.{Word}
use Rattle.model.specs.declared.Word.TheVariants.{Fit, Lock, Unlock}
use Rattle.model.specs.declared.Report.{Report}
use Rattle.model.specs.declared.Ring.{Ring}
use Rattle.model.specs.declared.RingState.{RingState}
use Rattle.model.specs.declared.StateAnswer.{StateAnswer}
use Rattle.model.specs.declared.Choice.TheVariants.{Dark}
use Rattle.model.specs.Lists.{any_of, ◌∈◌}
use Rattle.model.specs.Values.{number, index, same_part}
use Rattle.model.specs.Plant.{
  PartHealth,
  largest,
  generator,
  generator_breaker,
  bus_breaker,
  fit,
  fit_generator,
  stuck_open,
  stuck_closed,
  closed,
  running,
  InRing,
  Reaches,
}
use Rattle.model.specs.Choosing.{commands}
use Rattle.model.specs.Sheet.{written}
use Rattle.model.specs.Reports.{health_by, lock_by, reported, health_of, commands_of, health_places, told, planned, called_for, with_plan}
use Rattle.model.specs.Refusals.{next_sheet}
use Rattle.model.specs.Scans.{told_all}
use Rattle.model.specs.Bookings.{with_figures}
use Rattle.model.specs.States.{told_state, reckoned, bad_record, StateReply, served_state, served_by, state_step}
use Rattle.model.specs.Laws.Tests.{and_left, and_right, and_intro, or_left, or_none, dec}
use Rattle.model.specs.Laws.Parts.{at_index, same_eq, health_places_lem, lock_places}
use Rattle.model.specs.Laws.Refusals.{good_size}
use Rattle.theory.specs.Theorems.Feeds.{Less, feed_alike, closed_case, closed_by}
use Rattle.theory.specs.Theorems.Interruption.{on_fit, breaker_free, line_free}
use Rattle.theory.specs.Theorems.Locality.{Agree, SameHealth}
use Rattle.theory.specs.Proofs.Choosing.{fit_health}
use Rattle.demands.specs.Statements.Demand3.{
  Controller,
  PlantState,
  effect,
  after_word,
  after_words,
  Operation,
  operation,
  perform,
  perform_all,
  Phases,
  decode,
  Call,
  step,
  Calls,
  ◌then◌,
  reply_to,
  words,
  count,
  lent,
  is_served,
  World,
  switched,
  Performed,
  performed,
  Ended,
  started,
  served,
  refused,
  booked,
  not_booked,
  whole,
  is_stuck_closed,
  shown_at,
  AsChosen,
  word_refusal,
  Good,
  AllGood,
  no_reports,
  good_and,
  Demand3,
}
use Rattle.demands.specs.Statements.Returns.{Returns, none_returns, returns, unlocks, Repeats, meanwhile, ByOperationAlone}
use Rattle.demands.specs.Statements.Records.{Arrays}
use Rattle.demands.specs.Controller.{controller}
use Rattle.demands.proofs.Proofs.Operations.{perform_health, any_order}
use Rattle.demands.proofs.Proofs.Steady.{both_done, sheet_is}
use Rattle.demands.proofs.Proofs.Answering.{full_room, CallFine, call_ready, ring_good, fine_served, call_served}
use Rattle.demands.proofs.Proofs.Standing.{same_phases}
use Rattle.demands.proofs.Theorems.Demand3.{words_last, not_closed}
use Rattle.demands.proofs.Theorems.Records.{health_is, served_step, plan_kept, good_steady, call_good}
use Rattle.demands.proofs.Theorems.Scans.{still}

-- ---- what stands when the orders have ended

-- the strokes alter no health
pub judged_after : {ph : Phases} {P Q : PlantState} → Performed ph P Q → Q.health ≡ P.health
judged_after {P = P} (performed {xs = xs} {ys = ys} ax ay) = perform_health ys _ ∙ perform_health xs P

-- the orders of a call that is document 01's for a plant leave the commands of its plan
performed_planned : {n : ℕ} {P Q : PlantState} {ph : Phases} {reply : StateReply} → AsChosen n P reply → decode n reply.buffer ≡ some ph
    → Performed ph P Q → (p : Part) → InRing n p → Q.last p ≡ commands n Q.health p
performed_planned {n} {P} a d (performed {xs = xs} {ys = ys} ax ay) p i =
    let z = same_phases d a.decodes in
    let dx = rw (z, a.first_is) at (any_order ax) in
    let dy = rw (z, a.second_is) at (any_order ay) in
    both_done n P P.health xs ys dx dy p i
    ∙ ap (λ K. commands n K p) (sym (judged_after (performed ax ay)))

module _ {c : Controller} (meets : Demand3 c) (n : ℕ) (buffer : List ℕ) (begun : is_served (c.start n buffer) ≡ true) where
  -- after every call, served or refused, the last orders are those that the plant's health calls for
  pub ended_planned : {calls : Calls} {W : World} → Ended c n buffer calls W → Agree n W.plant.last (commands n W.plant.health)
  ended_planned {calls} (started e d q) p i = performed_planned (meets.holds n buffer begun calls).start_chosen d q p i
  ended_planned {calls} (served call h e d q) p i =
      performed_planned ((meets.holds n buffer begun calls).chosen call whole h e) d q p i
  ended_planned (refused call h e) p i = ended_planned h p i
  ended_planned (booked call h e) p i = ended_planned h p i
  ended_planned (not_booked call h e) p i = ended_planned h p i

  -- "A dark bus is judged by the generators fit after the latest word.": when the orders of a served call have ended
  pub dark_after_words : {before : Calls} {W : World} (call : Call) {ph : Phases} {Q : PlantState} → Ended c n buffer before W
      → is_served (reply_to c W.state call) ≡ true → decode n (reply_to c W.state call).buffer ≡ some ph
      → Performed ph (after_words (words call) W.plant) Q → (b : ℕ) → b < n
      → shown_at (switched Q (reply_to c W.state call).answer W.history) b ≡ Dark
      ↔ ((g : ℕ) → Reaches n (after_words (words call) W.plant).health b g → ⊥)
  dark_after_words {before} call h e d q b hb =
      let s = (meets.holds n buffer begun (before then call)).shown whole (served call h e d q) b hb in
      (rw (judged_after q) at s.dark_unreached, rw (judged_after q) at s.unreached_dark)

-- ---- what returns do before the first stroke

-- a fit generator stays fit
fit_stays : {rs : List Report} → Returns rs → (P : PlantState) (g : ℕ) → fit_generator P.health g ≡ true
    → fit_generator (after_words rs P).health g ≡ true
unfolding after_words after_word
fit_stays none_returns P g e = e
fit_stays (returns k r) P g e =
    fit_stays r (after_word (record { part = Generator k; word = Fit }) P) g (go (same_part (generator g) (Generator k)))
  where
    unlocked : not (P.health.locked g) ≡ true
    unlocked = and_right (fit (P.health.health (generator g))) (not (P.health.locked g)) e

    go : (t : Bool)
        → fit (cond t 0 (P.health.health (generator g))) && not (cond t (P.health.locked g) (P.health.locked g)) ≡ true
    go true = unlocked
    go false = e
fit_stays (unlocks k r) P g e =
    fit_stays r (after_word (record { part = Generator k; word = Unlock }) P) g (go (same_part (generator g) (Generator k)))
  where
    go : (t : Bool)
        → fit (cond t (P.health.health (generator g)) (P.health.health (generator g))) && not (cond t false (P.health.locked g)) ≡ true
    go true = rw (and_left (fit (P.health.health (generator g))) (not (P.health.locked g)) e)
    go false = e

-- a breaker is as it was
breakers_stay : {rs : List Report} → Returns rs → (P : PlantState) (i : ℕ)
    → ((after_words rs P).health.health (generator_breaker i) ≡ P.health.health (generator_breaker i))
    × ((after_words rs P).health.health (bus_breaker i) ≡ P.health.health (bus_breaker i))
unfolding after_words after_word same_part
breakers_stay none_returns P i = (refl, refl)
breakers_stay (returns k r) P i = breakers_stay r (after_word (record { part = Generator k; word = Fit }) P) i
breakers_stay (unlocks k r) P i = breakers_stay r (after_word (record { part = Generator k; word = Unlock }) P) i

-- a part that is ordered on or closed was so before, or by an operation on it
performed_by : (os : List Operation) (Q : PlantState) (p : Part) → (perform_all os Q).last p ≡ true
    → (Q.last p ≡ true) ⊎ (operation true p ∈ os)
unfolding perform_all perform
performed_by [] Q p e = inl e
performed_by (o ∷ os) Q p e = go (performed_by os (perform o Q) p e) (dec (same_part p o.part))
  where
    go : (cond (same_part p o.part) o.command (Q.last p) ≡ true) ⊎ (operation true p ∈ os)
        → (same_part p o.part ≡ true) ⊎ (same_part p o.part ≡ false)
        → (Q.last p ≡ true) ⊎ (operation true p ∈ o ∷ os)
    go (inr m) t = inr (Memᴰ.tail m)
    go (inl c) (inl t) =
        let is : operation true p ≡ o = λ i. record { part = same_eq p o.part t i; command = sym (rw t at c) i } in
        inr (Memᴰ.head is)
    go (inl c) (inr t) = inl (rw t at c)

-- .. words order nothing
ordered_by : (rs : List Report) (os : List Operation) (P : PlantState) (p : Part) → (meanwhile rs os P).last p ≡ true
    → (P.last p ≡ true) ⊎ (operation true p ∈ os)
ordered_by rs os P p e = rw (words_last rs P) at (performed_by os (after_words rs P) p e)

-- a part that no word has stuck closed is stuck closed only if it was before
not_stuck : (rs : List Report) (P : PlantState) (p : Part) → any_of (λ r. same_part p r.part && is_stuck_closed r.word) rs ≡ false
    → stuck_closed ((after_words rs P).health.health p) ≡ true → stuck_closed (P.health.health p) ≡ true
unfolding after_words after_word any_of
not_stuck [] P p e c = c
not_stuck (r ∷ rs) P p e c =
    let t = or_none (same_part p r.part && is_stuck_closed r.word) _ e in
    go (dec (same_part p r.part)) t.0 (not_stuck rs (after_word r P) p t.1 c)
  where
    go : (same_part p r.part ≡ true) ⊎ (same_part p r.part ≡ false) → same_part p r.part && is_stuck_closed r.word ≡ false
        → stuck_closed (cond (same_part p r.part) (effect r.word (P.health.health p)) (P.health.health p)) ≡ true
        → stuck_closed (P.health.health p) ≡ true
    go (inl s) f d = not_closed r.word (P.health.health p) (rw s at f) (rw s at d)
    go (inr s) f d = rw s at d

-- a plant whose last orders are those that its health calls for
module _ (n : ℕ) (P : PlantState) (planned : Agree n P.last (commands n P.health)) where
  -- a generator that is ordered on is fit
  fits : (g : ℕ) → g < n → P.last (generator g) ≡ true → fit_generator P.health g ≡ true
  fits g hg e = on_fit n P.health g (sym (planned (generator g) (at_index n g hg)) ∙ e)

  -- no part that is ordered on or closed is stuck open
  free : (p : Part) → InRing n p → P.last p ≡ true → stuck_open (P.health.health p) ≡ false
  free (Generator zero) i e = absurd (omega (arith, i.0))
  free (Generator (suc g)) i e = rw (fit_health P.health g (on_fit n P.health g (sym (planned (generator g) i) ∙ e)))
  free (GeneratorBreaker zero) i e = absurd (omega (arith, i.0))
  free (GeneratorBreaker (suc g)) i e = breaker_free n P.health g (sym (planned (generator_breaker g) i) ∙ e)
  free (BusBreaker zero) i e = absurd (omega (arith, i.0))
  free (BusBreaker (suc k)) i e = line_free n P.health k (sym (planned (bus_breaker k) i) ∙ e)

  started_by : (rs : List Report) (os : List Operation) (g : ℕ) → g < n
      → running (meanwhile rs os P).health (meanwhile rs os P).last g ≡ true
      → (running P.health P.last g ≡ true) ⊎ (operation true (generator g) ∈ os)
  started_by rs os g hg e = go (ordered_by rs os P (generator g) (and_right (fit_generator (meanwhile rs os P).health g) _ e))
    where
      go : (P.last (generator g) ≡ true) ⊎ (operation true (generator g) ∈ os)
          → (running P.health P.last g ≡ true) ⊎ (operation true (generator g) ∈ os)
      go (inl on) = inl (and_intro (fit_generator P.health g) _ (fits g hg on) on)
      go (inr m) = inr m

  closed_by_stroke : (rs : List Report) (os : List Operation) (p : Part) → InRing n p
      → any_of (λ r. same_part p r.part && is_stuck_closed r.word) rs ≡ false
      → closed ((meanwhile rs os P).health.health p) ((meanwhile rs os P).last p) ≡ true
      → (closed (P.health.health p) (P.last p) ≡ true) ⊎ (operation true p ∈ os)
  closed_by_stroke rs os p i none e = go (closed_case ((meanwhile rs os P).health.health p) ((meanwhile rs os P).last p) e)
    where
      by : (P.last p ≡ true) ⊎ (operation true p ∈ os) → (closed (P.health.health p) (P.last p) ≡ true) ⊎ (operation true p ∈ os)
      by (inl c) = inl (closed_by (P.health.health p) (P.last p) (free p i c) c)
      by (inr m) = inr m

      go : (stuck_closed ((meanwhile rs os P).health.health p) ≡ true)
          ⊎ ((stuck_open ((meanwhile rs os P).health.health p) ≡ false) × ((meanwhile rs os P).last p ≡ true))
          → (closed (P.health.health p) (P.last p) ≡ true) ⊎ (operation true p ∈ os)
      go (inl t) = inl (or_left (stuck_closed (P.health.health p)) _ (not_stuck rs P p none (rw (perform_health os (after_words rs P)) at t)))
      go (inr t) = by (ordered_by rs os P p t.1)

  no_more : {rs : List Report} → Returns rs → Less n (after_words rs P).health (after_words rs P).last P.health P.last
  no_more {rs} r = record {
    runs = λ g hg f c. let on = rw (words_last rs P) at c in (fits g hg on, on);
    breaker = λ g hg c. rw (words_last rs P, (breakers_stay r P g).0) at c;
    line = λ i hi c. rw (words_last rs P, (breakers_stay r P i).1) at c;
  }

  no_less : {rs : List Report} → Returns rs → Less n P.health P.last (after_words rs P).health (after_words rs P).last
  no_less {rs} r = record {
    runs = λ g hg f c. (fit_stays r P g f, rw (words_last rs P) c);
    breaker = λ g hg c. rw (words_last rs P, (breakers_stay r P g).0) c;
    line = λ i hi c. rw (words_last rs P, (breakers_stay r P i).1) c;
  }

  by_operation : ByOperationAlone n P
  by_operation = record {
    starts = started_by;
    closes = closed_by_stroke;
    fed_as_before = λ rs r b hb. feed_alike (no_more r) (no_less r) b hb;
  }

-- of every controller that meets demand 3, after every list of calls
pub ended_by_operation : {c : Controller} → Demand3 c → (n : ℕ) (buffer : List ℕ) → is_served (c.start n buffer) ≡ true
    → {calls : Calls} {W : World} → Ended c n buffer calls W → ByOperationAlone n W.plant
ended_by_operation meets n buffer begun {W = W} h = by_operation n W.plant (ended_planned meets n buffer begun h)

-- ---- "The last word decides; one that repeats the present health is accepted."

-- a good record, arrays of 20 and 64 places
module _ (state : RingState) (arrays : Arrays state) (good : bad_record state ≡ false) where
  abbrev ring : Ring
  ring = state.ring

  abbrev H : PartHealth
  H = health_of ring.health

  -- the answer of a call that leaves the record as it is
  abbrev as_it_was : StateAnswer
  as_it_was = record { outcome = Ok tt; state = state; choices = called_for ring }

  -- a ring that is told what it holds is the same
  told_same : (r : Report) → Repeats H r → told ring r ≡ ring
  unfolding told reported
  told_same r e = λ i. record { n = ring.n; health = sym same i; commands = ring.commands }
    where
      at : (p : Part) → (same_part p r.part ≡ true) ⊎ (same_part p r.part ≡ false)
          → H.health p ≡ cond (same_part p r.part) (health_by r.word (H.health p)) (H.health p)
      at p (inl t) = let z = same_eq p r.part t in rw t (rw (← z) at (sym e.health))
      at p (inr t) = rw t

      lock : (g : ℕ) → (same_part (generator g) r.part ≡ true) ⊎ (same_part (generator g) r.part ≡ false)
          → H.locked g ≡ cond (same_part (generator g) r.part) (lock_by r.word (H.locked g)) (H.locked g)
      lock g (inl t) = rw t (sym (e.lock g (same_eq (generator g) r.part t)))
      lock g (inr t) = rw t

      same : ring.health ≡ health_places (reported H r)
      same =
          health_is state arrays (reported H r)
          (record { health = λ p i. at p (dec (same_part p r.part)); locked = λ g l. lock g (dec (same_part (generator g) r.part)) })

  told_all_same : (rs : List Report) → ((r : Report) → r ∈ rs → Repeats H r) → told_all ring rs ≡ ring
  unfolding told_all
  told_all_same [] same = refl
  told_all_same (r ∷ rs) same =
      rw (told_same r (same r (Memᴰ.head refl))) (told_all_same rs (λ q m. same q (Memᴰ.tail m)))

  -- a step or a scan whose words repeat the present health or lock: the very record, the choices it calls for, two empty waves
  pub words_repeated : (call : Call) → count call ≤ 64 → AllGood ring.n (words call)
      → ((r : Report) → r ∈ words call → Repeats H r) → 2 ≤ length (lent call)
      → reply_to controller state call ≡ record { answer = as_it_was; buffer = written (0 ∷ 0 ∷ []) (lent call) }
  unfolding served_state told_state
  words_repeated call few goods same enough =
      let right = ring_good state good in
      let small = (good_size ring right).1 in
      let steady = good_steady state good in
      let length_is = ap length (sheet_is small (call_ready small steady call)) in
      let two : length (next_sheet (told_all ring (words call))) ≡ 2 = rw (told_all_same (words call) same, still ring right) in
      let fine : CallFine ring.n (record { health = H; last = commands_of ring.commands }) call =
      record { few = few; good = goods; fits = omega (arith, length_is, two, enough) } in
      let yes = fine_served small steady good call fine in
      call_served state call yes ∙ rw (told_all_same (words call) same, still ring right, plan_kept state good arrays)

  -- .. of a generator that is told what it is already
  said_already : (k : ℕ) → InRing ring.n (Generator k) → (w : Word) → word_refusal (Generator k) w ≡ 0
      → Repeats H (record { part = Generator k; word = w }) → (buffer : List ℕ) → 2 ≤ length buffer
      → state_step state (record { part = Generator k; word = w }) buffer
      ≡ record { answer = as_it_was; buffer = written (0 ∷ 0 ∷ []) buffer }
  said_already k inside w fine same buffer enough =
      let r : Report = record { part = Generator k; word = w } in
      let g : Good ring.n r = record { inside = inside; word = fine } in
      words_repeated (step r buffer) (omega arith) (good_and g no_reports) (λ q m. rw (Memᴰ.eq_of_singleton m) same) enough

  -- and so word 0 for a generator whose health is that already, locked or not
  pub fit_already : (k : ℕ) → InRing ring.n (Generator k) → H.health (Generator k) ≡ 0 → (buffer : List ℕ) → 2 ≤ length buffer
      → state_step state (record { part = Generator k; word = Fit }) buffer
      ≡ record { answer = as_it_was; buffer = written (0 ∷ 0 ∷ []) buffer }
  unfolding word_refusal
  fit_already k inside fit_before = said_already k inside Fit refl (record { health = sym fit_before; lock = λ g e. refl })

  -- .. word 4 for a locked one
  pub locked_already : (g : ℕ) → g < ring.n → H.locked g ≡ true → (buffer : List ℕ) → 2 ≤ length buffer
      → state_step state (record { part = generator g; word = Lock }) buffer
      ≡ record { answer = as_it_was; buffer = written (0 ∷ 0 ∷ []) buffer }
  unfolding word_refusal
  locked_already g hg is =
      said_already (suc g) (at_index ring.n g hg) Lock refl
      (record { health = refl; lock = λ h e. sym (ap (λ p. H.locked (index (number p))) e ∙ is) })

  -- .. and word 5 for one that is not
  pub unlocked_already : (g : ℕ) → g < ring.n → H.locked g ≡ false → (buffer : List ℕ) → 2 ≤ length buffer
      → state_step state (record { part = generator g; word = Unlock }) buffer
      ≡ record { answer = as_it_was; buffer = written (0 ∷ 0 ∷ []) buffer }
  unfolding word_refusal
  unlocked_already g hg is =
      said_already (suc g) (at_index ring.n g hg) Unlock refl
      (record { health = refl; lock = λ h e. sym (ap (λ p. H.locked (index (number p))) e ∙ is) })

  -- a record of the same size, health and bookings has the same plan and figures
  replanned_same : (S : RingState) → S.ring.n ≡ ring.n → S.ring.health ≡ ring.health → S.load.bookings ≡ state.load.bookings
      → S.load.live ≡ state.load.live
      → served_state S ≡ as_it_was
  unfolding served_state reckoned with_figures with_plan planned
  replanned_same S n_same same booked_same live_same =
      rw (n_same, same, booked_same, live_same)
      (ap (λ x. record { outcome = Ok tt; state = x; choices = called_for ring }) (plan_kept state good arrays))

  -- a word, and one that undoes it: the very record, and the choices that it calls for
  module _ (done undone : Report) (back : SameHealth largest H (reported (reported H done) undone)) where
    -- the record that was told the first
    abbrev between : RingState
    between = (state_step state done full_room).answer.state

    health_back : ring.health ≡ health_places (reported (health_of (health_places (reported H done))) undone)
    unfolding reported
    health_back = health_is state arrays _ (record {
      health = λ q i. back.health q i ∙ sym (rw (health_places_lem (reported H done) q i));
      locked = λ g l. back.locked g l ∙ sym (rw (lock_places (reported H done) g l));
    })

    undone_as_before : Good ring.n done → Good ring.n undone → (state_step between undone full_room).answer ≡ as_it_was
    unfolding served_state reckoned with_figures with_plan told_state told_all told
    undone_as_before g h =
        let small = (good_size ring (ring_good state good)).1 in
        let first : state_step state done full_room ≡ served_by (told_state state (done ∷ [])) full_room =
        call_served state (step done full_room) (served_step small (good_steady state good) good done g) in
        let n_is : between.ring.n ≡ ring.n = ap (λ (x : StateReply). x.answer.state.ring.n) first in
        let stored : between.ring.health ≡ health_places (reported H done) = ap (λ (x : StateReply). x.answer.state.ring.health) first in
        let booked_is = ap (λ (x : StateReply). x.answer.state.load.bookings) first in
        let live_is = ap (λ (x : StateReply). x.answer.state.load.live) first in
        let still_good = call_good state good (step done full_room) in
        let bound = (good_size between.ring (ring_good between still_good)).1 in
        let second : state_step between undone full_room ≡ served_by (told_state between (undone ∷ [])) full_room =
        call_served between (step undone full_room)
        (served_step bound (good_steady between still_good) still_good undone (rw n_is h)) in
        ap (λ (x : StateReply). x.answer) second
        ∙ replanned_same (told_state between (undone ∷ [])) n_is (rw stored (sym health_back)) booked_is live_is

  -- a fit part fails and returns
  pub returned_as_before : (p : Part) (w : Word) → ((l : Bool) → lock_by w l ≡ l) → H.health p ≡ 0
      → Good ring.n (record { part = p; word = w }) → Good ring.n (record { part = p; word = Fit })
      → (state_step (state_step state (record { part = p; word = w }) full_room).answer.state (record { part = p; word = Fit }) full_room).answer
      ≡ as_it_was
  unfolding reported
  returned_as_before p w about_health fit_before =
      undone_as_before (record { part = p; word = w }) (record { part = p; word = Fit })
      (record { health = λ q i. at q (dec (same_part q p)); locked = λ g l. lock g (same_part (generator g) p) })
    where
      at : (q : Part) → (same_part q p ≡ true) ⊎ (same_part q p ≡ false)
          → H.health q ≡ cond (same_part q p) 0 (cond (same_part q p) (health_by w (H.health q)) (H.health q))
      at q (inl t) = rw t (ap H.health (same_eq q p t) ∙ fit_before)
      at q (inr t) = rw t

      lock : (g : ℕ) (t : Bool)
          → H.locked g ≡ cond t (cond t (lock_by w (H.locked g)) (H.locked g)) (cond t (lock_by w (H.locked g)) (H.locked g))
      lock g true = sym (about_health (H.locked g))
      lock g false = refl

  -- "Word 4 locks it and word 5 unlocks it" (Note 7): a generator that is not locked is locked and unlocked
  pub unlocked_as_before : (g : ℕ) → g < ring.n → H.locked g ≡ false
      → (state_step (state_step state (record { part = generator g; word = Lock }) full_room).answer.state
      (record { part = generator g; word = Unlock }) full_room).answer
      ≡ as_it_was
  unfolding reported word_refusal
  unlocked_as_before g hg unlocked_before =
      undone_as_before (record { part = generator g; word = Lock }) (record { part = generator g; word = Unlock })
      (record { health = λ q i. at q (same_part q (generator g)); locked = λ h l. lock h (dec (same_part (generator h) (generator g))) })
      (record { inside = at_index ring.n g hg; word = refl }) (record { inside = at_index ring.n g hg; word = refl })
    where
      at : (q : Part) (t : Bool) → H.health q ≡ cond t (cond t (H.health q) (H.health q)) (cond t (H.health q) (H.health q))
      at q true = refl
      at q false = refl

      lock : (h : ℕ) → (same_part (generator h) (generator g) ≡ true) ⊎ (same_part (generator h) (generator g) ≡ false)
          → H.locked h
          ≡ cond (same_part (generator h) (generator g)) false (cond (same_part (generator h) (generator g)) true (H.locked h))
      lock h (inl t) = rw t (ap (λ p. H.locked (index (number p))) (same_eq (generator h) (generator g) t) ∙ unlocked_before)
      lock h (inr t) = rw t
