-- Each call is served or refused as it must be: which refusal meets a start, a step or a scan, and what is claimed of the reply that has
-- its number.
use Rattle.std.specs.Prelude.{◌≡◌, Bool, true, false, cond, ◌≢◌, ◌⊎◌, List, [], ◌∷◌, ℕ, zero, suc, ◌≤◌, ◌<◌, min, ltb, eqb, drop, replicate, Ok, Err}
use Rattle.std.proofs.Math.Path.{refl, sym}
use Rattle.std.proofs.Common.{◌∙◌, ap, inl, inr, arith, length-append, length-drop, drop_at, ltb-true, ltb-false, lt-ltb, le-ltb, ne_eqb}
use Rattle.std.proofs.Math.ListN.{length}
use Rattle.std.proofs.lemmas.List.{length-replicate}
use Rattle.model.specs.declared.Part.{Part}
use Rattle.model.specs.declared.Part.TheVariants.{Generator, GeneratorBreaker, BusBreaker}
use Rattle.model.specs.declared.Word.{Word}
use Rattle.model.specs.declared.Word.TheVariants.{Fit, StuckOff, StuckOpen, StuckClosed, Lock, Unlock}
use Rattle.model.specs.declared.Report.{Report}
use Rattle.model.specs.declared.Ring.{Ring}
use Rattle.model.specs.declared.RingState.{RingState}
use Rattle.model.specs.declared.Refusal.{Refusal}
use Rattle.model.specs.Values.{number, word_number, Outcome, refusal_number, refusal_of, outcome_of}
use Rattle.model.specs.Plant.{smallest, largest, all_off, InRing}
use Rattle.model.specs.Choosing.{plan, commands}
use Rattle.model.specs.Sheet.{opening, closing, sheet_of, sheet, written}
use Rattle.model.specs.Reports.{health_by, lock_by, reported, all_fit, health_of, commands_of, blank_ring, told}
use Rattle.model.specs.Refusals.{
  first_met,
  or_else,
  size_outside,
  not_of_ring,
  word_of_other_kind,
  too_short,
  bad_ring,
  count_above,
  next_sheet,
  report_conditions,
  sheet_refusal,
  start_refusal,
  step_refusal,
}
use Rattle.model.specs.Scans.{told_all, first_refusal, scan_refusal}
use Rattle.model.specs.States.{
  unloaded,
  told_state,
  bad_record,
  state_refusal,
  StateReply,
  refused_state,
  served_state,
  served_by,
  refused_by,
  state_by,
  state_start,
  state_step,
  state_scan,
}
use Rattle.model.specs.Laws.Tests.{contra, dec, dec_eq, dec_lt, or_cases, or_none}
use Rattle.model.specs.Laws.Refusals.{size_bounds, refused_of, refused_number}
use Rattle.model.specs.Laws.Calls.{or_nothing, step_refusal_lem, scan_refusal_lem}
use Rattle.model.specs.Laws.Parts.{health_places_lem, lock_places, command_places_lem}
use Rattle.model.specs.Laws.Sheet.{sheet_of_length}
use Rattle.demands.specs.Statements.Demand3.{
  PlantState,
  fresh_plant,
  effect,
  lock_effect,
  after_word,
  after_words,
  Call,
  step,
  scan,
  reply_to,
  words,
  count,
  lent,
  served_outcome,
  is_served,
  sheet_length,
  World,
  sheet_for,
  word_refusal,
  StartMeets,
  too_small,
  too_large,
  too_short_lem,
  Bad,
  no_part,
  no_word,
  Good,
  FirstBad,
  here,
  later,
  AllGood,
  no_reports,
  good_and,
  Meets,
  too_many,
  bad_report,
  no_room,
  Answered,
}
use Rattle.demands.specs.Controller.{controller}
use Rattle.demands.proofs.Proofs.Steady.{Ready, Steady, sheet_is}

-- ---- the reply that has a number

-- an outcome that is not served is a refusal
pub refusal_in : (o : Outcome) → served_outcome o ≡ false → (r : Refusal) × (o ≡ Err r)
refusal_in (Ok _) e = contra refl e
refusal_in (Err r) e = (r, refl)

-- a number: the one refusal that meets a call, or 0 where none does and the call is fine
pub data Judged (Met : ℕ → Type 0) (Fine : Type 0) : ℕ → Type 0 where
  met : (k : ℕ) → 0 < k → Met k → ((j : ℕ) → Met j → j ≡ k) → Judged Met Fine k
  fine : ((j : ℕ) → Met j → ⊥) → Fine → Judged Met Fine 0

-- a call of number 0 is fine
pub judged_fine : {Met : ℕ → Type 0} {Fine : Type 0} {k : ℕ} → Judged Met Fine k → k ≡ 0 → Fine
judged_fine (met k l m only) z = absurd (omega arith)
judged_fine (fine none f) z = f

-- a call that no refusal meets has the number 0
pub judged_zero : {Met : ℕ → Type 0} {Fine : Type 0} {k : ℕ} → Judged Met Fine k → ((j : ℕ) → Met j → ⊥) → k ≡ 0
judged_zero (met k l m only) none = absurd (none k m)
judged_zero (fine none f) free = refl

-- a number that is not 0 is that of a refusal that meets the call
pub judged_met : {Met : ℕ → Type 0} {Fine : Type 0} {j : ℕ} → Judged Met Fine j → (i : ℕ) → j ≡ i → j ≢ 0 → Met i
judged_met (met j l m only) i z p = rw z at m
judged_met (fine none f) i z p = absurd (p refl)

-- .. and the outcome of a call that a refusal meets is that refusal
pub judged_outcome : {Met : ℕ → Type 0} {Fine : Type 0} {j : ℕ} → Judged Met Fine j → (i : ℕ) → Met i → outcome_of j ≡ Err (refusal_of i)
judged_outcome (met j l m only) i k = rw (← only i k) (refused_of i (λ z. omega (arith, z, l, only i k)))
judged_outcome (fine none f) i k = absurd (none i k)

-- condition 8, met and not
short_lt : (room : ℕ) (bytes : List ℕ) → too_short room bytes ≡ true → room < length bytes
unfolding too_short
short_lt room bytes e = ltb-true room (length bytes) e

short_le : (room : ℕ) (bytes : List ℕ) → too_short room bytes ≡ false → length bytes ≤ room
unfolding too_short
short_le room bytes e = ltb-false room (length bytes) e

-- the bytes behind a sheet, and the buffer's length
module _ (ring : Ring) (buffer : List ℕ) where
  after : List ℕ
  after = written (next_sheet ring) buffer

  sheet_length_lem : sheet_length after ≡ length (next_sheet ring)
  unfolding after written next_sheet sheet sheet_of
  sheet_length_lem =
      let old = commands_of ring.commands in
      let H = health_of ring.health in
      sym (sheet_of_length (opening ring.n old (commands ring.n H)) (closing ring.n old (plan ring.n H)))

  behind : drop (sheet_length after) after ≡ drop (sheet_length after) buffer
  unfolding after written
  behind = rw sheet_length_lem (drop_at (next_sheet ring) (drop (length (next_sheet ring)) buffer) (length (next_sheet ring)) refl)

  after_length : length (next_sheet ring) ≤ length buffer → length after ≡ length buffer
  unfolding after written
  after_length fits = simp (length-append, length-drop) (omega arith)

-- the reply of refusal k
module _ (k : ℕ) (state kept : RingState) (buffer : List ℕ) where
  abbrev reply : StateReply
  reply = state_by k state kept buffer

  pub reply_outcome : reply.answer.outcome ≡ outcome_of k
  unfolding served_state refused_state outcome_of
  reply_outcome = go (dec_eq k 0)
    where
      go : (k ≡ 0) ⊎ (k ≢ 0) → reply.answer.outcome ≡ outcome_of k
      go (inl e) = rw e
      go (inr e) = rw (ne_eqb k 0 e)

  pub zero_served : k ≡ 0 → is_served reply ≡ true
  unfolding served_state
  zero_served e = rw e

  pub served_zero : is_served reply ≡ true → k ≡ 0
  unfolding refused_state
  served_zero e = go (dec_eq k 0)
    where
      go : (k ≡ 0) ⊎ (k ≢ 0) → k ≡ 0
      go (inl z) = z
      go (inr z) = contra (rw (ne_eqb k 0 z) at e) refl

  pub served_is : is_served reply ≡ true → reply ≡ served_by state buffer
  served_is e = rw (served_zero e)

  pub refused_is : is_served reply ≡ false → reply ≡ refused_by k kept buffer
  refused_is e = rw (ne_eqb k 0 (λ z. contra (zero_served z) e))

  -- what is claimed of it, where the number is that of the call
  pub answered_by : {Met : ℕ → Type 0} {Fine : Type 0} → Judged Met Fine k
      → (Fine → length (next_sheet state.ring) ≤ length buffer)
      → Answered Met kept buffer reply
  unfolding refused_state after
  answered_by {Met} {Fine} judged fits = record {
    only = λ r e. let t = refused_number reply_outcome r e in judged_met judged (refusal_number r) t.0 t.1;
    always = λ i m. reply_outcome ∙ judged_outcome judged i m;
    record_kept = λ e. rw (refused_is e);
    buffer_kept = λ e. rw (refused_is e);
    choices_dark = λ e. rw (refused_is e);
    behind_kept = λ e. rw (served_is e) (behind state.ring buffer);
    length_kept = sized (dec (is_served reply));
  }
    where
      sized : (is_served reply ≡ true) ⊎ (is_served reply ≡ false) → length reply.buffer ≡ length buffer
      sized (inl e) = rw (served_is e) (after_length state.ring buffer (fits (judged_fine judged (served_zero e))))
      sized (inr e) = rw (refused_is e)

-- ---- room

-- a buffer with room for every sheet: "never more than 122"
unfoldable pub full_room : List ℕ
full_room = replicate 122 0

pub full_length : length full_room ≡ 122
unfolding full_room
full_length = length-replicate {A = ℕ} 122 0

-- ---- the start

-- every part of a blank ring is fit, and none is locked
pub blank_fit : (n : ℕ) (p : Part) → InRing largest p → (health_of (blank_ring n).health).health p ≡ 0
unfolding blank_ring
blank_fit n p i = health_places_lem all_fit p i

pub blank_unlocked : (n g : ℕ) → g < largest → (health_of (blank_ring n).health).locked g ≡ false
unfolding blank_ring
blank_unlocked n g l = lock_places all_fit g l

pub start_ready : (n : ℕ) → n ≤ largest → Ready n (blank_ring n) fresh_plant
unfolding blank_ring
start_ready n small = record {
  size = refl;
  health =
      record { health = λ p i. health_places_lem all_fit p (i.0, omega (arith, i.1)); locked = λ g l. lock_places all_fit g (omega arith) };
  standing = λ p i. command_places_lem all_off p (i.0, omega (arith, i.1));
}

-- a start that nothing meets
pub record StartFine (n room : ℕ) : Type 0 where
  pub big : smallest ≤ n
  pub small : n ≤ largest
  pub fits : sheet_for n fresh_plant ≤ room

none_start : {n room : ℕ} → StartFine n room → (j : ℕ) → StartMeets n room j → ⊥
none_start f j (too_small l) = omega (arith, f.big)
none_start f j (too_large l) = omega (arith, f.small)
none_start f j (too_short_lem big small r) = omega (arith, f.fits)

-- condition 2
outside : (n : ℕ) → size_outside n ≡ true → (n < smallest) ⊎ (largest < n)
unfolding size_outside
outside n e = by (or_cases (ltb n smallest) (ltb largest n) e)
  where
    by : (ltb n smallest ≡ true) ⊎ (ltb largest n ≡ true) → (n < smallest) ⊎ (largest < n)
    by (inl q) = inl (ltb-true n smallest q)
    by (inr q) = inr (ltb-true largest n q)

pub judge_start : (n room : ℕ) → Judged (StartMeets n room) (StartFine n room) (start_refusal n room)
unfolding start_refusal first_met
judge_start n room = go (dec (size_outside n)) (dec (too_short room (next_sheet (blank_ring n))))
  where
    only_size : (n < smallest) ⊎ (largest < n) → (j : ℕ) → StartMeets n room j → j ≡ 2
    only_size o j (too_small l) = refl
    only_size o j (too_large l) = refl
    only_size (inl l) j (too_short_lem big small r) = absurd (omega arith)
    only_size (inr l) j (too_short_lem big small r) = absurd (omega arith)

    only_room : (smallest ≤ n) × (n ≤ largest) → (j : ℕ) → StartMeets n room j → j ≡ 8
    only_room b j (too_small l) = absurd (omega (arith, b.0))
    only_room b j (too_large l) = absurd (omega (arith, b.1))
    only_room b j (too_short_lem big small r) = refl

    is : n ≤ largest → length (next_sheet (blank_ring n)) ≡ sheet_for n fresh_plant
    is small = ap length (sheet_is small (start_ready n small))

    go : (size_outside n ≡ true) ⊎ (size_outside n ≡ false)
        → (too_short room (next_sheet (blank_ring n)) ≡ true) ⊎ (too_short room (next_sheet (blank_ring n)) ≡ false)
        → Judged (StartMeets n room) (StartFine n room) (cond (size_outside n) 2 (cond (too_short room (next_sheet (blank_ring n))) 8 0))
    go (inl s) t = rw s (met 2 (omega arith) (by (outside n s)) (only_size (outside n s)))
      where
        by : (n < smallest) ⊎ (largest < n) → StartMeets n room 2
        by (inl l) = too_small l
        by (inr l) = too_large l
    go (inr s) (inl t) =
        let b = size_bounds n s in
        let l : room < sheet_for n fresh_plant = rw (is b.1) at (short_lt room (next_sheet (blank_ring n)) t) in
        rw (s, t) (met 8 (omega arith) (too_short_lem b.0 b.1 l) (only_room b))
    go (inr s) (inr t) =
        let b = size_bounds n s in
        let l : sheet_for n fresh_plant ≤ room = rw (is b.1) at (short_le room (next_sheet (blank_ring n)) t) in
        let f : StartFine n room = record { big = b.0; small = b.1; fits = l } in
        rw (s, t) (fine (none_start f) f)

-- the whole of what is claimed of a start
pub start_answered : (n : ℕ) (buffer : List ℕ) → Answered (StartMeets n (length buffer)) (unloaded (blank_ring 0)) buffer (state_start n buffer)
unfolding state_start unloaded
start_answered n buffer = answered_by (start_refusal n (length buffer)) (unloaded (blank_ring n)) (unloaded (blank_ring 0)) buffer
    (judge_start n (length buffer))
    (λ f. omega (arith, f.fits, ap length (sheet_is f.small (start_ready n f.small))))

-- a fine start is served, a served one fine
pub fine_begun : (n : ℕ) (buffer : List ℕ) → StartFine n (length buffer) → is_served (state_start n buffer) ≡ true
unfolding state_start
fine_begun n buffer f =
    zero_served (start_refusal n (length buffer)) (unloaded (blank_ring n)) (unloaded (blank_ring 0)) buffer
    (judged_zero (judge_start n (length buffer)) (none_start f))

module _ (n : ℕ) (buffer : List ℕ) (begun : is_served (state_start n buffer) ≡ true) where
  pub start_served : state_start n buffer ≡ served_by (unloaded (blank_ring n)) buffer
  unfolding state_start
  start_served = served_is (start_refusal n (length buffer)) (unloaded (blank_ring n)) (unloaded (blank_ring 0)) buffer begun

  pub start_fine : StartFine n (length buffer)
  unfolding state_start
  start_fine =
      judged_fine (judge_start n (length buffer)) (served_zero (start_refusal n (length buffer)) (unloaded (blank_ring n)) (unloaded (blank_ring 0)) buffer begun)

-- ---- a report, in the record and in the plant

same_effect : (w : Word) (h : ℕ) → health_by w h ≡ effect w h
same_effect Fit h = refl
same_effect StuckOff h = refl
same_effect StuckOpen h = refl
same_effect StuckClosed h = refl
same_effect Lock h = refl
same_effect Unlock h = refl

same_lock : (w : Word) (l : Bool) → lock_by w l ≡ lock_effect w l
same_lock Fit l = refl
same_lock StuckOff l = refl
same_lock StuckOpen l = refl
same_lock StuckClosed l = refl
same_lock Lock l = refl
same_lock Unlock l = refl

-- the ring and the plant, ready for the phases of a call: a report more
told_ready : {n : ℕ} {ring : Ring} {P : PlantState} → n ≤ largest → Ready n ring P → (r : Report) → Ready n (told ring r) (after_word r P)
unfolding told reported after_word
told_ready {ring = ring} {P} small ready r = record {
  size = ready.size;
  health =
      record {
        health =
            λ p i. health_places_lem (reported (health_of ring.health) r) p (i.0, omega (arith, i.1))
            ∙ rw (ready.health.health p i, same_effect r.word (P.health.health p));
        locked =
            λ g l. lock_places (reported (health_of ring.health) r) g (omega arith)
            ∙ rw (ready.health.locked g l, same_lock r.word (P.health.locked g));
      };
  standing = ready.standing;
}

pub all_ready : {n : ℕ} {ring : Ring} {P : PlantState} → n ≤ largest → Ready n ring P → (rs : List Report)
    → Ready n (told_all ring rs) (after_words rs P)
unfolding told_all after_words
all_ready small ready [] = ready
all_ready {ring = ring} small ready (r ∷ rs) = all_ready {ring = told ring r} small (told_ready small ready r) rs

-- .. all of its reports
pub call_ready : {n : ℕ} {W : World} → n ≤ largest → Steady n W → (call : Call)
    → Ready n (told_state W.state (words call)).ring (after_words (words call) W.plant)
unfolding told_state
call_ready small s call = all_ready small (record { size = s.size; health = s.health; standing = s.standing }) (words call)

in_ring : (n : ℕ) (p : Part) → not_of_ring n p ≡ false → InRing n p
unfolding not_of_ring
in_ring n p e =
    let t = or_none (ltb (number p) 1) (ltb (min n largest) (number p)) e in
    (ltb-false (number p) 1 t.0, omega (arith, ltb-false (min n largest) (number p) t.1))

not_in_ring : (n : ℕ) (p : Part) → n ≤ largest → not_of_ring n p ≡ true → InRing n p → ⊥
unfolding not_of_ring
not_in_ring n p small e r = go (or_cases (ltb (number p) 1) (ltb (min n largest) (number p)) e)
  where
    go : (ltb (number p) 1 ≡ true) ⊎ (ltb (min n largest) (number p) ≡ true) → ⊥
    go (inl q) = omega (arith, ltb-true (number p) 1 q, r.0)
    go (inr q) = omega (arith, ltb-true (min n largest) (number p) q, r.1)

-- refusal 6, by cases
word_refusal_lem : (p : Part) (w : Word) (x : ℕ)
    → cond (word_of_other_kind p (word_number w)) 6 x ≡ cond (eqb (word_refusal p w) 0) x (word_refusal p w)
unfolding word_of_other_kind word_refusal
word_refusal_lem (Generator k) Fit x = refl
word_refusal_lem (Generator k) StuckOff x = refl
word_refusal_lem (Generator k) StuckOpen x = refl
word_refusal_lem (Generator k) StuckClosed x = refl
word_refusal_lem (Generator k) Lock x = refl
word_refusal_lem (Generator k) Unlock x = refl
word_refusal_lem (GeneratorBreaker k) Fit x = refl
word_refusal_lem (GeneratorBreaker k) StuckOff x = refl
word_refusal_lem (GeneratorBreaker k) StuckOpen x = refl
word_refusal_lem (GeneratorBreaker k) StuckClosed x = refl
word_refusal_lem (GeneratorBreaker k) Lock x = refl
word_refusal_lem (GeneratorBreaker k) Unlock x = refl
word_refusal_lem (BusBreaker k) Fit x = refl
word_refusal_lem (BusBreaker k) StuckOff x = refl
word_refusal_lem (BusBreaker k) StuckOpen x = refl
word_refusal_lem (BusBreaker k) StuckClosed x = refl
word_refusal_lem (BusBreaker k) Lock x = refl
word_refusal_lem (BusBreaker k) Unlock x = refl

-- ---- the reports of a call

none_bad : {n : ℕ} {r : Report} → Good n r → (j : ℕ) → Bad n r j → ⊥
none_bad g j (no_part out) = out g.inside
none_bad g j (no_word i e) = omega (arith, g.word)

judge_report : (n : ℕ) (r : Report) → n ≤ largest → Judged (Bad n r) (Good n r) (first_met (report_conditions n r))
unfolding first_met report_conditions
judge_report n r small =
    rw (word_refusal_lem r.part r.word 0) (go (dec (not_of_ring n r.part)) (word_refusal r.part r.word) refl)
  where
    only_part : (InRing n r.part → ⊥) → (j : ℕ) → Bad n r j → j ≡ 5
    only_part f j (no_part g) = refl
    only_part f j (no_word i e) = absurd (f i)

    only_word : {k : ℕ} → InRing n r.part → word_refusal r.part r.word ≡ suc k → (j : ℕ) → Bad n r j → j ≡ suc k
    only_word i e j (no_part f) = absurd (f i)
    only_word i e j (no_word i₁ e₁) = sym e₁ ∙ e

    go : (not_of_ring n r.part ≡ true) ⊎ (not_of_ring n r.part ≡ false) → (k : ℕ) → word_refusal r.part r.word ≡ k
        → let w = word_refusal r.part r.word in
        Judged (Bad n r) (Good n r) (cond (not_of_ring n r.part) 5 (cond (eqb w 0) 0 w))
    go (inl p) k e = let out = not_in_ring n r.part small p in rw p (met 5 (omega arith) (no_part out) (only_part out))
    go (inr p) (suc k) e =
        let i = in_ring n r.part p in
        rw (p, e, ne_eqb (suc k) 0 (λ z. omega arith)) (met (suc k) (omega arith) (no_word i e) (only_word i e))
    go (inr p) zero e =
        let g : Good n r = record { inside = in_ring n r.part p; word = e } in
        rw (p, e) (fine (none_bad g) g)

-- among good reports none is the first bad one
none_first : {n : ℕ} {rs : List Report} → AllGood n rs → (j : ℕ) → FirstBad n rs j → ⊥
none_first no_reports j f = elim f [ ]
none_first (good_and g a) j (here b) = none_bad g j b
none_first (good_and g a) j (later h f) = none_first a j f

judge_reports : (n : ℕ) (rs : List Report) → n ≤ largest → Judged (FirstBad n rs) (AllGood n rs) (first_refusal n rs)
unfolding first_refusal
judge_reports n [] small = fine (none_first no_reports) no_reports
judge_reports n (r ∷ rs) small = go (judge_report n r small) (judge_reports n rs small)
  where
    only_here : {k : ℕ} → Bad n r k → ((j : ℕ) → Bad n r j → j ≡ k) → (j : ℕ) → FirstBad n (r ∷ rs) j → j ≡ k
    only_here b one j (here c) = one j c
    only_here b one j (later g f) = absurd (none_bad g _ b)

    only_later : {k : ℕ} → Good n r → ((j : ℕ) → FirstBad n rs j → j ≡ k) → (j : ℕ) → FirstBad n (r ∷ rs) j → j ≡ k
    only_later g one j (here b) = absurd (none_bad g j b)
    only_later g one j (later h f) = one j f

    go : {k l : ℕ} → Judged (Bad n r) (Good n r) k → Judged (FirstBad n rs) (AllGood n rs) l
        → Judged (FirstBad n (r ∷ rs)) (AllGood n (r ∷ rs)) (or_else k l)
    go (met k h b one) rest = rw (ne_eqb k 0 (λ z. omega arith)) (met k h (here b) (only_here b one))
    go (fine none g) (met l h f one) = met l h (later g f) (only_later g one)
    go (fine none g) (fine free a) = fine (none_first (good_and g a)) (good_and g a)

-- ---- a call

-- a call that nothing meets
pub record CallFine (n : ℕ) (P : PlantState) (call : Call) : Type 0 where
  pub few : count call ≤ 64
  pub good : AllGood n (words call)
  pub fits : sheet_for n (after_words (words call) P) ≤ length (lent call)

none_call : {n : ℕ} {P : PlantState} {call : Call} → CallFine n P call → (j : ℕ) → Meets n P call j → ⊥
none_call f j (too_many l) = omega (arith, f.few)
none_call f j (bad_report c b) = none_first f.good j b
none_call f j (no_room c a l) = omega (arith, f.fits)

-- the refusals of a call in their order but for 9: 11, then its reports' in a ring of n, then 8 for the bytes of its sheet
unfoldable pub call_number : ℕ → Call → List ℕ → ℕ
call_number n call bytes =
    let reports = first_refusal n (words call) in
    let own = sheet_refusal (length (lent call)) bytes in
    or_else (first_met ((11, count_above (count call)) ∷ [])) (or_else reports own)

module _ (n : ℕ) (P : PlantState) (call : Call) (bytes : List ℕ) (small : n ≤ largest)
    (is : length bytes ≡ sheet_for n (after_words (words call) P)) where
  only_many : 64 < count call → (j : ℕ) → Meets n P call j → j ≡ 11
  only_many l j (too_many m) = refl
  only_many l j (bad_report c b) = absurd (omega arith)
  only_many l j (no_room c a s) = absurd (omega arith)

  only_bad : {k : ℕ} → count call ≤ 64 → FirstBad n (words call) k → ((j : ℕ) → FirstBad n (words call) j → j ≡ k)
      → (j : ℕ) → Meets n P call j → j ≡ k
  only_bad c b one j (too_many m) = absurd (omega arith)
  only_bad c b one j (bad_report d f) = one j f
  only_bad c b one j (no_room d a s) = absurd (none_first a _ b)

  only_room : count call ≤ 64 → AllGood n (words call) → (j : ℕ) → Meets n P call j → j ≡ 8
  only_room c a j (too_many m) = absurd (omega arith)
  only_room c a j (bad_report d f) = absurd (none_first a j f)
  only_room c a j (no_room d b s) = refl

  own_sheet : count call ≤ 64 → AllGood n (words call)
      → Judged (Meets n P call) (CallFine n P call) (sheet_refusal (length (lent call)) bytes)
  unfolding sheet_refusal first_met
  own_sheet c a = go (dec (too_short (length (lent call)) bytes))
    where
      go : (too_short (length (lent call)) bytes ≡ true) ⊎ (too_short (length (lent call)) bytes ≡ false)
          → Judged (Meets n P call) (CallFine n P call) (cond (too_short (length (lent call)) bytes) 8 0)
      go (inl t) =
          let l : length (lent call) < sheet_for n (after_words (words call) P) = rw is at (short_lt (length (lent call)) bytes t) in
          rw t (met 8 (omega arith) (no_room c a l) (only_room c a))
      go (inr t) =
          let l : sheet_for n (after_words (words call) P) ≤ length (lent call) = rw is at (short_le (length (lent call)) bytes t) in
          let f : CallFine n P call = record { few = c; good = a; fits = l } in
          rw t (fine (none_call f) f)

  reports_then : count call ≤ 64 → {k : ℕ} → Judged (FirstBad n (words call)) (AllGood n (words call)) k
      → Judged (Meets n P call) (CallFine n P call) (or_else k (sheet_refusal (length (lent call)) bytes))
  reports_then c (met k h b one) = rw (ne_eqb k 0 (λ z. omega arith)) (met k h (bad_report c b) (only_bad c b one))
  reports_then c (fine none a) = own_sheet c a

  pub judge_call : Judged (Meets n P call) (CallFine n P call) (call_number n call bytes)
  unfolding call_number first_met count_above
  judge_call = go (dec_lt 64 (count call))
    where
      go : (64 < count call) ⊎ (count call ≤ 64)
          → let reports = first_refusal n (words call) in
          let own = sheet_refusal (length (lent call)) bytes in
          Judged (Meets n P call) (CallFine n P call) (or_else (cond (ltb 64 (count call)) 11 0) (or_else reports own))
      go (inl l) = rw (lt-ltb 64 (count call) l) (met 11 (omega arith) (too_many l) (only_many l))
      go (inr l) = rw (le-ltb 64 (count call) l) (reports_then l (judge_reports n (words call) small))

-- the refusal of a call of the controller
abbrev pub call_refusal : RingState → Call → ℕ
call_refusal state (step r buffer) = state_refusal state (step_refusal state.ring r (length buffer))
call_refusal state (scan s buffer) = state_refusal state (scan_refusal state.ring s (length buffer))

-- every call is answered by its refusal, and by the ring state that was told its reports
abbrev pub call_reply : RingState → Call → StateReply
call_reply state call = state_by (call_refusal state call) (told_state state (words call)) state (lent call)

pub call_reply_lem : (state : RingState) (call : Call) → reply_to controller state call ≡ call_reply state call
unfolding state_step state_scan
call_reply_lem state (step r buffer) = refl
call_reply_lem state (scan s buffer) = refl

-- a good record has a good ring
pub ring_good : (state : RingState) → bad_record state ≡ false → bad_ring state.ring ≡ false
unfolding bad_record
ring_good state good = (or_none (bad_ring state.ring) _ good).0

-- a good record: 9 does not meet the call
call_number_lem : (state : RingState) (call : Call) → bad_record state ≡ false
    → call_refusal state call ≡ call_number state.ring.n call (next_sheet (told_state state (words call)).ring)
unfolding call_number first_met first_refusal count_above told_state told_all state_refusal
call_number_lem state (step r buffer) good =
    rw (good, or_nothing (first_met (report_conditions state.ring.n r)))
    (step_refusal_lem state.ring (ring_good state good) r (length buffer))
call_number_lem state (scan s buffer) good = rw good (scan_refusal_lem state.ring (ring_good state good) s (length buffer))

module _ {n : ℕ} {W : World} (small : n ≤ largest) (s : Steady n W) (good : bad_record W.state ≡ false) (call : Call) where
  abbrev told_state_lem : RingState
  told_state_lem = told_state W.state (words call)

  sheet_for_lem : length (next_sheet told_state_lem.ring) ≡ sheet_for n (after_words (words call) W.plant)
  sheet_for_lem = ap length (sheet_is small (call_ready small s call))

  pub judged_call : Judged (Meets n W.plant call) (CallFine n W.plant call) (call_refusal W.state call)
  judged_call =
      let size = ap (λ m. call_number m call (next_sheet told_state_lem.ring)) s.size in
      rw (call_number_lem W.state call good ∙ size) (judge_call n W.plant call (next_sheet told_state_lem.ring) small sheet_for_lem)

  -- the whole of what is claimed of a call
  pub call_answered : Answered (Meets n W.plant call) W.state (lent call) (reply_to controller W.state call)
  call_answered =
      rw (call_reply_lem W.state call)
      (answered_by (call_refusal W.state call) told_state_lem W.state (lent call) judged_call
      (λ f. omega (arith, f.fits, sheet_for_lem)))

  -- a fine call is served, a served one fine
  pub fine_served : CallFine n W.plant call → is_served (reply_to controller W.state call) ≡ true
  fine_served f =
      rw (call_reply_lem W.state call)
      (zero_served (call_refusal W.state call) told_state_lem W.state (lent call) (judged_zero judged_call (none_call f)))

  pub served_fine : is_served (reply_to controller W.state call) ≡ true → CallFine n W.plant call
  served_fine e =
      judged_fine judged_call
      (served_zero (call_refusal W.state call) told_state_lem W.state (lent call) (rw (call_reply_lem W.state call) at e))

module _ (state : RingState) (call : Call) where
  pub call_served : is_served (reply_to controller state call) ≡ true
      → reply_to controller state call ≡ served_by (told_state state (words call)) (lent call)
  call_served e =
      call_reply_lem state call
      ∙ served_is (call_refusal state call) (told_state state (words call)) state (lent call) (rw (call_reply_lem state call) at e)

  pub call_refused : is_served (reply_to controller state call) ≡ false
      → reply_to controller state call ≡ refused_by (call_refusal state call) state (lent call)
  call_refused e =
      call_reply_lem state call
      ∙ refused_is (call_refusal state call) (told_state state (words call)) state (lent call) (rw (call_reply_lem state call) at e)
