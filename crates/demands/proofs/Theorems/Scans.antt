-- Document 02, Note 2: a scan beside the single steps of its reports.
use Rattle.std.specs.Prelude.{◌≡◌, Bool, true, not, ◌&&◌, ◌≢◌, ◌⊎◌, List, [], ◌∷◌, ◌++◌, ℕ, zero, suc, ◌≤◌, ◌<◌, length, get_or, take, Ok}
use Rattle.std.proofs.Math.Path.{refl, ap}
use Rattle.std.proofs.Common.{sym, ◌∙◌, inl, inr, arith}
use Rattle.std.proofs.Math.Bool.{false}
use borrow.Author.Tests.{le-ltb, ne_eqb}
use Rattle.model.specs.declared.Part.{Part}
use Rattle.model.specs.declared.Report.{Report}
use Rattle.model.specs.declared.Scan.{Scan}
use Rattle.model.specs.declared.Commands.{Commands}
use Rattle.model.specs.declared.Ring.{Ring}
use Rattle.model.specs.declared.RingState.{RingState}
use Rattle.model.specs.declared.BusChoice.{BusChoice}
use Rattle.model.specs.Plant.{PartHealth, PartCommands, parts, InRing}
use Rattle.model.specs.Choosing.{plan, commands}
use Rattle.model.specs.Sheet.{opening, sequence, closing, sheet_of, sheet, written}
use Rattle.model.specs.Reports.{health_of, commands_of, command_places, told, planned, called_for, with_plan}
use Rattle.model.specs.Refusals.{first_met, or_else, bad_ring, count_above, too_short, sheet_refusal, next_sheet, report_conditions, step_refusal}
use Rattle.model.specs.Scans.{scan_reports, told_all, first_refusal, scan_refusal}
use Rattle.model.specs.Bookings.{with_figures}
use Rattle.model.specs.States.{
  told_state,
  reckoned,
  bad_record,
  state_refusal,
  refused_state,
  served_state,
  served_by,
  refused_by,
  state_step,
  state_scan,
}
use Rattle.model.specs.Laws.Tests.{contra, dec, dec_eq}
use Rattle.model.specs.Laws.Lists.{keep_none}
use Rattle.model.specs.Laws.Parts.{parts_at, command_places_lem}
use Rattle.model.specs.Laws.Refusals.{good_size}
use Rattle.model.specs.Laws.Calls.{or_nothing, step_refusal_lem, scan_refusal_lem}
use Rattle.model.specs.Laws.Scans.{told_size, told_standing}
use Rattle.theory.specs.Theorems.Locality.{commanded_in_ring, opening_ext}
use Rattle.theory.proofs.Theorems.Closing.{sequence_exactly}
use Rattle.demands.specs.Statements.Demand3.{step, scan, is_served, AllGood, no_reports, good_and}
use Rattle.demands.specs.Statements.Records.{Made, stepped, Arrays}
use Rattle.demands.specs.Statements.Scans.{Singly, no_step, first_step}
use Rattle.demands.proofs.Proofs.Answering.{full_room, served_fine, ring_good, call_served, call_refused}
use Rattle.demands.proofs.Theorems.Records.{as_planned, plan_kept, good_steady, served_step, call_good}

-- ---- a served scan

module _ (state : RingState) (s : Scan) (buffer : List ℕ) (yes : is_served (state_scan state s buffer) ≡ true) where
  -- the ring state that was told all its reports, with its plan
  scan_is : state_scan state s buffer ≡ served_by (told_state state (scan_reports s)) buffer
  scan_is = call_served state (scan s buffer) yes

  -- its record is good
  served_record : bad_record state ≡ false
  unfolding state_scan state_refusal first_met refused_state
  served_record = go (dec (bad_record state))
    where
      go : (bad_record state ≡ true) ⊎ (bad_record state ≡ false) → bad_record state ≡ false
      go (inl e) = contra yes (rw e)
      go (inr e) = e

  -- and so are its reports
  served_reports : AllGood state.ring.n (scan_reports s)
  served_reports =
      let good = served_record in
      let size = good_size state.ring (ring_good state good) in
      (served_fine size.1 (good_steady state good) good (scan s buffer) yes).good

  -- "the sheet goes straight from the first standing orders to the last", the second wave by the choices for the last health
  pub sheet_straight :
      let ring = state.ring in
      let first = commands_of ring.commands in
      let last = (state_scan state s buffer).answer.state.ring in
      (state_scan state s buffer).buffer ≡ written
      (sheet_of (opening ring.n first (commands_of last.commands)) (closing ring.n first (plan ring.n (health_of last.health)))) buffer
  unfolding served_state reckoned with_plan next_sheet sheet planned told_state told_all
  sheet_straight =
      let ring = state.ring in
      let told_ring = told_all ring (scan_reports s) in
      let first = commands_of ring.commands in
      let new = commands ring.n (health_of told_ring.health) in
      let small = (good_size ring (ring_good state served_record)).1 in
      let same = opening_ext ring.n first first (commands_of (command_places new)) new (λ p r. refl)
      (λ p r. command_places_lem new p (r.0, omega (arith, r.1))) in
      rw (scan_is, told_size ring (scan_reports s), told_standing ring (scan_reports s))
      (ap (λ ps. written (sheet_of ps (closing ring.n first (plan ring.n (health_of told_ring.health)))) buffer) (sym same))

-- ---- "The record and choices must be those that single steps would end with"

-- the commands of a ring do not alter what it is told
told_health : (rs : List Report) (ring : Ring) (C : Commands)
    → (told_all (record { n = ring.n; health = ring.health; commands = C }) rs).health ≡ (told_all ring rs).health
unfolding told_all told
told_health [] ring C = refl
told_health (r ∷ rs) ring C = told_health rs (told ring r) C

-- a plan between two words leaves no trace in the record or in the choices
replanned : (rs : List Report) (state : RingState)
    → let planned_first = (served_state state).state in
    ((served_state (told_state planned_first rs)).state ≡ (served_state (told_state state rs)).state)
    × ((served_state (told_state planned_first rs)).choices ≡ (served_state (told_state state rs)).choices)
unfolding served_state told_state reckoned with_figures with_plan planned
replanned rs state =
    let ring = state.ring in
    let h = told_health rs ring (command_places (commands ring.n (health_of ring.health))) in
    let a = told_size (with_plan ring) rs in
    let b = told_size ring rs in
    (rw (h, a, b), rw (h, a, b))

-- what single steps end with, from a record with its plan and its figures
singly_ends : {state last : RingState} {shown last_shown : List BusChoice} {rs : List Report} → Singly state shown rs last last_shown
    → (served_state state).state ≡ state → shown ≡ called_for state.ring
    → (last ≡ (served_state (told_state state rs)).state) × (last_shown ≡ (served_state (told_state state rs)).choices)
unfolding told_state told_all served_state reckoned with_figures with_plan planned
singly_ends no_step p q = (sym p, q)
singly_ends {state} (first_step {rs = rs} r buffer e d) p q =
    let z = call_served state (step r buffer) e in
    let t = singly_ends d (rw z) (rw z) in
    let u = replanned rs (told_state state (r ∷ [])) in
    ((rw z at t.0) ∙ u.0, (rw z at t.1) ∙ u.1)

-- single steps with good reports are served, each in a buffer with room for every sheet
singly : {n : ℕ} {rs : List Report} → AllGood n rs → (state : RingState) (shown : List BusChoice) → bad_record state ≡ false
    → state.ring.n ≡ n
    → (last : RingState) × (last_shown : List BusChoice) × Singly state shown rs last last_shown
unfolding served_state reckoned with_plan told_state told_all told
singly no_reports state shown good size = (state, shown, no_step)
singly {n} (good_and {r = r} g a) state shown good size =
    let bounds = good_size state.ring (ring_good state good) in
    let e = served_step bounds.1 (good_steady state good) good r (rw size g) in
    let a₁ = (state_step state r full_room).answer in
    let same : a₁.state.ring.n ≡ n = rw (call_served state (step r full_room) e) size in
    let t = singly a a₁.state a₁.choices (call_good state good (step r full_room)) same in
    (t.0, t.1, first_step r full_room e t.2)

module _ (state : RingState) (arrays : Arrays state) (s : Scan) (buffer : List ℕ) (yes : is_served (state_scan state s buffer) ≡ true) where
  -- whatever single steps of its reports are served, they end with the record and the choices of the scan
  pub as_single_steps : {last : RingState} {last_shown : List BusChoice} → Singly state (called_for state.ring) (scan_reports s) last last_shown
      → ((state_scan state s buffer).answer.state ≡ last) × ((state_scan state s buffer).answer.choices ≡ last_shown)
  unfolding served_state reckoned
  as_single_steps d =
      let t = singly_ends d (plan_kept state (served_record state s buffer yes) arrays) refl in
      let z = scan_is state s buffer yes in
      (rw z (sym t.0), rw z (sym t.1))

  -- and there are such steps
  pub single_steps :
      let a = (state_scan state s buffer).answer in
      Singly state (called_for state.ring) (scan_reports s) a.state a.choices
  single_steps =
      let t = singly (served_reports state s buffer yes) state (called_for state.ring) (served_record state s buffer yes) refl in
      let u = as_single_steps t.2 in
      rw (u.0, u.1) t.2

-- a scan makes no record that start, steps, bookings and cancellations do not make
singly_made : {state last : RingState} {shown last_shown : List BusChoice} {rs : List Report} → Singly state shown rs last last_shown
    → Made state → Made last
singly_made no_step m = m
singly_made (first_step r buffer e d) m = singly_made d (stepped r buffer m)

pub scan_made : (state : RingState) → Arrays state → Made state → (s : Scan) (buffer : List ℕ)
    → Made (state_scan state s buffer).answer.state
unfolding refused_state
scan_made state arrays m s buffer = go (dec (is_served (state_scan state s buffer)))
  where
    go : (is_served (state_scan state s buffer) ≡ true) ⊎ (is_served (state_scan state s buffer) ≡ false)
        → Made (state_scan state s buffer).answer.state
    go (inl e) = singly_made (single_steps state arrays s buffer e) m
    go (inr e) = rw (call_refused state (scan s buffer) e) m

-- ---- "The first bad report refuses the scan with the refusal that report alone would get, and nothing changes."

bad_after : (n : ℕ) (front : List Report) (r : Report) (back : List Report) → first_refusal n front ≡ 0
    → first_met (report_conditions n r) ≢ 0
    → first_refusal n (front ++ (r ∷ back)) ≡ first_met (report_conditions n r)
unfolding first_refusal
bad_after n [] r back e f = rw (ne_eqb (first_met (report_conditions n r)) 0 f)
bad_after n (q ∷ front) r back e f = go (λ z. bad_after n front r back z f) (dec_eq (first_met (report_conditions n q)) 0)
  where
    go : (first_refusal n front ≡ 0 → first_refusal n (front ++ (r ∷ back)) ≡ first_met (report_conditions n r))
        → (first_met (report_conditions n q) ≡ 0) ⊎ (first_met (report_conditions n q) ≢ 0)
        → or_else (first_met (report_conditions n q)) (first_refusal n (front ++ (r ∷ back))) ≡ first_met (report_conditions n r)
    go ih (inl z) = let rest : first_refusal n front ≡ 0 = rw z at e in rw z (ih rest)
    go ih (inr z) = absurd (z (rw (ne_eqb (first_met (report_conditions n q)) 0 z) at e))

-- of a good record and a count that is not refused, the report r is the first bad one
module _ (state : RingState) (good : bad_record state ≡ false) (s : Scan) (few : s.count ≤ 64) (front : List Report) (r : Report)
    (back : List Report) (are : scan_reports s ≡ front ++ (r ∷ back)) (before : first_refusal state.ring.n front ≡ 0)
    (bad : first_met (report_conditions state.ring.n r) ≢ 0) (buffer : List ℕ) where
  -- its refusal
  abbrev K : ℕ
  K = first_met (report_conditions state.ring.n r)

  scan_number : state_refusal state (scan_refusal state.ring s (length buffer)) ≡ K
  unfolding state_refusal first_met count_above
  scan_number =
      rw (good, scan_refusal_lem state.ring (ring_good state good) s (length buffer), le-ltb 64 s.count few, are, bad_after state.ring.n front r back before bad, ne_eqb K 0 bad)

  step_number : state_refusal state (step_refusal state.ring r (length buffer)) ≡ K
  unfolding state_refusal first_met
  step_number = rw (good, step_refusal_lem state.ring (ring_good state good) r (length buffer), ne_eqb K 0 bad)

  pub first_bad_refuses : state_scan state s buffer ≡ refused_by K state buffer
  unfolding state_scan
  first_bad_refuses = rw (scan_number, ne_eqb K 0 bad)

  -- "the refusal that report alone would get"
  pub as_alone : state_step state r buffer ≡ refused_by K state buffer
  unfolding state_step
  as_alone = rw (step_number, ne_eqb K 0 bad)

-- ---- "No reports means the record as it was, the choices it calls for and two empty waves."

-- nothing changes between a good record's standing commands and those that it calls for
pub still : (ring : Ring) → bad_ring ring ≡ false → next_sheet ring ≡ 0 ∷ 0 ∷ []
unfolding next_sheet sheet sheet_of opening closing
still ring good =
    rw (
      keep_none (λ p. C p && not (N p)) (parts ring.n) (λ p m. none_opens p (parts_at ring.n p m)),
      keep_none (λ p. not (C p)) (sequence ring.n (plan ring.n H))
          (λ p m. none_closes p ((sequence_exactly ring.n H p).0 m)),
    )
  where
    H : PartHealth
    H = health_of ring.health

    C : PartCommands
    C = commands_of ring.commands

    N : PartCommands
    N = commands ring.n H

    same : (p : Part) → InRing ring.n p → C p ≡ N p
    same p i = as_planned ring good p (i.0, omega (arith, i.1, (good_size ring good).1))

    neither : (b : Bool) → b && not b ≡ false
    neither true = refl
    neither false = refl

    none_opens : (p : Part) → InRing ring.n p → C p && not (N p) ≡ false
    none_opens p i = rw (same p i) (neither (N p))

    none_closes : (p : Part) → N p ≡ true → not (C p) ≡ false
    none_closes p e = rw (same p (commanded_in_ring ring.n H p e), e)

pub empty_scan : (state : RingState) → Arrays state → bad_record state ≡ false → (s : Scan) → s.count ≡ 0 → (buffer : List ℕ)
    → 2 ≤ length buffer
    → state_scan state s buffer ≡ record {
      answer = record { outcome = Ok tt; state = state; choices = called_for state.ring };
      buffer = written (0 ∷ 0 ∷ []) buffer;
    }
unfolding state_scan state_refusal scan_refusal first_met count_above first_refusal told_state told_all sheet_refusal too_short served_state
empty_scan state arrays good s none buffer enough =
    let right = ring_good state good in
    rw (none, good, right, still state.ring right, le-ltb (length buffer) 2 enough, plan_kept state good arrays)

-- ---- "places past the count are not read"

take_same : (d : Report) (k : ℕ) (xs ys : List Report) → length xs ≡ length ys
    → ((i : ℕ) → i < k → get_or xs i d ≡ get_or ys i d) → take k xs ≡ take k ys
take_same d zero xs ys e h = refl
take_same d (suc k) [] [] e h = refl
take_same d (suc k) [] (y ∷ ys) e h = absurd (omega arith)
take_same d (suc k) (x ∷ xs) [] e h = absurd (omega arith)
take_same d (suc k) (x ∷ xs) (y ∷ ys) e h =
    let here : x ≡ y = h 0 (omega arith) in
    let rest = take_same d k xs ys (omega arith) (λ i l. h (suc i) (omega arith)) in
    rw (here, rest)

-- two scans of 64 places that agree up to the count have one answer and leave one buffer
pub past_count : (state : RingState) (s t : Scan) (buffer : List ℕ) (d : Report) → length s.reports ≡ 64 → length t.reports ≡ 64
    → s.count ≡ t.count
    → ((i : ℕ) → i < s.count → get_or s.reports i d ≡ get_or t.reports i d) → state_scan state s buffer ≡ state_scan state t buffer
unfolding state_scan scan_refusal
past_count state s t buffer d a b e h = rw (take_same d s.count s.reports t.reports (a ∙ sym b) h, e)

-- ---- a scan of one report is a step

module _ (state : RingState) (s : Scan) (r : Report) (buffer : List ℕ) (few : s.count ≤ 64) (is : scan_reports s ≡ r ∷ []) where
  nine : bad_record state ≡ true
      → state_refusal state (scan_refusal state.ring s (length buffer)) ≡ state_refusal state (step_refusal state.ring r (length buffer))
  unfolding state_refusal first_met
  nine e = rw e

  not_nine : bad_record state ≡ false → scan_refusal state.ring s (length buffer) ≡ step_refusal state.ring r (length buffer)
  unfolding first_met first_refusal count_above told_all
  not_nine e =
      let ring = state.ring in
      let good = ring_good state e in
      scan_refusal_lem ring good s (length buffer)
      ∙ rw (le-ltb 64 s.count few, is, or_nothing (first_met (report_conditions ring.n r))) (sym (step_refusal_lem ring good r (length buffer)))

  pub one_report : state_scan state s buffer ≡ state_step state r buffer
  unfolding state_scan state_step
  one_report = rw (is, number (dec (bad_record state)))
    where
      number : (bad_record state ≡ true) ⊎ (bad_record state ≡ false)
          → state_refusal state (scan_refusal state.ring s (length buffer)) ≡ state_refusal state (step_refusal state.ring r (length buffer))
      number (inl e) = nine e
      number (inr e) = ap (state_refusal state) (not_nine e)
