-- A served start or step, from its answer and its sheet's bytes to its line. A ring is one that was told its reports.
use Rattle.std.specs.Prelude.{◌≡◌, false, ◌≢◌, List, ℕ, ◌+◌, ◌*◌, ◌≤◌, length, replicate, Ok, Err}
use Rattle.model.specs.declared.Refusal.{Refusal}
use Rattle.model.specs.Laws.Refusals.{served_refused}
use Rattle.std.proofs.Common.{sym, ◌∙◌, inl, inr, arith}
use Rattle.std.proofs.Math.Path.{ap}
use Rattle.std.proofs.lemmas.List.{length-replicate}
use borrow.Author.Tests.{le-ltb, ne_eqb}
use Rattle.model.specs.declared.Part.{Part}
use Rattle.model.specs.declared.Report.{Report}
use Rattle.model.specs.declared.Ring.{Ring}
use Rattle.model.specs.declared.Scan.{Scan}
use Rattle.model.specs.declared.RingAnswer.{RingAnswer}
use Rattle.model.specs.declared.Choice.{Choice}
use Rattle.model.specs.Values.{refusal_number, outcome_number}
use Rattle.model.specs.Plant.{PartHealth, smallest, largest}
use Rattle.model.specs.Choosing.{plan, commands, choices}
use Rattle.model.specs.Sheet.{opening, closing, sheet, written}
use Rattle.model.specs.Reports.{health_of, commands_of, blank_ring, told, with_plan}
use Rattle.model.specs.Refusals.{first_met, too_short, bad_ring, next_sheet, report_conditions, start_refusal, step_refusal}
use Rattle.model.specs.Answers.{Reply, refused_answer, refused_reply, served_answer, served_reply, start_reply, step_reply}
use Rattle.model.specs.Text.{transition_line, refused_text}
use Rattle.model.specs.Scans.{scan_reports, told_all, scan_refusal, scan_reply}
use Rattle.model.specs.ScanText.{sheet_room, scan_text, scan_ring}
use Rattle.model.specs.Laws.Sheet.{sheet_of_length}
use Rattle.model.specs.Laws.Refusals.{inside, good_size}
use Rattle.model.specs.Laws.Scans.{told_size}
use Rattle.model.specs.Laws.Choosing.{Inside}
use Rattle.theory.specs.Proofs.Choosing.{choices_inside}
use Rattle.theory.proofs.Theorems.Closing.{closing_at, sheet_fits}
use Rattle.demands.proofs.Proofs.Operations.{opening_at}
use Rattle.demands.proofs.Theorems.Records.{inner_start_good, inner_step_good, inner_scan_good}
use Rattle.buses.specs.Buses.{AllNamed, Named}
use Rattle.lines.specs.SheetLine.{SheetBytes, sheet_line, sheet_is, sheet_line_lem}
use Rattle.calls.specs.Lines.{Shown, Answered}

-- ---- the answer and the sheet of a transition

-- a choice names a generator of the ring, and so of the largest
choices_named : (n : ℕ) (H : PartHealth) → n ≤ largest → AllNamed n (choices n H)
choices_named n H small b hb = go (choices_inside n H small b hb)
  where
    go : {c : Choice} → Inside n c → Named c
    go (inl e) = inl e
    go (inr i) = inr (i.0, omega (arith, i.1))

-- what the answer of a served call gives, and the bytes that it leaves: the choices, the sheet, and the line that is made of them
pub record Given (ring : Ring) (a : RingAnswer) (after : List ℕ) : Type 0 where
  pub named : AllNamed ring.n a.choices
  pub sheet : SheetBytes after
  pub shown : (i : ℕ) (before out : List ℕ) (size : ℕ)
      → out ≡ written (sheet_line i ring.n a.choices after) before
      → size ≡ length (sheet_line i ring.n a.choices after)
      → Shown i ring before out a.ring size

module _ (ring : Ring) (small : ring.n ≤ largest) (buffer : List ℕ) where
  abbrev xs : List Part
  xs = opening ring.n (commands_of ring.commands) (commands ring.n (health_of ring.health))

  abbrev ys : List Part
  ys = closing ring.n (commands_of ring.commands) (plan ring.n (health_of ring.health))

  few : length xs + length ys ≤ 3 * largest
  unfolding sheet
  few = omega (arith, sheet_of_length xs ys, sheet_fits ring.n (health_of ring.health) (commands_of ring.commands) small)

  transition_sheet : SheetBytes (written (next_sheet ring) buffer)
  unfolding next_sheet sheet
  transition_sheet = sheet_is xs ys buffer few

  transition_line_lem : (i : ℕ)
      → sheet_line i ring.n (choices ring.n (health_of ring.health)) (written (next_sheet ring) buffer) ≡ transition_line i ring
  unfolding next_sheet sheet transition_line
  transition_line_lem i =
      sheet_line_lem xs ys buffer i ring.n (choices ring.n (health_of ring.health)) small
      (λ p m. (opening_at ring.n (commands_of ring.commands) (commands ring.n (health_of ring.health)) p m).0)
      (λ p m. (closing_at ring.n (health_of ring.health) (commands_of ring.commands) p m).0)

  -- a call whose reply is served gives it
  served_given : {reply : Reply} → reply ≡ served_reply ring buffer
      → (a : RingAnswer) (after : List ℕ) → a ≡ reply.answer → after ≡ reply.buffer → Given ring a after
  unfolding served_reply served_answer
  served_given is a after answered left =
      record {
        named = rw given.0 (choices_named ring.n (health_of ring.health) small);
        sheet = rw given.1 transition_sheet;
        shown = shown;
      }
    where
      given : (a ≡ (served_reply ring buffer).answer) × (after ≡ (served_reply ring buffer).buffer)
      given = (rw is at answered, rw is at left)

      shown : (i : ℕ) (before out : List ℕ) (size : ℕ)
          → out ≡ written (sheet_line i ring.n a.choices after) before
          → size ≡ length (sheet_line i ring.n a.choices after)
          → Shown i ring before out a.ring size
      shown i before out size e f =
          let t : sheet_line i ring.n a.choices after ≡ transition_line i ring = rw (given.0, given.1) (transition_line_lem i) in
          record { ring_is = rw given.0; stored = record { bytes = rw t at e; sized = rw t at f } }

-- ---- with a buffer of 122 bytes every start of a ring's size is served, and every step whose report is not refused

room_enough : (ring : Ring) → ring.n ≤ largest → (buffer : List ℕ) → 122 ≤ length buffer
    → too_short (length buffer) (next_sheet ring) ≡ false
unfolding too_short next_sheet
room_enough ring small buffer enough =
    le-ltb (length buffer) _ (omega (arith, sheet_fits ring.n (health_of ring.health) (commands_of ring.commands) small))

start_free : (n : ℕ) → smallest ≤ n → n ≤ largest → (buffer : List ℕ) → 122 ≤ length buffer → start_refusal n (length buffer) ≡ 0
unfolding start_refusal first_met blank_ring
start_free n big small buffer enough = rw (inside n big small, room_enough (blank_ring n) small buffer enough)

start_serves : (n : ℕ) → smallest ≤ n → n ≤ largest → (buffer : List ℕ) → 122 ≤ length buffer
    → start_reply n buffer ≡ served_reply (blank_ring n) buffer
unfolding start_reply
start_serves n big small buffer enough = rw (start_free n big small buffer enough)

step_serves : (ring : Ring) → bad_ring ring ≡ false → (r : Report) → first_met (report_conditions ring.n r) ≡ 0
    → (buffer : List ℕ) → 122 ≤ length buffer → step_reply ring r buffer ≡ served_reply (told ring r) buffer
unfolding step_reply step_refusal first_met report_conditions told
step_serves ring good r checked buffer enough =
    let passes : step_refusal ring r (length buffer) ≡ 0 =
    rw (good, room_enough (told ring r) (good_size ring good).1 buffer enough) checked
    in rw passes

module _ (n : ℕ) (big : smallest ≤ n) (small : n ≤ largest) (buffer : List ℕ) (enough : 122 ≤ length buffer) where
  pub start_given : (a : RingAnswer) (after : List ℕ) → a ≡ (start_reply n buffer).answer → after ≡ (start_reply n buffer).buffer
      → Given (blank_ring n) a after
  unfolding blank_ring
  start_given = served_given (blank_ring n) small buffer (start_serves n big small buffer enough)

module _ (ring : Ring) (good : bad_ring ring ≡ false) (r : Report) (checked : first_met (report_conditions ring.n r) ≡ 0) where
  pub step_given : (buffer : List ℕ) → 122 ≤ length buffer → (a : RingAnswer) (after : List ℕ)
      → a ≡ (step_reply ring r buffer).answer → after ≡ (step_reply ring r buffer).buffer → Given (told ring r) a after
  unfolding told
  step_given buffer enough = served_given (told ring r) (good_size ring good).1 buffer (step_serves ring good r checked buffer enough)

-- ---- the rings are good

-- a buffer of 122 bytes
sheet_buffer : List ℕ
sheet_buffer = replicate 122 0

sheet_buffer_lem : 122 ≤ length sheet_buffer
unfolding sheet_buffer
sheet_buffer_lem = omega (arith, length-replicate {A = ℕ} 122 0)

pub start_good : (n : ℕ) → smallest ≤ n → n ≤ largest → bad_ring (with_plan (blank_ring n)) ≡ false
unfolding served_reply served_answer
start_good n big small =
    rw (start_serves n big small sheet_buffer sheet_buffer_lem) at (inner_start_good n sheet_buffer big small (start_free n big small sheet_buffer sheet_buffer_lem))

pub next_good : (ring : Ring) → bad_ring ring ≡ false → (r : Report) → first_met (report_conditions ring.n r) ≡ 0
    → bad_ring (with_plan (told ring r)) ≡ false
unfolding served_reply served_answer
next_good ring good r checked =
    rw (step_serves ring good r checked sheet_buffer sheet_buffer_lem) at (inner_step_good ring good r sheet_buffer)

-- ---- the text of a scan of a good ring, with a buffer of 122 bytes

module _ (ring : Ring) (good : bad_ring ring ≡ false) (s : Scan) (buffer : List ℕ) (full : length buffer ≡ sheet_room) (a : RingAnswer)
    (after : List ℕ) (answered : a ≡ (scan_reply ring s buffer).answer) (left : after ≡ (scan_reply ring s buffer).buffer)
    (number : outcome_number a.outcome ≡ scan_refusal ring s (length buffer)) where
  -- the ring told its reports
  abbrev all_told : Ring
  all_told = told_all ring (scan_reports s)

  number_is : (k : ℕ) → outcome_number a.outcome ≡ k → scan_refusal ring s sheet_room ≡ k
  number_is k e = ap (scan_refusal ring s) (sym full) ∙ sym number ∙ e

  next_good_scan : bad_ring a.ring ≡ false
  next_good_scan = rw answered (inner_scan_good ring good s buffer)

  module _ (served : a.outcome ≡ Ok tt) where
    reply_served : scan_reply ring s buffer ≡ served_reply all_told buffer
    unfolding scan_reply
    reply_served = rw (full, number_is 0 (ap outcome_number served))

    scan_given : Given all_told a after
    scan_given =
        served_given all_told (rw (told_size ring (scan_reports s)) (good_size ring good).1) buffer reply_served a after answered left

    -- what its line is made of
    pub scan_named : AllNamed ring.n a.choices × SheetBytes after
    scan_named = (rw (told_size ring (scan_reports s)) at scan_given.named, scan_given.sheet)

    -- j is the number that the code passes on
    pub scan_served : (j i : ℕ) (before out : List ℕ) (size : ℕ) → j ≡ i
        → out ≡ written (sheet_line j ring.n a.choices after) before
        → size ≡ length (sheet_line j ring.n a.choices after)
        → Answered i ring s before out a.ring size
    unfolding scan_text scan_ring
    scan_served j i before out size same_number e f =
        let same = told_size ring (scan_reports s) in
        let t = scan_given.shown i before out size (rw (same, ← same_number) e) (rw (same, ← same_number) f) in
        let z = number_is 0 (ap outcome_number served) in
        record { ring_is = rw z t.ring_is; good = next_good_scan; stored = rw z t.stored }

  module _ (refusal : Refusal) (refused : a.outcome ≡ Err refusal) where
    abbrev k : ℕ
    k = refusal_number refusal

    refusal_is : scan_refusal ring s sheet_room ≡ k
    refusal_is = number_is k (ap outcome_number refused)

    not_served : k ≢ 0
    unfolding scan_reply served_reply served_answer
    not_served e = served_refused {r = refusal} (ap (λ (x : RingAnswer). x.outcome) answered ∙ rw (full, refusal_is, e)) refused

    kept : a.ring ≡ ring
    unfolding scan_reply refused_reply refused_answer
    kept = ap (λ (x : RingAnswer). x.ring) answered ∙ rw (full, refusal_is, ne_eqb k 0 not_served)

    pub scan_unserved : (j i : ℕ) (before out : List ℕ) (size : ℕ) → j ≡ k → out ≡ written (refused_text j) before
        → size ≡ length (refused_text j) → Answered i ring s before out a.ring size
    unfolding scan_text scan_ring
    scan_unserved j i before out size same e f =
        let z = ne_eqb k 0 not_served in
        record {
          ring_is = rw (refusal_is, z) kept;
          good = next_good_scan;
          stored = rw (refusal_is, z, ← same) (record { bytes = e; sized = f });
        }
