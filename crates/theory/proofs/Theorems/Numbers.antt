-- Document 02, Note 3: no call finds 7, no text prints it, and document 01's example of it is served.
use Rattle.std.specs.Prelude.{◌≡◌, refl, Bool, true, false, not, ◌&&◌, cond, ◌≢◌, ◌⊎◌, eqb, ltb, pos, length, get_or, drop, Ok, Err}
use Rattle.std.specs.Prelude as std
use Rattle.std.proofs.Common.{ap, inl, inr, arith, length-append, ltb-true, ltb-false, eq-eqb}
use mathlib.Core.List.{List, [], ◌∷◌, ◌++◌, map, flat_map, append_assoc, append-nil}
use Rattle.std.proofs.Math.Option.{Option, none, some}
use Prim.Native.Char.{code}
use Prim.Native.Nat.{ℕ, zero, suc, ◌+◌, ◌≤◌, ◌<◌, ◌/◌, ◌%◌}
use Rattle.std.specs.Float.{fin, binary64}
use Rattle.std.specs.Float.Ieee.{to_bits, lt, eq, le}
use Rattle.model.specs.declared.Part.{Part}
use Rattle.model.specs.declared.Part.TheVariants.{Generator}
use Rattle.model.specs.declared.Word.{Word}
use Rattle.model.specs.declared.Word.TheVariants.{Fit, StuckOpen}
use Rattle.model.specs.declared.Report.{Report}
use Rattle.model.specs.declared.Health.{Health}
use Rattle.model.specs.declared.Commands.{Commands}
use Rattle.model.specs.declared.Ring.{Ring}
use Rattle.model.specs.declared.RingState.{RingState}
use Rattle.model.specs.declared.Scan.{Scan}
use Rattle.model.specs.declared.Booking.{Booking}
use Rattle.model.specs.declared.Load.{Load}
use Rattle.model.specs.declared.Rate.TheVariants.{Chance, Unrated}
use Rattle.model.specs.declared.Rates.{Rates}
use Rattle.model.specs.declared.Exposure.{Exposure}
use Rattle.model.specs.declared.BookingAnswer.{BookingAnswer}
use Rattle.model.specs.Lists.{below, keep, first, any_of, all_of}
use Rattle.model.specs.Values.{Outcome, refusal_number, refusal_of, same_part, part_code, outcome_number, outcome_of, part_values, word_values, report_values, file_values}
use Rattle.model.specs.Plant.{parts, health_of_kind, next, up, arc, connected}
use Rattle.model.specs.Priority.{others, sources, path_bus_breakers, path_breakers, path_parts, high_rises, paths_from, paths}
use Rattle.model.specs.Choosing.{on_paths, usable, counted_closed, isolated, permitted, choose, add_path, chosen, choice_of, plan, commands, choices}
use Rattle.model.specs.Reports.{
  file_length,
  file_size,
  file_count,
  file_codes,
  file_words,
  part_named,
  word_named,
  health_of,
  commands_of,
  health_places,
  command_places,
  places,
  blank_ring,
  reported,
  told,
  planned,
  with_plan,
}
use Rattle.model.specs.Refusals.{
  first_met,
  or_else,
  size_outside,
  not_of_ring,
  word_of_other_kind,
  too_short,
  health_outside,
  active_above,
  locked_above,
  unplanned,
  bad_ring,
  bus_outside,
  count_above,
  report_conditions,
  sheet_refusal,
  start_refusal,
  step_refusal,
  feeds_refusal,
  report_of,
  report_answer,
  report_refusal,
  reports_refusal,
  file_refusal,
}
use Rattle.model.specs.Answers.{
  Reply,
  part_answer,
  word_answer,
  report_at,
  file_answer,
  feeds_answer,
  refused_answer,
  refused_reply,
  served_answer,
  served_reply,
  reply_by,
  start_reply,
  step_reply,
}
use Rattle.model.specs.Scans.{scan_reports, told_all, first_refusal, scan_refusal, scan_reply}
use Rattle.model.specs.Bookings.{
  live_bookings,
  no_load,
  total_watts,
  watts_of,
  with_figures,
  with_booking,
  without_booking,
  watts_outside,
  is_live,
  no_place,
  live_twice,
  booking_outside,
  other_figures,
  bad_load,
}
use Rattle.model.specs.States.{
  StateReply,
  unloaded,
  told_state,
  reckoned,
  bad_record,
  state_refusal,
  refused_state,
  served_state,
  state_by,
  state_start,
  state_step,
  state_scan,
  book_refusal,
  cancel_refusal,
  booking_by,
  book_answer,
  cancel_answer,
}
use Rattle.model.specs.CutSets.{
  can_fail,
  further_faults,
  with_faults,
  darkens,
  subsets,
  proper_subsets,
  minimal,
  of_size,
  sizes_below,
  cut_sets,
  ring_cut_sets,
  CutSetsReply,
  cut_sets_refusal,
  refused_cut_sets,
  served_cut_sets,
  cut_sets_reply,
}
use Rattle.model.specs.Exposure.{
  rate_of,
  rate_outside,
  some_outside,
  is_unrated,
  unrated_listed,
  exposure_refusal,
  exposure_answer,
}
use Rattle.model.specs.Text.{
  ascii,
  digits,
  decimal,
  line,
  transition_line,
  header,
  refused_text,
  served_lines,
  refused_lines,
  run_lines,
  joined,
  printed_run,
}
use Rattle.model.specs.CutText.{count_line, cut_text, latest_ring, printed_cut_sets}
use Rattle.model.specs.ExposureText.{hex_digits, bits_text, exposure_text, answered_text, exposure_line, bus_exposure_line, exposure_lines, printed_exposures}
use Rattle.model.specs.ScanText.{sheet_room, scan_text}
use Rattle.model.specs.Laws.Refusals.{number_of_refusal}
use Rattle.model.specs.Laws.Tests.{contra, dec, by_cond}
use Rattle.model.specs.Laws.Digits.{hex_length}
use Rattle.theory.specs.Statements.Recipe.{by_kind}
use Rattle.theory.specs.Statements.Numbers.{NeverGiven}
use Rattle.theory.proofs.Theorems.Exposure.{rated}

-- ---- of conditions

module _ (k : ℕ) where
  -- a number that the test tells from k
  pub other : (i : ℕ) → not (eqb i k) ≡ true → i ≢ k
  other i e z = contra e (ap not (eq-eqb i k z))

  -- a condition of number i before others
  pub more : (met : Bool) (i j : ℕ) → not (eqb i k) ≡ true → j ≢ k → cond met i j ≢ k
  more true i j e p = other i e
  more false i j e p = p

  pub or_never : (i j : ℕ) → i ≢ k → j ≢ k → or_else i j ≢ k
  or_never i j p q = by_cond (λ l. l ≢ k) (eqb i 0) (λ t. q) (λ t. p)

  -- ---- a number that no report has: not 0, 5 or 6

  module _ (zero : not (eqb 0 k) ≡ true) (five : not (eqb 5 k) ≡ true) (six : not (eqb 6 k) ≡ true) where
    report_never : (n : ℕ) (r : Report) → first_met (report_conditions n r) ≢ k
    unfolding report_conditions first_met
    report_never n r = more (not_of_ring n r.part) 5 _ five (more (word_of_other_kind r.part _) 6 _ six (other 0 zero))

    -- a report by its code and its word
    read_never : (n : ℕ) (o : Option Part) (u : Option Word) → (report_values (report_of n o u)).0 ≢ k
    unfolding report_of
    read_never n none u = other 5 five
    read_never n (some p) none = other 6 six
    read_never n (some p) (some w) =
        let r : Report = record { part = p; word = w } in
        let j = first_met (report_conditions n r) in
        by_cond (λ a. (report_values a).0 ≢ k) (eqb j 0) (λ t. other 0 zero)
        (λ t. rw (number_of_refusal j) (report_never n r))

    pub reports_never : (n : ℕ) (cs vs : List ℕ) → reports_refusal n cs vs ≢ k
    unfolding reports_refusal report_refusal report_answer
    reports_never n [] vs = other 0 zero
    reports_never n (c ∷ cs) [] = other 0 zero
    reports_never n (c ∷ cs) (v ∷ vs) = or_never _ _ (read_never n (part_named n c) (word_named v)) (reports_never n cs vs)

-- ---- the refusals

served : ◌≢◌ {A = ℕ} 0 7
served = other 7 0 refl

file_never : (f : List ℕ) → file_refusal f ≢ 7
unfolding file_refusal first_met
file_never f =
    or_never 7 _ _
    (more 7 (ltb (file_length f) 3) 1 _ refl
    (more 7 (size_outside (file_size f)) 2 _ refl
    (more 7 (ltb 4096 (file_count f)) 3 _ refl (more 7 (not (eqb (file_length f) _)) 4 _ refl served))))
    (reports_never 7 refl refl refl (file_size f) (file_codes f) (file_words f))

sheet_never : (room : ℕ) (bytes : List ℕ) → sheet_refusal room bytes ≢ 7
unfolding sheet_refusal first_met
sheet_never room bytes = more 7 (too_short room bytes) 8 _ refl served

first_never : (n : ℕ) (rs : List Report) → first_refusal n rs ≢ 7
unfolding first_refusal
first_never n [] = served
first_never n (r ∷ rs) = or_never 7 _ _ (report_never 7 refl refl refl n r) (first_never n rs)

start_never : (n room : ℕ) → start_refusal n room ≢ 7
unfolding start_refusal first_met
start_never n room = more 7 (size_outside n) 2 _ refl (more 7 (too_short room _) 8 _ refl served)

step_never : (ring : Ring) (r : Report) (room : ℕ) → step_refusal ring r room ≢ 7
unfolding step_refusal report_conditions first_met
step_never ring r room =
    more 7 (bad_ring ring) 9 _ refl
    (more 7 (not_of_ring ring.n r.part) 5 _ refl
    (more 7 (word_of_other_kind r.part _) 6 _ refl (more 7 (too_short room _) 8 _ refl served)))

scan_never : (ring : Ring) (s : Scan) (room : ℕ) → scan_refusal ring s room ≢ 7
unfolding scan_refusal first_met
scan_never ring s room =
    or_never 7 _ _ (more 7 (bad_ring ring) 9 _ refl (more 7 (count_above s.count) 11 _ refl served))
    (or_never 7 _ _ (first_never ring.n (scan_reports s)) (sheet_never room _))

feeds_never : (n : ℕ) (h : Health) → feeds_refusal n (health_of h) ≢ 7
unfolding feeds_refusal first_met
feeds_never n h = more 7 (size_outside n) 2 _ refl (more 7 (health_outside (health_of h) _) 9 _ refl served)

list_never : (state : RingState) (bus room : ℕ) → cut_sets_refusal state bus room ≢ 7
unfolding cut_sets_refusal first_met
list_never state bus room =
    more 7 (bad_record state) 9 _ refl (more 7 (bus_outside state.ring.n bus) 10 _ refl (more 7 (too_short room _) 8 _ refl served))

exposure_never : (state : RingState) (bus : ℕ) (r : Rates) → exposure_refusal state bus r ≢ 7
unfolding exposure_refusal first_met
exposure_never state bus r =
    more 7 (bad_record state) 9 _ refl
    (more 7 (bus_outside state.ring.n bus) 10 _ refl
    (more 7 (some_outside state.ring.n r) 15 _ refl (more 7 (unrated_listed r _) 16 _ refl served)))

-- 9 of a ring state, then what else is refused
state_never : (state : RingState) (k : ℕ) → k ≢ 7 → state_refusal state k ≢ 7
unfolding state_refusal first_met
state_never state k p = or_never 7 _ k (more 7 (bad_record state) 9 _ refl served) p

book_never : (state : RingState) (b : Booking) → book_refusal state b ≢ 7
unfolding book_refusal first_met
book_never state b =
    more 7 (bad_record state) 9 _ refl
    (more 7 (bus_outside state.ring.n b.bus) 10 _ refl
    (more 7 (watts_outside b.watts) 12 _ refl
    (more 7 (is_live (live_bookings state.load) b.number) 13 _ refl (more 7 (no_place state.load) 14 _ refl served))))

cancel_never : (state : RingState) (v : ℕ) → cancel_refusal state v ≢ 7
unfolding cancel_refusal first_met
cancel_never state v = more 7 (bad_record state) 9 _ refl (more 7 (not (is_live (live_bookings state.load) v)) 13 _ refl served)

-- ---- the answers

-- a refusal's number is 7 only where a call's own is
numbered_never : (j : ℕ) → j ≢ 7 → refusal_number (refusal_of j) ≢ 7
numbered_never j p = rw (number_of_refusal j) p

outcome_never : (j : ℕ) → j ≢ 7 → outcome_number (outcome_of j) ≢ 7
unfolding outcome_of
outcome_never j p = by_cond (λ o. outcome_number o ≢ 7) (eqb j 0) (λ t. served) (λ t. numbered_never j p)

reply_never : (j : ℕ) (ring kept : Ring) (buffer : List ℕ) → j ≢ 7 → outcome_number (reply_by j ring kept buffer).answer.outcome ≢ 7
unfolding served_reply served_answer refused_reply refused_answer
reply_never j ring kept buffer p =
    by_cond (λ (x : Reply). outcome_number x.answer.outcome ≢ 7) (eqb j 0) (λ t. served) (λ t. numbered_never j p)

by_never : (j : ℕ) (state kept : RingState) (buffer : List ℕ) → j ≢ 7 → outcome_number (state_by j state kept buffer).answer.outcome ≢ 7
unfolding served_state refused_state
by_never j state kept buffer p =
    by_cond (λ (x : StateReply). outcome_number x.answer.outcome ≢ 7) (eqb j 0) (λ t. served) (λ t. numbered_never j p)

booking_never : (j : ℕ) (state : RingState) (load : Load) → j ≢ 7 → outcome_number (booking_by j state load).outcome ≢ 7
booking_never j state load p = by_cond (λ (x : BookingAnswer). outcome_number x.outcome ≢ 7) (eqb j 0) (λ t. served) (λ t. numbered_never j p)

named_never : (o : Option Part) → (part_values (part_answer o)).0 ≢ 7
unfolding part_answer
named_never none = λ z. omega arith
named_never (some p) = served

word_never : (o : Option Word) → (word_values (word_answer o)).0 ≢ 7
unfolding word_answer
word_never none = λ z. omega arith
word_never (some w) = served

file_answer_never : (f : List ℕ) → (file_values (file_answer f)).0 ≢ 7
unfolding file_answer
file_answer_never f = by_cond (λ a. (file_values a).0 ≢ 7) (eqb (file_refusal f) 0) (λ t. served) (λ t. numbered_never (file_refusal f) (file_never f))

at_never : (n : ℕ) (cs vs : List ℕ) (i : ℕ) → (report_values (report_at n cs vs i)).0 ≢ 7
unfolding report_at report_answer
at_never n cs vs i = go (ltb i (length cs) && ltb i (length vs))
  where
    go : (within : Bool) → (report_values (cond within (report_answer n (get_or cs i 0) (get_or vs i 0)) (Ok std.None))).0 ≢ 7
    go true = read_never 7 refl refl refl n (part_named n (get_or cs i 0)) (word_named (get_or vs i 0))
    go false = served

feeds_answer_never : (n : ℕ) (h : Health) (c : Commands) → outcome_number (feeds_answer n h c).outcome ≢ 7
unfolding feeds_answer
feeds_answer_never n h c = outcome_never _ (feeds_never n h)

list_answer_never : (state : RingState) (bus : ℕ) (buffer : List ℕ) → outcome_number (cut_sets_reply state bus buffer).answer.outcome ≢ 7
unfolding cut_sets_reply served_cut_sets refused_cut_sets
list_answer_never state bus buffer = go (cut_sets_refusal state bus (length buffer)) (list_never state bus (length buffer))
  where
    go : (j : ℕ) → j ≢ 7
        → outcome_number (cond (eqb j 0) (served_cut_sets (ring_cut_sets state.ring bus) buffer) (refused_cut_sets j buffer)).answer.outcome ≢ 7
    go j p = by_cond (λ (x : CutSetsReply). outcome_number x.answer.outcome ≢ 7) (eqb j 0) (λ t. served) (λ t. numbered_never j p)

-- ---- the texts

-- a number has a digit at least
digits_some : (d k : ℕ) → 0 < d → 0 < length (digits d k)
unfolding digits
digits_some zero k l = absurd (omega arith)
digits_some (suc d) k l = go (ltb k 10)
  where
    go : (t : Bool) → 0 < length (cond t ((code "0" + k) ∷ []) (digits d (k / 10) ++ ((code "0" + k % 10) ∷ [])))
    go true = omega arith
    go false = simp length-append (omega arith)

-- its first byte is a digit
digit_first : (d k : ℕ) (rest : List ℕ) → get_or (digits (suc d) k ++ rest) 0 0 ≤ 57
unfolding digits
digit_first zero k rest = go (dec (ltb k 10))
  where
    go : (ltb k 10 ≡ true) ⊎ (ltb k 10 ≡ false) → get_or (cond (ltb k 10) ((code "0" + k) ∷ []) ((code "0" + k % 10) ∷ []) ++ rest) 0 0 ≤ 57
    go (inl t) = rw t (omega (arith, ltb-true k 10 t))
    go (inr t) = rw t (omega arith)
digit_first (suc d) k rest = go (dec (ltb k 10)) (digit_first d (k / 10) ((code "0" + k % 10) ∷ rest))
  where
    go : (ltb k 10 ≡ true) ⊎ (ltb k 10 ≡ false) → get_or (digits (suc d) (k / 10) ++ ((code "0" + k % 10) ∷ rest)) 0 0 ≤ 57
        → get_or (cond (ltb k 10) ((code "0" + k) ∷ []) (digits (suc d) (k / 10) ++ ((code "0" + k % 10) ∷ [])) ++ rest) 0 0 ≤ 57
    go (inl t) h = rw t (omega (arith, ltb-true k 10 t))
    go (inr t) h = rw (t, append_assoc (digits (suc d) (k / 10)) ((code "0" + k % 10) ∷ []) rest) h

-- only the number 7 reads `refused 7`
text_never : (j : ℕ) → j ≢ 7 → refused_text j ≢ refused_text 7
unfolding refused_text decimal ascii digits
text_never j p e = go (dec (ltb j 10)) (ap (drop 8) e)
  where
    front : List ℕ
    front = digits j (j / 10)

    last : List ℕ
    last = (code "0" + j % 10) ∷ []

    long : 10 ≤ j → length ((front ++ last) ++ (10 ∷ [])) ≡ 2 → ⊥
    long l q = omega (arith, length-append (front ++ last) (10 ∷ []), length-append front last, digits_some j (j / 10) (omega arith))

    go : (ltb j 10 ≡ true) ⊎ (ltb j 10 ≡ false) → cond (ltb j 10) ((code "0" + j) ∷ []) (front ++ last) ++ (10 ∷ []) ≡ 55 ∷ 10 ∷ [] → ⊥
    go (inl t) q = p (let f : code "0" + j ≡ 55 = ap (λ l. get_or l 0 0) (rw t at q) in omega arith)
    go (inr t) q = long (ltb-false j 10 t) (ap length (rw t at q))

-- a served run begins with `ring`
run_never : (f : List ℕ) → printed_run f ≢ refused_text 7
unfolding printed_run run_lines served_lines refused_lines joined header refused_text ascii
run_never f = by_cond (λ ls. joined ls ≢ refused_text 7) (eqb (file_refusal f) 0) (λ t e. ring e) (λ t. refused)
  where
    ring : joined (served_lines f) ≡ refused_text 7 → ⊥
    ring e = let second : code "i" ≡ code "e" = ap (λ l. get_or l 1 0) e in omega arith

    refused : joined (refused_lines (file_refusal f)) ≢ refused_text 7
    refused = rw (append-nil (refused_text (file_refusal f))) (text_never (file_refusal f) (file_never f))

-- served cut sets begin with a bus
buses_never : (sets : ℕ → List (List Part)) (bs : List ℕ) → joined (map (λ b. cut_text (suc b) (sets b)) bs) ≢ refused_text 7
unfolding joined cut_text count_line refused_text ascii
buses_never sets [] e = let first : 0 ≡ code "r" = ap (λ l. get_or l 0 0) e in omega arith
buses_never sets (b ∷ bs) e = let first : code "B" ≡ code "r" = ap (λ l. get_or l 0 0) e in omega arith

cuts_never : (f : List ℕ) → printed_cut_sets f ≢ refused_text 7
unfolding printed_cut_sets
cuts_never f =
    by_cond (λ text. text ≢ refused_text 7) (eqb (file_refusal f) 0) (λ t. buses_never (λ b. ring_cut_sets (latest_ring f) (suc b)) (below (file_size f)))
    (λ t. text_never (file_refusal f) (file_never f))

-- served chances of a dark hour begin with a bus
chances_never : (r : Rates) (ring : Ring) (bs : List ℕ) → joined (map (λ b. bus_exposure_line r ring (suc b)) bs) ≢ refused_text 7
unfolding joined bus_exposure_line exposure_line refused_text ascii
chances_never r ring [] e = let first : 0 ≡ code "r" = ap (λ l. get_or l 0 0) e in omega arith
chances_never r ring (b ∷ bs) e = let first : code "B" ≡ code "r" = ap (λ l. get_or l 0 0) e in omega arith

exposures_never : (r : Rates) (f : List ℕ) → printed_exposures r f ≢ refused_text 7
unfolding printed_exposures exposure_lines
exposures_never r f =
    by_cond (λ text. text ≢ refused_text 7) (eqb (file_refusal f) 0) (λ t. chances_never r (latest_ring f) (below (file_size f)))
    (λ t. text_never (file_refusal f) (file_never f))

longer : (b rest t : List ℕ) → b ++ rest ≡ t → length b ≤ length t
longer b rest t e = omega (arith, ap length e, length-append b rest)

-- and a bus's figures are longer than a refusal
answered_never : (o : Outcome) (e : Exposure) → outcome_number o ≢ 7 → answered_text o e ≢ refused_text 7
unfolding answered_text exposure_text bits_text refused_text decimal digits ascii
answered_never (Ok _) e p q =
    let b = hex_digits 16 (to_bits binary64 e.sum) in
    let l : length b ≤ length (refused_text 7) = longer b _ (refused_text 7) q in
    omega (arith, hex_length 16 (to_bits binary64 e.sum))
answered_never (Err r) e p q = text_never (refusal_number r) p q

-- a served scan's line begins with its number
begins : (i : ℕ) (rest text : List ℕ) → decimal i ++ rest ≡ text → get_or text 0 0 ≤ 57
unfolding decimal
begins i rest text e = rw (← e) (digit_first i i rest)

line_never : (i : ℕ) (ring : Ring) → transition_line i ring ≢ refused_text 7
unfolding transition_line line refused_text ascii
line_never i ring e = let first : code "r" ≤ 57 = begins i _ (refused_text 7) e in omega arith

scan_text_never : (i : ℕ) (ring : Ring) (s : Scan) → scan_text i ring s ≢ refused_text 7
unfolding scan_text
scan_text_never i ring s =
    by_cond (λ text. text ≢ refused_text 7) (eqb (scan_refusal ring s sheet_room) 0) (λ t. line_never i (told_all ring (scan_reports s)))
    (λ t. text_never (scan_refusal ring s sheet_room) (scan_never ring s sheet_room))

-- ---- "refusal 7 is given to no input any more"

pub never_seven : NeverGiven 7
unfolding state_start state_step state_scan book_answer cancel_answer start_reply step_reply scan_reply exposure_answer
never_seven = record {
  check_file = file_answer_never;
  ring_after = λ file. outcome_never (file_refusal file) (file_never file);
  part_of = λ n code. named_never (part_named n code);
  word_of = λ byte. word_never (word_named byte);
  report_at_lem = at_never;
  check_report = λ n r. outcome_never _ (report_never 7 refl refl refl n r);
  feeds = feeds_answer_never;
  start = λ n buffer. by_never _ (unloaded (blank_ring n)) (unloaded (blank_ring 0)) buffer (start_never n (length buffer));
  step = λ state r buffer.
      by_never _ (told_state state (r ∷ [])) state buffer (state_never state _ (step_never state.ring r (length buffer)));
  scan = λ state s buffer.
      by_never _ (told_state state (scan_reports s)) state buffer (state_never state _ (scan_never state.ring s (length buffer)));
  book = λ state b. booking_never _ state (with_booking state.load b) (book_never state b);
  cancel = λ state v. booking_never _ state (without_booking state.load v) (cancel_never state v);
  inner_start = λ n buffer. reply_never _ (blank_ring n) (blank_ring 0) buffer (start_never n (length buffer));
  inner_step = λ ring r buffer. reply_never _ (told ring r) ring buffer (step_never ring r (length buffer));
  inner_scan = λ ring s buffer. reply_never _ (told_all ring (scan_reports s)) ring buffer (scan_never ring s (length buffer));
  check = λ n rs. outcome_never _ (first_never n rs);
  write = λ bytes buffer. outcome_never _ (sheet_never (length buffer) bytes);
  list = list_answer_never;
  of_bus = λ state bus r. outcome_never _ (exposure_never state bus r);
  printed_run_lem = run_never;
  printed_cut_sets_lem = cuts_never;
  printed_exposures_lem = exposures_never;
  answered_text_lem = λ state bus r. answered_never _ _ (outcome_never _ (exposure_never state bus r));
  scan_text_lem = scan_text_never;
}

-- document 01's example of 7, `3 1 0 0 0`, is served
pub example_served : file_answer (3 ∷ 1 ∷ 0 ∷ 0 ∷ 0 ∷ []) ≡ Ok (record { n = 3; m = 1 })
unfolding file_answer file_refusal first_met size_outside reports_refusal report_refusal report_answer report_of report_conditions not_of_ring word_of_other_kind
    part_named part_code parts below first word_named
example_served = refl

-- a started ring of three, without bookings
started : RingState
started = unloaded (with_plan (blank_ring 3))

-- .. a ring state of two buses
abbrev small : RingState
small = unloaded (blank_ring 2)

-- .. and with 64 bookings on bus 1
abbrev booking : ℕ → Booking
booking v = record { number = v; bus = 1; watts = 1 }

full : RingState
full = reckoned started.ring (record { bookings = map booking (below 64); live = 64; watts = []; dark_watts = 0 })

-- a report that 5 meets, and one that 6 meets
abbrev no_part : Report
no_part = record { part = Generator 4; word = Fit }

abbrev no_word : Report
no_word = record { part = Generator 1; word = StuckOpen }

-- every other number of the table is given: document 01's examples, and of document 02 bus 0, a count of 65, a booking without watts, a
-- cancellation of what is not live, a 65th booking, a chance of 2.0, and unrated parts
pub others_given : (NeverGiven 1 → ⊥) × (NeverGiven 2 → ⊥) × (NeverGiven 3 → ⊥) × (NeverGiven 4 → ⊥) × (NeverGiven 5 → ⊥)
    × (NeverGiven 6 → ⊥) × (NeverGiven 8 → ⊥) × (NeverGiven 9 → ⊥) × (NeverGiven 10 → ⊥) × (NeverGiven 11 → ⊥) × (NeverGiven 12 → ⊥)
    × (NeverGiven 13 → ⊥) × (NeverGiven 14 → ⊥) × (NeverGiven 15 → ⊥) × (NeverGiven 16 → ⊥)
unfolding file_answer file_refusal first_met size_outside reports_refusal report_refusal report_answer report_of report_conditions not_of_ring word_of_other_kind
    part_named part_code parts below first word_named outcome_of refusal_of sheet_refusal too_short cut_sets_reply cut_sets_refusal bad_ring any_of blank_ring
    refused_cut_sets started with_plan planned commands on_paths chosen add_path choose permitted isolated counted_closed usable paths paths_from
    high_rises path_parts path_breakers path_bus_breakers sources others flat_map connected arc up next same_part all_of keep places health_of
    commands_of health_places command_places health_outside health_of_kind active_above locked_above unplanned bus_outside scan_refusal count_above full
    unloaded no_load reckoned with_figures watts_of total_watts state_refusal bad_record bad_load live_twice is_live booking_outside watts_outside
    other_figures no_place state_scan refused_state book_answer book_refusal cancel_answer cancel_refusal choices choice_of plan
    exposure_answer exposure_refusal some_outside rate_of by_kind rate_outside lt eq le unrated_listed is_unrated
    ring_cut_sets cut_sets minimal darkens with_faults reported further_faults can_fail subsets proper_subsets of_size sizes_below
others_given = (
  λ never. never.check_file (3 ∷ 0 ∷ []) refl,
  λ never. never.check_file (2 ∷ 0 ∷ 0 ∷ []) refl,
  λ never. never.check_file (3 ∷ 1 ∷ 16 ∷ []) refl,
  λ never. never.check_file (3 ∷ 1 ∷ 0 ∷ 64 ∷ []) refl,
  λ never. never.check_file (3 ∷ 1 ∷ 0 ∷ 3 ∷ 1 ∷ []) refl,
  λ never. never.check_file (3 ∷ 1 ∷ 0 ∷ 64 ∷ 1 ∷ []) refl,
  λ never. never.write (0 ∷ 0 ∷ []) (0 ∷ []) refl,
  λ never. never.list small 1 [] refl,
  λ never. never.list started 0 [] refl,
  λ never. never.scan started (record { reports = []; count = 65 }) [] refl,
  λ never. never.book started (record { number = 0; bus = 1; watts = 0 }) refl,
  λ never. never.cancel started 0 refl,
  λ never. never.book full (booking 64) refl,
  λ never. never.of_bus started 1 (rated (Chance (fin false 1 (pos 1)))) refl,
  λ never. never.of_bus started 1 (rated Unrated) refl,
)

-- every other call and text gives one of them
pub each_gives : (NeverGiven 1 → ⊥) × (NeverGiven 5 → ⊥) × (NeverGiven 6 → ⊥) × (NeverGiven 5 → ⊥) × (NeverGiven 6 → ⊥)
    × (NeverGiven 2 → ⊥) × (NeverGiven 2 → ⊥) × (NeverGiven 9 → ⊥) × (NeverGiven 2 → ⊥) × (NeverGiven 9 → ⊥) × (NeverGiven 9 → ⊥)
    × (NeverGiven 5 → ⊥) × (NeverGiven 1 → ⊥) × (NeverGiven 1 → ⊥) × (NeverGiven 1 → ⊥) × (NeverGiven 9 → ⊥) × (NeverGiven 9 → ⊥)
unfolding file_refusal first_met size_outside report_refusal report_answer report_of report_conditions not_of_ring word_of_other_kind part_answer
    word_answer part_named part_code parts below first word_named outcome_of refusal_of report_at feeds_answer feeds_refusal start_reply start_refusal step_reply
    step_refusal refused_reply refused_answer bad_ring any_of blank_ring first_refusal printed_run run_lines refused_lines joined printed_cut_sets
    printed_exposures answered_text exposure_answer exposure_refusal scan_text scan_reply scan_refusal state_start state_step state_refusal refused_state
    bad_record unloaded
each_gives = (
  λ never. never.ring_after (3 ∷ 0 ∷ []) refl,
  λ never. never.part_of 3 3 refl,
  λ never. never.word_of 6 refl,
  λ never. never.report_at_lem 3 (3 ∷ []) (1 ∷ []) 0 refl,
  λ never. never.check_report 3 no_word refl,
  λ never. never.feeds 2 (blank_ring 2).health (blank_ring 2).commands refl,
  λ never. never.start 2 [] refl,
  λ never. never.step small no_part [] refl,
  λ never. never.inner_start 2 [] refl,
  λ never. never.inner_step (blank_ring 2) no_part [] refl,
  λ never. never.inner_scan (blank_ring 2) (record { reports = []; count = 0 }) [] refl,
  λ never. never.check 3 (no_part ∷ []) refl,
  λ never. never.printed_run_lem (3 ∷ 0 ∷ []) (append-nil (refused_text 1)),
  λ never. never.printed_cut_sets_lem (3 ∷ 0 ∷ []) refl,
  λ never. never.printed_exposures_lem (rated Unrated) (3 ∷ 0 ∷ []) refl,
  λ never. never.answered_text_lem (unloaded (blank_ring 2)) 1 (rated Unrated) refl,
  λ never. never.scan_text_lem 1 (blank_ring 2) (record { reports = []; count = 0 }) refl,
)
