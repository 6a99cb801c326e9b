-- The run of a file that is served: its lines, its reports and its rings. Reports are counted from 0.
use Rattle.std.specs.Prelude.{◌≡◌, Bool, true, false, cond, ◌⊎◌, ◌≢◌, eqb, ltb, length, get_or, take, drop, Result, Ok, Err}
use Rattle.std.specs.Prelude as std
use Rattle.model.specs.declared.Refusal.{Refusal}
use Rattle.model.specs.declared.FileHead.{FileHead}
use Rattle.model.specs.Values.{refusal_number}
use Rattle.std.proofs.Math.Path.{refl, sym, ap}
use Rattle.std.proofs.Common.{◌∙◌, inl, inr, arith, length-append}
use mathlib.Core.List.{List, [], ◌∷◌}
use Prim.Native.Nat.{ℕ, zero, suc, ◌+◌, ◌-◌, ◌≤◌, ◌<◌}
use Rattle.std.proofs.Math.Numerals.{add-one, add-two}
use Rattle.std.proofs.Math.ListN.{length-map}
use borrow.Author.Tests.{lt-ltb, ne_eqb}
use Rattle.model.specs.declared.Report.{Report}
use Rattle.model.specs.declared.Ring.{Ring}
use Rattle.model.specs.declared.RunCursor.{RunCursor}
use Rattle.model.specs.declared.RunPiece.{RunPiece}
use Rattle.model.specs.Lists.{below}
use Rattle.model.specs.Reports.{file_size, file_count, file_codes, file_words, blank_ring, told, with_plan}
use Rattle.model.specs.Refusals.{first_met, report_conditions, report_answer, report_refusal, reports_refusal, file_refusal, bad_ring}
use Rattle.model.specs.Answers.{report_at, file_answer}
use Rattle.model.specs.Text.{
  ascii,
  header,
  refused_text,
  line,
  transition_line,
  told_answer,
  run_ring,
  served_lines,
  refused_lines,
  run_lines,
  printed_run,
  run_left,
  ring_at,
  cursor_at,
  Within,
}
use Rattle.model.specs.Laws.Tests.{dec_eq}
use Rattle.model.specs.Laws.Lists.{below_length, map_below_at}
use Rattle.model.specs.Laws.Appended.{Stored}
use Rattle.model.specs.Laws.Reports.{ReadOrRefused, read_or_refused}
use Rattle.files.specs.Served.{or_else_lem, file_served, answer_refused, answer_served, stretches, counted}
use Rattle.calls.specs.Lines.{Shown}
use Rattle.calls.specs.Served.{start_good, next_good}
use Rattle.cursor.specs.Passed.{Passed}

-- ---- the reports of a file that is not refused are all read

-- an answer is a report that no condition meets
abbrev pub IsRead : ℕ → Result (std.Option Report) Refusal → Type 0
IsRead n a = (r : Report) × (a ≡ Ok (std.Some r)) × (first_met (report_conditions n r) ≡ 0)

number_read : (n c v : ℕ) → report_refusal n c v ≡ 0 → IsRead n (report_answer n c v)
unfolding report_refusal
number_read n c v e = go (read_or_refused n c v)
  where
    go : ReadOrRefused n (report_answer n c v) → IsRead n (report_answer n c v)
    go (inl t) = t
    go (inr t) = absurd (t.2 (rw (report_refusal, t.1) at e))

-- the i-th report of two stretches whose reports are not refused
all_read : (n : ℕ) (cs ws : List ℕ) → reports_refusal n cs ws ≡ 0 → (i : ℕ) → i < length cs → i < length ws
    → IsRead n (report_answer n (get_or cs i 0) (get_or ws i 0))
unfolding reports_refusal
all_read n [] ws e i p q = absurd (omega arith)
all_read n (c ∷ cs) [] e i p q = absurd (omega arith)
all_read n (c ∷ cs) (w ∷ ws) e zero p q = number_read n c w (or_else_lem (report_refusal n c w) (reports_refusal n cs ws) e).0
all_read n (c ∷ cs) (w ∷ ws) e (suc i) p q =
    all_read n cs ws (or_else_lem (report_refusal n c w) (reports_refusal n cs ws) e).1 i (omega arith) (omega arith)

module _ (f : List ℕ) (served : file_refusal f ≡ 0) where
  pub is_read : (i : ℕ) → i < file_count f → IsRead (file_size f) (report_at (file_size f) (file_codes f) (file_words f) i)
  unfolding report_at
  is_read i h =
      let s = file_served f served in
      let both = counted f s.whole in
      rw (lt-ltb i (length (file_codes f)) (omega arith), lt-ltb i (length (file_words f)) (omega arith))
      (all_read (file_size f) (file_codes f) (file_words f) s.reports i (omega arith) (omega arith))

  -- ---- its rings

  -- the ring of the next line, told the next report
  pub ring_next : (i : ℕ) (r : Report) → report_at (file_size f) (file_codes f) (file_words f) i ≡ Ok (std.Some r)
      → run_ring f (suc i) ≡ told (with_plan (run_ring f i)) r
  unfolding run_ring told_answer
  ring_next i r e = rw e

  -- the ring keeps its size, and its state behind each line is good
  pub ring_good : (i : ℕ) → i ≤ file_count f → ((run_ring f i).n ≡ file_size f) × (bad_ring (with_plan (run_ring f i)) ≡ false)
  unfolding run_ring blank_ring told with_plan
  ring_good zero h = let s = file_served f served in (refl, start_good (file_size f) s.big s.small)
  ring_good (suc i) h = go (ring_good i (omega arith)) (is_read i (omega arith))
    where
      go : ((run_ring f i).n ≡ file_size f) × (bad_ring (with_plan (run_ring f i)) ≡ false)
          → IsRead (file_size f) (report_at (file_size f) (file_codes f) (file_words f) i)
          → ((run_ring f (suc i)).n ≡ file_size f) × (bad_ring (with_plan (run_ring f (suc i))) ≡ false)
      go (size, good) (r, is, checked) =
          rw (ring_next i r is) (size, next_good (with_plan (run_ring f i)) good r (rw size checked))

  -- the answer to report i as the code asks for it: of the ring's size, and of the two stretches of a file that has m reports
  module _ {i m : ℕ} {ring : Ring} {a : Result (std.Option Report) Refusal} (few : i < file_count f) (count : m ≡ file_count f)
      (state : ring ≡ with_plan (run_ring f i))
      (answer : a ≡ report_at ring.n (take (3 + m - 3) (drop 3 f)) (take (length f - (3 + m)) (drop (3 + m) f)) i) where
    report_is : (a ≡ report_at (file_size f) (file_codes f) (file_words f) i) × (ring.n ≡ file_size f) × (bad_ring ring ≡ false)
    unfolding with_plan
    report_is =
        let good = ring_good i (omega arith) in
        let size : ring.n ≡ file_size f = rw state good.0 in
        let both = stretches f m (3 + m) count refl in
        (answer ∙ rw (size, both.0, both.1), size, rw state good.1)

    -- it is read, and the next ring is told it
    pub report_next : (r : Report) → a ≡ Ok (std.Some r)
        → (bad_ring ring ≡ false) × (first_met (report_conditions ring.n r) ≡ 0) × (run_ring f (i + 1) ≡ told ring r)
    report_next r e =
        let t = report_is in
        let (q, is, checked) = is_read i few in
        let y : Ok (std.Some q) ≡ Ok (std.Some r) = sym is ∙ sym t.0 ∙ e in
        let z : q ≡ r = cc in
        (t.2, rw (t.1, ← z) checked, rw (add-one, ring_next i q is, state, z))

    pub report_sure : {b : Result (std.Option Report) Refusal} → a ≡ b → ((r : Report) → Ok (std.Some r) ≢ b) → ⊥
    report_sure e ne = let (q, is, checked) = is_read i few in ne q (sym is ∙ sym report_is.0 ∙ e)

  -- ---- its lines

  pub lines_length : length (run_lines f) ≡ file_count f + 2
  unfolding run_lines served_lines
  lines_length =
      rw served
      (omega (arith, length-map (below (suc (file_count f))) (λ i. transition_line i (run_ring f i)), below_length (suc (file_count f))))

  pub header_at : get_or (run_lines f) 0 [] ≡ header (file_size f) (file_count f)
  unfolding run_lines served_lines
  header_at = rw served

  pub line_at : (i : ℕ) → i ≤ file_count f → get_or (run_lines f) (suc i) [] ≡ transition_line i (run_ring f i)
  unfolding run_lines served_lines
  line_at i h = rw served (map_below_at (λ j. transition_line j (run_ring f j)) (suc (file_count f)) i [] (omega arith))

-- a file that is refused has one line
pub refused_line : (f : List ℕ) → file_refusal f ≢ 0 → run_lines f ≡ refused_lines (file_refusal f)
unfolding run_lines
refused_line f e = rw (ne_eqb (file_refusal f) 0 e)

-- behind the first line only the run of a served file goes on
pub goes_on : (f : List ℕ) (k : ℕ) → 0 < k → k < length (run_lines f) → file_refusal f ≡ 0
unfolding refused_lines
goes_on f k p h = go (dec_eq (file_refusal f) 0)
  where
    go : (file_refusal f ≡ 0) ⊎ (file_refusal f ≢ 0) → file_refusal f ≡ 0
    go (inl e) = e
    go (inr e) = absurd (omega (arith, ap length (refused_line f e)))

-- a cursor of the run of a file
module _ {f : List ℕ} {c : RunCursor} (w : Within f c) where
  state_is : c.ring ≡ ring_at f c.place
  unfolding cursor_at
  state_is = ap (λ (x : RunCursor). x.ring) w.cursor

  pub first_state : c.place ≡ 0 → c.ring ≡ ring_at f 0
  first_state e = state_is ∙ ap (ring_at f) e

  pub behind_first : c.place ≢ 0 → (file_refusal f ≡ 0) × (c.place ≤ file_count f + 1)
  behind_first ne =
      let served = goes_on f c.place (omega (arith, ne)) w.more in
      (served, omega (arith, w.more, lines_length f served))

  pub report_state : (i : ℕ) → c.place ≡ i + 2 → c.ring ≡ with_plan (run_ring f i)
  unfolding ring_at
  report_state i e = state_is ∙ ap (ring_at f) (e ∙ add-two i)

-- no line is empty
line_some : (i : ℕ) (ring : Ring) → 0 < length (transition_line i ring)
unfolding transition_line line ascii
line_some i ring = simp length-append (omega arith)

header_some : (n m : ℕ) → 0 < length (header n m)
unfolding header ascii
header_some n m = omega arith

refused_some : (k : ℕ) → 0 < length (refused_text k)
unfolding refused_text ascii
refused_some k = omega arith

-- ---- the line at a place

module _ {f before after : List ℕ} {ring : Ring} {size : ℕ} {p : RunPiece} where
  -- at the first the refusal ..
  pub passed_refused : (k : Refusal) → file_answer f ≡ Err k → ring ≡ ring_at f 0
      → Stored (refused_text (refusal_number k)) before after size
      → p ≡ record { cursor = record { place = 1; ring = ring }; length = size; more = false } → Passed f 0 before after p
  unfolding cursor_at ring_at refused_lines
  passed_refused k a e s is =
      let t = answer_refused f k a in
      let l : run_lines f ≡ refused_text (refusal_number k) ∷ [] = rw t.1 (refused_line f t.0) in
      rw is (record { cursor = rw e; stored = rw l s; some = omega (arith, s.sized, refused_some (refusal_number k)); more = rw l })

  -- .. or the header
  pub passed_header : (head : FileHead) → file_answer f ≡ Ok head → ring ≡ ring_at f 0 → Stored (header head.n head.m) before after size
      → p ≡ record { cursor = record { place = 1; ring = ring }; length = size; more = true } → Passed f 0 before after p
  unfolding cursor_at ring_at
  passed_header head a e s is =
      let t = answer_served f head a in
      rw is (record {
        cursor = rw e;
        stored = rw (header_at f t.0, ← t.1, ← t.2) s;
        some = omega (arith, s.sized, header_some head.n head.m);
        more = sym (lt-ltb 1 (length (run_lines f)) (omega (arith, lines_length f t.0)));
      })

  -- behind it line i, of the ring that was told i reports
  pub passed_line : (i k next lines : ℕ) → file_refusal f ≡ 0 → i ≤ file_count f → Shown i (run_ring f i) before after ring size
      → p ≡ record { cursor = record { place = next; ring = ring }; length = size; more = ltb (k + 1) lines }
      → k ≡ i + 1 → next ≡ k + 1 → lines ≡ file_count f + 2 → Passed f k before after p
  unfolding cursor_at ring_at
  passed_line i k next lines served h s is e a l =
      rw (is, a, add-one, e, add-one) (record {
        cursor = rw s.ring_is;
        stored = rw (line_at f served i h) s.stored;
        some = omega (arith, s.stored.sized, line_some i (run_ring f i));
        more = rw (l, lines_length f served);
      })

-- ---- the beginning

-- every run has a line
pub lines_some : (f : List ℕ) → 0 < length (run_lines f)
unfolding run_lines served_lines refused_lines
lines_some f = go (eqb (file_refusal f) 0)
  where
    go : (t : Bool) → 0 < length (cond t (served_lines f) (refused_lines (file_refusal f)))
    go true = omega arith
    go false = omega arith

pub at_beginning : {ring : Ring} → ring ≡ blank_ring 0
    → let c : RunCursor = record { place = 0; ring = ring } in
    (c ≡ record { place = 0; ring = blank_ring 0 }) × ((f : List ℕ) → Within f c × (run_left f c.place ≡ printed_run f))
unfolding cursor_at ring_at run_left printed_run
at_beginning e = (rw e, λ f. (record { cursor = rw e; more = lines_some f }, refl))
