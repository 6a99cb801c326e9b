-- Wrong controllers: the right one spoilt in what it gives at a start, a step or a scan.
use Rattle.std.specs.Prelude.{Bool, true, false, not, ◌||◌, cond, List, [], ◌∷◌, ◌++◌, map, ℕ, eqb, length, take, drop, set}
use Rattle.model.specs.declared.Part.{Part}
use Rattle.model.specs.declared.Part.TheVariants.{Generator, GeneratorBreaker, BusBreaker}
use Rattle.model.specs.declared.Word.TheVariants.{StuckOff, Fit, StuckOpen, StuckClosed, Lock, Unlock}
use Rattle.model.specs.declared.Report.{Report}
use Rattle.model.specs.declared.Scan.{Scan}
use Rattle.model.specs.declared.Ring.{Ring}
use Rattle.model.specs.declared.Word.{Word}
use Rattle.model.specs.Lists.{keep, any_of}
use Rattle.model.specs.Choosing.{plan, choices}
use Rattle.model.specs.Sheet.{closing, sheet_of, written}
use Rattle.model.specs.Reports.{all_fit, health_of, commands_of, command_places, blank_ring, planned, with_plan, told}
use Rattle.model.specs.Refusals.{first_met, too_short, next_sheet, report_conditions}
use Rattle.model.specs.Answers.{all_dark}
use Rattle.model.specs.Scans.{scan_reports, told_all, first_refusal}
use Rattle.model.specs.States.{unloaded, told_state, StateReply, served_by, refused_by}
use Rattle.demands.specs.Statements.Demand3.{Controller}
use Rattle.designs.specs.Spoilt.{
  start_spoilt,
  step_spoilt,
  scan_spoilt,
  when_refused,
  when_served,
  of_ring,
  with_ring,
  with_choices,
  with_buffer,
  start_serving,
  step_serving,
  scan_serving,
}

-- a sheet of two sizes and some operations, each its code and its command
unfoldable pub sheet_with : ℕ → ℕ → List (ℕ × ℕ) → List ℕ → List ℕ
sheet_with k l os buffer = written (k ∷ l ∷ (map (λ o. o.0) os ++ map (λ o. o.1) os)) buffer

-- every served start writes this sheet, or every served step
unfoldable pub start_writes : ℕ → ℕ → List (ℕ × ℕ) → Controller
start_writes k l os = start_serving (with_buffer (sheet_with k l os))

-- the orders of a start at n = 3, and BB1 closed and opened behind them: closed, it joins G1 to G2
abbrev pub joining : List (ℕ × ℕ)
joining = (0, 1) ∷ (32, 1) ∷ (1, 1) ∷ (33, 1) ∷ (65, 1) ∷ (64, 1) ∷ (64, 0) ∷ []

unfoldable pub step_writes : ℕ → ℕ → List (ℕ × ℕ) → Controller
step_writes k l os = step_serving (with_buffer (sheet_with k l os))

-- bytes of a buffer altered: its first, its last of 122, one more
abbrev pub first_byte : List ℕ → List ℕ
first_byte buffer = 1 ∷ drop 1 buffer

abbrev pub last_byte : List ℕ → List ℕ
last_byte buffer = take 121 buffer ++ (1 ∷ [])

abbrev pub one_more : List ℕ → List ℕ
one_more buffer = buffer ++ (0 ∷ [])

-- a ring altered: its size; G4 stuck off; GB4 closed
abbrev pub larger_ring : Ring → Ring
larger_ring ring = record { n = 4; health = ring.health; commands = ring.commands }

abbrev pub fault_above : Ring → Ring
fault_above ring =
    let h = ring.health in
    record {
      n = ring.n;
      health = record {
        generators = set h.generators 3 1;
        generator_breakers = h.generator_breakers;
        bus_breakers = h.bus_breakers;
        locked = h.locked;
      };
      commands = ring.commands;
    }

-- .. other locks; none; G4's
abbrev pub with_locks : (List Bool → List Bool) → Ring → Ring
with_locks f ring =
    let h = ring.health in
    record {
      n = ring.n;
      health = record {
        generators = h.generators;
        generator_breakers = h.generator_breakers;
        bus_breakers = h.bus_breakers;
        locked = f h.locked;
      };
      commands = ring.commands;
    }

abbrev pub unlocked_ring : Ring → Ring
unlocked_ring ring = with_locks (map (λ l. false)) ring

abbrev pub lock_above : Ring → Ring
lock_above ring = with_locks (λ ls. set ls 3 true) ring

abbrev pub command_above : Ring → Ring
command_above ring =
    let c = ring.commands in
    record {
      n = ring.n;
      health = ring.health;
      commands = record {
        generators = c.generators;
        generator_breakers = set c.generator_breakers 3 true;
        bus_breakers = c.bus_breakers;
      };
    }

-- shows the choices of a ring of three without faults, or none
unfoldable pub fit_choices : StateReply → StateReply
fit_choices reply = with_choices (choices 3 all_fit) reply

unfoldable pub no_choices : StateReply → StateReply
no_choices reply = with_choices all_dark reply

-- refuses the start of a ring of 20, every start, every report
unfoldable pub refuses_twenty : Controller
refuses_twenty = start_spoilt (λ n buffer reply. cond (eqb n 20) (refused_by 5 (unloaded (blank_ring 0)) buffer) reply)

unfoldable pub refuses_starts : Controller
refuses_starts = start_spoilt (λ n buffer reply. refused_by 2 (unloaded (blank_ring 0)) buffer)

unfoldable pub refuses_reports : Controller
refuses_reports = step_spoilt (λ state r buffer reply. refused_by 5 state buffer)

-- serves every start, every report
unfoldable pub serves_starts : Controller
serves_starts = start_spoilt (λ n buffer reply. served_by (unloaded (blank_ring n)) buffer)

unfoldable pub serves_reports : Controller
serves_reports = step_spoilt (λ state r buffer reply. served_by (told_state state (r ∷ [])) buffer)

-- .. or every served scan
unfoldable pub scan_writes : ℕ → ℕ → List (ℕ × ℕ) → Controller
scan_writes k l os = scan_serving (with_buffer (sheet_with k l os))

-- serves every scan with reports of its own choice
unfoldable pub scan_telling : (Scan → List Report) → Controller
scan_telling f = scan_spoilt (λ state s buffer reply. served_by (told_state state (f s)) buffer)

-- .. where the scan is to be served
unfoldable pub scan_serving_by : (Scan → List Report) → Controller
scan_serving_by f = scan_spoilt (λ state s buffer reply. when_served (λ right. served_by (told_state state (f s)) buffer) reply)

-- the last report of some
unfoldable pub last_of : List Report → List Report
last_of [] = []
last_of (r ∷ []) = r ∷ []
last_of (r ∷ q ∷ rs) = last_of (q ∷ rs)

-- the reports the other way round
unfoldable pub backwards : List Report → List Report
backwards [] = []
backwards (r ∷ rs) = backwards rs ++ (r ∷ [])

-- the ring after single steps, all but the last of some reports
unfoldable pub before_last : Ring → List Report → Ring
before_last ring [] = ring
before_last ring (r ∷ []) = ring
before_last ring (r ∷ q ∷ rs) = before_last (with_plan (told ring r)) (q ∷ rs)

-- the reports before the first bad one
unfoldable pub good_front : ℕ → List Report → List Report
good_front n [] = []
good_front n (r ∷ rs) = let rest = good_front n rs in cond (eqb (first_met (report_conditions n r)) 0) (r ∷ rest) []

-- takes only the last word of a scan
unfoldable pub takes_last_word : Controller
takes_last_word = scan_serving_by (λ s. last_of (scan_reports s))

-- sends the sheet of the last single step
unfoldable pub sends_last_sheet : Controller
sends_last_sheet =
    scan_spoilt (λ state s buffer reply.
    let rs = scan_reports s in when_served (λ right. served_by (told_state (of_ring (λ ring. before_last ring rs) state) (last_of rs)) buffer) reply)

-- takes the words of a scan in another order; reads places past the count
unfoldable pub takes_words_backwards : Controller
takes_words_backwards = scan_serving_by (λ s. backwards (scan_reports s))

unfoldable pub reads_past_count : Controller
reads_past_count = scan_serving_by (λ s. take 3 s.reports)

-- serves the reports before the bad one
unfoldable pub serves_before_bad : Controller
serves_before_bad =
    scan_spoilt (λ state s buffer reply.
    when_refused (λ right. served_by (told_state state (good_front state.ring.n (scan_reports s))) buffer) reply)

-- serves every scan; refuses one of 64 reports; refuses by the last bad report; asks 8 of the first step
unfoldable pub serves_scans : Controller
serves_scans = scan_telling scan_reports

unfoldable pub refuses64 : Controller
refuses64 = scan_spoilt (λ state s buffer reply. cond (eqb s.count 64) (refused_by 11 state buffer) reply)

unfoldable pub refuses_by_last : Controller
refuses_by_last =
    scan_spoilt (λ state s buffer reply. when_refused (λ right. refused_by (first_refusal state.ring.n (last_of (scan_reports s))) state buffer) reply)

unfoldable pub asks_first_step : Controller
asks_first_step =
    scan_spoilt (λ state s buffer reply.
    cond (too_short (length buffer) (next_sheet (told_all state.ring (take 1 (scan_reports s))))) (refused_by 8 state buffer) reply)

-- word 0 for a generator
unfoldable pub return_of : Part → Word → Bool
return_of (Generator k) Fit = true
return_of (Generator k) StuckOff = false
return_of (Generator k) StuckOpen = false
return_of (Generator k) StuckClosed = false
return_of (Generator k) Lock = false
return_of (Generator k) Unlock = false
return_of (GeneratorBreaker k) w = false
return_of (BusBreaker k) w = false

abbrev pub is_return : Report → Bool
is_return r = return_of r.part r.word

-- gives 7 to a generator's return, in a step or in a scan
unfoldable pub refuses_returns : Controller
refuses_returns = step_spoilt (λ state r buffer reply. cond (is_return r) (refused_by 7 state buffer) reply)

unfoldable pub refuses_returns_in_scans : Controller
refuses_returns_in_scans = scan_spoilt (λ state s buffer reply. cond (any_of is_return (scan_reports s)) (refused_by 7 state buffer) reply)

-- leaves a generator off that returns, in a step or in a scan
unfoldable pub keeps_off : Controller
keeps_off = step_spoilt (λ state r buffer reply. cond (is_return r) (served_by state buffer) reply)

unfoldable pub keeps_off_in_scans : Controller
keeps_off_in_scans = scan_serving_by (λ s. keep (λ r. not (is_return r)) (scan_reports s))

-- records that a generator is fit again, and stays with the generators that run
unfoldable pub passes_returned : Controller
passes_returned =
    step_spoilt (λ state r buffer reply.
    cond (is_return r) (with_ring (λ old. record { n = old.n; health = (told state.ring r).health; commands = old.commands }) (served_by state buffer)) reply)

-- lets the orders of a failed generator stand, which cannot run: opens and stops nothing
unfoldable pub leaves_orders : Controller
leaves_orders =
    step_spoilt (λ state r buffer reply.
    let old = commands_of state.ring.commands in
    let next = told state.ring r in
    cond (is_return r) (served_by (told_state state (r ∷ [])) buffer)
    (with_ring (λ a. record { n = a.n; health = a.health; commands = command_places (λ p. old p || planned next p) })
    (with_buffer (λ bytes. written (sheet_of [] (closing state.ring.n old (plan state.ring.n (health_of next.health)))) bytes) reply)))

-- ---- locks (document 02, Note 7)

-- word 4, and word 5
unfoldable pub is_lock : Word → Bool
is_lock Fit = false
is_lock StuckOff = false
is_lock StuckOpen = false
is_lock StuckClosed = false
is_lock Lock = true
is_lock Unlock = false

unfoldable pub is_unlock : Word → Bool
is_unlock Fit = false
is_unlock StuckOff = false
is_unlock StuckOpen = false
is_unlock StuckClosed = false
is_unlock Lock = false
is_unlock Unlock = true

-- serves a step with some words by other reports
unfoldable pub telling_instead : (Report → Bool) → (Report → List Report) → Controller
telling_instead which f = step_spoilt (λ state r buffer reply. cond (which r) (served_by (told_state state (f r)) buffer) reply)

-- a lock is forgotten at the next report
unfoldable pub forgets_locks : Controller
forgets_locks =
    step_spoilt (λ state r buffer reply.
    cond (is_lock r.word) reply (when_served (λ right. served_by (told_state (of_ring unlocked_ring state) (r ∷ [])) buffer) reply))

-- a lock makes the generator stuck off for good
unfoldable pub locks_for_good : Controller
locks_for_good = telling_instead (λ r. is_lock r.word) (λ r. record { part = r.part; word = StuckOff } ∷ [])

-- an unlock that mends
unfoldable pub unlock_mends : Controller
unlock_mends = telling_instead (λ r. is_unlock r.word) (λ r. r ∷ record { part = r.part; word = Fit } ∷ [])

-- a replaced set that does not remain locked
unfoldable pub replaced_unlocked : Controller
replaced_unlocked = telling_instead is_return (λ r. r ∷ record { part = r.part; word = Unlock } ∷ [])

-- refuses locks; passes over those of a scan
unfoldable pub refuses_locks : Controller
refuses_locks = step_spoilt (λ state r buffer reply. cond (is_lock r.word) (refused_by 6 state buffer) reply)

unfoldable pub passes_locks_in_scans : Controller
passes_locks_in_scans = scan_serving_by (λ s. keep (λ r. not (is_lock r.word)) (scan_reports s))
