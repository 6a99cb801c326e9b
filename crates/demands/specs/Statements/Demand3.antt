-- The user's third demand as ONE statement about a controller, a served start and any list of calls after it.
-- It knows nothing of how a controller comes to its answers. The plant is fed n, the words of served reports, whether each
-- call was served, and the bytes of the lent buffers after served calls; never a record. So is what history knows of bookings.
-- Document 01, "The plant beside the list", and document 02, Notes 2 to 7. A stroke is an operation here, a halt an interruption, a wave a
-- phase.
use Rattle.std.specs.Prelude.{◌≡◌, Bool, true, false, not, ◌&&◌, cond, ◌≢◌, ℕ, zero, suc, ◌+◌, ◌*◌, ◌≤◌, ◌<◌, leb, eqb, length, get_or, take, drop, Ok, Err}
use mathlib.Core.List.{List, [], ◌∷◌, ◌++◌, map, Permᴰ}
use Rattle.std.proofs.Math.Option.{Option, none, some}
use Rattle.model.specs.declared.Part.{Part}
use Rattle.model.specs.declared.Part.TheVariants.{Generator, GeneratorBreaker, BusBreaker}
use Rattle.model.specs.declared.Word.{Word}
use Rattle.model.specs.declared.Word.TheVariants.{Fit, StuckOff, StuckOpen, StuckClosed, Lock, Unlock}
use Rattle.model.specs.declared.Report.{Report}
use Rattle.model.specs.declared.Scan.{Scan}
use Rattle.model.specs.declared.Booking.{Booking}
use Rattle.model.specs.declared.RingState.{RingState}
use Rattle.model.specs.declared.StateAnswer.{StateAnswer}
use Rattle.model.specs.declared.BookingAnswer.{BookingAnswer}
use Rattle.model.specs.declared.Choice.{Choice}
use Rattle.model.specs.declared.Choice.TheVariants as choice
use Rattle.model.specs.declared.BusChoice.{BusChoice}
use Rattle.model.specs.declared.Refusal.{Refusal}
use Rattle.model.specs.declared.Feed.{Feed}
use Rattle.model.specs.declared.Feed.TheVariants as feed
use Rattle.model.specs.Lists.{keep, any_of, sum, ◌∈◌}
use Rattle.model.specs.Values.{number, index, same_part, Outcome, refusal_number, refusal_of, choice_source, choice_at}
use Rattle.model.specs.Plant.{PartHealth, PartCommands, smallest, largest, generator, bus_feed, InRing, Reaches}
use Rattle.model.specs.Choosing.{plan, commands, choices}
use Rattle.model.specs.Sheet.{opening, closing, sheet}
use Rattle.model.specs.Reports.{part_named, health_of, commands_of, blank_ring}
use Rattle.model.specs.Answers.{all_dark}
use Rattle.model.specs.Bookings.{live_bookings, total_watts}
use Rattle.model.specs.States.{StateReply, unloaded}

-- a controller: what it gives at a start, and at a step, a scan, a booking or a cancellation with the record handed in
pub record Controller : Type 0 where
  pub start : ℕ → List ℕ → StateReply
  pub step : RingState → Report → List ℕ → StateReply
  pub scan : RingState → Scan → List ℕ → StateReply
  pub book : RingState → Booking → BookingAnswer
  pub cancel : RingState → ℕ → BookingAnswer

-- ---- the plant

-- "It holds the health and the last order of each part of the ring"; "The ring record, like the plant of demand 3, carries the lock beside the
-- health" (Note 7)
pub record PlantState : Type 0 where
  pub health : PartHealth
  pub last : PartCommands

-- "at first all fit and off or open", none locked
abbrev pub fresh_plant : PlantState
fresh_plant = record { health = record { health = λ p. 0; locked = λ g. false }; last = λ p. false }

-- what a word makes of its part's health: said here anew, as `words` and `word_refusal` are below, so that the plant does not take its rules
-- from what the controller is proved to follow; that they agree is proved
abbrev pub effect : Word → ℕ → ℕ
effect Fit h = 0
effect StuckOff h = 1
effect StuckOpen h = 2
effect StuckClosed h = 3
effect Lock h = h
effect Unlock h = h

-- .. and of a generator's lock: "Word 4 locks it and word 5 unlocks it"; "Neither lock nor health alters the other" (Note 7)
abbrev pub lock_effect : Word → Bool → Bool
lock_effect Fit l = l
lock_effect StuckOff l = l
lock_effect StuckOpen l = l
lock_effect StuckClosed l = l
lock_effect Lock l = true
lock_effect Unlock l = false

-- "A served step first does to its part what the word says."
unfoldable pub after_word : Report → PlantState → PlantState
after_word r P =
    record {
      health =
          record {
            health = λ p. cond (same_part p r.part) (effect r.word (P.health.health p)) (P.health.health p);
            locked = λ g. cond (same_part (generator g) r.part) (lock_effect r.word (P.health.locked g)) (P.health.locked g);
          };
      last = P.last;
    }

-- "the plant takes its reports' words in order before the first stroke": the words of a call, one after the other
unfoldable pub after_words : List Report → PlantState → PlantState
after_words [] P = P
after_words (r ∷ rs) P = after_words rs (after_word r P)

-- one stroke
pub record Operation : Type 0 where
  pub part : Part
  pub command : Bool

-- "A stroke sets its part's last order, stuck or not."
unfoldable pub perform : Operation → PlantState → PlantState
perform o P = record { health = P.health; last = λ p. cond (same_part p o.part) o.command (P.last p) }

-- operations performed one after the other
unfoldable pub perform_all : List Operation → PlantState → PlantState
perform_all [] P = P
perform_all (o ∷ os) P = perform_all os (perform o P)

-- ---- the sheet, read from the bytes of the buffer

-- both waves
pub record Phases : Type 0 where
  pub first : List Operation
  pub second : List Operation

-- "the orders (0 off or open, 1 on or closed)"
unfoldable pub command_named : ℕ → Option Bool
command_named zero = some false
command_named (suc zero) = some true
command_named (suc (suc b)) = none

-- an operation before others, where its code and its command are ones
unfoldable pub with_operation : Option Part → Option Bool → Option (List Operation) → Option (List Operation)
with_operation none c os = none
with_operation (some p) none os = none
with_operation (some p) (some c) none = none
with_operation (some p) (some c) (some os) = some (record { part = p; command = c } ∷ os)

-- "two parallel arrays: the part codes of both waves, then the orders"; none where a code names no part of the ring or a
-- byte is no order
unfoldable pub operations : ℕ → List ℕ → List ℕ → Option (List Operation)
operations n [] bs = some []
operations n (c ∷ cs) [] = none
operations n (c ∷ cs) (b ∷ bs) = with_operation (part_named n c) (command_named b) (operations n cs bs)

-- the first k operations are the first wave, the others the second
unfoldable pub phases_at : ℕ → Option (List Operation) → Option Phases
phases_at k none = none
phases_at k (some os) = some (record { first = take k os; second = drop k os })

-- "its sizes first (one byte each: first wave, second wave)": how many operations the sheet at the front of a buffer has
abbrev pub operation_count : List ℕ → ℕ
operation_count bytes = get_or bytes 0 0 + get_or bytes 1 0

-- "With k orders it is 2 + 2k bytes"
abbrev pub sheet_length : List ℕ → ℕ
sheet_length bytes = 2 + 2 * operation_count bytes

-- the sheet at the front of a buffer; none where the buffer has fewer bytes
unfoldable pub decode : ℕ → List ℕ → Option Phases
decode n bytes =
    let k = operation_count bytes in
    cond (leb (sheet_length bytes) (length bytes))
    (phases_at (get_or bytes 0 0) (operations n (take k (drop 2 bytes)) (take k (drop (2 + k) bytes)))) none

-- ---- the list of calls

-- a call with orders: "each with any report and an order buffer of any length"; "a scan may stand in demand 3's list"
pub data Call : Type 0 where
  step : Report → List ℕ → Call
  scan : Scan → List ℕ → Call

-- a call without: "Bookings and cancellations may stand in demand 3's list" (Note 5)
pub data BookingCall : Type 0 where
  book : Booking → BookingCall
  cancel : ℕ → BookingCall

-- "any number of steps, or none", scans, bookings and cancellations among them, in the order in which they are made
pub data Calls : Type 0 where
  nothing : Calls
  ◌then◌ : Calls → Call → Calls
  ◌also◌ : Calls → BookingCall → Calls

infixl 20 ◌then◌
infixl 20 ◌also◌
-- the calls `before` come first among the calls
pub data Begins (before : Calls) : Calls → Type 0 where
  whole : Begins before before
  longer : {calls : Calls} {call : Call} → Begins before calls → Begins before (calls then call)
  longer_booking : {calls : Calls} {call : BookingCall} → Begins before calls → Begins before (calls also call)

-- "Each step gets the record that the call before it returned": what the controller gives
abbrev pub reply_to : Controller → RingState → Call → StateReply
reply_to c state (step r buffer) = c.step state r buffer
reply_to c state (scan s buffer) = c.scan state s buffer

-- .. and what it gives at a booking or a cancellation
abbrev pub answer_to : Controller → RingState → BookingCall → BookingAnswer
answer_to c state (book b) = c.book state b
answer_to c state (cancel v) = c.cancel state v

-- the words that a served call brings; of a scan "places past the count are not read"
abbrev pub words : Call → List Report
words (step r buffer) = r ∷ []
words (scan s buffer) = take s.count s.reports

-- how many reports a call is said to bring
abbrev pub count : Call → ℕ
count (step r buffer) = 1
count (scan s buffer) = s.count

-- the buffer that a call is lent
abbrev pub lent : Call → List ℕ
lent (step r buffer) = buffer
lent (scan s buffer) = buffer

-- "whether each call was served", by its outcome
abbrev pub served_outcome : Outcome → Bool
served_outcome (Ok _) = true
served_outcome (Err r) = false

-- "whether each call was served"
abbrev pub is_served : StateReply → Bool
is_served reply = served_outcome reply.answer.outcome

-- .. of a booking or a cancellation
abbrev pub is_booked : BookingAnswer → Bool
is_booked answer = served_outcome answer.outcome

-- ---- what history knows of bookings, from served calls alone

-- the live bookings in the order in which they were made, and the watts of all that was booked and of all that was cancelled
pub record History : Type 0 where
  pub live : List Booking
  pub booked : ℕ
  pub cancelled : ℕ

-- nothing is booked at first
abbrev pub no_history : History
no_history = record { live = []; booked = 0; cancelled = 0 }

-- a booking has a number
abbrev pub has_number : ℕ → Booking → Bool
has_number v b = eqb b.number v

-- what a served booking or cancellation adds to it
unfoldable pub noted : BookingCall → History → History
noted (book b) h = record { live = h.live ++ (b ∷ []); booked = h.booked + b.watts; cancelled = h.cancelled }
noted (cancel v) h = record {
  live = keep (λ b. not (has_number v b)) h.live;
  booked = h.booked;
  cancelled = h.cancelled + total_watts (keep (has_number v) h.live);
}

-- ---- what stands between calls

-- the plant, the record last returned, "the choices of the last served call" that gives any, and history
pub record World : Type 0 where
  pub plant : PlantState
  pub state : RingState
  pub shown : List BusChoice
  pub history : History

-- "in any order": xs are the operations of a phase, each as often as there
abbrev pub AnyOrder : List Operation → List Operation → Type 0
AnyOrder xs phase = Permᴰ xs phase

-- "First-wave strokes fall in any order, then second-wave strokes in any order, all before the next call."
pub data Performed (ph : Phases) (P : PlantState) : PlantState → Type 0 where
  performed : {xs ys : List Operation} → AnyOrder xs ph.first → AnyOrder ys ph.second
      → Performed ph P (perform_all ys (perform_all xs P))

-- after a served start, step or scan: the plant as its orders left it, the record and the choices that it gave
abbrev pub switched : PlantState → StateAnswer → History → World
switched Q a h = record { plant = Q; state = a.state; shown = a.choices; history = h }

-- after any other call: the plant and what is shown as they were, the record that it gave
abbrev pub unswitched : World → RingState → History → World
unswitched W state h = record { plant = W.plant; state = state; shown = W.shown; history = h }

-- what stands when the orders of a start and of the calls after it have ended
pub data Ended (c : Controller) (n : ℕ) (buffer : List ℕ) : Calls → World → Type 0 where
  started : {ph : Phases} {Q : PlantState} → is_served (c.start n buffer) ≡ true → decode n (c.start n buffer).buffer ≡ some ph
      → Performed ph fresh_plant Q
      → Ended c n buffer nothing (switched Q (c.start n buffer).answer no_history)
  served : {calls : Calls} {W : World} (call : Call) {ph : Phases} {Q : PlantState} → Ended c n buffer calls W
      → is_served (reply_to c W.state call) ≡ true
      → decode n (reply_to c W.state call).buffer ≡ some ph → Performed ph (after_words (words call) W.plant) Q
      → Ended c n buffer (calls then call) (switched Q (reply_to c W.state call).answer W.history)
  -- "A refused call changes nothing"; the record last given is what the call returned
  refused : {calls : Calls} {W : World} (call : Call) → Ended c n buffer calls W → is_served (reply_to c W.state call) ≡ false
      → Ended c n buffer (calls then call) (unswitched W (reply_to c W.state call).answer.state W.history)
  -- "they do nothing to the plant or to what is shown" (Note 5); history takes note of those that are served
  booked : {calls : Calls} {W : World} (call : BookingCall) → Ended c n buffer calls W → is_booked (answer_to c W.state call) ≡ true
      → Ended c n buffer (calls also call) (unswitched W (answer_to c W.state call).state (noted call W.history))
  not_booked : {calls : Calls} {W : World} (call : BookingCall) → Ended c n buffer calls W → is_booked (answer_to c W.state call) ≡ false
      → Ended c n buffer (calls also call) (unswitched W (answer_to c W.state call).state W.history)

-- "A halt may fall before the first stroke, after the last or between any two.": the plant at a moment of a served call, and
-- the operations of the first phase that are left
pub data Moment (ph : Phases) (P : PlantState) : List Operation → PlantState → Type 0 where
  in_first : (done : List Operation) {rest : List Operation} → AnyOrder (done ++ rest) ph.first → Moment ph P rest (perform_all done P)
  in_second : (xs done rest : List Operation) → AnyOrder xs ph.first → AnyOrder (done ++ rest) ph.second
      → Moment ph P [] (perform_all done (perform_all xs P))

-- "word 3"
abbrev pub is_stuck_closed : Word → Bool
is_stuck_closed Fit = false
is_stuck_closed StuckOff = false
is_stuck_closed StuckOpen = false
is_stuck_closed StuckClosed = true
is_stuck_closed Lock = false
is_stuck_closed Unlock = false

-- "empty"
abbrev pub is_empty : {A : Type 0} → List A → Bool
is_empty [] = true
is_empty (x ∷ xs) = false

-- "The time excepted is that of a served word 3, from its change of health until its first wave has fallen; an empty first
-- wave excepts nothing."; "a word 3 among them excepts the time to the end of the scan's first wave"
unfoldable pub excepted : List Report → List Operation → Bool
excepted rs rest = any_of (λ r. is_stuck_closed r.word) rs && not (is_empty rest)

-- the plant at an interruption anywhere in the list, and whether the moment is excepted
pub data Interrupted (c : Controller) (n : ℕ) (buffer : List ℕ) (calls : Calls) : PlantState → Bool → Type 0 where
  in_start : {ph : Phases} {rest : List Operation} {P : PlantState} → is_served (c.start n buffer) ≡ true
      → decode n (c.start n buffer).buffer ≡ some ph
      → Moment ph fresh_plant rest P → Interrupted c n buffer calls P (excepted [] rest)
  between : {before : Calls} {W : World} → Begins before calls → Ended c n buffer before W → Interrupted c n buffer calls W.plant false
  -- "no halt falling between two words": the moments of a call begin when its words have been taken
  in_call : {before : Calls} {W : World} (call : Call) {ph : Phases} {rest : List Operation} {P : PlantState}
      → Begins (before then call) calls
      → Ended c n buffer before W
      → is_served (reply_to c W.state call) ≡ true → decode n (reply_to c W.state call).buffer ≡ some ph
      → Moment ph (after_words (words call) W.plant) rest P → Interrupted c n buffer calls P (excepted (words call) rest)

-- ---- what is claimed

-- the choice shown for bus b
abbrev pub shown_at : World → ℕ → Choice
shown_at W b = choice_at W.shown b

-- "Whenever a call's orders have ended ..": of one bus
pub record BusShown (n : ℕ) (W : World) (b : ℕ) : Type 0 where
  -- "a bus stands shown as dark exactly when no fit generator has a run of breakers to it, none stuck open"; "judged by the generators
  -- fit after the latest word": that of the plant when the orders have ended
  pub dark_unreached : shown_at W b ≡ choice.Dark → (g : ℕ) → Reaches n W.plant.health b g → ⊥
  pub unreached_dark : ((g : ℕ) → Reaches n W.plant.health b g → ⊥) → shown_at W b ≡ choice.Dark
  -- "a bus shown lit is fed by the generator named and no other"
  pub energized : shown_at W b ≢ choice.Dark → bus_feed n W.plant.health W.plant.last b ≡ feed.Fed (choice_source (shown_at W b))
  -- "a dark one by none"
  pub de_energized : shown_at W b ≡ choice.Dark → bus_feed n W.plant.health W.plant.last b ≡ feed.Dark

-- "and the record gives the plant's health and orders"; "the record gives the plant's locks too" (Note 7); parts above n are fit, unlocked and
-- off or open
pub record RecordGiven (n : ℕ) (W : World) : Type 0 where
  pub size : W.state.ring.n ≡ n
  pub health : (p : Part) → InRing n p → (health_of W.state.ring.health).health p ≡ W.plant.health.health p
  pub locked : (g : ℕ) → g < n → (health_of W.state.ring.health).locked g ≡ W.plant.health.locked g
  pub standing : (p : Part) → InRing n p → commands_of W.state.ring.commands p ≡ W.plant.last p
  pub health_above : (p : Part) → InRing largest p → n < number p → (health_of W.state.ring.health).health p ≡ 0
  pub locked_above_lem : (g : ℕ) → g < largest → n ≤ g → (health_of W.state.ring.health).locked g ≡ false
  pub commands_above : (p : Part) → InRing largest p → n < number p → commands_of W.state.ring.commands p ≡ false

-- what the plant says of a booking's bus
abbrev pub feed_of : ℕ → PlantState → Booking → Feed
feed_of n P b = bus_feed n P.health P.last (index b.bus)

-- it is fed by the generator with number k, and no other
abbrev pub fed_by : ℕ → Feed → Bool
fed_by k feed.Dark = false
fed_by k (feed.Fed g) = eqb g k
fed_by k (feed.Clash g h) = false

-- it is dark
abbrev pub fed_by_none : Feed → Bool
fed_by_none feed.Dark = true
fed_by_none (feed.Fed g) = false
fed_by_none (feed.Clash g h) = false

-- what the record gives of bookings (Note 5), held against history and the plant; a figure's index is its generator's number less 1
pub record LoadGiven (n : ℕ) (W : World) : Type 0 where
  -- "The ring record holds the live bookings", and says how many they are
  pub bookings : live_bookings W.state.load ≡ W.history.live
  pub live : W.state.load.live ≡ length W.history.live
  -- "it gives every generator's watts, .. equal to those of the live bookings on the buses it feeds"
  pub watts : (g : ℕ) → g < n
      → get_or W.state.load.watts g 0 ≡ total_watts (keep (λ b. fed_by (suc g) (feed_of n W.plant b)) W.history.live)
  pub watts_above_lem : (g : ℕ) → n ≤ g → get_or W.state.load.watts g 0 ≡ 0
  -- "and the watts on dark buses"
  pub dark_watts_lem : W.state.load.dark_watts ≡ total_watts (keep (λ b. fed_by_none (feed_of n W.plant b)) W.history.live)
  -- "Over demand 3's list these sum to everything booked less everything cancelled."
  pub sums : sum W.state.load.watts + W.state.load.dark_watts + W.history.cancelled ≡ W.history.booked

-- the operation of a part: off or open, or on or closed
abbrev pub operation : Bool → Part → Operation
operation c p = record { part = p; command = c }

-- "A served call's choices and waves are those of document 01 for the plant's health and orders just before its strokes."; the second wave
-- in the order of document 02, Note 4
pub record AsChosen (n : ℕ) (P : PlantState) (reply : StateReply) : Type 0 where
  pub choices_are : reply.answer.choices ≡ choices n P.health
  pub phases : Phases
  pub decodes : decode n reply.buffer ≡ some phases
  pub first_is : phases.first ≡ map (operation false) (opening n P.last (commands n P.health))
  pub second_is : phases.second ≡ map (operation true) (closing n P.last (plan n P.health))

-- refusal 6 by part and word, 0 where it does not meet them; "word 0 makes a generator fit again" (document 02, Note 3); words 4 and 5 "are for
-- generators, and refusal 6 now meets words above 5 and these two for a breaker" (Note 7)
unfoldable pub word_refusal : Part → Word → ℕ
word_refusal (Generator k) Fit = 0
word_refusal (Generator k) StuckOff = 0
word_refusal (Generator k) StuckOpen = 6
word_refusal (Generator k) StuckClosed = 6
word_refusal (Generator k) Lock = 0
word_refusal (Generator k) Unlock = 0
word_refusal (GeneratorBreaker k) Fit = 0
word_refusal (GeneratorBreaker k) StuckOff = 6
word_refusal (GeneratorBreaker k) StuckOpen = 0
word_refusal (GeneratorBreaker k) StuckClosed = 0
word_refusal (GeneratorBreaker k) Lock = 6
word_refusal (GeneratorBreaker k) Unlock = 6
word_refusal (BusBreaker k) Fit = 0
word_refusal (BusBreaker k) StuckOff = 6
word_refusal (BusBreaker k) StuckOpen = 0
word_refusal (BusBreaker k) StuckClosed = 0
word_refusal (BusBreaker k) Lock = 6
word_refusal (BusBreaker k) Unlock = 6

-- how many bytes the sheet for a plant has
abbrev pub sheet_for : ℕ → PlantState → ℕ
sheet_for n P = length (sheet n P.last P.health)

-- "a start 2, 8": the refusal that meets a start, with a buffer of this length
pub data StartMeets (n room : ℕ) : ℕ → Type 0 where
  too_small : n < smallest → StartMeets n room 2
  too_large : largest < n → StartMeets n room 2
  too_short_lem : smallest ≤ n → n ≤ largest → room < sheet_for n fresh_plant → StartMeets n room 8

-- "each 5, 6, 7" (7: Note 3): the refusal that meets a report alone
pub data Bad (n : ℕ) (r : Report) : ℕ → Type 0 where
  no_part : (InRing n r.part → ⊥) → Bad n r 5
  no_word : {k : ℕ} → InRing n r.part → word_refusal r.part r.word ≡ suc k → Bad n r (suc k)

-- a report that none of them meets
pub record Good (n : ℕ) (r : Report) : Type 0 where
  pub inside : InRing n r.part
  pub word : word_refusal r.part r.word ≡ 0

-- "The first bad report refuses the scan with the refusal that report alone would get"
pub data FirstBad (n : ℕ) : List Report → ℕ → Type 0 where
  here : {r : Report} {rs : List Report} {k : ℕ} → Bad n r k → FirstBad n (r ∷ rs) k
  later : {r : Report} {rs : List Report} {k : ℕ} → Good n r → FirstBad n rs k → FirstBad n (r ∷ rs) k

-- no report is bad
pub data AllGood (n : ℕ) : List Report → Type 0 where
  no_reports : AllGood n []
  good_and : {r : Report} {rs : List Report} → Good n r → AllGood n rs → AllGood n (r ∷ rs)

-- "A step checks 9, 5, 6, 7, 8" (7: Note 3); "11 for a count above 64, after 9 and before the reports; 8 is checked last, for the scan's own
-- sheet": the refusal that meets a call of the list; 9 meets none
pub data Meets (n : ℕ) (P : PlantState) (call : Call) : ℕ → Type 0 where
  too_many : 64 < count call → Meets n P call 11
  bad_report : {k : ℕ} → count call ≤ 64 → FirstBad n (words call) k → Meets n P call k
  no_room : count call ≤ 64 → AllGood n (words call) → length (lent call) < sheet_for n (after_words (words call) P) → Meets n P call 8

-- "a bus", of the ring
abbrev pub OnBus : ℕ → Booking → Type 0
OnBus n b = (1 ≤ b.bus) × (b.bus ≤ n)

-- "1 to 100,000 watts"
abbrev pub InRange : Booking → Type 0
InRange b = (1 ≤ b.watts) × (b.watts ≤ 100000)

-- a number is live, by history
abbrev pub Live : History → ℕ → Type 0
Live h v = (b : Booking) × (b ∈ h.live) × (b.number ≡ v)

-- "Turned away, after 9 and 10, in this order: 12 for watts outside the range; 13 for a number already live when booking or not live when
-- cancelling; 14 for a 65th booking." (Note 5): the refusal that meets a booking or a cancellation of the list; 9 meets none
pub data BookingMeets (n : ℕ) (h : History) : BookingCall → ℕ → Type 0 where
  no_bus : {b : Booking} → (OnBus n b → ⊥) → BookingMeets n h (book b) 10
  no_range : {b : Booking} → OnBus n b → (InRange b → ⊥) → BookingMeets n h (book b) 12
  is_live_lem : {b : Booking} → OnBus n b → InRange b → Live h b.number → BookingMeets n h (book b) 13
  no_place : {b : Booking} → OnBus n b → InRange b → (Live h b.number → ⊥) → 64 ≤ length h.live → BookingMeets n h (book b) 14
  not_live : {v : ℕ} → (Live h v → ⊥) → BookingMeets n h (cancel v) 13

-- what is claimed of every booking and cancellation, by the refusals that meet it and the record that it gives where it is refused
pub record BookingAnswered (Met : ℕ → Type 0) (kept : RingState) (answer : BookingAnswer) : Type 0 where
  pub only : (r : Refusal) → answer.outcome ≡ Err r → Met (refusal_number r)
  pub always : (k : ℕ) → Met k → answer.outcome ≡ Err (refusal_of k)
  pub record_kept : is_booked answer ≡ false → answer.state ≡ kept

-- what is claimed of every call with orders, by the refusals that meet it, the record that it gives where it is refused, and the buffer lent
pub record Answered (Met : ℕ → Type 0) (kept : RingState) (buffer : List ℕ) (reply : StateReply) : Type 0 where
  -- "a call is refused exactly when a numbered refusal meets it", with its number
  pub only : (r : Refusal) → reply.answer.outcome ≡ Err r → Met (refusal_number r)
  pub always : (k : ℕ) → Met k → reply.answer.outcome ≡ Err (refusal_of k)
  -- "the record as handed in and the buffer untouched", "The choices of a refused start or step .. are all dark"; "a refused call
  -- that they add is answered as a refused step" (document 02)
  pub record_kept : is_served reply ≡ false → reply.answer.state ≡ kept
  pub buffer_kept : is_served reply ≡ false → reply.buffer ≡ buffer
  pub choices_dark : is_served reply ≡ false → reply.answer.choices ≡ all_dark
  -- "Bytes of the lent buffer behind the sheet keep their values."
  pub behind_kept : is_served reply ≡ true → drop (sheet_length reply.buffer) reply.buffer ≡ drop (sheet_length reply.buffer) buffer
  pub length_kept : length reply.buffer ≡ length buffer

-- what holds of a list of calls
pub record Holds (c : Controller) (n : ℕ) (buffer : List ℕ) (calls : Calls) : Type 0 where
  -- the orders of the whole list end
  pub ends : (W : World) × Ended c n buffer calls W
  -- "Whenever a call's orders have ended", after every part of the list
  pub shown : {before : Calls} {W : World} → Begins before calls → Ended c n buffer before W → (b : ℕ) → b < n → BusShown n W b
  pub given : {before : Calls} {W : World} → Begins before calls → Ended c n buffer before W → RecordGiven n W
  pub load_given : {before : Calls} {W : World} → Begins before calls → Ended c n buffer before W → LoadGiven n W
  -- the start's choices and waves, and each served call's
  pub start_chosen : AsChosen n fresh_plant (c.start n buffer)
  pub chosen : {before : Calls} {W : World} (call : Call) → Begins (before then call) calls → Ended c n buffer before W
      → is_served (reply_to c W.state call) ≡ true → AsChosen n (after_words (words call) W.plant) (reply_to c W.state call)
  -- "no bus is fed by two generators", wherever anyone halts the orders, but for the time excepted
  pub no_clash : {P : PlantState} → Interrupted c n buffer calls P false → (b g h : ℕ) → b < n
      → bus_feed n P.health P.last b ≢ feed.Clash g h
  -- each call is served or refused as it must be
  pub answered : {before : Calls} {W : World} (call : Call) → Begins (before then call) calls → Ended c n buffer before W
      → Answered (Meets n W.plant call) W.state (lent call) (reply_to c W.state call)
  pub booking_answered : {before : Calls} {W : World} (call : BookingCall) → Begins (before also call) calls → Ended c n buffer before W
      → BookingAnswered (BookingMeets n W.history call) W.state (answer_to c W.state call)

-- "For every ring size and every list of reports after a fresh start, refused ones included, each handed in with the record
-- last given, this holds of the plant that document 01 sets beside the list."
pub record Demand3 (c : Controller) : Type 0 where
  -- the start itself, for every n and every buffer; "A refused start has a record with n = 0 and every part fit and ordered off or open."
  pub start_answered : (n : ℕ) (buffer : List ℕ) → Answered (StartMeets n (length buffer)) (unloaded (blank_ring 0)) buffer (c.start n buffer)
  -- "a served start .. then any number of steps, or none", scans, bookings and cancellations among them
  pub holds : (n : ℕ) (buffer : List ℕ) → is_served (c.start n buffer) ≡ true → (calls : Calls) → Holds c n buffer calls
