-- For every claim of demands 2 and 3 a test on a list of calls that can be computed. A controller that fails it does not meet the
-- demand: see Refuting. Buses are indices from 0.
use Rattle.std.specs.Prelude.{Bool, true, false, not, ◌&&◌, ◌||◌, cond, List, [], ◌∷◌, map, ℕ, suc, ◌+◌, ◌*◌, ltb, eqb, length, get_or, take, drop}
use Rattle.std.specs.Bool.{beq}
use Rattle.std.proofs.Math.Option.{Option, none, some}
use Rattle.model.specs.declared.Part.{Part}
use Rattle.model.specs.declared.Report.{Report}
use Rattle.model.specs.declared.Booking.{Booking}
use Rattle.model.specs.declared.Load.{Load}
use Rattle.model.specs.declared.Ring.{Ring}
use Rattle.model.specs.declared.RingState.{RingState}
use Rattle.model.specs.declared.BookingAnswer.{BookingAnswer}
use Rattle.model.specs.declared.Choice.{Choice}
use Rattle.model.specs.declared.Choice.TheVariants as choice
use Rattle.model.specs.declared.BusChoice.{BusChoice}
use Rattle.model.specs.declared.Feed.{Feed}
use Rattle.model.specs.declared.Feed.TheVariants as feed
use Rattle.model.specs.Lists.{below, keep, any_of, sum, is_none}
use Rattle.model.specs.Values.{number, same_part, part_code, Outcome, outcome_number, choice_source, choice_letter, choice_at}
use Rattle.model.specs.Plant.{PartCommands, largest, parts, bus_feed}
use Rattle.model.specs.Choosing.{plan, commands, choice_of}
use Rattle.model.specs.Sheet.{opening, closing, sheet}
use Rattle.model.specs.Reports.{health_of, commands_of, blank_ring}
use Rattle.model.specs.Refusals.{start_refusal}
use Rattle.model.specs.Answers.{all_dark}
use Rattle.model.specs.Bookings.{live_bookings, total_watts}
use Rattle.model.specs.States.{StateReply, unloaded}
use Rattle.demands.specs.Statements.Demand3.{
  Controller,
  PlantState,
  fresh_plant,
  after_words,
  Operation,
  operation,
  perform_all,
  Phases,
  sheet_length,
  decode,
  Call,
  BookingCall,
  Calls,
  ◌then◌,
  reply_to,
  answer_to,
  words,
  lent,
  served_outcome,
  is_served,
  World,
  excepted,
  shown_at,
  feed_of,
  fed_by,
  fed_by_none,
}
use Rattle.demands.proofs.Proofs.Answering.{call_number}
use Rattle.demands.proofs.Proofs.Booking.{booking_number}
use Rattle.demands.proofs.Refuting.Runs.{ordered, both_phases, run}

-- a start, the calls after it, and one call more, on which a claim is tested; or a booking or a cancellation more
pub record Instance : Type 0 where
  pub size : ℕ
  -- the buffer that the start is lent
  pub lending : List ℕ
  pub calls : Calls
  pub call : Call
  pub booking : BookingCall
  -- the order of the operations of a phase, and how many of them are performed at an interruption
  pub backward : Bool
  pub done : ℕ

-- ---- what is compared

abbrev pub differ : ℕ → ℕ → Bool
differ a b = not (eqb a b)

-- the numbers of a list as digits, in their order
unfoldable pub digest : List ℕ → ℕ
digest [] = 1
digest (x ∷ xs) = x + 256 * digest xs

abbrev pub bit : Bool → ℕ
bit b = cond b 1 0

-- a ring's arrays added up
unfoldable pub ring_sum : Ring → ℕ
ring_sum ring =
    let h = ring.health in
    let c = ring.commands in
    ring.n + (sum h.generators + sum h.generator_breakers + sum h.bus_breakers + sum (map bit h.locked))
    + (sum (map bit c.generators) + sum (map bit c.generator_breakers) + sum (map bit c.bus_breakers))

-- bookings as digits, in their order: each one's number, bus and watts
unfoldable pub bookings_digest : List Booking → ℕ
bookings_digest [] = 1
bookings_digest (b ∷ bs) = b.number + 65536 * (b.bus + 256 * (b.watts + 131072 * bookings_digest bs))

-- .. and a whole load: its live bookings, every place, the figures
unfoldable pub load_digest : Load → ℕ
load_digest l = l.live + 256 * (l.dark_watts + 16777216 * (bookings_digest l.bookings + digest l.watts))

-- the ring and the load of a ring state
unfoldable pub state_sum : RingState → ℕ
state_sum state = ring_sum state.ring + load_digest state.load

unfoldable pub choice_number : Choice → ℕ
choice_number c = choice_letter c + 256 * choice_source c

unfoldable pub choices_sum : List BusChoice → ℕ
choices_sum cs = sum (map (λ c. choice_number c.choice) cs)

unfoldable pub operation_number : Operation → ℕ
operation_number o = part_code o.part + 128 * bit o.command

unfoldable pub operations_digest : List Operation → ℕ
operations_digest os = digest (map operation_number os)

unfoldable pub is_dark : Choice → Bool
is_dark choice.Dark = true
is_dark (choice.Own g) = false
is_dark (choice.High g) = false
is_dark (choice.Low g) = false

-- the generator that feeds; 0 for none, 255 for a clash
unfoldable pub feed_number : Feed → ℕ
feed_number feed.Dark = 0
feed_number (feed.Fed g) = g
feed_number (feed.Clash g h) = 255

unfoldable pub is_clash : Feed → Bool
is_clash feed.Dark = false
is_clash (feed.Fed g) = false
is_clash (feed.Clash g h) = true

unfoldable pub rises : List ℕ → Bool
rises [] = true
rises (x ∷ []) = true
rises (x ∷ y ∷ r) = let more = rises (y ∷ r) in ltb x y && more

unfoldable pub on_world : Option World → (World → Bool) → Bool
on_world none f = false
on_world (some W) f = f W

unfoldable pub on_phases : Option Phases → (Phases → Bool) → Bool
on_phases none f = false
on_phases (some ph) f = f ph

-- ---- of any call: the refusal that is due, and what it gives

-- the refusal that meets a call of the list, 0 where none does
unfoldable pub due : ℕ → PlantState → Call → ℕ
due n P call =
    let Q = after_words (words call) P in
    call_number n call (sheet n Q.last Q.health)

-- refused, and not by the number due
unfoldable pub refused_in_vain : ℕ → Outcome → Bool
refused_in_vain k o = not (served_outcome o) && differ (outcome_number o) k

-- a number is due, and another or none is given
unfoldable pub not_refused : ℕ → Outcome → Bool
not_refused k o = differ k 0 && differ (outcome_number o) k

-- refused, and the record given is not the one to be kept
unfoldable pub record_changed : RingState → Outcome → RingState → Bool
record_changed kept o given = not (served_outcome o) && differ (state_sum given) (state_sum kept)

unfoldable pub buffer_changed : List ℕ → StateReply → Bool
buffer_changed buffer reply = not (is_served reply) && differ (sum reply.buffer) (sum buffer)

unfoldable pub choices_lit : StateReply → Bool
choices_lit reply = not (is_served reply) && differ (choices_sum reply.answer.choices) (choices_sum all_dark)

unfoldable pub behind_changed : List ℕ → StateReply → Bool
behind_changed buffer reply =
    let k = sheet_length reply.buffer in
    is_served reply && differ (sum (drop k reply.buffer)) (sum (drop k buffer))

unfoldable pub length_changed : List ℕ → StateReply → Bool
length_changed buffer reply = differ (length reply.buffer) (length buffer)

-- ---- when the orders have ended

unfoldable pub dark_though_reached : ℕ → World → ℕ → Bool
dark_though_reached n W b = is_dark (shown_at W b) && not (is_none (plan n W.plant.health b))

unfoldable pub lit_though_unreached : ℕ → World → ℕ → Bool
lit_though_unreached n W b = not (is_dark (shown_at W b)) && is_none (plan n W.plant.health b)

unfoldable pub lit_by_another : ℕ → World → ℕ → Bool
lit_by_another n W b =
    not (is_dark (shown_at W b)) && differ (feed_number (bus_feed n W.plant.health W.plant.last b)) (choice_source (shown_at W b))

unfoldable pub dark_though_fed : ℕ → World → ℕ → Bool
dark_though_fed n W b = is_dark (shown_at W b) && differ (feed_number (bus_feed n W.plant.health W.plant.last b)) 0

unfoldable pub other_health : World → Part → Bool
other_health W p = differ ((health_of W.state.ring.health).health p) (W.plant.health.health p)

unfoldable pub other_lock : World → ℕ → Bool
other_lock W g = not (beq ((health_of W.state.ring.health).locked g) (W.plant.health.locked g))

unfoldable pub other_command : World → Part → Bool
other_command W p = not (beq (commands_of W.state.ring.commands p) (W.plant.last p))

unfoldable pub unfit_above : ℕ → World → Part → Bool
unfit_above n W p = ltb n (number p) && differ ((health_of W.state.ring.health).health p) 0

unfoldable pub lock_above : ℕ → World → ℕ → Bool
lock_above n W g = not (ltb g n) && (health_of W.state.ring.health).locked g

unfoldable pub on_above : ℕ → World → Part → Bool
on_above n W p = ltb n (number p) && commands_of W.state.ring.commands p

unfoldable pub any_clash : ℕ → PlantState → Bool
any_clash n P = any_of (λ b. is_clash (bus_feed n P.health P.last b)) (below n)

-- ---- what the record gives of bookings, when the orders have ended

-- the record's live bookings are not those of history
unfoldable pub other_live : World → Bool
other_live W = differ (bookings_digest (live_bookings W.state.load)) (bookings_digest W.history.live)

-- the record counts others than are live
unfoldable pub other_count : World → Bool
other_count W = differ W.state.load.live (length W.history.live)

-- a generator's watts are not those of the live bookings on the buses that the plant has it feed
unfoldable pub other_watts : ℕ → World → ℕ → Bool
other_watts n W g =
    differ (get_or W.state.load.watts g 0) (total_watts (keep (λ b. fed_by (suc g) (feed_of n W.plant b)) W.history.live))

-- a generator above n has watts
unfoldable pub watts_above : ℕ → World → ℕ → Bool
watts_above n W g = not (ltb g n) && differ (get_or W.state.load.watts g 0) 0

-- the dark watts are not those of the live bookings on the plant's dark buses
unfoldable pub other_dark_watts : ℕ → World → Bool
other_dark_watts n W = differ W.state.load.dark_watts (total_watts (keep (λ b. fed_by_none (feed_of n W.plant b)) W.history.live))

-- the figures do not sum to everything booked less everything cancelled
unfoldable pub other_sum : World → Bool
other_sum W = differ (sum W.state.load.watts + W.state.load.dark_watts + W.history.cancelled) W.history.booked

-- ---- a served call's choices and phases, for the plant just before its operations

unfoldable pub other_choice : ℕ → PlantState → StateReply → ℕ → Bool
other_choice n P reply b = differ (choice_number (choice_at reply.answer.choices b)) (choice_number (choice_of n (plan n P.health b)))

unfoldable pub new_commands : ℕ → PlantState → PartCommands
new_commands n P = commands n P.health

unfoldable pub other_first : ℕ → PlantState → Phases → Bool
other_first n P ph = differ (operations_digest ph.first) (operations_digest (map (operation false) (opening n P.last (new_commands n P))))

unfoldable pub other_second : ℕ → PlantState → Phases → Bool
other_second n P ph =
    differ (operations_digest ph.second) (operations_digest (map (operation true) (closing n P.last (plan n P.health))))

-- interrupted in a phase after some of its operations, at a moment that is not excepted
unfoldable pub clash_in_first : ℕ → Bool → ℕ → List Report → PlantState → Phases → Bool
clash_in_first n backward k rs P ph =
    let os = ordered backward ph.first in
    not (excepted rs (drop k os)) && any_clash n (perform_all (take k os) P)

unfoldable pub clash_in_second : ℕ → Bool → ℕ → PlantState → Phases → Bool
clash_in_second n backward k P ph =
    any_clash n (perform_all (take k (ordered backward ph.second)) (perform_all (ordered backward ph.first) P))

-- an operation that is not to open, or not to close
unfoldable pub extra_open : ℕ → PlantState → Operation → Bool
extra_open n P o = o.command || (not (P.last o.part) || new_commands n P o.part)

unfoldable pub extra_close : ℕ → PlantState → Operation → Bool
extra_close n P o = not o.command || (P.last o.part || not (new_commands n P o.part))

unfoldable pub has_operation : Bool → Part → List Operation → Bool
has_operation c p os = any_of (λ o. same_part p o.part && beq c o.command) os

unfoldable pub other_outcome : ℕ → PlantState → PlantState → Part → Bool
other_outcome n P Q p = not (beq (Q.last p) (new_commands n P p))

-- ---- the claims

-- each claim of demand 3, by its field
pub data Claim3 : Type 0 where
  start_only start_always start_record_kept start_buffer_kept start_choices_dark start_behind_kept start_length_kept : Claim3
  only always record_kept buffer_kept choices_dark behind_kept length_kept : Claim3
  ends ends_after start_chosen start_first start_second choices_are decodes first_is second_is : Claim3
  dark_exactly lit_exactly energized de_energized : Claim3
  size health locked standing health_above locked_above_lem commands_above : Claim3
  clash_in_start_first clash_in_start_second clash_in_first_lem clash_in_second_lem clash_between : Claim3
  bookings live watts watts_above_lem dark_watts_lem sums : Claim3
  booking_only booking_always booking_record_kept : Claim3

-- each claim of demand 2, by its field; `closes_outward` is `second_is`
pub data Claim2 : Type 0 where
  start_answered call_answered start_path call_path : Claim2
  opens all_open closes all_close opens_rising closes_outward brings_about : Claim2

module _ (c : Controller) (i : Instance) where
  -- the reply to the start
  unfoldable pub start_of : StateReply
  start_of = c.start i.size i.lending

  -- the reply to the call right after it
  unfoldable pub first_reply : StateReply
  first_reply = reply_to c start_of.answer.state i.call

  -- the refusal due to the start
  unfoldable pub start_due : ℕ
  start_due = start_refusal i.size (length i.lending)

  -- a test of the world before the call and of its reply
  unfoldable pub at_call : (World → StateReply → Bool) → Bool
  at_call f = on_world (run c i.backward i.size i.lending i.calls) (λ W. f W (reply_to c W.state i.call))

  -- .. of a served call's plant, just before its operations, and of its reply
  unfoldable pub at_served : (PlantState → StateReply → Bool) → Bool
  at_served f = at_call (λ W reply. is_served reply && f (after_words (words i.call) W.plant) reply)

  -- .. of its phases
  unfoldable pub at_phases : (PlantState → Phases → Bool) → Bool
  at_phases f = at_served (λ P reply. on_phases (decode i.size reply.buffer) (f P))

  -- .. of the start's phases
  unfoldable pub at_start : (Phases → Bool) → Bool
  at_start f = is_served start_of && on_phases (decode i.size start_of.buffer) f

  -- .. of the world after the call
  unfoldable pub at_end : (World → Bool) → Bool
  at_end f = on_world (run c i.backward i.size i.lending (i.calls then i.call)) f

  -- .. of the world after the calls before it, whatever the last of them is
  unfoldable pub at_last : (World → Bool) → Bool
  at_last f = on_world (run c i.backward i.size i.lending i.calls) f

  -- .. of either of them
  unfoldable pub at_either : (World → Bool) → Bool
  at_either f = at_end f || at_last f

  -- .. of that world and of what the booking or the cancellation is answered
  unfoldable pub at_booking : (World → BookingAnswer → Bool) → Bool
  at_booking f = at_last (λ W. f W (answer_to c W.state i.booking))

  -- whether the controller fails a claim of demand 3 here
  unfoldable pub fails3 : Claim3 → Bool
  fails3 start_only = refused_in_vain start_due start_of.answer.outcome
  fails3 start_always = not_refused start_due start_of.answer.outcome
  fails3 start_record_kept = record_changed (unloaded (blank_ring 0)) start_of.answer.outcome start_of.answer.state
  fails3 start_buffer_kept = buffer_changed i.lending start_of
  fails3 start_choices_dark = choices_lit start_of
  fails3 start_behind_kept = behind_changed i.lending start_of
  fails3 start_length_kept = length_changed i.lending start_of
  fails3 only = at_call (λ W reply. refused_in_vain (due i.size W.plant i.call) reply.answer.outcome)
  fails3 always = at_call (λ W reply. not_refused (due i.size W.plant i.call) reply.answer.outcome)
  fails3 record_kept = at_call (λ W reply. record_changed W.state reply.answer.outcome reply.answer.state)
  fails3 buffer_kept = at_call (λ W reply. buffer_changed (lent i.call) reply)
  fails3 choices_dark = at_call (λ W reply. choices_lit reply)
  fails3 behind_kept = at_call (λ W reply. behind_changed (lent i.call) reply)
  fails3 length_kept = at_call (λ W reply. length_changed (lent i.call) reply)
  fails3 ends = is_served start_of && is_none (decode i.size start_of.buffer)
  fails3 ends_after = is_served start_of && (is_served first_reply && is_none (decode i.size first_reply.buffer))
  fails3 start_chosen = is_served start_of && any_of (other_choice i.size fresh_plant start_of) (below i.size)
  fails3 start_first = at_start (other_first i.size fresh_plant)
  fails3 start_second = at_start (other_second i.size fresh_plant)
  fails3 choices_are = at_served (λ P reply. any_of (other_choice i.size P reply) (below i.size))
  fails3 decodes = at_served (λ P reply. is_none (decode i.size reply.buffer))
  fails3 first_is = at_phases (other_first i.size)
  fails3 second_is = at_phases (other_second i.size)
  fails3 dark_exactly = at_end (λ W. any_of (dark_though_reached i.size W) (below i.size))
  fails3 lit_exactly = at_end (λ W. any_of (lit_though_unreached i.size W) (below i.size))
  fails3 energized = at_end (λ W. any_of (lit_by_another i.size W) (below i.size))
  fails3 de_energized = at_end (λ W. any_of (dark_though_fed i.size W) (below i.size))
  fails3 size = at_end (λ W. differ W.state.ring.n i.size)
  fails3 health = at_either (λ W. any_of (other_health W) (parts i.size))
  fails3 locked = at_either (λ W. any_of (other_lock W) (below i.size))
  fails3 standing = at_either (λ W. any_of (other_command W) (parts i.size))
  fails3 health_above = at_end (λ W. any_of (unfit_above i.size W) (parts largest))
  fails3 locked_above_lem = at_end (λ W. any_of (lock_above i.size W) (below largest))
  fails3 commands_above = at_end (λ W. any_of (on_above i.size W) (parts largest))
  fails3 clash_in_start_first = at_start (clash_in_first i.size i.backward i.done [] fresh_plant)
  fails3 clash_in_start_second = at_start (clash_in_second i.size i.backward i.done fresh_plant)
  fails3 clash_in_first_lem = at_phases (λ P. clash_in_first i.size i.backward i.done (words i.call) P)
  fails3 clash_in_second_lem = at_phases (λ P. clash_in_second i.size i.backward i.done P)
  fails3 clash_between = at_end (λ W. any_clash i.size W.plant)
  fails3 bookings = at_last other_live
  fails3 live = at_last other_count
  fails3 watts = at_last (λ W. any_of (other_watts i.size W) (below i.size))
  fails3 watts_above_lem = at_last (λ W. any_of (watts_above i.size W) (below largest))
  fails3 dark_watts_lem = at_last (other_dark_watts i.size)
  fails3 sums = at_last other_sum
  fails3 booking_only = at_booking (λ W answer. refused_in_vain (booking_number i.size W.history i.booking) answer.outcome)
  fails3 booking_always = at_booking (λ W answer. not_refused (booking_number i.size W.history i.booking) answer.outcome)
  fails3 booking_record_kept = at_booking (λ W answer. record_changed W.state answer.outcome answer.state)

  -- whether it fails a claim of demand 2 here
  unfoldable pub fails2 : Claim2 → Bool
  fails2 start_answered = refused_in_vain start_due start_of.answer.outcome
  fails2 call_answered = at_call (λ W reply. refused_in_vain (due i.size W.plant i.call) reply.answer.outcome)
  fails2 start_path = is_served start_of && any_of (other_choice i.size fresh_plant start_of) (below i.size)
  fails2 call_path = at_served (λ P reply. any_of (other_choice i.size P reply) (below i.size))
  fails2 opens = at_phases (λ P ph. any_of (extra_open i.size P) ph.first)
  fails2 all_open =
      at_phases (λ P ph. any_of (λ p. not (has_operation false p ph.first)) (opening i.size P.last (new_commands i.size P)))
  fails2 closes = at_phases (λ P ph. any_of (extra_close i.size P) ph.second)
  fails2 all_close =
      at_phases (λ P ph. any_of (λ p. not (has_operation true p ph.second)) (closing i.size P.last (plan i.size P.health)))
  fails2 opens_rising = at_phases (λ P ph. not (rises (map (λ o. part_code o.part) ph.first)))
  fails2 closes_outward = at_phases (other_second i.size)
  fails2 brings_about = at_phases (λ P ph. any_of (other_outcome i.size P (both_phases i.backward ph P)) (parts i.size))
