-- Controllers that are wrong about bookings (document 02, Note 5): the right one spoilt in what it gives of them.
use Rattle.std.specs.Prelude.{Bool, cond, List, ◌++◌, map, ℕ, suc, eqb, take, drop, get_or, set, Ok}
use Rattle.model.specs.declared.Booking.{Booking}
use Rattle.model.specs.declared.Load.{Load}
use Rattle.model.specs.declared.RingState.{RingState}
use Rattle.model.specs.declared.BookingAnswer.{BookingAnswer}
use Rattle.model.specs.Lists.{keep}
use Rattle.model.specs.Reports.{places}
use Rattle.model.specs.Answers.{all_dark}
use Rattle.model.specs.Bookings.{live_bookings, no_booking, total_watts, with_booking, without_booking, is_live, no_place}
use Rattle.model.specs.States.{reckoned, refused_booking}
use Rattle.demands.specs.Statements.Demand3.{Controller}
use Rattle.designs.specs.Spoilt.{
  step_spoilt,
  scan_spoilt,
  bookings_spoilt,
  when_served,
  when_not_booked,
  when_booked,
  of_load,
  with_load,
  with_choices,
  giving_state,
}

-- served and refused, as answers to a booking or a cancellation
abbrev pub booked_to : RingState → BookingAnswer
booked_to state = record { outcome = Ok tt; state = state }

abbrev pub turned_away : ℕ → RingState → BookingAnswer
turned_away = refused_booking

-- bookings alone, or cancellations alone
unfoldable pub book_spoilt : (RingState → Booking → BookingAnswer → BookingAnswer) → Controller
book_spoilt f = bookings_spoilt f (λ state v answer. answer)

unfoldable pub cancel_spoilt : (RingState → ℕ → BookingAnswer → BookingAnswer) → Controller
cancel_spoilt g = bookings_spoilt (λ state b answer. answer) g

-- the load that served bookings give, altered
unfoldable pub book_giving : (Load → Load) → Controller
book_giving f = book_spoilt (λ state b answer. when_booked (giving_state (of_load f)) answer)

-- .. served cancellations, knowing the load handed in
unfoldable pub cancel_giving : (ℕ → Load → Load → Load) → Controller
cancel_giving f = cancel_spoilt (λ state v answer. when_booked (giving_state (of_load (f v state.load))) answer)

-- a load with other figures
abbrev pub figures : List ℕ → ℕ → Load → Load
figures watts dark l = record { bookings = l.bookings; live = l.live; watts = watts; dark_watts = dark }

-- .. those of another load; without the watts on dark buses; each booking by its bus's own generator; a watt more of G4
abbrev pub figures_of : Load → Load → Load
figures_of old l = figures old.watts old.dark_watts l

abbrev pub dark_left_out : Load → Load
dark_left_out l = figures l.watts 0 l

abbrev pub by_own_generator : Load → Load
by_own_generator l = figures (places (λ g. total_watts (keep (λ b. eqb b.bus (suc g)) (live_bookings l)))) 0 l

abbrev pub watt_above : Load → Load
watt_above l = figures (set l.watts 3 1) l.dark_watts l

-- a load with other bookings
abbrev pub holding : List Booking → ℕ → Load → Load
holding bs k l = record { bookings = bs; live = k; watts = l.watts; dark_watts = l.dark_watts }

-- the figures stay as they were handed in: in steps, in scans, in bookings, in cancellations
unfoldable pub figures_stay_in_steps : Controller
figures_stay_in_steps = step_spoilt (λ state r buffer reply. when_served (with_load (figures_of state.load)) reply)

unfoldable pub figures_stay_in_scans : Controller
figures_stay_in_scans = scan_spoilt (λ state s buffer reply. when_served (with_load (figures_of state.load)) reply)

unfoldable pub figures_stay_in_bookings : Controller
figures_stay_in_bookings =
    book_spoilt (λ state b answer. when_booked (giving_state (of_load (figures_of state.load))) answer)

unfoldable pub counts_cancelled : Controller
counts_cancelled = cancel_giving (λ v old l. figures_of old l)

-- a cancelled booking is kept; or its place is emptied and stays among the live ones
unfoldable pub keeps_cancelled : Controller
keeps_cancelled = cancel_giving (λ v old l. old)

unfoldable pub empties_places : Controller
empties_places =
    cancel_giving (λ v old l. holding (map (λ b. cond (eqb b.number v) no_booking b) old.bookings) old.live l)

-- where every place is taken one more is counted
unfoldable pub counts_one_more : Controller
counts_one_more = book_giving (λ l. holding l.bookings (cond (no_place l) (suc l.live) l.live) l)

-- a served booking is not kept
unfoldable pub forgets_bookings : Controller
forgets_bookings = book_spoilt (λ state b answer. when_booked (giving_state (λ given. state)) answer)

-- a place serves once: what was in the last one stays there when the others move up, and where it holds anything a booking gets 14
unfoldable pub places_serve_once : Controller
places_serve_once =
    bookings_spoilt (λ state b answer. cond (eqb (get_or state.load.bookings 63 no_booking).watts 0) answer (turned_away 14 state))
    (λ state v answer.
    when_booked (giving_state (of_load (λ l. holding (take l.live l.bookings ++ drop l.live state.load.bookings) l.live l))) answer)

-- a number is asked of every place, live or not
unfoldable pub asks_every_place : Controller
asks_every_place = book_spoilt (λ state b answer. cond (is_live state.load.bookings b.number) (turned_away 13 state) answer)

-- serves every booking, every cancellation
unfoldable pub serves_bookings : Controller
serves_bookings = book_spoilt (λ state b answer. booked_to (reckoned state.ring (with_booking state.load b)))

unfoldable pub serves_cancellations : Controller
serves_cancellations = cancel_spoilt (λ state v answer. booked_to (reckoned state.ring (without_booking state.load v)))

-- refuses every booking that passes a test, before anything else is asked
unfoldable pub refuses_first : ℕ → (RingState → Booking → Bool) → Controller
refuses_first k f = book_spoilt (λ state b answer. cond (f state b) (turned_away k state) answer)

unfoldable pub refuses_cancellations : Controller
refuses_cancellations = cancel_spoilt (λ state v answer. turned_away 13 state)

-- what a refused booking or cancellation alters
unfoldable pub book_refusing : (Load → Load) → Controller
book_refusing f = book_spoilt (λ state b answer. when_not_booked (giving_state (of_load f)) answer)

unfoldable pub cancel_refusing : (Load → Load) → Controller
cancel_refusing f = cancel_spoilt (λ state v answer. when_not_booked (giving_state (of_load f)) answer)

-- switches every bus off where there is a booking, in what it shows
unfoldable pub sheds_load : Controller
sheds_load =
    step_spoilt (λ state r buffer reply. cond (eqb state.load.live 0) reply (when_served (with_choices all_dark) reply))
