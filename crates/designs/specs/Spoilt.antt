-- The right controller, spoilt in what it gives at starts, steps, scans, bookings or cancellations.
use Rattle.std.specs.Prelude.{cond, List, ℕ}
use Rattle.model.specs.declared.Report.{Report}
use Rattle.model.specs.declared.Scan.{Scan}
use Rattle.model.specs.declared.Booking.{Booking}
use Rattle.model.specs.declared.Load.{Load}
use Rattle.model.specs.declared.Ring.{Ring}
use Rattle.model.specs.declared.RingState.{RingState}
use Rattle.model.specs.declared.BusChoice.{BusChoice}
use Rattle.model.specs.declared.BookingAnswer.{BookingAnswer}
use Rattle.model.specs.Reports.{blank_ring}
use Rattle.model.specs.States.{StateReply, state_start, state_step, state_scan, book_answer, cancel_answer}
use Rattle.demands.specs.Statements.Demand3.{Controller, is_served, is_booked}

-- .. in starts, in steps, in scans
unfoldable pub start_spoilt : (ℕ → List ℕ → StateReply → StateReply) → Controller
start_spoilt f =
    record {
      start = λ n buffer. f n buffer (state_start n buffer);
      step = state_step;
      scan = state_scan;
      book = book_answer;
      cancel = cancel_answer;
    }

unfoldable pub step_spoilt : (RingState → Report → List ℕ → StateReply → StateReply) → Controller
step_spoilt f =
    record {
      start = state_start;
      step = λ state r buffer. f state r buffer (state_step state r buffer);
      scan = state_scan;
      book = book_answer;
      cancel = cancel_answer;
    }

unfoldable pub scan_spoilt : (RingState → Scan → List ℕ → StateReply → StateReply) → Controller
scan_spoilt f =
    record {
      start = state_start;
      step = state_step;
      scan = λ state s buffer. f state s buffer (state_scan state s buffer);
      book = book_answer;
      cancel = cancel_answer;
    }

-- .. in bookings, and in cancellations
unfoldable pub bookings_spoilt : (RingState → Booking → BookingAnswer → BookingAnswer) → (RingState → ℕ → BookingAnswer → BookingAnswer) → Controller
bookings_spoilt f g =
    record {
      start = state_start;
      step = state_step;
      scan = state_scan;
      book = λ state b. f state b (book_answer state b);
      cancel = λ state v. g state v (cancel_answer state v);
    }

-- a refused reply, or a served one, altered
unfoldable pub when_refused : (StateReply → StateReply) → StateReply → StateReply
when_refused f reply = cond (is_served reply) reply (f reply)

unfoldable pub when_served : (StateReply → StateReply) → StateReply → StateReply
when_served f reply = cond (is_served reply) (f reply) reply

-- .. or answer to a booking or a cancellation
unfoldable pub when_not_booked : (BookingAnswer → BookingAnswer) → BookingAnswer → BookingAnswer
when_not_booked f answer = cond (is_booked answer) answer (f answer)

unfoldable pub when_booked : (BookingAnswer → BookingAnswer) → BookingAnswer → BookingAnswer
when_booked f answer = cond (is_booked answer) (f answer) answer

-- a ring state with another ring, another load
unfoldable pub of_ring : (Ring → Ring) → RingState → RingState
of_ring f state = record { ring = f state.ring; load = state.load }

unfoldable pub of_load : (Load → Load) → RingState → RingState
of_load f state = record { ring = state.ring; load = f state.load }

-- a reply with another record, other choices, another buffer
unfoldable pub with_state : (RingState → RingState) → StateReply → StateReply
with_state f reply =
    let a = reply.answer in
    record { answer = record { outcome = a.outcome; state = f a.state; choices = a.choices }; buffer = reply.buffer }

unfoldable pub with_ring : (Ring → Ring) → StateReply → StateReply
with_ring f reply = with_state (of_ring f) reply

unfoldable pub with_load : (Load → Load) → StateReply → StateReply
with_load f reply = with_state (of_load f) reply

unfoldable pub with_choices : List BusChoice → StateReply → StateReply
with_choices cs reply =
    let a = reply.answer in
    record { answer = record { outcome = a.outcome; state = a.state; choices = cs }; buffer = reply.buffer }

unfoldable pub with_buffer : (List ℕ → List ℕ) → StateReply → StateReply
with_buffer f reply = record { answer = reply.answer; buffer = f reply.buffer }

-- an answer to a booking or a cancellation with another record
unfoldable pub giving_state : (RingState → RingState) → BookingAnswer → BookingAnswer
giving_state f answer = record { outcome = answer.outcome; state = f answer.state }

-- ---- starts, steps and scans altered where they are refused, or where they are served

unfoldable pub start_refusing : (StateReply → StateReply) → Controller
start_refusing f = start_spoilt (λ n buffer reply. when_refused f reply)

unfoldable pub start_serving : (StateReply → StateReply) → Controller
start_serving f = start_spoilt (λ n buffer reply. when_served f reply)

unfoldable pub step_refusing : (StateReply → StateReply) → Controller
step_refusing f = step_spoilt (λ state r buffer reply. when_refused f reply)

unfoldable pub step_serving : (StateReply → StateReply) → Controller
step_serving f = step_spoilt (λ state r buffer reply. when_served f reply)

unfoldable pub scan_refusing : (StateReply → StateReply) → Controller
scan_refusing f = scan_spoilt (λ state s buffer reply. when_refused f reply)

unfoldable pub scan_serving : (StateReply → StateReply) → Controller
scan_serving f = scan_spoilt (λ state s buffer reply. when_served f reply)

-- a ring whose record says that every part is fit, or that none is commanded
abbrev pub mended_ring : Ring → Ring
mended_ring ring = record { n = ring.n; health = (blank_ring 3).health; commands = ring.commands }

abbrev pub idle_ring : Ring → Ring
idle_ring ring = record { n = ring.n; health = ring.health; commands = (blank_ring 3).commands }
