-- The ring state (document 01: ring record) as the calls take it and give it: the ring, and the load that document 02, Note 5, books on it. The
-- whole answer of each call, served or refused.
use Rattle.std.specs.Prelude.{Bool, not, ◌||◌, cond, List, [], ◌∷◌, ℕ, eqb, length, Ok, Err}
use Rattle.model.specs.Values.{refusal_of}
use Rattle.model.specs.declared.Report.{Report}
use Rattle.model.specs.declared.Scan.{Scan}
use Rattle.model.specs.declared.Booking.{Booking}
use Rattle.model.specs.declared.Load.{Load}
use Rattle.model.specs.declared.Ring.{Ring}
use Rattle.model.specs.declared.RingState.{RingState}
use Rattle.model.specs.declared.StateAnswer.{StateAnswer}
use Rattle.model.specs.declared.BookingAnswer.{BookingAnswer}
use Rattle.model.specs.Sheet.{written}
use Rattle.model.specs.Reports.{blank_ring, called_for, with_plan}
use Rattle.model.specs.Refusals.{first_met, or_else, bad_ring, bus_outside, next_sheet, start_refusal, step_refusal}
use Rattle.model.specs.Answers.{all_dark}
use Rattle.model.specs.Scans.{scan_reports, told_all, scan_refusal}
use Rattle.model.specs.Bookings.{
  live_bookings,
  no_load,
  with_figures,
  with_booking,
  without_booking,
  watts_outside,
  is_live,
  no_place,
  bad_load,
}

-- a ring without bookings
unfoldable pub unloaded : Ring → RingState
unloaded ring = record { ring = ring; load = no_load }

-- a ring state told several reports, first to last, before any command
unfoldable pub told_state : RingState → List Report → RingState
told_state state rs = record { ring = told_all state.ring rs; load = state.load }

-- "after each booking, cancellation, step or scan it gives every generator's watts, kept up to date": a load on a ring, its figures made anew
unfoldable pub reckoned : Ring → Load → RingState
reckoned ring load = record { ring = ring; load = with_figures (called_for ring) load }

-- 9: document 01's conditions of the ring, and document 02's of the load on it
unfoldable pub bad_record : RingState → Bool
bad_record state = bad_ring state.ring || bad_load state.ring.n (called_for state.ring) state.load

-- 9 of the whole record comes first, then what else is refused; where it does not meet a record, the ring's own 9 does not either
unfoldable pub state_refusal : RingState → ℕ → ℕ
state_refusal state k = or_else (first_met ((9, bad_record state) ∷ [])) k

-- ---- start, step and scan

-- what a start, a step or a scan gives: its answer, and the lent buffer after the call
pub record StateReply : Type 0 where
  pub answer : StateAnswer
  pub buffer : List ℕ

-- "Each has its number as the answer, the record as handed in .."; "The choices of a refused start or step .. are all dark"
unfoldable pub refused_state : ℕ → RingState → StateAnswer
refused_state k state = record { outcome = Err (refusal_of k); state = state; choices = all_dark }

-- "gives the new record, each bus's choice ..": of a ring state that was told its reports
unfoldable pub served_state : RingState → StateAnswer
served_state state =
    record {
      outcome = Ok tt;
      state = reckoned (with_plan state.ring) state.load;
      choices = called_for state.ring;
    }

-- ".. and the sheet"
abbrev pub served_by : RingState → List ℕ → StateReply
served_by state buffer = record { answer = served_state state; buffer = written (next_sheet state.ring) buffer }

-- ".. and the buffer untouched."
abbrev pub refused_by : ℕ → RingState → List ℕ → StateReply
refused_by k state buffer = record { answer = refused_state k state; buffer = buffer }

-- a call of refusal k, for a ring state that was told its reports: served where k is 0; refused, it gives back the ring state kept
abbrev pub state_by : ℕ → RingState → RingState → List ℕ → StateReply
state_by k state kept buffer = cond (eqb k 0) (served_by state buffer) (refused_by k kept buffer)

-- "Starting a ring takes n and gives the record with all parts fit, each bus's choice and the sheet of its first orders."; "A refused start
-- has a record with n = 0 and every part fit and ordered off or open."
unfoldable pub state_start : ℕ → List ℕ → StateReply
state_start n buffer = state_by (start_refusal n (length buffer)) (unloaded (blank_ring n)) (unloaded (blank_ring 0)) buffer

-- "A step takes a record and a report, and gives the new record, each bus's choice and the sheet."; it checks 9, 5, 6, 8
unfoldable pub state_step : RingState → Report → List ℕ → StateReply
state_step state r buffer =
    state_by (state_refusal state (step_refusal state.ring r (length buffer))) (told_state state (r ∷ [])) state buffer

-- "The record and choices must be those that single steps would end with .."; it checks 9, 11, its reports, 8
unfoldable pub state_scan : RingState → Scan → List ℕ → StateReply
state_scan state s buffer =
    state_by (state_refusal state (scan_refusal state.ring s (length buffer))) (told_state state (scan_reports s)) state buffer

-- ---- booking and cancelling

-- "Turned away, after 9 and 10, in this order: 12 for watts outside the range; 13 for a number already live ..; 14 for a 65th booking."
unfoldable pub book_refusal : RingState → Booking → ℕ
book_refusal state b =
    first_met
    ((9, bad_record state)
    ∷ (10, bus_outside state.ring.n b.bus)
    ∷ (12, watts_outside b.watts)
    ∷ (13, is_live (live_bookings state.load) b.number)
    ∷ (14, no_place state.load)
    ∷ [])

-- 13: ".. or not live when cancelling"; a cancellation has a number alone
unfoldable pub cancel_refusal : RingState → ℕ → ℕ
cancel_refusal state v = first_met ((9, bad_record state) ∷ (13, not (is_live (live_bookings state.load) v)) ∷ [])

-- "Each has its number as the answer, the record as handed in"
abbrev pub refused_booking : ℕ → RingState → BookingAnswer
refused_booking k state = record { outcome = Err (refusal_of k); state = state }

-- a call of refusal k: served, it gives the ring with another load
abbrev pub booking_by : ℕ → RingState → Load → BookingAnswer
booking_by k state load = cond (eqb k 0) (record { outcome = Ok tt; state = reckoned state.ring load }) (refused_booking k state)

-- "Programme staff book equipment on a bus .."
unfoldable pub book_answer : RingState → Booking → BookingAnswer
book_answer state b = booking_by (book_refusal state b) state (with_booking state.load b)

-- ".. and cancel it later."
unfoldable pub cancel_answer : RingState → ℕ → BookingAnswer
cancel_answer state v = booking_by (cancel_refusal state v) state (without_booking state.load v)
