-- The controllers that are wrong about bookings, each with the claim that it is held to fail and the calls that show it.
use Rattle.std.specs.Prelude.{ℕ, zero, suc, eqb}
use mathlib.Core.List.{List, [], ◌∷◌, ◌++◌}
use Rattle.model.specs.declared.Booking.{Booking}
use Rattle.model.specs.Bookings.{live_bookings, with_booking, watts_outside, is_live, no_place, no_load}
use Rattle.demands.specs.Statements.Demand3.{Call, step, scan, book, cancel, Calls, nothing, ◌then◌, ◌also◌}
use Rattle.demands.proofs.Proofs.Answering.{full_room}
use Rattle.demands.proofs.Refuting.Claims as claim
use Rattle.demands.proofs.Refuting.Claims.{
  fails3,
  digest,
  ring_sum,
  bookings_digest,
  load_digest,
  state_sum,
  choice_number,
  choices_sum,
  on_world,
  due,
  refused_in_vain,
  not_refused,
  record_changed,
  other_health,
  other_command,
  other_live,
  other_count,
  other_watts,
  watts_above,
  other_dark_watts,
  other_sum,
  other_choice,
  start_of,
  start_due,
  at_call,
  at_served,
  at_end,
  at_last,
  at_either,
  at_booking,
}
use Rattle.demands.proofs.Refuting.Facts.{generator1_off, breaker1_closed, breaker2_open}
use Rattle.designs.specs.Spoilt.{when_booked, of_ring, with_load, giving_state, start_refusing, start_serving, step_refusing, step_serving, scan_refusing, scan_serving, mended_ring, idle_ring}
use Rattle.designs.specs.Instances.{generator2_off, generator3_off, generator4_off, starting, calling, scan_of, two_faults, booking_after, ending}
use Rattle.designs.specs.Rows.{Row3, row}
use Rattle.wrong_bookings.specs.Controllers.{book_spoilt, cancel_spoilt, book_giving, dark_left_out, by_own_generator, watt_above, holding, figures_stay_in_steps, figures_stay_in_scans, figures_stay_in_bookings, counts_cancelled, keeps_cancelled, empties_places, counts_one_more, forgets_bookings, places_serve_once, asks_every_place, serves_bookings, serves_cancellations, refuses_first, refuses_cancellations, book_refusing, cancel_refusing, sheds_load}

-- a booking
abbrev pub booking : ℕ → ℕ → ℕ → Booking
booking v bus w = record { number = v; bus = bus; watts = w }

-- 500 W on B3, which G2 feeds after the start of a ring of three, and then nothing or its cancellation
abbrev pub booked : Calls
booked = nothing also book (booking 7 3 500)

abbrev pub cancelled : Calls
cancelled = booked also cancel 7

-- every generator of a ring of three fails in one scan
abbrev pub all_off_at_once : Call
all_off_at_once = scan (scan_of (generator1_off ∷ generator2_off ∷ generator3_off ∷ [])) full_room

-- the figures: after steps, scans, bookings and cancellations
unfoldable pub wrong_figures : List Row3
wrong_figures =
    row figures_stay_in_steps claim.watts (ending (booked then step generator2_off full_room))
    ∷ row figures_stay_in_scans claim.watts (ending (booked then scan (scan_of (generator2_off ∷ [])) full_room))
    ∷ row figures_stay_in_scans claim.dark_watts_lem (ending (booked then all_off_at_once))
    ∷ row figures_stay_in_bookings claim.watts (ending booked)
    ∷ row figures_stay_in_bookings claim.sums (ending booked)
    ∷ row counts_cancelled claim.watts (ending cancelled)
    ∷ row counts_cancelled claim.sums (ending cancelled)
    ∷ row (scan_serving (with_load dark_left_out)) claim.dark_watts_lem (ending (booked then all_off_at_once))
    ∷ row (scan_serving (with_load dark_left_out)) claim.sums (ending (booked then all_off_at_once))
    ∷ row (book_giving dark_left_out) claim.dark_watts_lem (ending (nothing then all_off_at_once also book (booking 7 3 500)))
    ∷ row (book_giving by_own_generator) claim.watts (ending booked)
    ∷ row (step_serving (with_load by_own_generator)) claim.watts (ending (booked then step breaker1_closed full_room))
    ∷ row (book_giving watt_above) claim.watts_above_lem (ending booked)
    ∷ row (step_serving (with_load watt_above)) claim.watts_above_lem (ending (nothing then step breaker2_open full_room))
    ∷ []

-- the live bookings
unfoldable pub wrong_bookings : List Row3
wrong_bookings =
    row forgets_bookings claim.bookings (ending booked)
    ∷ row keeps_cancelled claim.bookings (ending cancelled)
    ∷ row keeps_cancelled claim.sums (ending cancelled)
    ∷ row empties_places claim.bookings (ending cancelled)
    ∷ row (start_serving (with_load (holding (booking 7 3 500 ∷ []) 1))) claim.bookings (ending nothing)
    ∷ row (step_serving (with_load (λ l. no_load))) claim.bookings (ending (booked then step breaker2_open full_room))
    ∷ row (scan_serving (with_load (λ l. no_load))) claim.sums (ending (booked then scan two_faults full_room))
    ∷ row sheds_load claim.choices_are (calling booked (step breaker2_open full_room))
    ∷ row (book_spoilt (λ state b answer. when_booked (giving_state (of_ring idle_ring)) answer)) claim.only (calling booked (step breaker2_open full_room))
    ∷ row (book_spoilt (λ state b answer. when_booked (giving_state (of_ring idle_ring)) answer)) claim.standing (ending booked)
    ∷ row (cancel_spoilt (λ state v answer. when_booked (giving_state (of_ring mended_ring)) answer)) claim.health
    (ending (nothing then step breaker2_open full_room also book (booking 7 3 500) also cancel 7))
    ∷ []

-- bookings and cancellations that are refused in vain, or not refused, or by another number; what a refused call alters
unfoldable pub wrong_turns : List Row3
wrong_turns =
    row serves_bookings claim.booking_always (booking_after nothing (book (booking 7 0 500)))
    ∷ row serves_bookings claim.booking_always (booking_after nothing (book (booking 7 4 500)))
    ∷ row serves_bookings claim.booking_always (booking_after nothing (book (booking 7 3 0)))
    ∷ row serves_bookings claim.booking_always (booking_after nothing (book (booking 7 3 100001)))
    ∷ row serves_bookings claim.booking_always (booking_after booked (book (booking 7 1 300)))
    ∷ row serves_cancellations claim.booking_always (booking_after booked (cancel 9))
    ∷ row serves_cancellations claim.booking_always (booking_after cancelled (cancel 7))
    ∷ row (refuses_first 12 (λ state b. watts_outside b.watts)) claim.booking_always (booking_after nothing (book (booking 7 4 0)))
    ∷ row (refuses_first 12 (λ state b. watts_outside b.watts)) claim.booking_only (booking_after nothing (book (booking 7 4 0)))
    ∷ row (refuses_first 13 (λ state b. is_live (live_bookings state.load) b.number)) claim.booking_always (booking_after booked (book (booking 7 3 0)))
    ∷ row (refuses_first 10 (λ state b. eqb b.bus state.ring.n)) claim.booking_only (booking_after nothing (book (booking 7 3 500)))
    ∷ row (refuses_first 12 (λ state b. eqb b.watts 1)) claim.booking_only (booking_after nothing (book (booking 7 3 1)))
    ∷ row (refuses_first 12 (λ state b. eqb b.watts 100000)) claim.booking_only (booking_after nothing (book (booking 7 3 100000)))
    ∷ row asks_every_place claim.booking_only (booking_after booked (book (booking 0 1 300)))
    ∷ row refuses_cancellations claim.booking_only (booking_after booked (cancel 7))
    ∷ row empties_places claim.booking_only (booking_after cancelled (book (booking 9 1 300)))
    ∷ row (book_refusing (λ l. with_booking l (booking 7 4 500))) claim.booking_record_kept (booking_after nothing (book (booking 7 4 500)))
    ∷ row (book_refusing by_own_generator) claim.booking_record_kept (booking_after booked (book (booking 7 3 500)))
    ∷ row (cancel_refusing (λ l. no_load)) claim.booking_record_kept (booking_after booked (cancel 9))
    ∷ row (start_refusing (with_load (λ l. with_booking l (booking 7 3 500)))) claim.start_record_kept (starting 2 full_room)
    ∷ row (step_refusing (with_load (λ l. no_load))) claim.record_kept (calling booked (step generator4_off full_room))
    ∷ row (scan_refusing (with_load (λ l. no_load))) claim.record_kept (calling booked (scan (scan_of (generator4_off ∷ [])) full_room))
    ∷ []

-- k bookings of a watt on B1, with the numbers below k
unfoldable pub filled : ℕ → Calls
filled zero = nothing
filled (suc k) = filled k also book (booking k 1 1)

-- the 64th booking and the 65th, and the first after a cancellation
unfoldable pub wrong_places : List Row3
wrong_places =
    row serves_bookings claim.booking_always (booking_after (filled 64) (book (booking 64 1 1)))
    ∷ row (refuses_first 14 (λ state b. eqb state.load.live 63)) claim.booking_only (booking_after (filled 63) (book (booking 63 1 1)))
    ∷ row (refuses_first 14 (λ state b. no_place state.load)) claim.booking_always (booking_after (filled 64) (book (booking 7 1 1)))
    ∷ row counts_one_more claim.live (ending (filled 64))
    ∷ row places_serve_once claim.booking_only (booking_after (filled 64 also cancel 7) (book (booking 64 1 1)))
    ∷ []

-- all of them
unfoldable pub wrong_about_bookings : List Row3
wrong_about_bookings = wrong_figures ++ (wrong_bookings ++ (wrong_turns ++ wrong_places))
