-- The ring states (document 01: ring records) that start, steps, bookings and cancellations make: "record not one that start and steps make".
use Rattle.std.specs.Prelude.{◌≡◌, true, List, ℕ, ◌-◌, ◌≤◌, length, drop, replicate}
use Rattle.model.specs.declared.Report.{Report}
use Rattle.model.specs.declared.Booking.{Booking}
use Rattle.model.specs.declared.Load.{Load}
use Rattle.model.specs.declared.RingState.{RingState}
use Rattle.model.specs.Plant.{smallest, largest}
use Rattle.model.specs.Bookings.{most_live, no_booking}
use Rattle.model.specs.States.{state_start, state_step, book_answer, cancel_answer}
use Rattle.demands.specs.Statements.Demand3.{is_served}

-- what start, steps, bookings and cancellations make, refused ones too; scans make nothing else
pub data Made : RingState → Type 0 where
  started : (n : ℕ) (buffer : List ℕ) → smallest ≤ n → n ≤ largest → is_served (state_start n buffer) ≡ true
      → Made (state_start n buffer).answer.state
  stepped : {state : RingState} (r : Report) (buffer : List ℕ) → Made state → Made (state_step state r buffer).answer.state
  booked : {state : RingState} (b : Booking) → Made state → Made (book_answer state b).state
  cancelled : {state : RingState} (v : ℕ) → Made state → Made (cancel_answer state v).state

-- the arrays of a record have 20 places, and 64 for bookings
pub record Arrays (state : RingState) : Type 0 where
  pub generators : length state.ring.health.generators ≡ largest
  pub generator_breakers_lem : length state.ring.health.generator_breakers ≡ largest
  pub bus_breakers_lem : length state.ring.health.bus_breakers ≡ largest
  pub locked : length state.ring.health.locked ≡ largest
  pub generator_commands : length state.ring.commands.generators ≡ largest
  pub generator_breaker_commands : length state.ring.commands.generator_breakers ≡ largest
  pub bus_breaker_commands : length state.ring.commands.bus_breakers ≡ largest
  pub bookings : length state.load.bookings ≡ most_live
  pub watts : length state.load.watts ≡ largest

-- no booking stands behind the live ones, where refusal 9 does not look
abbrev pub BlankBehind : Load → Type 0
BlankBehind l = drop l.live l.bookings ≡ replicate (most_live - l.live) no_booking
