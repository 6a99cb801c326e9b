-- Controllers made of a design: how it chooses paths, which parts it commands, in which order, and how it writes its sheet. A design refuses as
-- the controller does, by its own commands and sheets; the right design is the controller.
use Rattle.std.specs.Prelude.{Bool, not, ◌||◌, cond, ℕ, ltb, eqb, length, Ok}
use Rattle.std.specs.Bool.{beq}
use mathlib.Core.List.{List, [], ◌∷◌, ◌++◌, flat_map}
use Rattle.std.proofs.Math.Option.{Option, none, some}
use Rattle.model.specs.declared.Part.{Part}
use Rattle.model.specs.declared.Report.{Report}
use Rattle.model.specs.declared.Scan.{Scan}
use Rattle.model.specs.declared.Booking.{Booking}
use Rattle.model.specs.declared.Load.{Load}
use Rattle.model.specs.declared.Ring.{Ring}
use Rattle.model.specs.declared.RingState.{RingState}
use Rattle.model.specs.declared.Choice.TheVariants as choice
use Rattle.model.specs.declared.BusChoice.{BusChoice}
use Rattle.model.specs.declared.BookingAnswer.{BookingAnswer}
use Rattle.model.specs.Lists.{below, keep, any_of}
use Rattle.model.specs.Values.{same_part}
use Rattle.model.specs.Plant.{PartHealth, PartCommands, largest, parts}
use Rattle.model.specs.Priority.{Path, path_parts}
use Rattle.model.specs.Choosing.{plan, choice_of}
use Rattle.model.specs.Sheet.{opening, first_occurrences, sheet_of, written}
use Rattle.model.specs.Reports.{places, health_of, commands_of, command_places, blank_ring}
use Rattle.model.specs.Refusals.{first_met, or_else, size_outside, health_outside, active_above, locked_above, bus_outside, count_above, too_short, report_conditions, sheet_refusal}
use Rattle.model.specs.Scans.{scan_reports, first_refusal}
use Rattle.model.specs.Bookings.{live_bookings, with_figures, with_booking, without_booking, watts_outside, is_live, no_place, bad_load}
use Rattle.model.specs.States.{unloaded, told_state, StateReply, refused_by, refused_booking}
use Rattle.demands.specs.Statements.Demand3.{Controller}
use Rattle.demands.specs.Statements.Demand2.{earlier}

-- ---- a controller made of a design

-- how a controller chooses paths, which parts it commands on or closed for each and in which sequence, how it goes through the buses'
-- sequences when it closes, past the commands that stand, and how it writes its sheet
pub record Design : Type 0 where
  pub paths_of : ℕ → PartHealth → ℕ → Option Path
  pub parts_of_lem : ℕ → Path → List Part
  pub order_of : ℕ → PartCommands → (ℕ → List Part) → List Part
  pub sheet_of_lem : List Part → List Part → List ℕ

-- the parts of a bus's path by a rule; a dark bus has none
unfoldable pub parts_by : (Path → List Part) → Option Path → List Part
parts_by f none = []
parts_by f (some w) = f w

module _ (d : Design) where
  -- each bus's path
  abbrev design_path : Ring → ℕ → Option Path
  design_path ring = d.paths_of ring.n (health_of ring.health)

  -- the commands that a ring's health and locks call for, and the sheet that leads to them
  unfoldable pub design_commands : Ring → PartCommands
  design_commands ring p = any_of (λ w. any_of (same_part p) (d.parts_of_lem ring.n w)) (earlier (design_path ring) ring.n)

  unfoldable pub design_sheet : Ring → List ℕ
  design_sheet ring =
      let old = commands_of ring.commands in
      d.sheet_of_lem
      (opening ring.n old (design_commands ring))
      (d.order_of ring.n old (λ b. parts_by (d.parts_of_lem ring.n) (design_path ring b)))

  unfoldable pub design_choices : Ring → List BusChoice
  design_choices ring =
      let path = d.paths_of ring.n (health_of ring.health) in
      places (λ b. record { choice = cond (ltb b ring.n) (choice_of ring.n (path b)) choice.Dark })

  -- a load on a ring, its figures by the design's own choices
  unfoldable pub design_reckoned : Ring → Load → RingState
  design_reckoned ring load = record { ring = ring; load = with_figures (design_choices ring) load }

  -- what it gives where a call with orders is served
  unfoldable pub design_served : RingState → List ℕ → StateReply
  design_served state buffer =
      let ring = state.ring in
      record {
        answer = record {
          outcome = Ok tt;
          state = design_reckoned (record { n = ring.n; health = ring.health; commands = command_places (design_commands ring) }) state.load;
          choices = design_choices ring;
        };
        buffer = written (design_sheet ring) buffer;
      }

  -- 9, by the design's own commands and choices
  unfoldable pub design_bad : RingState → Bool
  design_bad state =
      let ring = state.ring in
      let H = health_of ring.health in
      let C = commands_of ring.commands in
      any_of (λ met. met)
      (size_outside ring.n
      ∷ health_outside H (parts largest)
      ∷ active_above ring.n H C
      ∷ locked_above ring.n H
      ∷ any_of (λ p. not (beq (C p) (design_commands ring p))) (parts largest)
      ∷ [])
      || bad_load ring.n (design_choices ring) state.load

  unfoldable pub design_start : ℕ → List ℕ → StateReply
  design_start n buffer =
      let k = first_met ((2, size_outside n) ∷ (8, too_short (length buffer) (design_sheet (blank_ring n))) ∷ []) in
      cond (eqb k 0) (design_served (unloaded (blank_ring n)) buffer) (refused_by k (unloaded (blank_ring 0)) buffer)

  unfoldable pub design_step : RingState → Report → List ℕ → StateReply
  design_step state r buffer =
      let next = told_state state (r ∷ []) in
      let short = too_short (length buffer) (design_sheet next.ring) in
      let k = first_met ((9, design_bad state) ∷ (report_conditions state.ring.n r ++ ((8, short) ∷ []))) in
      cond (eqb k 0) (design_served next buffer) (refused_by k state buffer)

  unfoldable pub design_scan : RingState → Scan → List ℕ → StateReply
  design_scan state s buffer =
      let all_told = told_state state (scan_reports s) in
      let reports = first_refusal state.ring.n (scan_reports s) in
      let own = sheet_refusal (length buffer) (design_sheet all_told.ring) in
      let k = or_else (first_met ((9, design_bad state) ∷ (11, count_above s.count) ∷ [])) (or_else reports own) in
      cond (eqb k 0) (design_served all_told buffer) (refused_by k state buffer)

  -- a booking or a cancellation of refusal k, and the load that it leads to where it is served
  unfoldable pub design_booking : ℕ → RingState → Load → BookingAnswer
  design_booking k state load =
      cond (eqb k 0) (record { outcome = Ok tt; state = design_reckoned state.ring load }) (refused_booking k state)

  -- its refusals in their order, 9 by the design
  unfoldable pub design_book : RingState → Booking → BookingAnswer
  design_book state b =
      let live = live_bookings state.load in
      let k =
      first_met
      ((9, design_bad state)
      ∷ (10, bus_outside state.ring.n b.bus)
      ∷ (12, watts_outside b.watts)
      ∷ (13, is_live live b.number)
      ∷ (14, no_place state.load)
      ∷ []) in
      design_booking k state (with_booking state.load b)

  unfoldable pub design_cancel : RingState → ℕ → BookingAnswer
  design_cancel state v =
      let k = first_met ((9, design_bad state) ∷ (13, not (is_live (live_bookings state.load) v)) ∷ []) in
      design_booking k state (without_booking state.load v)

  unfoldable pub design_controller : Controller
  design_controller =
      record { start = design_start; step = design_step; scan = design_scan; book = design_book; cancel = design_cancel }

-- "a part only where it first comes", of those that do not stand commanded, bus by bus
unfoldable pub right_order : ℕ → PartCommands → (ℕ → List Part) → List Part
right_order n old each = keep (λ p. not (old p)) (first_occurrences (flat_map each (below n)))

-- the design of documents 01 and 02
unfoldable pub right : Design
right = record { paths_of = plan; parts_of_lem = path_parts; order_of = right_order; sheet_of_lem = sheet_of }
