-- The right design is the controller: its answers to every call are those of the definitions.
use Rattle.std.specs.Prelude.{◌≡◌, refl, Bool, true, false, not, ◌||◌, cond, ◌⊎◌, ℕ, eqb}
use Rattle.std.proofs.Common.{ap, inl, inr}
use mathlib.Core.List.{List}
use Rattle.std.proofs.Math.Option.{Option, none, some}
use Rattle.model.specs.declared.Report.{Report}
use Rattle.model.specs.declared.Scan.{Scan}
use Rattle.model.specs.declared.Booking.{Booking}
use Rattle.model.specs.declared.Load.{Load}
use Rattle.model.specs.declared.Ring.{Ring}
use Rattle.model.specs.declared.RingState.{RingState}
use Rattle.model.specs.declared.BusChoice.{BusChoice}
use Rattle.model.specs.Lists.{below, keep}
use Rattle.model.specs.Priority.{Path, path_parts}
use Rattle.model.specs.Choosing.{on_paths, plan, commands, choices}
use Rattle.model.specs.Sheet.{opening, first_occurrences, parts_of, sequence, closing, sheet_of, sheet}
use Rattle.model.specs.Reports.{places, health_of, commands_of, blank_ring, planned, called_for, with_plan}
use Rattle.model.specs.Refusals.{first_met, or_else, unplanned, bad_ring, next_sheet, start_refusal, step_refusal}
use Rattle.model.specs.Scans.{told_all, scan_refusal}
use Rattle.model.specs.Bookings.{with_figures, with_booking, without_booking, bad_load}
use Rattle.model.specs.States.{unloaded, told_state, reckoned, bad_record, state_refusal, served_state, served_by, state_start, state_step, state_scan, book_refusal, cancel_refusal, booking_by, book_answer, cancel_answer}
use Rattle.model.specs.Laws.Tests.{dec}
use Rattle.model.specs.Laws.Lists.{flat_ext}
use Rattle.demands.specs.Controller.{controller}
use Rattle.demands.proofs.Theorems.Demand2.{earlier_chosen}
use Rattle.designs.specs.Designs.{parts_by, design_commands, design_sheet, design_choices, design_reckoned, design_served, design_bad, design_start, design_step, design_scan, design_booking, design_book, design_cancel, design_controller, right_order, right}

right_commands : (ring : Ring) → design_commands right ring ≡ planned ring
unfolding design_commands right planned commands on_paths
right_commands ring = ap (on_paths ring.n) (earlier_chosen ring.n (health_of ring.health) ring.n)

right_parts : (n : ℕ) (o : Option Path) → parts_by (path_parts n) o ≡ parts_of n o
unfolding parts_by parts_of
right_parts n none = refl
right_parts n (some w) = refl

right_sheet : (ring : Ring) → design_sheet right ring ≡ next_sheet ring
unfolding design_sheet right right_order next_sheet sheet closing sequence planned
right_sheet ring =
    let H = health_of ring.health in
    rw (right_commands ring)
    (ap (λ ps. sheet_of (opening ring.n (commands_of ring.commands) (planned ring)) (keep (λ p. not (commands_of ring.commands p)) (first_occurrences ps)))
    (flat_ext _ _ (below ring.n) (λ b m. right_parts ring.n (plan ring.n H b))))

-- its choices, and the figures by them
right_choices : (ring : Ring) → design_choices right ring ≡ called_for ring
unfolding design_choices right choices places
right_choices ring = refl

right_reckoned : (ring : Ring) (load : Load) → design_reckoned right ring load ≡ reckoned ring load
unfolding design_reckoned reckoned
right_reckoned ring load = ap figured (right_choices ring)
  where
    figured : List BusChoice → RingState
    figured cs = record { ring = ring; load = with_figures cs load }

right_served : (state : RingState) (buffer : List ℕ) → design_served right state buffer ≡ served_by state buffer
unfolding design_served served_state with_plan
right_served state buffer =
    rw (right_commands state.ring, right_sheet state.ring, right_choices state.ring, right_reckoned (with_plan state.ring) state.load)

right_bad : (state : RingState) → design_bad right state ≡ bad_record state
unfolding design_bad bad_record bad_ring unplanned planned
right_bad state = rw (right_commands state.ring, right_choices state.ring)

-- 9 is met by the record and then by its ring: the design asks once
nine : (state : RingState) (k : ℕ) → cond (design_bad right state) 9 k ≡ state_refusal state (cond (bad_ring state.ring) 9 k)
unfolding state_refusal bad_record first_met
nine state k = rw (right_bad state) (go (bad_ring state.ring) (bad_load state.ring.n (called_for state.ring) state.load))
  where
    go : (a b : Bool) → cond (a || b) 9 k ≡ or_else (cond (a || b) 9 0) (cond a 9 k)
    go true b = refl
    go false true = refl
    go false false = refl

right_start : (n : ℕ) (buffer : List ℕ) → design_start right n buffer ≡ state_start n buffer
unfolding design_start state_start start_refusal unloaded
right_start n buffer = rw (right_sheet (blank_ring n), right_served (unloaded (blank_ring n)) buffer)

right_step : (state : RingState) (r : Report) (buffer : List ℕ) → design_step right state r buffer ≡ state_step state r buffer
unfolding design_step state_step step_refusal first_met told_state told_all
right_step state r buffer = rw (right_sheet, nine state _, right_served)

-- the first of three refusals
first_of : (j k l : ℕ) → or_else (or_else j k) l ≡ or_else j (or_else k l)
first_of j k l = go (dec (eqb j 0))
  where
    go : (eqb j 0 ≡ true) ⊎ (eqb j 0 ≡ false) → or_else (or_else j k) l ≡ or_else j (or_else k l)
    go (inl e) = rw e
    go (inr e) = rw (e, e)

right_scan : (state : RingState) (s : Scan) (buffer : List ℕ) → design_scan right state s buffer ≡ state_scan state s buffer
unfolding design_scan state_scan scan_refusal state_refusal first_met told_state
right_scan state s buffer = rw (right_sheet, nine state _, first_of (cond (bad_record state) 9 0) _ _, right_served)

-- .. and its answers to bookings and cancellations
right_booking : (k : ℕ) (state : RingState) (load : Load) → design_booking right k state load ≡ booking_by k state load
unfolding design_booking
right_booking k state load = rw (right_reckoned state.ring load)

right_book : (state : RingState) (b : Booking) → design_book right state b ≡ book_answer state b
unfolding design_book book_answer book_refusal
right_book state b =
    rw (right_bad state) (right_booking (book_refusal state b) state (with_booking state.load b))

right_cancel : (state : RingState) (v : ℕ) → design_cancel right state v ≡ cancel_answer state v
unfolding design_cancel cancel_answer cancel_refusal
right_cancel state v = rw (right_bad state) (right_booking (cancel_refusal state v) state (without_booking state.load v))

-- the right design is the controller
pub right_is : design_controller right ≡ controller
unfolding design_controller
right_is = λ i. record {
  start = λ n buffer. right_start n buffer i;
  step = λ state r buffer. right_step state r buffer i;
  scan = λ state s buffer. right_scan state s buffer i;
  book = λ state b. right_book state b i;
  cancel = λ state v. right_cancel state v i;
}
