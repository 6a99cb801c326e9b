-- `figures::with_figures` meets its contract. The loop's invariant: the figures are those of the bookings passed.
use Rattle.std.proofs.Common.{◌∙◌, ◌-◌, ap, arith, length-take}
use Rattle.model.specs.Values.{choice_source}
use Rattle.figures.specs.Adding.{figures_none, dark_none, Turn, on_ring, dark_most, generator_most, source_inside, dark_counted, figures_kept, generator_counted, dark_kept, its_source, not_dark, all_counted}
use Rattle.figures.proofs.with_figures.Goals as goal
use Rattle.figures.proofs.with_figures.Goals.{In-loop-booking, in-Dark, in-Own2}

-- a turn of the loop
turn : (c : In-loop-booking) → Turn c.args.choices c.live-live.result.now c.loop-booking.booking-index
turn c = record {
  ring = rw c.live-live.ensures c.requires.ring;
  few = rw c.live-live.ensures (omega (arith, c.requires.live, length-take c.args.load.live c.args.load.bookings));
  left = c.loop-booking-test.true;
}

pub loop-booking-init : goal.loop-booking-init
loop-booking-init c = record {
  fed = figures_none c.args.choices c.live-live.result.now _ (omega arith);
  dark = dark_none c.args.choices c.live-live.result.now _ (omega arith);
}

pub overflow_sub-fed : goal.overflow_sub-fed
overflow_sub-fed c = (on_ring (turn (goal.at.overflow_sub-fed c).In-loop-booking)).0

pub bounds-choices-booking : goal.bounds-choices-booking
bounds-choices-booking c = omega (arith, on_ring (turn (goal.at.bounds-choices-booking c).In-loop-booking))

pub overflow_add-dark_watts : goal.overflow_add-dark_watts
overflow_add-dark_watts c = omega (arith, c.loop-booking.invariant.dark, dark_most (turn (goal.at.overflow_add-dark_watts c).In-loop-booking))

pub overflow_sub-watts : goal.overflow_sub-watts
overflow_sub-watts c =
    (source_inside (turn (goal.at.overflow_sub-watts c).In-loop-booking) _ (its_source c.in-Own.is) (not_dark c.in-Own.is)).0

pub bounds-watts-generator : goal.bounds-watts-generator
bounds-watts-generator c =
    omega (arith, source_inside (turn (goal.at.bounds-watts-generator c).In-loop-booking) _ (its_source c.in-Own.is) (not_dark c.in-Own.is))

pub overflow_add-watts : goal.overflow_add-watts
overflow_add-watts c =
    let t = turn (goal.at.overflow_add-watts c).In-loop-booking in
    rw c.loop-booking.invariant.fed
    (omega (arith, generator_most t (c.in-Own.generator - 1) (omega (arith, source_inside t _ (its_source c.in-Own.is) (not_dark c.in-Own.is)))))

pub bounds-watts-generator-in-Own : goal.bounds-watts-generator-in-Own
bounds-watts-generator-in-Own c =
    omega (arith, source_inside (turn (goal.at.bounds-watts-generator-in-Own c).In-loop-booking) _ (its_source c.in-Own.is) (not_dark c.in-Own.is))

pub loop-booking-preserved : goal.loop-booking-preserved
loop-booking-preserved c =
    let t = turn (goal.at.loop-booking-preserved c).In-loop-booking in
    let before = c.loop-booking.invariant in
    elim c.match-choice.branch [
      | in-Dark w ↦
          let is = ap choice_source w.in-Dark.is in
          record {
            fed = w.watts-is ∙ before.fed ∙ figures_kept t 0 is (omega arith);
            dark = dark_counted t 0 is (omega arith) _ (omega (arith, w.dark_watts-is, before.dark));
          }
      | in-Own2 w ↦
          let is = its_source w.in-Own.is in
          let inside = source_inside t _ is (not_dark w.in-Own.is) in
          record {
            fed = w.watts-is ∙ rw before.fed (generator_counted t _ is _ _ (omega (arith, inside)) inside.1 (omega arith));
            dark = w.dark_watts-is ∙ before.dark ∙ dark_kept t _ is (λ e. omega (arith, e, inside));
          }
    ]

pub returns : goal.returns
returns c =
    all_counted c.args.choices c.args.load _ _ c.loop-booking.booking-index c.live-live.result.now c.live-live.ensures
    c.loop-booking-test.false c.loop-booking.invariant.fed c.loop-booking.invariant.dark
