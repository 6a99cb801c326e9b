-- `bookings::without_booking` meets its contract. The loop's invariant: those kept of the first ones are stored in front, and counted.
use Rattle.std.proofs.Common.{◌≡◌, ◌∙◌, ◌<◌, ◌≢◌, rules, arith, length, get_or, length-take}
use Rattle.model.specs.Laws.Tests.{facts}
use Rattle.model.specs.Bookings.{no_booking}
use Rattle.bookings.specs.Kept.{fewer, packed_none, count_none, packed_same, kept_without, count_with, packed_with, removed}
use Rattle.bookings.proofs.without_booking.Goals as goal
use Rattle.bookings.proofs.without_booking.Goals.{After-loop-booking, then-booking-number, else-booking-number}

pub loop-booking-init : goal.loop-booking-init
loop-booking-init c =
    record {
      stored = packed_none c.args.number c.args.load.bookings c.live-booking-items.result.now;
      counted = count_none c.args.number c.args.load.bookings c.live-booking-items.result.now;
      few = omega arith;
      places = rw c.live-booking-items.ensures (omega (arith, length-take c.args.load.live c.args.load.bookings));
    }

pub loop-booking-preserved : goal.loop-booking-preserved
loop-booking-preserved c =
    let v = c.args.number in
    let bs = c.args.load.bookings in
    let xs = c.live-booking-items.result.now in
    let i = c.loop-booking.booking-index in
    let h = c.loop-booking-test.true in
    let before = c.loop-booking.invariant in
    elim c.if-booking-number.branch [
      | then-booking-number w ↦
          let other : (get_or xs i no_booking).number ≢ v = λ e. omega (arith, facts, w.if-booking-number.true) in
          record {
            stored = w.bookings-is ∙ rw before.stored (packed_with v bs xs i _ h _ before.counted before.places other);
            counted = omega (arith, w.kept-is, before.counted, count_with v bs xs i _ h other);
            few = omega (arith, w.kept-is, before.few);
            places = before.places;
          }
      | else-booking-number w ↦
          let same = kept_without v bs xs i no_booking h (omega (arith, facts, w.if-booking-number.false)) in
          record {
            stored = w.bookings-is ∙ before.stored ∙ packed_same v bs xs _ _ same;
            counted = rw same (omega (arith, w.kept-is, before.counted));
            few = omega (arith, w.kept-is, before.few);
            places = before.places;
          }
    ]

-- the number is live: there is a place behind those kept
place-left : (c : After-loop-booking) → c.loop-booking.kept < length c.args.load.bookings
place-left c =
    let fewer_kept = fewer c.args.number c.args.load.bookings c.live-booking-items.result.now c.loop-booking.booking-index (rw c.live-booking-items.ensures c.requires.1) c.loop-booking-test.false in
    omega (arith, c.loop-booking.invariant.counted, c.loop-booking.invariant.places, fewer_kept)

pub bounds-bookings-kept-2 : goal.bounds-bookings-kept-2
bounds-bookings-kept-2 c =
    let places : length c.args.load.bookings ≡ 64 = search rules in omega (arith, places, place-left (goal.at.bounds-bookings-kept-2 c).After-loop-booking)

pub returns : goal.returns
returns c =
    removed c.args.load c.args.number c.loop-booking.booking-index c.live-booking-items.result.now c.live-booking-items.ensures c.loop-booking-test.false
    _ _ c.loop-booking.invariant.stored c.loop-booking.invariant.counted
    (omega (arith, c.loop-booking.invariant.counted, place-left (goal.at.returns c).After-loop-booking))
