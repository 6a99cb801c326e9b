-- `bookings::without_booking` meets its contract. The loop's invariant: those kept of the first ones are stored in front, and counted.
use Rattle.std.proofs.Common.{◌≡◌, ◌≤◌, length}
use Rattle.bookings.specs.Kept.{kept, packed}
use Rattle.bookings.proofs.without_booking.Given as goal

abbrev pub invariant-loop-booking : goal.invariant-loop-booking
invariant-loop-booking l = record {
  stored : l.bookings ≡ packed l.number l.fn.load.bookings l.booking-items l.booking-index;
  counted : l.kept ≡ length (kept l.number l.fn.load.bookings l.booking-items l.booking-index);
  few : l.kept ≤ l.booking-index;
  places : length l.booking-items ≤ length l.fn.load.bookings;
}
