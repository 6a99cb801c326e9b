-- `bookings::live_twice` meets its contract. The loop's invariant: the numbers before the place are not live again behind theirs.
use Rattle.std.proofs.Common.{◌≡◌, drop}
use Rattle.model.specs.Bookings.{live_twice}
use Rattle.bookings.proofs.live_twice.Given as goal

abbrev pub invariant-loop-place : goal.invariant-loop-place
invariant-loop-place l = live_twice l.bookings ≡ live_twice (drop l.place l.bookings)
