-- `bookings::with_booking` meets its contract: one store, behind the live ones.
use native.Mathlib.Omega.{arith}
use Rattle.bookings.specs.Live.{booked}
use Rattle.bookings.proofs.with_booking.Goals as goal

pub returns : goal.returns
returns c = booked c.args.load c.args.booking _ _ (omega arith) (omega arith)
