-- The bytes of a stored case (tests/make_vectors.py) that stand for a load, and for a ring state: the parts of a ring, then the load.
use Rattle.std.specs.Prelude.{List, map, get_or}
use Prim.Native.Nat.{ℕ, ◌+◌, ◌*◌}
use Rattle.model.specs.declared.Booking.{Booking}
use Rattle.model.specs.declared.Load.{Load}
use Rattle.model.specs.declared.RingState.{RingState}
use Rattle.model.specs.Lists.{below}
use Rattle.model.specs.Reports.{places}
use Rattle.model.specs.Bookings.{most_live}
use Rattle.cases.specs.Cases.{ring_at}

-- a number of two bytes, low byte first
abbrev pub number_at : List ℕ → ℕ → ℕ
number_at case from = get_or case from 0 + 256 * get_or case (from + 1) 0

-- a number of four bytes, low byte first
abbrev pub watts_at : List ℕ → ℕ → ℕ
watts_at case from = number_at case from + 65536 * number_at case (from + 2)

-- a booking: its number, its bus and its watts
abbrev pub booking_at : List ℕ → ℕ → Booking
booking_at case from = record { number = number_at case from; bus = get_or case (from + 2) 0; watts = watts_at case (from + 3) }

-- 64 bookings, one after the other
unfoldable pub bookings_at : List ℕ → ℕ → List Booking
bookings_at case from = map (λ i. booking_at case (from + 7 * i)) (below most_live)

-- the watts of twenty generators
abbrev pub figures_at : List ℕ → ℕ → List ℕ
figures_at case from = places (λ g. watts_at case (from + 4 * g))

-- how many bookings are live, the 64 places, and the figures
abbrev pub load_at : List ℕ → ℕ → Load
load_at case from = record {
  bookings = bookings_at case (from + 1);
  live = get_or case from 0;
  watts = figures_at case (from + 449);
  dark_watts = watts_at case (from + 529);
}

-- a ring of n buses, and the load behind it
abbrev pub state_at : List ℕ → ℕ → ℕ → RingState
state_at case n from = record { ring = ring_at case n from; load = load_at case (from + 140) }
