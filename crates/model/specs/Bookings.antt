-- Document 02, Note 5, "Load bookings": the live bookings of a load, its figures, and what is refused. Places and generators of the figures
-- are indices from 0; a booking's bus is a number, from 1.
use Rattle.std.specs.Prelude.{Bool, false, not, ◌||◌, List, [], ◌∷◌, ◌++◌, ℕ, suc, ◌+◌, ltb, eqb, length, get_or, set, take, drop, replicate}
use Rattle.model.specs.declared.Booking.{Booking}
use Rattle.model.specs.declared.Load.{Load}
use Rattle.model.specs.declared.BusChoice.{BusChoice}
use Rattle.model.specs.Lists.{below, keep, any_of}
use Rattle.model.specs.Values.{index, choice_source, choice_at}
use Rattle.model.specs.Plant.{largest}
use Rattle.model.specs.Reports.{places}
use Rattle.model.specs.Refusals.{bus_outside}

-- "1 to 100,000 watts"
abbrev pub most_watts : ℕ
most_watts = 100000

-- "at most 64 are live"
abbrev pub most_live : ℕ
most_live = 64

-- "The ring record holds the live bookings": those of the first places
abbrev pub live_bookings : Load → List Booking
live_bookings l = take l.live l.bookings

-- a blank place
abbrev pub no_booking : Booking
no_booking = record { number = 0; bus = 0; watts = 0 }

-- a load without bookings
unfoldable pub no_load : Load
no_load = record { bookings = replicate most_live no_booking; live = 0; watts = places (λ g. 0); dark_watts = 0 }

-- ---- the figures

-- the watts of some bookings together
unfoldable pub total_watts : List Booking → ℕ
total_watts [] = 0
total_watts (b ∷ bs) = b.watts + total_watts bs

-- the generator that a booking's bus is fed by, by the buses' choices; 0 where the bus is dark
abbrev pub booking_source : List BusChoice → Booking → ℕ
booking_source cs b = choice_source (choice_at cs (index b.bus))

-- "those of the live bookings on the buses it feeds", of the generator with a number; ".. the watts on dark buses", of 0
unfoldable pub watts_of : List BusChoice → List Booking → ℕ → ℕ
watts_of cs bs k = total_watts (keep (λ b. eqb (booking_source cs b) k) bs)

-- "it gives every generator's watts, kept up to date, .. and the watts on dark buses": the figures made anew
unfoldable pub with_figures : List BusChoice → Load → Load
with_figures cs l = record {
  bookings = l.bookings;
  live = l.live;
  watts = places (λ g. watts_of cs (live_bookings l) (suc g));
  dark_watts = watts_of cs (live_bookings l) 0;
}

-- ---- booking and cancelling

-- a booking more, in the first place behind the live ones
unfoldable pub with_booking : Load → Booking → Load
with_booking l b = record { bookings = set l.bookings l.live b; live = suc l.live; watts = l.watts; dark_watts = l.dark_watts }

-- the bookings with other numbers
abbrev pub other_bookings : List Booking → ℕ → List Booking
other_bookings bs v = keep (λ b. not (eqb b.number v)) bs

-- "A cancelled booking's place serves again.": the live ones with other numbers, and no booking in the place behind them
unfoldable pub without_booking : Load → ℕ → Load
without_booking l v =
    let others = other_bookings (live_bookings l) v in
    record {
      bookings = others ++ (no_booking ∷ drop (suc (length others)) l.bookings);
      live = length others;
      watts = l.watts;
      dark_watts = l.dark_watts;
    }

-- ---- what is refused

-- 12: "watts outside the range"
unfoldable pub watts_outside : ℕ → Bool
watts_outside w = ltb w 1 || ltb most_watts w

-- 13: "a number already live when booking or not live when cancelling"
unfoldable pub is_live : List Booking → ℕ → Bool
is_live bs v = any_of (λ b. eqb b.number v) bs

-- 14: "a 65th booking"
unfoldable pub no_place : Load → Bool
no_place l = not (ltb l.live most_live)

-- 9: "a number live twice"
unfoldable pub live_twice : List Booking → Bool
live_twice [] = false
live_twice (b ∷ bs) = let rest = live_twice bs in is_live bs b.number || rest

-- 9: "a bus or watts outside these bounds"
unfoldable pub booking_outside : ℕ → Booking → Bool
booking_outside n b = bus_outside n b.bus || watts_outside b.watts

-- 9: "figures other than theirs"
unfoldable pub other_figures : List BusChoice → Load → Bool
other_figures cs l =
    any_of (λ g. not (eqb (get_or l.watts g 0) (watts_of cs (live_bookings l) (suc g)))) (below largest)
    || not (eqb l.dark_watts (watts_of cs (live_bookings l) 0))

-- "Refusal 9 is also met by more than 64 live, a number live twice, a bus or watts outside these bounds, or figures other than theirs.", of
-- the load on a ring of n with these choices
unfoldable pub bad_load : ℕ → List BusChoice → Load → Bool
bad_load n cs l =
    any_of (λ met. met)
    (ltb most_live l.live
    ∷ live_twice (live_bookings l)
    ∷ any_of (booking_outside n) (live_bookings l)
    ∷ other_figures cs l
    ∷ [])
