-- What a derived test of equality has told of two loads, or two ring states: they are the same.
use Rattle.std.specs.Prelude.{◌≡◌, Bool, true, ◌&&◌}
use Rattle.std.proofs.Common.{sym, eqb-true}
use Rattle.std.proofs.Math.Dec.{eqb}
use Rattle.std.specs.Cmp.{first_so, second_so}
use Rattle.std.specs.Cmp.Lexicographic.{pointwise, same_text}
use Rattle.model.specs.declared.Booking.{Booking}
use Rattle.model.specs.declared.Load.{Load}
use Rattle.model.specs.declared.RingState.{RingState}
use Rattle.comparing.specs.Comparing.{ring_test, same_items, same_rings}

abbrev pub booking_test : Booking → Booking → Bool
booking_test a b = eqb a.number b.number && (eqb a.bus b.bus && eqb a.watts b.watts)

abbrev pub load_test : Load → Load → Bool
load_test a b =
    pointwise booking_test a.bookings b.bookings
    && (eqb a.live b.live && (pointwise eqb a.watts b.watts && eqb a.dark_watts b.dark_watts))

abbrev pub state_test : RingState → RingState → Bool
state_test a b = ring_test a.ring b.ring && load_test a.load b.load

pub same_booking : (a b : Booking) → booking_test a b ≡ true → a ≡ b
same_booking a b e =
    let rest = second_so (eqb a.number b.number) _ e in
    let number = eqb-true _ _ (first_so _ _ e) in
    let bus = eqb-true _ _ (first_so _ _ rest) in
    let watts = eqb-true _ _ (second_so (eqb a.bus b.bus) _ rest) in
    λ i. record { number = number i; bus = bus i; watts = watts i }

pub same_loads : (a b : Load) → load_test a b ≡ true → a ≡ b
same_loads a b e =
    let rest = second_so (pointwise booking_test a.bookings b.bookings) _ e in
    let last = second_so (eqb a.live b.live) _ rest in
    let bookings = same_items booking_test same_booking _ _ (first_so _ _ e) in
    let live = eqb-true _ _ (first_so _ _ rest) in
    let watts = same_text _ _ (sym (first_so _ _ last)) in
    let dark = eqb-true _ _ (second_so (pointwise eqb a.watts b.watts) _ last) in
    λ i. record { bookings = bookings i; live = live i; watts = watts i; dark_watts = dark i }

pub same_states : (a b : RingState) → state_test a b ≡ true → a ≡ b
same_states a b e =
    let ring = same_rings _ _ (first_so (ring_test a.ring b.ring) _ e) in
    let load = same_loads _ _ (second_so (ring_test a.ring b.ring) _ e) in
    λ i. record { ring = ring i; load = load i }
