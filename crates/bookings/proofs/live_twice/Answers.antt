-- `bookings::live_twice` meets its contract. The loop's invariant: the numbers before the place are not live again behind theirs.
use Rattle.std.proofs.Common.{sym, ◌∙◌, refl}
use Rattle.bookings.specs.Live.{twice, once, none_left}
use Rattle.bookings.proofs.live_twice.Goals as goal

pub loop-place-init : goal.loop-place-init
loop-place-init c = refl

pub returns-then-has_number : goal.returns-then-has_number
returns-then-has_number c =
    rw (← c.live-bookings.ensures)
    (sym (c.loop-place.invariant ∙ twice c.live-bookings.result.now c.loop-place.place _ c.loop-place-test.true (sym c.has_number.ensures ∙ c.if-has_number.true)))

pub loop-place-preserved : goal.loop-place-preserved
loop-place-preserved c =
    c.loop-place.invariant ∙ once c.live-bookings.result.now c.loop-place.place _ c.loop-place-test.true (sym c.has_number.ensures ∙ c.if-has_number.false)

pub returns : goal.returns
returns c = rw (← c.live-bookings.ensures) (sym (c.loop-place.invariant ∙ none_left c.live-bookings.result.now c.loop-place.place c.loop-place-test.false))
