-- `figures::with_figures` meets its contract. The loop's invariant: the figures are those of the bookings passed.
use Rattle.std.proofs.Common.{◌≡◌}
use Rattle.figures.specs.Adding.{figures_to, dark_to}
use Rattle.figures.proofs.with_figures.Given as goal

abbrev pub invariant-loop-booking : goal.invariant-loop-booking
invariant-loop-booking l = record {
  fed : l.watts ≡ figures_to l.choices l.live l.booking-index;
  dark : l.dark_watts ≡ dark_to l.choices l.live l.booking-index;
}
