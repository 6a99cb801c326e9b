-- `records::bad_load` meets its contract: the four conditions of refusal 9 on a load, in turn.
use native.Mathlib.Omega.{arith}
use Rattle.model.specs.Laws.Tests.{facts}
use Rattle.model.specs.Laws.Bookings.{all_bookable}
use Rattle.components.specs.Tests.{is_false, outcomes}
use Rattle.records.specs.Records.{load_bad, figures_decide}
use Rattle.records.proofs.bad_load.Goals as goal

pub returns-then-load-gt64 : goal.returns-then-load-gt64
returns-then-load-gt64 c = load_bad _ _ c.args.load (λ a b d. omega (arith, facts))

pub live_twice-requires : goal.live_twice-requires
live_twice-requires c = omega (arith, facts)

pub returns-then-live_twice : goal.returns-then-live_twice
returns-then-live_twice c = load_bad _ _ c.args.load (λ a b d. search outcomes)

pub any_outside-requires : goal.any_outside-requires
any_outside-requires c = omega (arith, facts)

pub returns-then-any_outside : goal.returns-then-any_outside
returns-then-any_outside c = load_bad _ _ c.args.load (λ a b d. search outcomes)

-- nothing is added up before the watts are looked at
pub other_figures-requires-clause-live : goal.other_figures-requires-clause-live
other_figures-requires-clause-live c = omega (arith, facts)

pub other_figures-requires-clause-ring : goal.other_figures-requires-clause-ring
other_figures-requires-clause-ring c =
    record { n = c.args.n; small = c.requires.0; inside = c.requires.1; bookable = all_bookable _ _ (is_false _ (λ e. search outcomes)) }

pub returns : goal.returns
returns c =
    figures_decide _ _ c.args.load (omega (arith, facts)) (is_false _ (λ e. search outcomes)) (is_false _ (λ e. search outcomes)) _
    (search outcomes)
