-- `walks::counted_closed` meets its contract.
use mathlib.Core.Path.{refl}
use native.Mathlib.Omega.{arith}
use Rattle.model.specs.Laws.Tests.{facts}
use Rattle.components.specs.Tests.{or_test}
use Rattle.walks.proofs.counted_closed.Goals as goal

pub returns-then-breaker-eq-STUCK_CLOSED : goal.returns-then-breaker-eq-STUCK_CLOSED
returns-then-breaker-eq-STUCK_CLOSED c = or_test c.args.breaker 3 c.args.chosen _ (λ e z. omega (arith, facts)) (λ e. absurd (omega arith))

pub returns : goal.returns
returns c = or_test c.args.breaker 3 c.args.chosen _ (λ e z. omega arith) (λ e. refl)
