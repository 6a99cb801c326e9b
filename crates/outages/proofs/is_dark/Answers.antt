-- `outages::is_dark` meets its contract: no faults are needed exactly where the bus is dark.
use native.Mathlib.Omega.{arith}
use Rattle.model.specs.Laws.Tests.{facts}
use Rattle.outages.specs.Least.{dark_test}
use Rattle.outages.proofs.is_dark.Goals as goal

pub returns : goal.returns
returns c = dark_test _ _ _ _ c.least_faults.ensures (λ e t. omega (arith, facts, e, t)) (λ e t. omega (arith, facts, e, t))
