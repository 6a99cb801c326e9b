-- `paths::high_rises` meets its contract.
use Rattle.model.specs.Laws.Tests.{facts}
use native.Mathlib.Omega.{arith}
use Rattle.paths.specs.Search.{high_by}
use Rattle.paths.proofs.high_rises.Goals as goal

pub returns : goal.returns
returns c = high_by c.args.n c.args.g c.args.b _ (λ l e. omega (arith, facts)) (λ l e. omega (arith, facts))
