-- `sources::source` meets its contract.
use Rattle.model.specs.Laws.Tests.{auto}
use native.Mathlib.Omega.{arith}
use Rattle.sources.proofs.source.Goals as goal

pub overflow_cast-result : goal.overflow_cast-result
overflow_cast-result c = search auto

pub returns : goal.returns
returns c = omega arith
