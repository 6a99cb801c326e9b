-- `rings::store` meets its contract: nothing is stored at a number of no place.
use Rattle.std.proofs.Common.{arith}
use Rattle.model.specs.Laws.Tests.{facts}
use Rattle.rings.specs.Words.{stored_at, stored_nowhere}
use Rattle.rings.proofs.store.Goals as goal
use Rattle.rings.proofs.store.Goals.{else-number-ge1-via-then-number-ge1+else-number-values, else-number-ge1-via-else-number-ge1}

pub returns-then-number-values : goal.returns-then-number-values
returns-then-number-values g c = stored_at _ _ _ (omega (arith, facts))

pub returns-else-number-ge1 : goal.returns-else-number-ge1
returns-else-number-ge1 g c =
    stored_nowhere _ _ _
    (λ low high. elim c.else-number-ge1.branch [
      | else-number-ge1-via-then-number-ge1+else-number-values w ↦ omega (arith, facts, w.if-number-values.false)
      | else-number-ge1-via-else-number-ge1 w ↦ omega (arith, facts, w.if-number-ge1.false)
    ])
