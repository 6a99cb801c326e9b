-- `codes::not_of_ring` meets its contract.
use native.Mathlib.Omega.{arith}
use Rattle.model.specs.Laws.Tests.{facts}
use Rattle.codes.specs.Codes.{ring_test}
use Rattle.codes.proofs.not_of_ring.Goals as goal

pub returns-then-number-lt1 : goal.returns-then-number-lt1
returns-then-number-lt1 c =
    ring_test _ _ _ (λ l e. omega (arith, facts)) (λ l e. omega (arith, facts)) (λ l e. omega (arith, facts))
    (λ l m k e. omega (arith, facts))

pub returns-then-n-number : goal.returns-then-n-number
returns-then-n-number c =
    ring_test _ _ _ (λ l e. omega (arith, facts)) (λ l e. omega (arith, facts)) (λ l e. omega (arith, facts))
    (λ l m k e. omega (arith, facts))

pub returns-else-n-number : goal.returns-else-n-number
returns-else-n-number c =
    ring_test _ _ _ (λ l e. omega (arith, facts)) (λ l e. omega (arith, facts)) (λ l e. omega (arith, facts))
    (λ l m k e. omega (arith, facts))
