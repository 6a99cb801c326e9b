-- `comparing_loads::same_state` meets its contract: the test of the rings and the derived test of the loads tell that both are the same.
use Rattle.std.proofs.Common.{sym, ◌∙◌}
use Rattle.comparing_loads.specs.Same.{same_loads}
use Rattle.comparing_loads.proofs.same_state.Goals as goal

pub returns-then-same_ring : goal.returns-then-same_ring
returns-then-same_ring c e =
    let ring = c.same_ring.ensures c.if-same_ring.true in
    let load = same_loads _ _ (sym c.eq.ensures ∙ e) in
    λ i. record { ring = ring i; load = load i }
