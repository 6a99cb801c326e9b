-- No controller of a list of rows that each fail their claim meets the demand; the right design fails no claim, whatever the calls.
use Rattle.std.specs.Prelude.{◌≡◌, refl, Bool, true, false, List}
use Rattle.model.specs.Lists.{all_of, ◌∈◌}
use Rattle.model.specs.Laws.Lists.{all_at}
use Rattle.demands.specs.Statements.Demand3.{Demand3}
use Rattle.demands.specs.Statements.Demand2.{Demand2}
use Rattle.demands.specs.Controller.{controller}
use Rattle.demands.proofs.Theorems.Demand3.{demand3}
use Rattle.demands.proofs.Theorems.Demand2.{demand2}
use Rattle.demands.proofs.Refuting.Claims.{Instance, Claim3, Claim2, fails3, fails2}
use Rattle.demands.proofs.Refuting.Refuted.{refutes3, refutes2}
use Rattle.designs.specs.Designs.{design_controller, right}
use Rattle.designs.specs.Rows.{Row3, refuted3, Row2, refuted2}
use Rattle.designs.proofs.Right.{right_is}

-- ---- no wrong controller meets a demand

-- none of the controllers of a list, each of which fails its claim, meets demand 3
pub none_of_3 : (rows : List Row3) → all_of refuted3 rows ≡ true → (k : Row3) → k ∈ rows → Demand3 k.wrong → ⊥
unfolding refuted3
none_of_3 rows all k m d = refutes3 k.wrong k.shows d k.claim (all_at refuted3 rows all k m)

-- .. or demand 2
pub none_of_2 : (rows : List Row2) → all_of refuted2 rows ≡ true → (k : Row2) → k ∈ rows → Demand2 k.wrong → ⊥
unfolding refuted2
none_of_2 rows all k m d = refutes2 k.wrong k.shows d k.claim (all_at refuted2 rows all k m)

-- ---- the right design fails no claim anywhere

-- a test that cannot pass
none_true : (b : Bool) → (b ≡ true → ⊥) → b ≡ false
none_true true f = absurd (f refl)
none_true false f = refl

pub right_fails_none_3 : (i : Instance) (k : Claim3) → fails3 (design_controller right) i k ≡ false
right_fails_none_3 i k = rw right_is (none_true (fails3 controller i k) (refutes3 controller i demand3 k))

pub right_fails_none_2 : (i : Instance) (k : Claim2) → fails2 (design_controller right) i k ≡ false
right_fails_none_2 i k = rw right_is (none_true (fails2 controller i k) (refutes2 controller i demand2 k))
