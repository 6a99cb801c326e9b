-- A wrong controller, the claim that it fails, and the calls that show it: a row. What a list of such rows shows is in proofs/Rows.
use Rattle.std.specs.Prelude.{Bool}
use Rattle.demands.specs.Statements.Demand3.{Controller}
use Rattle.demands.proofs.Refuting.Claims.{Instance, Claim3, Claim2, fails3, fails2}

-- a row of demand 3
pub record Row3 : Type 0 where
  pub wrong : Controller
  pub claim : Claim3
  pub shows : Instance

abbrev pub row : Controller → Claim3 → Instance → Row3
row c k i = record { wrong = c; claim = k; shows = i }

-- the wrong controller fails the claim
unfoldable pub refuted3 : Row3 → Bool
refuted3 k = fails3 k.wrong k.shows k.claim

-- .. and of demand 2
pub record Row2 : Type 0 where
  pub wrong : Controller
  pub claim : Claim2
  pub shows : Instance

abbrev pub row2 : Controller → Claim2 → Instance → Row2
row2 c k i = record { wrong = c; claim = k; shows = i }

unfoldable pub refuted2 : Row2 → Bool
refuted2 k = fails2 k.wrong k.shows k.claim
