-- Laws of a ring that is told several reports: one report more, and what no report changes.
use Rattle.std.specs.Prelude.{◌≡◌, refl, List, [], ◌∷◌, ◌++◌}
use Rattle.model.specs.declared.Report.{Report}
use Rattle.model.specs.declared.Ring.{Ring}
use Rattle.model.specs.Reports.{told}
use Rattle.model.specs.Scans.{told_all}

-- the last report is told to the ring that was told those before it
pub told_append : (ring : Ring) (rs : List Report) (r : Report) → told_all ring (rs ++ (r ∷ [])) ≡ told (told_all ring rs) r
unfolding told_all
told_append ring [] r = refl
told_append ring (q ∷ rs) r = told_append (told ring q) rs r

-- no report changes the size
pub told_size : (ring : Ring) (rs : List Report) → (told_all ring rs).n ≡ ring.n
unfolding told_all told
told_size ring [] = refl
told_size ring (r ∷ rs) = told_size (told ring r) rs

-- .. nor the standing commands
pub told_standing : (ring : Ring) (rs : List Report) → (told_all ring rs).commands ≡ ring.commands
unfolding told_all told
told_standing ring [] = refl
told_standing ring (r ∷ rs) = told_standing (told ring r) rs
