-- `exposure::no_figures` meets its contract.
use mathlib.Core.Path.{refl}
use lib.Ieee.{of_bits}
use Rattle.exposure.proofs.no_figures.Goals as goal

pub returns : goal.returns
unfolding of_bits
returns c = refl
