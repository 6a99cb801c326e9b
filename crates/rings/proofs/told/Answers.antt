-- `rings::told` meets its contract: the word's effect on the health, and nothing else.
use mathlib.Core.Path.{ap}
use Rattle.model.specs.declared.Health.{Health}
use Rattle.model.specs.declared.Ring.{Ring}
use Rattle.model.specs.Reports.{told}
use Rattle.rings.proofs.told.Goals as goal

-- the ring with another health
abbrev with-health : Ring → Health → Ring
with-health ring h = record { n = ring.n; health = h; commands = ring.commands }

pub returns : goal.returns
unfolding told
returns c =
    ap (with-health c.args.ring) c.with_word-after.ensures
