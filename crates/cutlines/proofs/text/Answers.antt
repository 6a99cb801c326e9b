-- `text`: the lines of the sets follow the bus's.
use native.Mathlib.Omega.{arith}
use Rattle.cutlines.specs.Sets.{text_parts, count_end}
use Rattle.cutlines.proofs.text.Goals as goal

pub append_sets-requires : goal.append_sets-requires
append_sets-requires c =
    (omega (arith, c.requires), omega (arith, c.append_count-sets, count_end _ _ c.append_count-sets.ensures (omega arith) (omega arith), c.requires))

pub returns : goal.returns
returns c =
    text_parts _ _ _ _ (omega arith) (omega arith) _ _ (omega arith)
    c.append_count-sets.ensures c.append_sets.ensures
