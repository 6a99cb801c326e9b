-- `commanded`: the commands of each kind stand at its codes.
use Rattle.sequences.specs.Marks.{stored_bound, holds_stored}
use lib.ListN.{length-replicate, replicate}
use mathlib.Core.Bool.{Bool, false}
use Rattle.sequences.proofs.commanded.Goals as goal

pub slice_bounds-passed-end-3 : goal.slice_bounds-passed-end-3
slice_bounds-passed-end-3 c = stored_bound (replicate 84 false) _ _ (length-replicate {A = Bool} 84 false) c.copy_from_slice.ensures.len c.copy_from_slice-2.ensures.len

pub returns : goal.returns
returns c =
    holds_stored (replicate 84 false) _ _ (length-replicate {A = Bool} 84 false) c.copy_from_slice.ensures.len c.copy_from_slice-2.ensures.len
    c.args.commands _ c.copy_from_slice-3.ensures.len c.copy_from_slice.ensures.after c.copy_from_slice-2.ensures.after c.copy_from_slice-3.ensures.after
