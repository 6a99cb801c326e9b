-- `partsets::put` meets its contract: three bytes, one after the other.
use native.Mathlib.Omega.{arith}
use lib.ListN.{length-set}
use Rattle.partsets.specs.Sets.{bytes_put}
use Rattle.model.specs.Laws.CutSets.{bytes_length}
use Rattle.partsets.proofs.put.Goals as goal

pub bounds-buffer-at-2 : goal.bounds-buffer-at-2
bounds-buffer-at-2 c = simp length-set (omega arith)

pub bounds-buffer-at-3 : goal.bounds-buffer-at-3
bounds-buffer-at-3 c = simp length-set (omega arith)

pub returns : goal.returns
returns c = bytes_put _ _ _ _ _ _ _ (bytes_length _) c.byte_of-first.ensures c.byte_of-second.ensures c.byte_of-third.ensures (omega arith)
