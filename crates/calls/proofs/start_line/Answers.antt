-- `start_line`: with a buffer of 122 bytes the start is served.
use native.Mathlib.Omega.{arith}
use borrow.Author.Rules.{rules}
use Rattle.model.specs.Reports.{blank_ring}
use Rattle.calls.specs.Served.{start_given}
use Rattle.calls.proofs.start_line.Goals as goal

pub sheet_line-length-requires : goal.sheet_line-length-requires
unfolding blank_ring
sheet_line-length-requires c =
    let g = start_given _ (search rules) (search rules) _ (search rules) _ _ c.start-answer.ensures.answer c.start-answer.ensures.bytes in
    (omega arith, search rules, search rules, g.named, g.sheet, search rules)

pub returns : goal.returns
unfolding blank_ring
returns c =
    let g = start_given _ (search rules) (search rules) _ (search rules) _ _ c.start-answer.ensures.answer c.start-answer.ensures.bytes in
    g.shown 0 _ _ _ c.sheet_line-length.ensures.bytes c.sheet_line-length.ensures.end
