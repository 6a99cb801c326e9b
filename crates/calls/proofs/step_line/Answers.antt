-- `step_line`: with a buffer of 122 bytes a step whose report is not refused is served.
use native.Mathlib.Omega.{arith}
use borrow.Author.Rules.{rules}
use Rattle.model.specs.Reports.{told}
use Rattle.model.specs.Laws.Refusals.{good_size}
use Rattle.calls.specs.Served.{step_given}
use Rattle.calls.proofs.step_line.Goals as goal

pub sheet_line-length-requires : goal.sheet_line-length-requires
unfolding told
sheet_line-length-requires c =
    let size = good_size _ c.requires.0 in
    let g = step_given _ c.requires.0 _ c.requires.1 _ (search rules) _ _ c.step-answer.ensures.answer c.step-answer.ensures.bytes in
    (c.requires.2, omega (arith, size.0), size.1, g.named, g.sheet, c.requires.3)

pub returns : goal.returns
unfolding told
returns c =
    let g = step_given _ c.requires.0 _ c.requires.1 _ (search rules) _ _ c.step-answer.ensures.answer c.step-answer.ensures.bytes in
    g.shown _ _ _ _ c.sheet_line-length.ensures.bytes c.sheet_line-length.ensures.end
