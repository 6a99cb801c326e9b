-- `scan_text`: with a buffer of 122 bytes a scan is served or refused, by its own number.
use native.Mathlib.Omega.{arith}
use borrow.Author.Rules.{rules}
use Rattle.model.specs.Laws.Refusals.{good_size}
use Rattle.calls.specs.Served.{scan_named, scan_served, scan_unserved}
use Rattle.calls.proofs.scan_text.Goals as goal

pub sheet_line-length-requires : goal.sheet_line-length-requires
sheet_line-length-requires c =
    let size = good_size _ c.requires.0 in
    let g = scan_named _ c.requires.0 c.args.scan _ (search rules) _ _ c.scan-answer.ensures.answer c.scan-answer.ensures.bytes c.scan-answer.ensures.number c.in-Ok.is in
    (omega (arith, c.requires.1), omega (arith, size.0), size.1, g.0, g.1, c.requires.2)

pub returns-in-Ok : goal.returns-in-Ok
returns-in-Ok c =
    scan_served _ c.requires.0 c.args.scan _ (search rules) _ _ c.scan-answer.ensures.answer c.scan-answer.ensures.bytes c.scan-answer.ensures.number c.in-Ok.is _ _ _ _ _
    (omega arith) c.sheet_line-length.ensures.bytes c.sheet_line-length.ensures.end

pub returns-in-Err : goal.returns-in-Err
returns-in-Err c =
    scan_unserved _ c.requires.0 c.args.scan _ (search rules) _ _ c.scan-answer.ensures.answer c.scan-answer.ensures.bytes c.scan-answer.ensures.number _ c.in-Err.is _ _ _ _ _
    (search rules) c.refused_text-length.ensures.bytes c.refused_text-length.ensures.end
