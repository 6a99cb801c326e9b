-- `first_line`: a file is refused or served, as its answer says.
use mathlib.Core.Path.{sym, ◌∙◌}
use native.Mathlib.Omega.{arith}
use borrow.Author.Rules.{rules}
use Rattle.files.specs.Served.{file_served, answer_served}
use Rattle.cursor.specs.Run.{passed_refused, passed_header}
use Rattle.cursor.proofs.first_line.Goals as goal

pub header-length-requires : goal.header-length-requires
header-length-requires c =
    let t = answer_served _ _ (sym c.check_file.ensures.answer ∙ c.in-Ok.is) in
    (omega (arith, t.2, (file_served _ t.0).few), search rules)

pub returns-in-Err : goal.returns-in-Err
returns-in-Err c =
    passed_refused _ (sym c.check_file.ensures.answer ∙ c.in-Err.is)
    c.requires.0 (rw (← c.refusal_number.ensures) (record { bytes = c.refused_text-length.ensures.bytes; sized = c.refused_text-length.ensures.end })) c.piece_of.ensures

pub returns-in-Ok : goal.returns-in-Ok
returns-in-Ok c =
    passed_header _ (sym c.check_file.ensures.answer ∙ c.in-Ok.is)
    c.requires.0 (record { bytes = c.header-length.ensures.bytes; sized = c.header-length.ensures.end }) c.piece_of-in-Ok.ensures
