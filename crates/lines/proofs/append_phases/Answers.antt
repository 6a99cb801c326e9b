-- `append_phases`: the two phases follow one another.
use native.Mathlib.Omega.{arith}
use borrow.Author.Rules.{rules}
use Rattle.model.specs.Laws.Appended.{appended_more}
use Rattle.lines.specs.SheetLine.{opening_length}
use Rattle.lines.proofs.append_phases.Goals as goal

pub append_phase-requires : goal.append_phase-requires
append_phase-requires c =
    (search rules, omega (arith, c.append_phase-end.ensures.end, opening_length c.args.sheet.now c.requires.0, c.requires))

pub returns : goal.returns
returns c =
    appended_more c.append_phase-end.ensures
    c.append_phase.ensures
