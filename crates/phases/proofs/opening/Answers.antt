-- `opening`: the codes of the three kinds follow one another, and their counts add up.
use native.Mathlib.Omega.{arith}
use Rattle.model.specs.Sheet.{opening}
use Rattle.model.specs.Reports.{commands_of}
use Rattle.model.specs.Laws.Sheet.{closing_by_code}
use Rattle.phases.specs.Codes.{appended_kinds, counted_kinds}
use Rattle.phases.proofs.opening.Goals as goal

pub collect-breakers-requires : goal.collect-breakers-requires
collect-breakers-requires c =
    omega (arith, c.requires, c.collect-generators.ensures.most)

pub collect-requires : goal.collect-requires
collect-requires c =
    omega (arith, c.requires, c.collect-generators.ensures.most, c.collect-breakers.ensures.most)

pub returns-clause-opening_phase : goal.returns-clause-opening_phase
unfolding opening closing_by_code commands_of
returns-clause-opening_phase c = appended_kinds _ _ c.collect-generators.ensures.opening_phase c.collect-breakers.ensures.opening_phase c.collect.ensures.opening_phase

pub returns-clause-closing_count : goal.returns-clause-closing_count
unfolding opening closing_by_code commands_of
returns-clause-closing_count c = counted_kinds _ _ c.collect-generators.ensures.closing_count c.collect-breakers.ensures.closing_count c.collect.ensures.closing_count
