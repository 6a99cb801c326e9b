-- `append_buses`: after b turns the lines of the first b buses are stored.
use mathlib.Core.Path.{◌∙◌}
use native.Mathlib.Omega.{arith}
use borrow.Author.Rules.{rules}
use Rattle.chances.specs.Chances.{lines_none, lines_more, lines_all}
use Rattle.chances.proofs.append_buses.Goals as goal

pub loop-b-init : goal.loop-b-init
loop-b-init c = (lines_none _ _ _ (omega arith) (omega arith), search rules, search rules, search rules)

pub append_bus-end-requires : goal.append_bus-end-requires
append_bus-end-requires c =
    (omega (arith, c.loop-b.invariant, c.requires), omega (arith, c.loop-b.invariant, c.requires))

pub loop-b-preserved : goal.loop-b-preserved
loop-b-preserved c = (
  lines_more _ _ _ _ _ (omega arith) (omega arith) c.loop-b.invariant.0 c.append_bus-end.ensures.text,
  c.append_bus-end.auto.out ∙ c.loop-b.invariant.1,
  omega (arith, c.loop-b.invariant, c.append_bus-end.ensures.within),
  search rules,
)

pub returns-clause-text : goal.returns-clause-text
returns-clause-text c = lines_all _ _ _ _ (omega arith) c.loop-b.invariant.0

pub returns-clause-within : goal.returns-clause-within
returns-clause-within c = omega (arith, c.loop-b.invariant, c.requires)
