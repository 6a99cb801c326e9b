-- `reckoning::reckoned_load` meets its contract: the figures are made with the choices planned.
use mathlib.Core.Path.{◌≡◌}
use borrow.Author.Rules.{rules}
use Rattle.model.specs.Reports.{called_for}
use Rattle.theory.specs.Proofs.Choosing.{choices_inside}
use Rattle.reckoning.specs.Loads.{load_reckoned}
use Rattle.reckoning.proofs.reckoned_load.Goals as goal
use Rattle.reckoning.proofs.reckoned_load.Goals.{After-plan-planned}

planned : (c : After-plan-planned) → c.plan-planned.result.choices ≡ called_for c.args.ring
planned c = cc

pub with_figures-figured-requires-clause-live : goal.with_figures-figured-requires-clause-live
with_figures-figured-requires-clause-live c = c.requires.live

pub with_figures-figured-requires-clause-ring : goal.with_figures-figured-requires-clause-ring
with_figures-figured-requires-clause-ring c = record {
  n = c.args.ring.n;
  small = c.requires.size.1;
  inside = rw (planned (goal.at.with_figures-figured-requires-clause-ring c).After-plan-planned) (choices_inside _ _ c.requires.size.1);
  bookable = c.requires.bounds;
}

pub returns : goal.returns
returns c =
    load_reckoned _ c.args.load _ c.plan-planned.result.choices (planned (goal.at.returns c).After-plan-planned) (search rules)
