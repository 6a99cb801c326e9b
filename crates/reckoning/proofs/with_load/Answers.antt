-- `reckoning::with_load` meets its contract: new figures where the inner call was served, the load as it was where it was refused.
use borrow.Author.Rules.{rules}
use Rattle.reckoning.specs.Loads.{served_load, refused_load}
use Rattle.reckoning.proofs.with_load.Goals as goal

pub with_figures-anew-requires : goal.with_figures-anew-requires
with_figures-anew-requires c = let whole = c.requires c.in-Ok.is in record { live = whole.0; ring = whole.1 }

pub returns-in-Ok : goal.returns-in-Ok
returns-in-Ok c = served_load c.args.answer c.args.load _ (search rules) (search rules)

pub returns-in-Err : goal.returns-in-Err
returns-in-Err c = refused_load c.args.answer c.args.load _ _ (search rules) (search rules)
