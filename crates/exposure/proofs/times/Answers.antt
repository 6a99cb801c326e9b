-- `exposure::times` meets its contract.
use mathlib.Core.Path.{◌≡◌}
use mathlib.Core.Option.{some}
use Rattle.model.specs.Plant.{largest}
use Rattle.model.specs.Reports.{part_named}
use Rattle.model.specs.Laws.Reports.{code_named}
use Rattle.exposure.specs.Bytes.{times_code}
use Rattle.exposure.proofs.Calls.{is_part, is_none_lem}
use Rattle.exposure.proofs.times.Goals as goal
use Rattle.exposure.proofs.times.Goals.{In-Ok}

-- the part that the code names
named : (c : In-Ok) → part_named largest c.args.code ≡ some c.in-Ok.part
named c = is_part _ c.part_of.ensures.answer c.in-Ok.is

pub rate_of-requires : goal.rate_of-requires
rate_of-requires c = (code_named largest _ _ (named (goal.at.rate_of-requires c).In-Ok)).0

pub returns-in-Ok : goal.returns-in-Ok
unfolding times_code
returns-in-Ok c = rw (named (goal.at.returns-in-Ok c).In-Ok, c.chance_of.ensures, c.rate_of.ensures)

pub returns-in-Err : goal.returns-in-Err
unfolding times_code
returns-in-Err c = rw (is_none_lem _ c.part_of.ensures.answer c.in-Err.is)
