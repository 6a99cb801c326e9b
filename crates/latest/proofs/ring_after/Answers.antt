-- `latest::ring_after`: a file is refused or served, as its answer says.
use mathlib.Core.Path.{◌≡◌, sym, ◌∙◌}
use native.Mathlib.Omega.{arith}
use Rattle.std.proofs.Common.{Ok}
use Rattle.model.specs.Answers.{file_answer}
use Rattle.latest.specs.Told.{after_refused, after_size, after_served}
use Rattle.latest.proofs.ring_after.Goals as goal
use Rattle.latest.proofs.ring_after.Goals.{In-Ok}

-- the file is served
answered : (c : In-Ok)
    → file_answer c.args.file.now ≡ Ok c.in-Ok.head
answered c = sym c.check_file.ensures.answer ∙ c.in-Ok.is

pub told_file-requires : goal.told_file-requires
told_file-requires c = answered (goal.at.told_file-requires c).In-Ok

pub planned-requires : goal.planned-requires
planned-requires c = after_size _ _ (answered (goal.at.planned-requires c).In-Ok) _ c.told_file.ensures

pub returns-in-Err : goal.returns-in-Err
returns-in-Err c = let whole = after_refused _ _ _ _ (sym c.check_file.ensures.answer ∙ c.in-Err.is)
    (omega arith) c.blank.ensures in record { answer = whole.0; number = whole.1.0; ring = whole.1.1 }

pub returns-in-Ok : goal.returns-in-Ok
returns-in-Ok c = let whole = after_served _ _ (answered (goal.at.returns-in-Ok c).In-Ok) _ c.told_file.ensures _ c.planned.ensures in record { answer = whole.0; number = whole.1.0; ring = whole.1.1 }
