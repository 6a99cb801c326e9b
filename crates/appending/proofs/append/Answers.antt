-- `appending::append`: the part behind `at` holds the bytes.
use native.Mathlib.Omega.{arith}
use Rattle.appending.specs.Parts.{appended_part}
use Rattle.appending.proofs.append.Goals as goal

pub returns : goal.returns
returns c = appended_part c.args.bytes.now c.args.out.now c.args.at _ c.copy_from_slice.ensures.after (omega arith) (omega (arith, c.requires)) (omega arith)
