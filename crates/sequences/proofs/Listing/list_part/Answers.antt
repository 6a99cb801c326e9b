-- `list_part`: a code that is not passed over is stored, and passed over from then on.
use native.Mathlib.Omega.{arith}
use Rattle.sequences.specs.Marks.{listed_past, listed_new, new_room}
use Rattle.sequences.proofs.Listing.list_part.Goals as goal

pub returns-then-self-code : goal.returns-then-self-code
returns-then-self-code c = listed_past _ _ _ _ c.if-self-code.true

pub bounds-self-self : goal.bounds-self-self
bounds-self-self c =
    omega (arith, c.requires, new_room c.args.code c.args.self.now.passed c.if-self-code.false)

pub returns : goal.returns
returns c = listed_new _ _ _ _ c.if-self-code.false
