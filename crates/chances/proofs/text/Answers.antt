-- `chances::text` meets its contract: the lines of all buses where the file is served, and its number where it is refused.
use native.Mathlib.Omega.{arith}
use borrow.Author.Rules.{rules}
use Rattle.chances.specs.Chances.{served_size, served_stored, refused_stored}
use Rattle.chances.proofs.text.Goals as goal

pub append_buses-requires : goal.append_buses-requires
append_buses-requires c = (
  (served_size c.args.rates c.args.file.now c.ring_after-answer.ensures.answer _ c.ring_after-answer.ensures.ring c.in-Ok.is).1,
  search rules,
)

pub returns-in-Ok : goal.returns-in-Ok
returns-in-Ok c = let whole = served_stored _ _ c.ring_after-answer.ensures.answer _ c.ring_after-answer.ensures.ring c.in-Ok.is c.append_buses.ensures.text
    (omega (arith, c.append_buses.ensures.within, c.requires)) in record { bytes = whole.0; end = whole.1.0; within = whole.1.1 }

pub returns-in-Err : goal.returns-in-Err
returns-in-Err c = let whole = refused_stored _ _ c.ring_after-answer.ensures.answer _ _ _ (omega arith) c.in-Err.is c.refused_text.ensures.bytes c.refused_text.ensures.end in record { bytes = whole.0; end = whole.1.0; within = whole.1.1 }
