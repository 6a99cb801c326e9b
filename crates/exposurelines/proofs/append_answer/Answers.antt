-- `append_answer`: the figures where the bus is served, and the number where it is refused.
use native.Mathlib.Omega.{arith}
use Rattle.exposurelines.specs.Lines.{served_text, refused_text_lem}
use Rattle.exposurelines.proofs.append_answer.Goals as goal

pub returns-in-Ok-clause-text : goal.returns-in-Ok-clause-text
returns-in-Ok-clause-text c = rw (served_text c.args.answer c.in-Ok.is) c.append_figures.ensures.text

pub returns-in-Ok-clause-within : goal.returns-in-Ok-clause-within
returns-in-Ok-clause-within c = c.append_figures.ensures.within

pub returns-in-Err-clause-text : goal.returns-in-Err-clause-text
returns-in-Err-clause-text c = rw (refused_text_lem c.args.answer _ c.in-Err.is, ← c.refusal_number.ensures) c.append_refused.ensures.text

pub returns-in-Err-clause-within : goal.returns-in-Err-clause-within
returns-in-Err-clause-within c = omega (arith, c.append_refused.ensures.within)
