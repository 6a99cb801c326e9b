-- `refused_text`: the word and the number in the front of the buffer.
use native.Mathlib.Omega.{arith}
use Rattle.model.specs.Laws.Appended.{appended_all}
use Rattle.heads.specs.Heads.{refused_fits}
use Rattle.heads.proofs.refused_text.Goals as goal

pub returns : goal.returns
returns c =
    let whole = appended_all c.append_refused.ensures.text (omega (arith, c.requires, refused_fits c.args.k (omega arith))) in
    record { bytes = whole.0; end = whole.1 }
