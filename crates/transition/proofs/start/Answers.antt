-- `transition::start` meets its contract: a blank ring taken to its commands; refused, it has no buses.
use mathlib.Core.Path.{ap}
use native.Mathlib.Omega.{arith}
use borrow.Author.Rules.{rules}
use Rattle.model.specs.declared.Ring.{Ring}
use Rattle.model.specs.Reports.{blank_ring}
use Rattle.model.specs.Answers.{start_reply}
use Rattle.transition.specs.Replies.{start_advanced}
use Rattle.transition.proofs.start.Goals as goal

pub advance-requires : goal.advance-requires
unfolding blank_ring
advance-requires c = omega (arith, ap (λ (ring : Ring). ring.n) c.blank.ensures)

pub returns : goal.returns
unfolding start_reply
returns c = let whole = start_advanced _ (search rules) (search rules) _ _ c.blank.ensures c.blank-2.ensures
    c.args.buffer.now _ _ (c.advance.ensures.answer, (c.advance.ensures.bytes, (c.advance.ensures.number, c.advance.ensures.values))) in record { answer = whole.0; bytes = whole.1.0; number = whole.1.1.0; values = whole.1.1.1 }
