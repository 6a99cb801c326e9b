-- `latest::told_all`: after i turns the ring is told the first i reports.
use mathlib.Core.Path.{◌≡◌}
use native.Mathlib.Omega.{arith}
use lib.ListN.{length}
use borrow.Author.Rules.{rules}
use Rattle.latest.specs.Told.{told_none, told_more}
use Rattle.latest.proofs.told_all.Goals as goal

pub loop-i-init : goal.loop-i-init
loop-i-init c = (told_none _ _ _ _ _ (omega arith) (omega arith) c.blank-ring.ensures, search rules)

pub loop-i-preserved : goal.loop-i-preserved
loop-i-preserved c =
    let told = told_more _ _ _ _ _ _ (omega arith) (omega arith) c.loop-i.invariant.0 c.report_at-answer.ensures.answer c.told_answer-ring.ensures in
    (told, search rules)

pub returns : goal.returns
returns c =
    let e : c.loop-i.i ≡ length c.args.codes.now = omega arith in
    rw (← e) c.loop-i.invariant.0
