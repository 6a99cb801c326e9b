-- Safe and ending: the cursor is one of the file's run while more is left, and each piece brings the end nearer.
use Rattle.std.proofs.Common.{rules, refl, sym, ◌∙◌, ltb-true}
use Rattle.run.specs.Filling.{left_shorter}
use Rattle.vectors.proofs.run_agrees.Goals as goal

pub loop-more-init : goal.loop-more-init
loop-more-init g c = (λ e. (c.begin-cursor.ensures.run _).0, refl, refl)

pub fill-piece-requires-clause-cursor : goal.fill-piece-requires-clause-cursor
fill-piece-requires-clause-cursor g c = c.loop-more.invariant.0 c.loop-more-test.true

pub loop-more-smaller : goal.loop-more-smaller
loop-more-smaller g c = let e = c.fill-piece.ensures in left_shorter _ _ _ e.run e.length.0 e.length.1

pub loop-more-preserved : goal.loop-more-preserved
loop-more-preserved g c =
    let e = c.fill-piece.ensures in
    (λ m. record { cursor = e.cursor; more = ltb-true _ _ (sym e.more ∙ m) }, search rules, search rules)
