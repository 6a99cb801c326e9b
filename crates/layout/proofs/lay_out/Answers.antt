-- `layout::lay_out` meets its contract: sizes, codes and commands follow one another.
use mathlib.Core.Path.{refl}
use mathlib.Core.List.{[], ◌∷◌}
use native.Mathlib.Omega.{arith}
use lib.ListN.{set, take}
use lib.Seq.{length-take-le}
use Rattle.model.specs.Laws.Appended.{Appended, appended_length, appended_more}
use Rattle.appending.specs.Parts.{appended_fill}
use Rattle.layout.specs.Layout.{laid_out}
use Rattle.layout.proofs.lay_out.Goals as goal

pub returns : goal.returns
returns c =
    let o = c.args.counts.opening in
    let k = c.args.counts.closing in
    let sizes : Appended (o ∷ k ∷ []) c.args.bytes.now 0 (set (set c.args.bytes.now 0 o) 1 k) 2 = record { stored = refl; end = refl } in
    let codes = appended_more (appended_more sizes c.append-closing_codes.ensures) c.append-commands.ensures in
    let p = length-take-le o c.args.opening.now (omega (arith, c.requires)) in
    let q = length-take-le k c.args.closing.now (omega (arith, c.requires)) in
    let off = appended_fill 0 o _ _ _ (c.fill.ensures.after (λ y e. e)) (omega arith) (omega (arith, appended_length codes, codes.end, p, q, c.requires)) (omega arith) in
    let on =
    appended_fill 1 k _ _ _ (c.fill-2.ensures.after (λ y e. e)) (omega (arith, appended_length off, appended_length codes, codes.end, p, q, c.requires))
    (omega (arith, appended_length off, appended_length codes, codes.end, p, q, c.requires)) refl in
    laid_out (take o c.args.opening.now) (take k c.args.closing.now) p q (omega (arith, c.requires)) (appended_more (appended_more codes off) on)
