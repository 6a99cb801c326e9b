-- `append_choice`: `-` alone, or the generator and the letter.
use mathlib.Core.Path.{◌≡◌, refl, ap}
use Prim.Native.Char.{code}
use native.Mathlib.Omega.{arith}
use Rattle.model.specs.Text.{ascii}
use Rattle.model.specs.declared.Choice.TheVariants.{Dark}
use Rattle.model.specs.Values.{choice_source, choice_letter}
use Rattle.model.specs.Laws.Appended.{appended_byte, appended_more}
use Rattle.buses.specs.Buses.{choice_dark, choice_named}
use Rattle.buses.proofs.append_choice.Goals as goal
use Rattle.buses.proofs.append_choice.Goals.{in-Own, in-High, in-Low}

pub returns-in-Dark : goal.returns-in-Dark
returns-in-Dark c = rw (c.in-Dark.is, choice_dark Dark refl refl) (appended_byte _ _ _)

pub returns : goal.returns
unfolding ascii
returns c =
    let e : c.match-choice.source ≡ (choice_source c.args.choice, choice_letter c.args.choice) =
    elim c.match-choice.branch [
      | in-Own w ↦ rw w.in-Own.is w.source-is
      | in-High w ↦ rw w.in-High.is w.source-is
      | in-Low w ↦ rw w.in-Low.is w.source-is
    ] in
    let d : choice_letter c.args.choice ≡ code "-" → ⊥ =
    elim c.match-choice.branch [
      | in-Own w ↦ λ h. omega (arith, rw w.in-Own.is at h)
      | in-High w ↦ λ h. omega (arith, rw w.in-High.is at h)
      | in-Low w ↦ λ h. omega (arith, rw w.in-Low.is at h)
    ] in
    rw (choice_named c.args.choice (ap (λ x. x.1) e) (ap (λ x. x.0) e) c.requires.0 (rw e d))
    (appended_more (appended_byte _ _ _) c.append_marked.ensures)
