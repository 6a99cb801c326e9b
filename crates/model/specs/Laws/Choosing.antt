-- Laws of choices.
use Rattle.std.specs.Prelude.{◌≡◌, refl, Bool, true, false, cond, ◌⊎◌, List, ℕ, suc, ◌≤◌, ◌<◌, ltb, eqb, get_or}
use Rattle.std.proofs.Common.{sym, ◌∙◌, ap, arith, lt-ltb}
use Rattle.std.specs.Bool.{beq}
use Rattle.std.proofs.lemmas.Simd.{map-map}
use Rattle.std.proofs.Math.Option.{Option, none, some}
use Prim.Native.Char.{code}
use Rattle.model.specs.declared.Choice.{Choice}
use Rattle.model.specs.declared.Choice.TheVariants.{Dark, Own, High, Low}
use Rattle.model.specs.declared.BusChoice.{BusChoice}
use Rattle.model.specs.Lists.{below}
use Rattle.model.specs.Values.{choice_source, choice_letter, choice_at, choice_values}
use Rattle.model.specs.Plant.{PartHealth, largest}
use Rattle.model.specs.Priority.{Path, high_rises}
use Rattle.model.specs.Choosing.{choice_of, path_values, plan, plan_values, choices}
use Rattle.model.specs.Reports.{places}
use Rattle.model.specs.Answers.{all_dark}
use Rattle.model.specs.Laws.Tests.{by_cond}
use Rattle.model.specs.Laws.Lists.{map_ext}
use Rattle.model.specs.Laws.Parts.{places_at}

-- a path's choice names its generator
pub choice_source_lem : (n : ℕ) (w : Path) → choice_source (choice_of n (some w)) ≡ suc w.source
unfolding choice_of
choice_source_lem n w = by_cond (λ (c : Choice). choice_source c ≡ suc w.source) (eqb w.source w.bus) (λ e. refl)
    (λ e. by_cond (λ (c : Choice). choice_source c ≡ suc w.source) (beq w.rising (high_rises n w.source w.bus)) (λ e. refl)
    (λ e. refl))

-- no path has the choice of a dark bus
pub choice_dark : (n : ℕ) (o : Option Path) → choice_of n o ≡ Dark → o ≡ none
choice_dark n none e = refl
choice_dark n (some w) e = absurd (omega (arith, sym (choice_source_lem n w) ∙ ap choice_source e))

-- a bus of the ring has the choice of its path
pub choices_at : (n : ℕ) (H : PartHealth) (b : ℕ) (d : BusChoice) → b < n → n ≤ largest
    → (get_or (choices n H) b d).choice ≡ choice_of n (plan n H b)
unfolding choices places
choices_at n H b d h small =
    ap (λ (c : BusChoice). c.choice)
    (places_at (λ k. record { choice = cond (ltb k n) (choice_of n (plan n H k)) Dark }) b d (omega arith)) ∙ rw (lt-ltb b n h)

-- choice c is dark, or names a generator of a ring of n
abbrev pub Inside : ℕ → Choice → Type 0
Inside n c = (c ≡ Dark) ⊎ ((0 < choice_source c) × (choice_source c ≤ n))

-- so are those of the first n buses
abbrev pub AllInside : ℕ → List BusChoice → Type 0
AllInside n cs = (b : ℕ) → b < n → Inside n (choice_at cs b)

-- ---- the values of choices

-- a choice's generator and letter
abbrev values : Choice → ℕ × ℕ
values c = (choice_source c, choice_letter c)

-- a path's choice has its values
path_values_lem : (n : ℕ) (o : Option Path) → values (choice_of n o) ≡ path_values n o
unfolding choice_of path_values
path_values_lem n none = refl
path_values_lem n (some w) = go (eqb w.source w.bus) (beq w.rising (high_rises n w.source w.bus))
  where
    go : (own high : Bool)
        → values (cond own (Own (suc w.source)) (cond high (High (suc w.source)) (Low (suc w.source))))
        ≡ (suc w.source, cond own (code "o") (cond high (code "h") (code "l")))
    go true high = refl
    go false true = refl
    go false false = refl

-- the choices have the plan's values
pub choices_values : (n : ℕ) (H : PartHealth) → choice_values (choices n H) ≡ plan_values n H
unfolding choice_values choices plan_values choice_of
choices_values n H = simp map-map (map_ext _ _ (below largest) (λ b m. go b (ltb b n)))
  where
    go : (b : ℕ) (t : Bool) → values (cond t (choice_of n (plan n H b)) Dark) ≡ cond t (path_values n (plan n H b)) (path_values n none)
    go b true = path_values_lem n (plan n H b)
    go b false = path_values_lem n none

-- all dark choices have a dark bus's values
pub dark_values : (n : ℕ) → choice_values all_dark ≡ places (λ b. path_values n none)
unfolding choice_values all_dark places path_values
dark_values n = simp map-map
