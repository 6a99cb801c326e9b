-- The standing commands of a ring: whether a part above n is active or locked, and whether two sets of commands differ.
use Rattle.std.specs.Prelude.{◌≡◌, Bool, List, [], ◌∷◌, not, ◌&&◌, ◌||◌, ◌⊎◌, ◌≢◌, ℕ, zero, suc, length, get_or, drop}
use Rattle.std.proofs.Math.Path.{refl}
use Rattle.std.proofs.Math.Bool.{true, false}
use Rattle.std.specs.Bool.{beq}
use Rattle.std.specs.List.{zip}
use Rattle.std.specs.Cmp.Lexicographic.{pointwise}
use Rattle.std.proofs.Common.{◌∙◌, sym, ap, inl, inr, arith}
use Rattle.std.proofs.lemmas.Slice.Zip.{get_or-zip, length-zip}
use Rattle.std.proofs.Math.Dec.{ltb}
use borrow.Author.Tests.{eq-eqb, ne_eqb}
use Rattle.model.specs.declared.Part.{Part}
use Rattle.model.specs.declared.Health.{Health}
use Rattle.model.specs.declared.Commands.{Commands}
use Rattle.model.specs.Lists.{below, any_of}
use Rattle.model.specs.Reports.{health_of, commands_of}
use Rattle.components.specs.Searches.{any_kinds, any_rest, rest, rest_all, any_differs}
use Rattle.model.specs.Plant.{PartHealth, PartCommands, largest, parts, fit}
use Rattle.model.specs.Refusals.{active_above, locked_above}
use Rattle.model.specs.Laws.Tests.{dec}
use Rattle.model.specs.Laws.Lists.{below_lt, any_ext}
use Rattle.model.specs.Laws.Parts.{Sized}

-- "not fit or not ordered off or open"
abbrev pub active : PartHealth → PartCommands → Part → Bool
active H C p = not (fit (H.health p)) || C p

module _ (h : ℕ) (c : Bool) where
  pub unfit_active : (r : Bool) → (r ≡ false → ⊥) → h ≢ 0 → r ≡ not (fit h) || c
  unfit_active r is e = rw (ne_eqb h 0 e) (go (dec r))
    where
      go : (r ≡ true) ⊎ (r ≡ false) → r ≡ true
      go (inl f) = f
      go (inr f) = absurd (is f)

  pub fit_active : h ≡ 0 → c ≡ not (fit h) || c
  fit_active e = rw (eq-eqb h 0 e)

-- the arrays of commands are full
pub record SizedCommands (c : Commands) : Type 0 where
  pub generators : length c.generators ≡ largest
  pub generator_breakers_lem : length c.generator_breakers ≡ largest
  pub bus_breakers_lem : length c.bus_breakers ≡ largest

-- .. of a part of a kind, by the healths and the commands of its parts
unfoldable pub any_active : List ℕ → List Bool → Bool
any_active hs cs = any_of (λ p. not (fit p.0) || p.1) (zip hs cs)

-- places side by side, from an index on
zip_none : {A B : Type 0} (xs : List A) → zip xs (let ys : List B = [] in ys) ≡ []
zip_none [] = refl
zip_none (x ∷ xs) = refl

zip_rest : {A B : Type 0} (n : ℕ) (xs : List A) (ys : List B) → drop n (zip xs ys) ≡ zip (drop n xs) (drop n ys)
zip_rest zero xs ys = refl
zip_rest (suc n) [] ys = refl
zip_rest (suc n) (x ∷ xs) [] = sym (zip_none (drop n xs))
zip_rest (suc n) (x ∷ xs) (y ∷ ys) = zip_rest n xs ys

module _ (n : ℕ) (h : Health) (s : Sized h) (c : Commands) (t : SizedCommands c) where
  kind : (hs : List ℕ) (cs : List Bool) → length hs ≡ largest → length cs ≡ largest
      → any_of (λ i. ltb n (suc i) && (not (fit (get_or hs i 0)) || get_or cs i false)) (below largest) ≡ any_active (rest n hs) (rest n cs)
  unfolding any_active
  kind hs cs e f =
      any_ext _ _ (below largest)
      (λ i m. let b = below_lt largest i m in rw (get_or-zip hs cs i (0, false) (omega arith) (omega arith)))
      ∙ (any_rest (λ p. not (fit p.0) || p.1) (zip hs cs) (0, false) n largest (omega (arith, length-zip hs cs))
      ∙ ap (any_of (λ p. not (fit p.0) || p.1)) (rest_all n (zip hs cs) ∙ (zip_rest n hs cs ∙ rw (rest_all n hs, rest_all n cs))))

  -- a part above n, kind by kind
  pub active_kinds : active_above n (health_of h) (commands_of c)
      ≡ any_active (rest n h.generators) (rest n c.generators)
      || (any_active (rest n h.generator_breakers) (rest n c.generator_breakers)
      || any_active (rest n h.bus_breakers) (rest n c.bus_breakers))
  unfolding active_above health_of commands_of
  active_kinds =
      any_kinds _ largest
      ∙ rw (
        kind h.generators c.generators s.generators t.generators,
        kind h.generator_breakers c.generator_breakers s.generator_breakers_lem t.generator_breakers_lem,
        kind h.bus_breakers c.bus_breakers s.bus_breakers_lem t.bus_breakers_lem,
      )

-- "A part above n must be unlocked" (Note 7): places are indices from 0, those above n are from n on
pub locked_rest : (n : ℕ) (h : Health) → Sized h → locked_above n (health_of h) ≡ any_of (λ l. l) (rest n h.locked)
unfolding locked_above health_of
locked_rest n h s = any_rest (λ l. l) h.locked false n largest s.locked

-- a part has another command in one than in the other
abbrev pub differs : PartCommands → PartCommands → Part → Bool
differs C D p = not (beq (C p) (D p))

-- .. and some part has
unfoldable pub any_differ : PartCommands → PartCommands → Bool
any_differ C D = any_of (differs C D) (parts largest)

not_all : (a b c : Bool) → not (a && (b && c)) ≡ not a || (not b || not c)
not_all true true c = refl
not_all true false c = refl
not_all false b c = refl

-- .. kind by kind, as `!=` compares them
pub differ_kinds : (a b : Commands) → SizedCommands a → SizedCommands b
    → any_differ (commands_of a) (commands_of b)
    ≡ not (pointwise beq a.generators b.generators
    && (pointwise beq a.generator_breakers b.generator_breakers && pointwise beq a.bus_breakers b.bus_breakers))
unfolding any_differ commands_of
differ_kinds a b s t =
    any_kinds _ largest
    ∙ rw (
      any_differs beq false a.generators b.generators largest s.generators t.generators,
      any_differs beq false a.generator_breakers b.generator_breakers largest s.generator_breakers_lem t.generator_breakers_lem,
      any_differs beq false a.bus_breakers b.bus_breakers largest s.bus_breakers_lem t.bus_breakers_lem,
    )
    (sym (not_all (pointwise beq a.generators b.generators) (pointwise beq a.generator_breakers b.generator_breakers) (pointwise beq a.bus_breakers b.bus_breakers)))
