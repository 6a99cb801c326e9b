-- What a function that answers a test has to show, by cases of what is tested: however the code words its test.
use Rattle.std.specs.Prelude.{◌≡◌, Bool, true, false, ◌||◌, ◌⊎◌, ◌≢◌, ℕ, eqb}
use Rattle.std.proofs.Common.{◌∙◌, inl, inr, eq-eqb, ne_eqb}
use Rattle.model.specs.Laws.Tests.{contra, dec, dec_eq}

-- the answer r is not false, or not true
pub is_true : (r : Bool) → (r ≡ false → ⊥) → r ≡ true
is_true r h = go (dec r)
  where
    go : (r ≡ true) ⊎ (r ≡ false) → r ≡ true
    go (inl e) = e
    go (inr e) = absurd (h e)

pub is_false : (r : Bool) → (r ≡ true → ⊥) → r ≡ false
is_false r h = go (dec r)
  where
    go : (r ≡ true) ⊎ (r ≡ false) → r ≡ false
    go (inl e) = absurd (h e)
    go (inr e) = e

-- a call answered f, which a definition equates with a: what follows of f, and what cannot be
module _ {f a : Bool} where
  pub answers : {v : Bool} → f ≡ a → a ≡ v → f ≡ v
  answers p q = p ∙ q

  pub never_false : f ≡ a → f ≡ true → a ≡ false → ⊥
  never_false p q e = contra q (p ∙ e)

  pub never_true : f ≡ a → f ≡ false → a ≡ true → ⊥
  never_true p q e = contra (p ∙ e) q

pub never_both : {b : Bool} → b ≡ true → b ≡ false → ⊥
never_both p q = contra p q

pub ruleset outcomes = (answers, never_false, never_true, never_both)

-- two tests, either of them
module _ (a b r : Bool) where
  pub either_test : (a ≡ true → r ≡ true) → (b ≡ true → r ≡ true) → (a ≡ false → b ≡ false → r ≡ false) → r ≡ a || b
  either_test p q s = go (dec a) (dec b)
    where
      go : (a ≡ true) ⊎ (a ≡ false) → (b ≡ true) ⊎ (b ≡ false) → r ≡ a || b
      go (inl e) f = rw e (p e)
      go (inr e) (inl f) = rw (e, f) (q f)
      go (inr e) (inr f) = rw (e, f) (s e f)

-- a is b, or else a test t
module _ (a b : ℕ) where
  pub or_test : (t r : Bool) → (a ≡ b → r ≡ false → ⊥) → (a ≢ b → r ≡ t) → r ≡ eqb a b || t
  or_test t r p q = go (dec_eq a b)
    where
      go : (a ≡ b) ⊎ (a ≢ b) → r ≡ eqb a b || t
      go (inl e) = rw (eq-eqb a b e) (is_true r (p e))
      go (inr e) = rw (ne_eqb a b e) (q e)
