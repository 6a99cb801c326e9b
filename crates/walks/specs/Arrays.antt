-- Arrays of 20 places into which code stores one value: at one place, or at each place of a list.
use Rattle.std.specs.Prelude.{◌≡◌, Bool, true, false, ◌||◌, cond, ◌⊎◌, ◌≢◌, ℕ, ◌<◌, eqb, length, get_or, set}
use Rattle.std.proofs.Math.Path.{refl}
use Rattle.std.proofs.Common.{◌∙◌, inl, inr, length-set, get_or-set_same, get_or-set_other, eq-eqb, ne_eqb}
use mathlib.Core.List.Memᴰ
use mathlib.Core.List.{List, [], ◌∷◌}
use Rattle.model.specs.Lists.{any_of, ◌∈◌}
use Rattle.model.specs.Plant.{largest}
use Rattle.model.specs.Reports.{places}
use Rattle.model.specs.Laws.Tests.{dec_eq}
use Rattle.model.specs.Laws.Parts.{places_length, places_at, is_places}

-- what an array of numbers holds at each index
abbrev pub at : List ℕ → ℕ → ℕ
at l i = get_or l i 0

-- the list with x stored at each of the places is
unfoldable pub set_all : {A : Type 0} → A → List ℕ → List A → List A
set_all x [] l = l
set_all x (i ∷ is) l = set_all x is (set l i x)

module _ {A : Type 0} (x d : A) where
  set_at : (l : List A) (i v : ℕ) → i < length l → get_or (set l i x) v d ≡ cond (eqb v i) x (get_or l v d)
  set_at l i v h = go (dec_eq v i)
    where
      go : (v ≡ i) ⊎ (v ≢ i) → get_or (set l i x) v d ≡ cond (eqb v i) x (get_or l v d)
      go (inl e) = rw (eq-eqb v i e, e) (get_or-set_same l i x d h)
      go (inr e) = rw (ne_eqb v i e) (get_or-set_other l i v x d e)

  pub both : (s t : Bool) (y : A) → cond t x (cond s x y) ≡ cond (s || t) x y
  both true true y = refl
  both true false y = refl
  both false t y = refl

  set_all_at : (is : List ℕ) (l : List A) (v : ℕ) → ((i : ℕ) → i ∈ is → i < length l)
      → get_or (set_all x is l) v d ≡ cond (any_of (eqb v) is) x (get_or l v d)
  unfolding set_all any_of
  set_all_at [] l v h = refl
  set_all_at (i ∷ is) l v h =
      set_all_at is (set l i x) v (λ j m. rw (length-set l i x) (h j (Memᴰ.tail m)))
      ∙ rw (set_at l i v (h i (Memᴰ.head refl))) (both (eqb v i) (any_of (eqb v) is) (get_or l v d))

pub set_all_length : {A : Type 0} (x : A) (is : List ℕ) (l : List A) → length (set_all x is l) ≡ length l
unfolding set_all
set_all_length x [] l = refl
set_all_length x (i ∷ is) l = set_all_length x is (set l i x) ∙ length-set l i x

-- stores into an array that holds f
pub set_all_places : {A : Type 0} (f : ℕ → A) (x : A) (is : List ℕ) → ((i : ℕ) → i ∈ is → i < largest)
    → set_all x is (places f) ≡ places (λ v. cond (any_of (eqb v) is) x (f v))
set_all_places f x is h =
    is_places (λ v. cond (any_of (eqb v) is) x (f v)) (set_all x is (places f)) x (set_all_length x is (places f) ∙ places_length f)
    (λ v l. set_all_at x x is (places f) v (λ i m. rw (places_length f) (h i m)) ∙ rw (places_at f v x l))
