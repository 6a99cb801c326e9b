-- Arrays that a call at each index makes.
use Rattle.std.specs.Prelude.{◌≡◌, ◌≢◌, ◌⊎◌, List, ℕ, zero, suc, ◌+◌, ◌<◌, ◌≤◌, map, length, get_or}
use Rattle.std.specs.Array.{IsFromFnResult, IsFromFnResultFrom}
use Rattle.std.specs.Fn.{Called, Mut}
use Rattle.std.proofs.Common.{refl, sym, subst, ◌∙◌, inl, inr, arith, ext_get_or}
use Rattle.std.proofs.lemmas.List.{length-map}
use Rattle.model.specs.Lists.{below}
use Rattle.model.specs.Plant.{largest}
use Rattle.model.specs.Reports.{places}
use Rattle.model.specs.Laws.Tests.{dec_eq}
use Rattle.model.specs.Laws.Lists.{below_length, map_below_at}

-- each of n calls of f gives what `item` says of its index, and leaves f as it was
module _ {F B : Type 0} (g : Mut F (ℕ × Unit {0}) B) (f : F) (n : ℕ) (item : ℕ → B)
    (called : (i : ℕ) (x : B) (q : F) → i < n → Called g f (i, tt) x q → (q ≡ f) × (x ≡ item i)) where
  -- the last m items, from index i on
  item_at : (m i : ℕ) (p : F) (xs : List B) → p ≡ f → i + m ≤ n → IsFromFnResultFrom g p xs i m → (k : ℕ) (d : B) → i ≤ k
      → k < i + m → get_or xs k d ≡ item k
  item_at zero i p xs same fits made k d l h = absurd (omega arith)
  item_at (suc m) i p xs same fits made k d l h =
      go (dec_eq k i) (λ next. item_at m (i + 1) made.0 xs one.0 (omega arith) made.4 k d next (omega arith))
    where
      one : (made.0 ≡ f) × (made.1 ≡ item i)
      one = called i made.1 made.0 (omega arith) (subst (λ (y : F). Called g y (i, tt) made.1 made.0) same made.3)

      go : (k ≡ i) ⊎ (k ≢ i) → (i + 1 ≤ k → get_or xs k d ≡ item k) → get_or xs k d ≡ item k
      go (inl e) rest = rw e (made.2.1 d ∙ one.1)
      go (inr e) rest = rest (omega arith)

  pub items_made : (xs : List B) → IsFromFnResult g f xs n → xs ≡ map item (below n)
  items_made xs made =
      ext_get_or (item 0) xs (map item (below n)) (made.long ∙ sym sized)
      (λ k l. item_at n 0 f xs refl (omega arith) made.each k (item 0) (omega arith) (omega (arith, made.long)) ∙ sym (map_below_at item n k (item 0) (omega (arith, made.long))))
    where
      sized : length (map item (below n)) ≡ n
      sized = rw (length-map, below_length n)

-- .. of twenty calls
pub places_made : {F B : Type 0} (g : Mut F (ℕ × Unit {0}) B) (f : F) (item : ℕ → B)
    → ((i : ℕ) (x : B) (q : F) → i < largest → Called g f (i, tt) x q → (q ≡ f) × (x ≡ item i)) → (xs : List B)
    → IsFromFnResult g f xs largest → xs ≡ places item
unfolding places
places_made g f item called xs made = items_made g f largest item called xs made

-- .. of calls that give the items of a list
pub list_made : {F B : Type 0} (g : Mut F (ℕ × Unit {0}) B) (f : F) (n : ℕ) (d : B) (ys : List B) → length ys ≡ n
    → ((i : ℕ) (x : B) (q : F) → i < n → Called g f (i, tt) x q → (q ≡ f) × (x ≡ get_or ys i d)) → (xs : List B)
    → IsFromFnResult g f xs n → xs ≡ ys
list_made g f n d ys full called xs made =
    ext_get_or d xs ys (made.long ∙ sym full)
    (λ k l. rw (items_made g f n (λ i. get_or ys i d) called xs made) (map_below_at (λ i. get_or ys i d) n k d (omega (arith, made.long))))
