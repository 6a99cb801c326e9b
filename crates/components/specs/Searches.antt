-- A test of some elements of a list, as the code asks it of a slice and as the rules ask it of the numbers below n, the indices.
use Rattle.std.specs.Prelude.{◌≡◌, refl, Bool, true, false, not, ◌&&◌, ◌||◌, List, [], ◌∷◌, map, ℕ, zero, suc, ◌+◌, ◌-◌, ◌≤◌, ◌<◌, ltb, min, length, get_or, take, drop}
use Rattle.std.specs.List.{list_any}
use Rattle.std.specs.Cmp.Lexicographic.{pointwise}
use Rattle.std.proofs.lemmas.Bool.{not-false}
use Rattle.std.proofs.Math.ListN.{get_or-eq_default}
use Rattle.std.proofs.Common.{sym, ◌∙◌, ◌⊎◌, ◌||◌, inl, inr, ap, arith, lt-ltb, ltb-true, length-take-le, get_or-take}
use Rattle.std.proofs.lemmas.List.{get_or-drop, length-drop, take_all}
use mathlib.Core.List.Memᴰ
use Rattle.model.specs.declared.Part.{Part}
use Rattle.model.specs.Lists.{below, any_of, ◌∈◌}
use Rattle.model.specs.Plant.{generator, generator_breaker, bus_breaker, parts}
use Rattle.model.specs.Laws.Tests.{iff, contra, dec, dec_lt, and_intro, and_left, and_right}
use Rattle.model.specs.Laws.Lists.{at_in, any_at, any_in, any_none, any_false, any_append, any_map, below_in, below_lt}

-- what `any` answers is the test of the rules
pub any_listed : {A : Type 0} (f : A → Bool) (xs : List A) → list_any f xs ≡ any_of f xs
unfolding any_of
any_listed f [] = refl
any_listed f (x ∷ xs) = ap (λ b. f x || b) (any_listed f xs)

-- .. of the parts of a ring, kind by kind
pub any_kinds : (f : Part → Bool) (n : ℕ)
    → any_of f (parts n)
    ≡ any_of (λ i. f (generator i)) (below n) || (any_of (λ i. f (generator_breaker i)) (below n) || any_of (λ i. f (bus_breaker i)) (below n))
unfolding parts
any_kinds f n =
    any_append f (map generator (below n)) _
    ∙ rw (any_append f (map generator_breaker (below n)) (map bus_breaker (below n)), any_map f generator (below n), any_map f generator_breaker (below n), any_map f bus_breaker (below n))

-- the code asks `a || b || c`: v is the answer of the first two, r that of the third
abbrev pub FirstTwo : Bool → Bool → Bool → Type 0
FirstTwo a b v = ((a ≡ true) × (v ≡ true)) ⊎ ((a ≡ false) × (v ≡ b))

module _ {k : Bool} (a b c : Bool) (e : k ≡ a || (b || c)) where
  pub some_of_two : {v : Bool} → FirstTwo a b v → v ≡ true → v ≡ k
  some_of_two (inl p) t = t ∙ sym (e ∙ rw p.0)
  some_of_two (inr p) t = t ∙ sym (e ∙ rw (p.0, sym p.1 ∙ t))

  pub none_of_two : {v r : Bool} → FirstTwo a b v → v ≡ false → r ≡ c → r ≡ k
  none_of_two (inl p) t q = contra p.1 t
  none_of_two (inr p) t q = q ∙ sym (e ∙ rw (p.0, sym p.1 ∙ t))

-- what stands from the n-th on, as the code takes it
abbrev pub rest : {A : Type 0} → ℕ → List A → List A
rest n l = take (length l - n) (drop n l)

pub rest_all : {A : Type 0} (n : ℕ) (l : List A) → rest n l ≡ drop n l
rest_all n l = take_all (length l - n) (drop n l) (omega (arith, length-drop n l))

-- a member's index
at_of : {A : Type 0} {x : A} (xs : List A) (d : A) → x ∈ xs → (i : ℕ) × (i < length xs) × (get_or xs i d ≡ x)
at_of xs d (Memᴰ.head p) = (0, omega arith, sym p)
at_of xs d (Memᴰ.tail {x = y} {xs = ys} m) = let t = at_of ys d m in (suc t.0, omega (arith, t.1), t.2)

module _ {A : Type 0} (g : A → Bool) (l : List A) (d : A) where
  -- an element that passes, at an index
  some_at : (xs : List A) (i : ℕ) → i < length xs → g (get_or xs i d) ≡ true → any_of g xs ≡ true
  some_at xs i h e = any_in g (at_in xs i d h) e

  at_some : (xs : List A) → any_of g xs ≡ true → (i : ℕ) × (i < length xs) × (g (get_or xs i d) ≡ true)
  at_some xs e =
      let t = any_at g xs e in
      let s = at_of xs d t.1 in
      (s.0, s.1, ap g s.2 ∙ t.2)

  -- of the first n elements
  pub any_first : (n : ℕ) → n ≤ length l → any_of (λ i. g (get_or l i d)) (below n) ≡ any_of g (take n l)
  any_first n h = iff _ _ to from
    where
      to : any_of (λ i. g (get_or l i d)) (below n) ≡ true → any_of g (take n l) ≡ true
      to e =
          let t = any_at (λ i. g (get_or l i d)) (below n) e in
          let b = below_lt n t.0 t.1 in
          some_at (take n l) t.0 (omega (arith, length-take-le n l h)) (rw (get_or-take n l t.0 d b) t.2)

      from : any_of g (take n l) ≡ true → any_of (λ i. g (get_or l i d)) (below n) ≡ true
      from e =
          let t = at_some (take n l) e in
          let b : t.0 < n = omega (arith, t.1, length-take-le n l h) in
          any_in (λ i. g (get_or l i d)) (below_in n t.0 b) (rw (get_or-take n l t.0 d b) at t.2)

  -- of those from the n-th on
  pub any_rest : (n m : ℕ) → length l ≡ m → any_of (λ i. ltb n (suc i) && g (get_or l i d)) (below m) ≡ any_of g (rest n l)
  any_rest n m e = iff _ _ to from ∙ ap (any_of g) (sym (rest_all n l))
    where
      to : any_of (λ i. ltb n (suc i) && g (get_or l i d)) (below m) ≡ true → any_of g (drop n l) ≡ true
      to p =
          let t = any_at (λ i. ltb n (suc i) && g (get_or l i d)) (below m) p in
          let b = below_lt m t.0 t.1 in
          let k : n ≤ t.0 = omega (arith, ltb-true n (suc t.0) (and_left _ _ t.2)) in
          let same : n + (t.0 - n) ≡ t.0 = omega arith in
          some_at (drop n l) (t.0 - n) (omega (arith, length-drop n l)) (rw (get_or-drop n l (t.0 - n) d, same) (and_right _ _ t.2))

      from : any_of g (drop n l) ≡ true → any_of (λ i. ltb n (suc i) && g (get_or l i d)) (below m) ≡ true
      from p =
          let t = at_some (drop n l) p in
          let b : n + t.0 < m = omega (arith, t.1, length-drop n l) in
          any_in (λ i. ltb n (suc i) && g (get_or l i d)) (below_in m (n + t.0) b)
          (and_intro _ _ (lt-ltb n (suc (n + t.0)) (omega arith)) (rw (get_or-drop n l t.0 d) at t.2))

-- ---- arrays that are compared whole, as `==` compares them

module _ {A : Type 0} (same : A → A → Bool) (d : A) where
  same_at : (xs ys : List A) (i : ℕ) → i < length xs → pointwise same xs ys ≡ true → same (get_or xs i d) (get_or ys i d) ≡ true
  same_at [] ys i h e = absurd (omega arith)
  same_at (x ∷ xs) [] i h e = contra e refl
  same_at (x ∷ xs) (y ∷ ys) zero h e = and_left (same x y) _ e
  same_at (x ∷ xs) (y ∷ ys) (suc i) h e = same_at xs ys i (omega arith) (and_right (same x y) _ e)

  all_same : (xs ys : List A) → length xs ≡ length ys → ((i : ℕ) → i < length xs → same (get_or xs i d) (get_or ys i d) ≡ true)
      → pointwise same xs ys ≡ true
  all_same [] [] e h = refl
  all_same [] (y ∷ ys) e h = absurd (omega arith)
  all_same (x ∷ xs) [] e h = absurd (omega arith)
  all_same (x ∷ xs) (y ∷ ys) e h =
      and_intro (same x y) _ (h 0 (omega arith)) (all_same xs ys (omega arith) (λ i l. h (suc i) (omega arith)))

  -- two arrays of m places differ at one
  pub any_differs : (xs ys : List A) (m : ℕ) → length xs ≡ m → length ys ≡ m
      → any_of (λ i. not (same (get_or xs i d) (get_or ys i d))) (below m) ≡ not (pointwise same xs ys)
  any_differs xs ys m e f = go (dec (pointwise same xs ys)) (dec (any_of differs (below m)))
    where
      differs : ℕ → Bool
      differs i = not (same (get_or xs i d) (get_or ys i d))

      go : (pointwise same xs ys ≡ true) ⊎ (pointwise same xs ys ≡ false)
          → (any_of differs (below m) ≡ true) ⊎ (any_of differs (below m) ≡ false)
          → any_of differs (below m) ≡ not (pointwise same xs ys)
      go (inl p) q = rw p (any_false differs (below m) (λ i b. rw (same_at xs ys i (omega (arith, below_lt m i b)) p)))
      go (inr p) (inl q) = rw (p, q)
      go (inr p) (inr q) =
          contra (all_same xs ys (omega arith) (λ i l. not-false _ (any_none differs q (below_in m i (omega arith))))) p

-- of the first n elements, where the n-th may stand beyond the last, and none there passes
pub any_held : {A : Type 0} (g : A → Bool) (l : List A) (d : A) (n m : ℕ) → length l ≡ m → g d ≡ false
    → any_of (λ i. g (get_or l i d)) (below n) ≡ any_of g (take (min n m) l)
any_held g l d n m e f = iff _ _ to from
  where
    to : any_of (λ i. g (get_or l i d)) (below n) ≡ true → any_of g (take (min n m) l) ≡ true
    to p =
        let t = any_at (λ i. g (get_or l i d)) (below n) p in
        rw (← any_first g l d (min n m) (omega arith))
        (any_in (λ i. g (get_or l i d)) (below_in (min n m) t.0 (inside t.0 (below_lt n t.0 t.1) t.2 (dec_lt t.0 m))) t.2)
      where
        inside : (i : ℕ) → i < n → g (get_or l i d) ≡ true → (i < m) ⊎ (m ≤ i) → i < min n m
        inside i h q (inl b) = omega arith
        inside i h q (inr b) = contra q (rw (get_or-eq_default l d {n = i} (omega arith)) f)

    from : any_of g (take (min n m) l) ≡ true → any_of (λ i. g (get_or l i d)) (below n) ≡ true
    from p =
        let t = any_at (λ i. g (get_or l i d)) (below (min n m)) (any_first g l d (min n m) (omega arith) ∙ p) in
        any_in (λ i. g (get_or l i d)) (below_in n t.0 (omega (arith, below_lt (min n m) t.0 t.1))) t.2
