-- Laws of the list searches: what is a member of each, and what each finds.
use Rattle.std.specs.Prelude.{◌≡◌, Bool, false, ◌&&◌, ◌||◌, ◌⊎◌, ◌≢◌, get_or}
use Rattle.std.proofs.Math.Path.{refl}
use Rattle.std.proofs.Common.{sym, ◌∙◌, ap, inl, inr, add-one, length-append, ext_get_or}
use Rattle.std.proofs.Math.Bool.{true, or-false, or_assoc}
use mathlib.Core.List.Memᴰ
use mathlib.Core.List.{
  List,
  [],
  ◌∷◌,
  ◌++◌,
  map,
  flat_map,
  append_assoc,
  append-nil,
}
use Rattle.std.proofs.Math.Option.{Option, none, some}
use Prim.Native.Nat.{ℕ, zero, suc, ◌+◌, ◌<◌, ◌≤◌}
use native.Mathlib.Omega.{arith}
use Rattle.std.proofs.Math.ListN.{length, get_or-append, get_or-map}
use Rattle.std.proofs.lemmas.List.{length-map}
use Rattle.std.proofs.Math.Seq.{get_or-append_seam}
use Rattle.model.specs.Lists.{below, keep, first, any_of, all_of, ◌∈◌, RisingBy, empty, more}
use Rattle.model.specs.Laws.Tests.{never, contra, and_left, and_right, and_intro, or_cases, or_left, or_right, dec, dec_eq}

-- every member of a list with one element more
pub all_cons : {A : Type 0} {xs : List A} {x : A} (P : A → Type 0) → P x → ((y : A) → y ∈ xs → P y) → (y : A) → y ∈ x ∷ xs → P y
all_cons {xs = xs} {x} P p r y m = go (Memᴰ.cases_cons m)
  where
    go : (y ≡ x) ⊎ (y ∈ xs) → P y
    go (inl e) = rw e p
    go (inr e) = r y e

-- what stands at an index
pub at_in : {A : Type 0} (xs : List A) (i : ℕ) (d : A) → i < length xs → get_or xs i d ∈ xs
at_in [] i d h = absurd (omega arith)
at_in (x ∷ xs) zero d h = Memᴰ.head refl
at_in (x ∷ xs) (suc i) d h = Memᴰ.tail (at_in xs i d (omega arith))

-- ---- below

pub below_in : (n i : ℕ) → i < n → i ∈ below n
unfolding below
below_in zero i h = absurd (omega arith)
below_in (suc n) i h = go (below_in n i) (dec_eq i n)
  where
    go : (i < n → i ∈ below n) → (i ≡ n) ⊎ (i ≢ n) → i ∈ below n ++ (n ∷ [])
    go r (inl p) = Memᴰ.append_right (below n) (Memᴰ.head p)
    go r (inr p) = Memᴰ.append_left (n ∷ []) (r (omega arith))

pub below_lt : (n i : ℕ) → i ∈ below n → i < n
unfolding below
below_lt zero i m = absurd (Memᴰ.not-nil m)
below_lt (suc n) i m = go (below_lt n i) (Memᴰ.append_cases (below n) m)
  where
    go : (i ∈ below n → i < n) → (i ∈ below n) ⊎ (i ∈ n ∷ []) → i < suc n
    go r (inl p) = omega (arith, r p)
    go r (inr p) = omega (arith, Memᴰ.eq_of_singleton p)

pub below_length : (n : ℕ) → length (below n) ≡ n
unfolding below
below_length zero = refl
below_length (suc n) = omega (arith, length-append (below n) (n ∷ []), below_length n)

pub below_at : (n i d : ℕ) → i < n → get_or (below n) i d ≡ i
unfolding below
below_at zero i d h = absurd (omega arith)
below_at (suc n) i d h = go (below_at n i d) (dec_eq i n)
  where
    go : (i < n → get_or (below n) i d ≡ i) → (i ≡ n) ⊎ (i ≢ n) → get_or (below n ++ (n ∷ [])) i d ≡ i
    go r (inl p) = rw p (ap (λ j. get_or (below n ++ (n ∷ [])) j d) (sym (below_length n)) ∙ get_or-append_seam (below n) n [] d)
    go r (inr p) = get_or-append (below n) (n ∷ []) d i (omega (arith, below_length n)) ∙ r (omega arith)

-- ---- map and flat_map

-- the default of a mapped list is not read inside it
pub map_within : {A B : Type 0} (f : A → B) (l : List A) (i : ℕ) (c : A) (d : B) → i < length l → get_or (map f l) i d ≡ f (get_or l i c)
map_within f [] i c d h = absurd (omega arith)
map_within f (x ∷ xs) zero c d h = refl
map_within f (x ∷ xs) (suc i) c d h = map_within f xs i c d (omega arith)

-- what f makes of the numbers below n has f i at each i
pub map_below_at : {A : Type 0} (f : ℕ → A) (n i : ℕ) (d : A) → i < n → get_or (map f (below n)) i d ≡ f i
map_below_at f n i d h = map_within f (below n) i 0 d (omega (arith, below_length n)) ∙ ap f (below_at n i 0 h)

-- what f makes of each index of a list is what g makes of the element there
pub map_index : {A B : Type 0} (f : ℕ → B) (g : A → B) (l : List A) (d : A) → ((i : ℕ) → i < length l → f i ≡ g (get_or l i d))
    → map f (below (length l)) ≡ map g l
map_index f g l d h =
    ext_get_or (g d) _ _ (simp (length-map, below_length))
    (λ i b. let k : i < length l = rw (length-map, below_length) at b in
    map_below_at f (length l) i (g d) k ∙ (h i k ∙ sym (get_or-map g l i d)))

pub map_in : {A B : Type 0} (f : A → B) {x : A} {xs : List A} → x ∈ xs → f x ∈ map f xs
map_in f (Memᴰ.head p) = Memᴰ.head (ap f p)
map_in f (Memᴰ.tail m) = Memᴰ.tail (map_in f m)

pub map_at : {A B : Type 0} (f : A → B) (xs : List A) {y : B} → y ∈ map f xs → (x : A) × (x ∈ xs) × (y ≡ f x)
map_at f [] m = absurd (Memᴰ.not-nil m)
map_at {A} f (x ∷ xs) {y} m = go (λ r. map_at f xs r) (Memᴰ.cases_cons m)
  where
    go : (y ∈ map f xs → (z : A) × (z ∈ xs) × (y ≡ f z)) → (y ≡ f x) ⊎ (y ∈ map f xs) → (z : A) × (z ∈ x ∷ xs) × (y ≡ f z)
    go r (inl p) = (x, Memᴰ.head refl, p)
    go r (inr p) = let t = r p in (t.0, Memᴰ.tail t.1, t.2)

pub map_ext : {A B : Type 0} (f g : A → B) (xs : List A) → ((x : A) → x ∈ xs → f x ≡ g x) → map f xs ≡ map g xs
map_ext f g [] h = refl
map_ext f g (x ∷ xs) h = rw (h x (Memᴰ.head refl), map_ext f g xs (λ y m. h y (Memᴰ.tail m)))

pub flat_in : {A B : Type 0} (f : A → List B) {x : A} {xs : List A} {y : B} → x ∈ xs → y ∈ f x → y ∈ flat_map f xs
unfolding flat_map
flat_in f {y = y} (Memᴰ.head {x = z} {xs = zs} p) m = Memᴰ.append_left (flat_map f zs) (rw p at m)
flat_in f (Memᴰ.tail {x = z} r) m = Memᴰ.append_right (f z) (flat_in f r m)

pub flat_at : {A B : Type 0} (f : A → List B) (xs : List A) {y : B} → y ∈ flat_map f xs → (x : A) × (x ∈ xs) × (y ∈ f x)
unfolding flat_map
flat_at f [] m = absurd (Memᴰ.not-nil m)
flat_at {A} f (x ∷ xs) {y} m = go (λ r. flat_at f xs r) (Memᴰ.append_cases (f x) m)
  where
    go : (y ∈ flat_map f xs → (z : A) × (z ∈ xs) × (y ∈ f z)) → (y ∈ f x) ⊎ (y ∈ flat_map f xs) → (z : A) × (z ∈ x ∷ xs) × (y ∈ f z)
    go r (inl p) = (x, Memᴰ.head refl, p)
    go r (inr p) = let t = r p in (t.0, Memᴰ.tail t.1, t.2)

pub flat_append : {A B : Type 0} (f : A → List B) (xs ys : List A) → flat_map f (xs ++ ys) ≡ flat_map f xs ++ flat_map f ys
unfolding flat_map
flat_append f [] ys = refl
flat_append f (x ∷ xs) ys = rw (flat_append f xs ys) (sym (append_assoc (f x) (flat_map f xs) (flat_map f ys)))

pub flat_ext : {A B : Type 0} (f g : A → List B) (xs : List A) → ((x : A) → x ∈ xs → f x ≡ g x) → flat_map f xs ≡ flat_map g xs
unfolding flat_map
flat_ext f g [] h = refl
flat_ext f g (x ∷ xs) h = rw (h x (Memᴰ.head refl), flat_ext f g xs (λ y m. h y (Memᴰ.tail m)))

-- one index more
pub flat_below : {A : Type 0} (f : ℕ → List A) (k : ℕ) → flat_map f (below (suc k)) ≡ flat_map f (below k) ++ f k
unfolding below flat_map
flat_below f k = flat_append f (below k) (k ∷ []) ∙ ap (λ l. flat_map f (below k) ++ l) (append-nil (f k))

-- ---- any_of and all_of

module _ {A : Type 0} (f : A → Bool) where
  pub any_at : (xs : List A) → any_of f xs ≡ true → (x : A) × (x ∈ xs) × (f x ≡ true)
  unfolding any_of
  any_at [] e = contra e refl
  any_at (x ∷ xs) e = go (any_at xs) (or_cases (f x) _ e)
    where
      go : (any_of f xs ≡ true → (y : A) × (y ∈ xs) × (f y ≡ true)) → (f x ≡ true) ⊎ (any_of f xs ≡ true)
          → (y : A) × (y ∈ x ∷ xs) × (f y ≡ true)
      go r (inl p) = (x, Memᴰ.head refl, p)
      go r (inr p) = let t = r p in (t.0, Memᴰ.tail t.1, t.2)

  pub any_in : {x : A} {xs : List A} → x ∈ xs → f x ≡ true → any_of f xs ≡ true
  unfolding any_of
  any_in (Memᴰ.head {x = y} p) e = or_left (f y) _ (rw p at e)
  any_in (Memᴰ.tail {x = y} m) e = or_right (f y) _ (any_in m e)

  pub any_none : {x : A} {xs : List A} → any_of f xs ≡ false → x ∈ xs → f x ≡ false
  any_none {x} {xs} e m = go (dec (f x))
    where
      go : (f x ≡ true) ⊎ (f x ≡ false) → f x ≡ false
      go (inl p) = contra (any_in m p) e
      go (inr p) = p

  pub any_false : (xs : List A) → ((x : A) → x ∈ xs → f x ≡ false) → any_of f xs ≡ false
  unfolding any_of
  any_false [] h = refl
  any_false (x ∷ xs) h = rw (h x (Memᴰ.head refl)) (any_false xs (λ y m. h y (Memᴰ.tail m)))

  pub all_at : (xs : List A) → all_of f xs ≡ true → (x : A) → x ∈ xs → f x ≡ true
  unfolding all_of
  all_at [] e x m = absurd (Memᴰ.not-nil m)
  all_at (y ∷ ys) e x m = all_cons (λ z. f z ≡ true) (and_left (f y) _ e) (all_at ys (and_right (f y) _ e)) x m

  pub all_of_lem : (xs : List A) → ((x : A) → x ∈ xs → f x ≡ true) → all_of f xs ≡ true
  unfolding all_of
  all_of_lem [] h = refl
  all_of_lem (x ∷ xs) h = and_intro (f x) _ (h x (Memᴰ.head refl)) (all_of_lem xs (λ y m. h y (Memᴰ.tail m)))

  pub any_ext : (g : A → Bool) (xs : List A) → ((x : A) → x ∈ xs → f x ≡ g x) → any_of f xs ≡ any_of g xs
  unfolding any_of
  any_ext g [] h = refl
  any_ext g (x ∷ xs) h = rw (h x (Memᴰ.head refl), any_ext g xs (λ y m. h y (Memᴰ.tail m)))

  pub all_ext : (g : A → Bool) (xs : List A) → ((x : A) → x ∈ xs → f x ≡ g x) → all_of f xs ≡ all_of g xs
  unfolding all_of
  all_ext g [] h = refl
  all_ext g (x ∷ xs) h = rw (h x (Memᴰ.head refl), all_ext g xs (λ y m. h y (Memᴰ.tail m)))

pub any_append : {A : Type 0} (f : A → Bool) (xs ys : List A) → any_of f (xs ++ ys) ≡ any_of f xs || any_of f ys
unfolding any_of
any_append f [] ys = refl
any_append f (x ∷ xs) ys = ap (λ b. f x || b) (any_append f xs ys) ∙ sym (or_assoc (f x) (any_of f xs) (any_of f ys))

pub any_map : {A B : Type 0} (f : B → Bool) (g : A → B) (xs : List A) → any_of f (map g xs) ≡ any_of (λ x. f (g x)) xs
unfolding any_of
any_map f g [] = refl
any_map f g (x ∷ xs) = ap (λ b. f (g x) || b) (any_map f g xs)

pub any_flat : {A B : Type 0} (f : B → Bool) (g : A → List B) (xs : List A) → any_of f (flat_map g xs) ≡ any_of (λ x. any_of f (g x)) xs
unfolding any_of flat_map
any_flat f g [] = refl
any_flat f g (x ∷ xs) = any_append f (g x) (flat_map g xs) ∙ ap (λ b. any_of f (g x) || b) (any_flat f g xs)

-- one index more
pub any_below : (f : ℕ → Bool) (i : ℕ) {b : Bool} → b ≡ any_of f (below i) → b || f i ≡ any_of f (below (i + 1))
unfolding below any_of
any_below f i e = rw (add-one, e) (go (below i))
  where
    go : (xs : List ℕ) → any_of f xs || f i ≡ any_of f (xs ++ (i ∷ []))
    go [] = sym (or-false (f i))
    go (x ∷ xs) = or_assoc (f x) (any_of f xs) (f i) ∙ ap (λ b. f x || b) (go xs)

-- ---- keep

module _ {A : Type 0} (f : A → Bool) where
  pub keep_at : (xs : List A) {x : A} → x ∈ keep f xs → (x ∈ xs) × (f x ≡ true)
  unfolding keep
  keep_at [] m = absurd (Memᴰ.not-nil m)
  keep_at (y ∷ ys) {x} m = go (λ r. keep_at ys r) (dec (f y))
    where
      pick : (x ∈ keep f ys → (x ∈ ys) × (f x ≡ true)) → f y ≡ true → (x ≡ y) ⊎ (x ∈ keep f ys) → (x ∈ y ∷ ys) × (f x ≡ true)
      pick r p (inl e) = (Memᴰ.head e, rw e p)
      pick r p (inr e) = let t = r e in (Memᴰ.tail t.0, t.1)

      go : (x ∈ keep f ys → (x ∈ ys) × (f x ≡ true)) → (f y ≡ true) ⊎ (f y ≡ false) → (x ∈ y ∷ ys) × (f x ≡ true)
      go r (inl p) = pick r p (Memᴰ.cases_cons (rw p at m))
      go r (inr p) = let t = r (rw p at m) in (Memᴰ.tail t.0, t.1)

  pub keep_in : {x : A} {xs : List A} → x ∈ xs → f x ≡ true → x ∈ keep f xs
  unfolding keep
  keep_in (Memᴰ.head {x = y} p) e = let q : f y ≡ true = rw p at e in rw q (Memᴰ.head p)
  keep_in {x} (Memᴰ.tail {x = y} {xs = ys} m) e = go (keep_in m e) (dec (f y))
    where
      go : x ∈ keep f ys → (f y ≡ true) ⊎ (f y ≡ false) → x ∈ keep f (y ∷ ys)
      go r (inl p) = rw p (Memᴰ.tail r)
      go r (inr p) = rw p r

  pub keep_ext : (g : A → Bool) (xs : List A) → ((x : A) → x ∈ xs → f x ≡ g x) → keep f xs ≡ keep g xs
  unfolding keep
  keep_ext g [] h = refl
  keep_ext g (x ∷ xs) h = rw (h x (Memᴰ.head refl), keep_ext g xs (λ y m. h y (Memᴰ.tail m)))

  pub keep_append : (xs ys : List A) → keep f (xs ++ ys) ≡ keep f xs ++ keep f ys
  unfolding keep
  keep_append [] ys = refl
  keep_append (x ∷ xs) ys = go (keep_append xs ys) (dec (f x))
    where
      go : keep f (xs ++ ys) ≡ keep f xs ++ keep f ys → (f x ≡ true) ⊎ (f x ≡ false) → keep f (x ∷ xs ++ ys) ≡ keep f (x ∷ xs) ++ keep f ys
      go r (inl p) = rw (p, r)
      go r (inr p) = rw (p, r)

  pub keep_length : (xs : List A) → length (keep f xs) ≤ length xs
  unfolding keep
  keep_length [] = omega arith
  keep_length (x ∷ xs) = go (keep_length xs) (dec (f x))
    where
      go : length (keep f xs) ≤ length xs → (f x ≡ true) ⊎ (f x ≡ false) → length (keep f (x ∷ xs)) ≤ suc (length xs)
      go r (inl p) = rw p (omega arith)
      go r (inr p) = rw p (omega arith)

pub keep_none : {A : Type 0} (f : A → Bool) (xs : List A) → ((x : A) → x ∈ xs → f x ≡ false) → keep f xs ≡ []
unfolding keep
keep_none f [] h = refl
keep_none f (x ∷ xs) h = rw (h x (Memᴰ.head refl)) (keep_none f xs (λ y m. h y (Memᴰ.tail m)))

pub keep_all : {A : Type 0} (f : A → Bool) (xs : List A) → ((x : A) → x ∈ xs → f x ≡ true) → keep f xs ≡ xs
unfolding keep
keep_all f [] h = refl
keep_all f (x ∷ xs) h = rw (h x (Memᴰ.head refl), keep_all f xs (λ y m. h y (Memᴰ.tail m)))

-- one test after another
pub keep_twice : {A : Type 0} (f g : A → Bool) (xs : List A) → keep f (keep g xs) ≡ keep (λ x. g x && f x) xs
unfolding keep
keep_twice f g [] = refl
keep_twice f g (x ∷ xs) = go (keep_twice f g xs) (dec (g x)) (dec (f x))
  where
    go : keep f (keep g xs) ≡ keep (λ y. g y && f y) xs → (g x ≡ true) ⊎ (g x ≡ false) → (f x ≡ true) ⊎ (f x ≡ false)
        → keep f (keep g (x ∷ xs)) ≡ keep (λ y. g y && f y) (x ∷ xs)
    go r (inl p) (inl q) = rw (p, q, r)
    go r (inl p) (inr q) = rw (p, q, r)
    go r (inr p) q = rw (p, r)

pub keep_map : {A B : Type 0} (f : B → Bool) (g : A → B) (xs : List A) → keep f (map g xs) ≡ map g (keep (λ x. f (g x)) xs)
unfolding keep
keep_map f g [] = refl
keep_map f g (x ∷ xs) = go (keep_map f g xs) (dec (f (g x)))
  where
    go : keep f (map g xs) ≡ map g (keep (λ y. f (g y)) xs) → (f (g x) ≡ true) ⊎ (f (g x) ≡ false)
        → keep f (map g (x ∷ xs)) ≡ map g (keep (λ y. f (g y)) (x ∷ xs))
    go r (inl p) = rw (p, r)
    go r (inr p) = rw (p, r)

-- two tests that no element passes both of keep no more elements than there are
pub keep_apart : {A : Type 0} (f g : A → Bool) → ((x : A) → f x ≡ true → g x ≡ false) → (xs : List A)
    → length (keep f xs) + length (keep g xs) ≤ length xs
unfolding keep
keep_apart f g apart [] = omega arith
keep_apart f g apart (x ∷ xs) = go (keep_apart f g apart xs) (dec (f x)) (dec (g x))
  where
    go : length (keep f xs) + length (keep g xs) ≤ length xs → (f x ≡ true) ⊎ (f x ≡ false) → (g x ≡ true) ⊎ (g x ≡ false)
        → length (keep f (x ∷ xs)) + length (keep g (x ∷ xs)) ≤ length (x ∷ xs)
    go r (inl p) q = rw (p, apart x p) (omega arith)
    go r (inr p) (inl q) = rw (p, q) (omega arith)
    go r (inr p) (inr q) = rw (p, q) (omega arith)

-- ---- first

pub none_some : {A P : Type 0} {x : A} {o : Option A} → o ≡ none → o ≡ some x → P
none_some {x = x} {o} p q = never cc

module _ {A : Type 0} (f : A → Bool) where
  pub first_at : (xs : List A) (x : A) → first f xs ≡ some x → (x ∈ xs) × (f x ≡ true)
  unfolding first
  first_at [] x e = none_some refl e
  first_at (y ∷ ys) x e = go (first_at ys x) (dec (f y))
    where
      go : (first f ys ≡ some x → (x ∈ ys) × (f x ≡ true)) → (f y ≡ true) ⊎ (f y ≡ false) → (x ∈ y ∷ ys) × (f x ≡ true)
      go r (inl p) = let q : some y ≡ some x = rw p at e in let z : x ≡ y = cc in (Memᴰ.head z, rw z p)
      go r (inr p) = let t = r (rw p at e) in (Memᴰ.tail t.0, t.1)

  pub first_in : {x : A} {xs : List A} → x ∈ xs → f x ≡ true → (y : A) × (first f xs ≡ some y)
  unfolding first
  first_in (Memᴰ.head {x = y} p) e = let q : f y ≡ true = rw p at e in (y, rw q)
  first_in (Memᴰ.tail {x = y} {xs = ys} m) e = go (first_in m e) (dec (f y))
    where
      go : (z : A) × (first f ys ≡ some z) → (f y ≡ true) ⊎ (f y ≡ false) → (z : A) × (first f (y ∷ ys) ≡ some z)
      go r (inl p) = (y, rw p)
      go r (inr p) = (r.0, rw p r.1)

  pub first_none : (xs : List A) → ((x : A) → x ∈ xs → f x ≡ false) → first f xs ≡ none
  unfolding first
  first_none [] h = refl
  first_none (x ∷ xs) h = rw (h x (Memᴰ.head refl)) (first_none xs (λ y m. h y (Memᴰ.tail m)))

  -- elements that do not pass are passed by
  pub first_past : (xs ys : List A) → ((x : A) → x ∈ xs → f x ≡ false) → first f (xs ++ ys) ≡ first f ys
  unfolding first
  first_past [] ys h = refl
  first_past (x ∷ xs) ys h = rw (h x (Memᴰ.head refl)) (first_past xs ys (λ y m. h y (Memᴰ.tail m)))

  -- the only element that passes is the first
  pub first_only : (x : A) {xs : List A} → x ∈ xs → f x ≡ true → ((y : A) → y ∈ xs → f y ≡ true → y ≡ x) → first f xs ≡ some x
  first_only x {xs} m e only =
      let t = first_in m e in
      let s = first_at xs t.0 t.1 in
      t.1 ∙ ap some (only t.0 s.0 s.1)

  pub first_ext : (g : A → Bool) (xs : List A) → ((x : A) → x ∈ xs → f x ≡ g x) → first f xs ≡ first g xs
  unfolding first
  first_ext g [] h = refl
  first_ext g (x ∷ xs) h = rw (h x (Memᴰ.head refl), first_ext g xs (λ y m. h y (Memᴰ.tail m)))

-- ---- rising lists

-- rising numbers
abbrev pub Rising : List ℕ → Type 0
Rising xs = RisingBy (λ i. i) xs

pub rising_append : {A : Type 0} {g : A → ℕ} {xs ys : List A} → RisingBy g xs → RisingBy g ys → ((x y : A) → x ∈ xs → y ∈ ys → g x < g y)
    → RisingBy g (xs ++ ys)
rising_append empty s f = s
rising_append {A} {g} {ys = ys} (more {x = x} {xs = xs} l r) s f =
    more (λ y m. go y (Memᴰ.append_cases xs m)) (rising_append r s (λ z y m k. f z y (Memᴰ.tail m) k))
  where
    go : (y : A) → (y ∈ xs) ⊎ (y ∈ ys) → g x < g y
    go y (inl m) = l y m
    go y (inr m) = f x y (Memᴰ.head refl) m

pub rising_map : {A B : Type 0} (g : B → ℕ) (f : A → B) {xs : List A} → RisingBy (λ x. g (f x)) xs → RisingBy g (map f xs)
rising_map g f empty = empty
rising_map g f (more {x = x} {xs = xs} l r) =
    more {x = f x} (λ y m. let t = map_at f xs m in rw t.2 (l t.0 t.1)) (rising_map g f r)

pub rising_mono : {A : Type 0} {g h : A → ℕ} {xs : List A} → ((x y : A) → g x < g y → h x < h y) → RisingBy g xs → RisingBy h xs
rising_mono f empty = empty
rising_mono f (more {x = x} l r) = more (λ y m. f x y (l y m)) (rising_mono f r)

pub rising_keep : {A : Type 0} {g : A → ℕ} (f : A → Bool) {xs : List A} → RisingBy g xs → RisingBy g (keep f xs)
unfolding keep
rising_keep f empty = empty
rising_keep {g = g} f (more {x = x} {xs = xs} l r) = go (rising_keep f r) (dec (f x))
  where
    go : RisingBy g (keep f xs) → (f x ≡ true) ⊎ (f x ≡ false) → RisingBy g (keep f (x ∷ xs))
    go q (inl p) = rw p (more (λ y m. l y (keep_at f xs m).0) q)
    go q (inr p) = rw p q

pub rising_below : (n : ℕ) → Rising (below n)
unfolding below
rising_below zero = empty
rising_below (suc n) =
    rising_append (rising_below n) (more (λ y m. absurd (Memᴰ.not-nil m)) empty)
    (λ x y m k. rw (Memᴰ.eq_of_singleton k) (below_lt n x m))
