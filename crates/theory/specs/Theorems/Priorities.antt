-- What a bus tries: every generator once, and two paths from each, one from its own.
use Rattle.std.specs.Prelude.{◌≡◌, refl, Bool, true, false, not, ◌≢◌, ◌⊎◌, ℕ, zero, suc, ◌+◌, ◌*◌, ◌≤◌, ◌<◌, leb, eqb, length}
use Rattle.std.proofs.Common.{sym, ◌∙◌, ap, inl, inr, arith, length-append, eq-eqb, ne_eqb}
use mathlib.Core.List.Memᴰ
use mathlib.Core.List.{
  List,
  [],
  ◌∷◌,
  ◌++◌,
  flat_map,
}
use Rattle.std.proofs.lemmas.Bool.{not-true}
use Rattle.model.specs.Lists.{below, keep, ◌∈◌, Distinct, nothing, one_more}
use Rattle.model.specs.Priority.{Path, others, sources, high_rises, paths_from, paths}
use Rattle.model.specs.Laws.Tests.{contra, dec, dec_eq}
use Rattle.model.specs.Laws.Lists.{below_in, below_lt, below_length, keep_at, flat_at, rising_below, rising_keep}
use Rattle.model.specs.Laws.Distinct.{rising_distinct}
use Rattle.theory.specs.Proofs.Paths.{sources_in, sources_at, others_at, from_at}
use Rattle.theory.specs.Statements.Priorities.{Priorities}

-- ---- lists without repeats

distinct_snoc : {A : Type 0} {xs : List A} {y : A} → Distinct xs → (y ∈ xs → ⊥) → Distinct (xs ++ (y ∷ []))
distinct_snoc nothing f = one_more (λ m. Memᴰ.not-nil m) nothing
distinct_snoc {y = y} (one_more {x = x} {xs = xs} g d) f =
    one_more (λ m. go (Memᴰ.append_cases xs m)) (distinct_snoc d (λ m. f (Memᴰ.tail m)))
  where
    go : (x ∈ xs) ⊎ (x ∈ y ∷ []) → ⊥
    go (inl m) = g m
    go (inr m) = f (Memᴰ.head (sym (Memᴰ.eq_of_singleton m)))

distinct_append : {A : Type 0} {xs ys : List A} → Distinct xs → Distinct ys → ((x : A) → x ∈ xs → x ∈ ys → ⊥) → Distinct (xs ++ ys)
distinct_append nothing e f = e
distinct_append {ys = ys} (one_more {x = x} {xs = xs} g d) e f =
    one_more (λ m. go (Memᴰ.append_cases xs m)) (distinct_append d e (λ y m k. f y (Memᴰ.tail m) k))
  where
    go : (x ∈ xs) ⊎ (x ∈ ys) → ⊥
    go (inl m) = g m
    go (inr m) = f x (Memᴰ.head refl) m

-- ---- the sources of a bus

others_distinct : (n : ℕ) → Distinct (others n)
unfolding others
others_distinct n = rising_distinct (rising_keep (leb 2) (rising_below n))

-- the generators G3 .. Gn without one
rest : ℕ → ℕ → List ℕ
rest n b = keep (λ g. not (eqb g b)) (others n)

rest_distinct : (n b : ℕ) → Distinct (rest n b)
unfolding rest others
rest_distinct n b = rising_distinct (rising_keep (λ g. not (eqb g b)) (rising_keep (leb 2) (rising_below n)))

rest_at : (n b g : ℕ) → g ∈ rest n b → (2 ≤ g) × (g ≢ b)
unfolding rest
rest_at n b g m =
    let t = keep_at (λ h. not (eqb h b)) (others n) m in
    ((others_at n g t.0).0, λ e. contra (eq-eqb g b e) (not-true (eqb g b) t.1))

-- G2 and G1, then others
two_first : {xs : List ℕ} → Distinct xs → ((g : ℕ) → g ∈ xs → 2 ≤ g) → Distinct (1 ∷ 0 ∷ xs)
two_first {xs} d f = one_more (λ m. one (Memᴰ.cases_cons m)) (one_more zero_out d)
  where
    zero_out : 0 ∈ xs → ⊥
    zero_out m = omega (arith, f 0 m)

    one : (◌≡◌ {A = ℕ} 1 0) ⊎ (1 ∈ xs) → ⊥
    one (inl e) = omega arith
    one (inr m) = omega (arith, f 1 m)

sources_distinct : (n b : ℕ) → Distinct (sources n b)
unfolding sources rest
sources_distinct n zero = rising_distinct (rising_below n)
sources_distinct n (suc zero) = two_first (others_distinct n) (λ g m. (others_at n g m).0)
sources_distinct n (suc (suc k)) =
    two_first (distinct_snoc (rest_distinct n (suc (suc k))) (λ m. (rest_at n (suc (suc k)) (suc (suc k)) m).1 refl))
    (λ g m. go g (Memᴰ.append_cases (rest n (suc (suc k))) m))
  where
    go : (g : ℕ) → (g ∈ rest n (suc (suc k))) ⊎ (g ∈ suc (suc k) ∷ []) → 2 ≤ g
    go g (inl m) = (rest_at n (suc (suc k)) g m).0
    go g (inr m) = omega (arith, Memᴰ.eq_of_singleton m)

-- ---- how many there are

member_split : {A : Type 0} {x : A} {xs : List A} → x ∈ xs → (front : List A) × (back : List A) × (xs ≡ front ++ (x ∷ back))
member_split (Memᴰ.head {x = y} {xs = ys} p) = ([], ys, ap (λ z. z ∷ ys) (sym p))
member_split (Memᴰ.tail {x = y} m) = let t = member_split m in (y ∷ t.0, t.1, ap (λ l. y ∷ l) t.2)

-- a list without repeats is no longer than one that has all its members
pub distinct_shorter : {A : Type 0} {xs : List A} → Distinct xs → (ys : List A) → ((x : A) → x ∈ xs → x ∈ ys) → length xs ≤ length ys
distinct_shorter nothing ys f = omega arith
distinct_shorter {A} (one_more {x = x} {xs = xs} g d) ys f = go (λ zs h. distinct_shorter d zs h) (member_split (f x (Memᴰ.head refl)))
  where
    other : (front back : List A) (y : A) → y ∈ xs → (y ∈ front) ⊎ (y ∈ x ∷ back) → y ∈ front ++ back
    other front back y m (inl k) = Memᴰ.append_left back k
    other front back y m (inr k) = behind (Memᴰ.cases_cons k)
      where
        behind : (y ≡ x) ⊎ (y ∈ back) → y ∈ front ++ back
        behind (inl e) = absurd (g (Memᴰ.cast (sym e) m))
        behind (inr q) = Memᴰ.append_right front q

    go : ((zs : List A) → ((y : A) → y ∈ xs → y ∈ zs) → length xs ≤ length zs)
        → (front : List A) × (back : List A) × (ys ≡ front ++ (x ∷ back))
        → suc (length xs) ≤ length ys
    go r t =
        let shorter = r (t.0 ++ t.1)
        (λ y m. other t.0 t.1 y m (Memᴰ.append_cases t.0 (rw t.2 at (f y (Memᴰ.tail m))))) in
        omega (arith, ap length t.2, length-append t.0 (x ∷ t.1), length-append t.0 t.1)

-- a bus tries as many generators as there are
pub sources_length : (n b : ℕ) → b < n → length (sources n b) ≡ n
sources_length n b hb =
    omega (
      arith,
      below_length n,
      distinct_shorter (sources_distinct n b) (below n) (λ g m. below_in n g (sources_at n b g hb m)),
      distinct_shorter (rising_distinct (rising_below n)) (sources n b) (λ g m. sources_in n b g hb (below_lt n g m)),
    )

-- ---- the paths of a bus

from_length : (n b g : ℕ) → g ≢ b → length (paths_from n b g) ≡ 2
unfolding paths_from
from_length n b g e = rw (ne_eqb g b e)

own_length : (n b g : ℕ) → g ≡ b → length (paths_from n b g) ≡ 1
unfolding paths_from
own_length n b g e = rw (eq-eqb g b e)

-- two paths a source, but one from the bus's own
flat_length : (n b : ℕ) {xs : List ℕ} → Distinct xs
    → (b ∈ xs → suc (length (flat_map (paths_from n b) xs)) ≡ 2 * length xs) ×
    ((b ∈ xs → ⊥) → length (flat_map (paths_from n b) xs) ≡ 2 * length xs)
unfolding flat_map
flat_length n b nothing = (λ m. absurd (Memᴰ.not-nil m), λ f. refl)
flat_length n b (one_more {x = x} {xs = xs} g d) = go (flat_length n b d) (dec_eq x b)
  where
    joined : length (paths_from n b x ++ flat_map (paths_from n b) xs) ≡ length (paths_from n b x) + length (flat_map (paths_from n b) xs)
    joined = length-append (paths_from n b x) (flat_map (paths_from n b) xs)

    go : (b ∈ xs → suc (length (flat_map (paths_from n b) xs)) ≡ 2 * length xs)
        × ((b ∈ xs → ⊥) → length (flat_map (paths_from n b) xs) ≡ 2 * length xs)
        → (x ≡ b) ⊎ (x ≢ b)
        → (b ∈ x ∷ xs → suc (length (paths_from n b x ++ flat_map (paths_from n b) xs)) ≡ 2 * suc (length xs)) ×
        ((b ∈ x ∷ xs → ⊥) → length (paths_from n b x ++ flat_map (paths_from n b) xs) ≡ 2 * suc (length xs))
    go ih (inl e) =
        (λ m. omega (arith, joined, own_length n b x e, ih.1 (λ k. g (Memᴰ.cast e k))), λ f. absurd (f (Memᴰ.head (sym e))))
    go ih (inr e) = (
      λ m. omega (arith, joined, from_length n b x e, ih.0 (later (Memᴰ.cases_cons m))),
      λ f. omega
          (arith, joined, from_length n b x e, ih.1 (λ k. f (Memᴰ.tail k))),
    )
      where
        later : (b ≡ x) ⊎ (b ∈ xs) → b ∈ xs
        later (inl z) = absurd (e (sym z))
        later (inr m) = m

from_distinct : (n b g : ℕ) → Distinct (paths_from n b g)
unfolding paths_from
from_distinct n b g = go (dec (eqb g b))
  where
    single : {A : Type 0} {x : A} → Distinct (x ∷ [])
    single = one_more (λ m. Memᴰ.not-nil m) nothing

    differ : (r : Bool) → r ≡ not r → ⊥
    differ true e = contra refl e
    differ false e = contra refl (sym e)

    go : (eqb g b ≡ true) ⊎ (eqb g b ≡ false) → Distinct (paths_from n b g)
    go (inl p) = rw p single
    go (inr p) = rw p (one_more (λ m. differ (high_rises n g b) (ap (λ (w : Path). w.rising) (Memᴰ.eq_of_singleton m))) single)

flat_distinct : (n b : ℕ) {xs : List ℕ} → Distinct xs → Distinct (flat_map (paths_from n b) xs)
unfolding flat_map
flat_distinct n b nothing = nothing
flat_distinct n b (one_more {x = x} {xs = xs} g d) = distinct_append (from_distinct n b x) (flat_distinct n b d) (λ w m k.
    let t = flat_at (paths_from n b) xs k in
    g (Memᴰ.cast (sym (from_at n b x w m).0 ∙ (from_at n b t.0 w t.2).0) t.1))

-- "every generator occurs once, two paths from each and one from the bus's own"
pub priorities : (n b : ℕ) → b < n → Priorities n b
unfolding paths
priorities n b hb = record {
  every_source = λ g. (sources_at n b g hb, sources_in n b g hb);
  source_once = sources_distinct n b;
  path_count = (flat_length n b (sources_distinct n b)).0 (sources_in n b b hb hb) ∙ ap (λ k. 2 * k) (sources_length n b hb);
  path_once = flat_distinct n b (sources_distinct n b);
}
