-- Floats from 0 to 1 (document 02, Note 8): a product of such is one, a sum is not negative and no NaN, and their order is that of fractions.
use Rattle.std.specs.Prelude.{◌≡◌, refl, Bool, true, false, not, ◌&&◌, ◌||◌, ◌⊎◌, ℕ, zero, suc, ◌+◌, ◌-◌, ◌*◌, ◌^◌, ◌≤◌, ◌<◌, ℤ, pos, T, ltb, eqb, length, Float}
use Rattle.std.proofs.Common.{sym, ◌∙◌, ap, subst, true≢false, inl, inr, le_trans, le_of_eq, eq-zero-or-pos, zero-add, add-zero, add-suc, suc-add, zero-mul, mul-one, suc-mul, mul_comm, mul_assoc, mul_right_comm, mul-pos, mul-le-mul, mul-le-mul_right, le_of_mul-le-mul_right, arith, eqb→eq, ltb→lt, lt→ltb, ltb-true, ltb-false, lt-ltb, le-ltb, eqb-true}
use mathlib.Core.List.Memᴰ
use mathlib.Core.List.{List, [], ◌∷◌, foldl}
use Rattle.std.specs.Int.Count.{count_trailing_zeros}
use Rattle.std.specs.Float.{nan, inf, fin, binary64}
use Rattle.std.specs.Float.Ieee.{prec, low, up, down, span, climb, size, odd, units, round, sum, add, mul, div, lt, eq, le, is_nan}
use Rattle.std.specs.Float.Ieee.Fits.{up_pos, down_pos, round_is, and_l, and_i, eq→eqb}
use Rattle.std.specs.Float.Ieee.Exact.{HasValue}
use Rattle.std.specs.Float.Ieee.Back.{round_whole}
use Rattle.std.specs.Float.Ieee.Order.{le_of_values, round_mono}
use Rattle.std.specs.Float.Ieee.Scale.{round_same, finite}
use Rattle.std.specs.Float.Ieee.Positive.{num, den, den_pos, through}
use Rattle.model.specs.Lists.{◌∈◌}
use Rattle.model.specs.Laws.Tests.{contra, by_cond}
use Rattle.model.specs.Laws.Lists.{all_cons}
use Rattle.model.specs.Exposure.{float0, float1, greater_of}

-- ---- tests

or_l : (a b : Bool) → T a → T (a || b)
or_l true b t = tt
or_l false b t = absurd t

or_split : (a b : Bool) → T (a || b) → T a ⊎ T b
or_split true b t = inl tt
or_split false b t = inr t

at_most : (a b : ℕ) → T (ltb a b || (eqb a b && true)) → a ≤ b
at_most a b t = go (or_split (ltb a b) (eqb a b && true) t)
  where
    go : T (ltb a b) ⊎ T (eqb a b && true) → a ≤ b
    go (inl u) = omega (arith, ltb→lt a b u)
    go (inr u) = omega (arith, eqb→eq a b (and_l (eqb a b) true u))

-- a product with a factor above 0
zero_factor : (m u : ℕ) → 0 < u → m * u ≡ 0 → m ≡ 0
zero_factor m u h e = go (eq-zero-or-pos m)
  where
    go : (m ≡ 0) ⊎ (0 < m) → m ≡ 0
    go (inl z) = z
    go (inr p) = absurd (omega (arith, mul-pos p h))

zero_product : (m u w : ℕ) → m ≡ 0 → m * u * w ≡ 0
zero_product m u w e = rw e (ap (λ (z : ℕ). z * w) (zero-mul u) ∙ zero-mul w)

-- ---- from 0 to 1

-- x is from 0 to 1: minus zero, or a fraction of at most 1
abbrev pub Portion : Float → Type 0
Portion nan = ⊥
Portion (inf s) = ⊥
Portion (fin true m e) = m ≡ 0
Portion (fin false m e) = m * up e ≤ down e

-- by the comparisons
pub portion_of : (x : Float) → T (le float0 x) → T (le x float1) → Portion x
unfolding le lt eq
portion_of nan l u = absurd l
portion_of (inf true) l u = absurd l
portion_of (inf false) l u = absurd u
portion_of (fin true m e) l u =
    let a = 0 * up (pos 0) * down e in
    let b = m * up e * down (pos 0) in
    let z : a ≡ b = eqb→eq a b (and_l (eqb a b) (eqb a 0) l) in
    zero_factor m (up e) (up_pos e) (omega (arith, z, zero_product 0 (up (pos 0)) (down e) refl))
portion_of (fin false m e) l u = omega (arith, at_most (m * up e * down (pos 0)) (1 * up (pos 0) * down e) u)

-- nothing without a sign is below 0
not_below : (m : ℕ) (e : ℤ) → T (le float0 (fin false m e))
not_below m e =
    le_of_values float0 (fin false m e) 0 1 (m * up e) (down e) (omega arith) (down_pos e) (refl, refl) (refl, refl)
    (omega (arith, zero-mul (down e)))

pub portion_le : (x : Float) → Portion x → T (le float0 x) × T (le x float1)
unfolding le lt eq
portion_le nan p = absurd p
portion_le (inf s) p = absurd p
portion_le (fin true m e) p = (
  let a = 0 * up (pos 0) * down e in
      let b = m * up e * down (pos 0) in
      let za : a ≡ 0 = zero_product 0 (up (pos 0)) (down e) refl in
      let zb : b ≡ 0 = zero_product m (up e) (down (pos 0)) p in
      and_i (eqb a b) (eqb a 0) (eq→eqb (za ∙ sym zb)) (eq→eqb za),
  let c = m * up e * down (pos 0) + 1 * up (pos 0) * down e in
      or_l (ltb 0 c) _ (lt→ltb 0 c (omega (arith, down_pos e))),
)
portion_le (fin false m e) p = (
  not_below m e,
  le_of_values (fin false m e) float1 (m * up e) (down e) 1 1 (down_pos e) (omega arith) (refl, refl) (refl, refl) (omega arith),
)

-- 0, -0 and 1 round to themselves
round_zero : round binary64 false 0 1 ≡ float0
unfolding round size span climb units odd
round_zero = refl

round_minus_zero : round binary64 true 0 1 ≡ fin true 0 (pos 0)
unfolding round size span climb units odd
round_minus_zero = refl

round_one : round binary64 false 1 1 ≡ float1
unfolding round size span climb units odd count_trailing_zeros
round_one = refl

-- a fraction of at most 1 rounds to at most 1
round_portion : (a c : ℕ) → 0 < c → a ≤ c → Portion (round binary64 false a c)
round_portion a c C h =
    portion_of (round binary64 false a c)
    (subst (λ (z : Float). T (le z (round binary64 false a c))) round_zero
    (round_mono binary64 0 1 a c (omega arith) C (omega (arith, zero-mul c))))
    (subst (λ (z : Float). T (le (round binary64 false a c) z)) round_one (round_mono binary64 a c 1 1 C (omega arith) (omega arith)))

-- minus nothing rounds to minus zero
round_nothing : (a c : ℕ) → 0 < c → a ≡ 0 → Portion (round binary64 true a c)
round_nothing a c C z =
    subst Portion (sym (round_same binary64 true a c 0 1 C (omega arith) (omega (arith, zero-mul c)) ∙ round_minus_zero)) refl

-- ---- products and quotients

pub mul_portion : (x y : Float) → Portion x → Portion y → Portion (mul binary64 x y)
unfolding mul
mul_portion nan y p q = absurd p
mul_portion (inf s) y p q = absurd p
mul_portion (fin s m e) nan p q = absurd q
mul_portion (fin s m e) (inf t) p q = absurd q
mul_portion (fin false m e) (fin false n d) p q = round_portion _ (down e * down d) (mul-pos (down_pos e) (down_pos d)) (mul-le-mul p q)
mul_portion (fin false m e) (fin true n d) p q =
    round_nothing _ (down e * down d) (mul-pos (down_pos e) (down_pos d)) (mul_comm (m * up e) (n * up d) ∙ zero_product n (up d) (m * up e) q)
mul_portion (fin true m e) (fin false n d) p q =
    round_nothing _ (down e * down d) (mul-pos (down_pos e) (down_pos d)) (zero_product m (up e) (n * up d) p)
mul_portion (fin true m e) (fin true n d) p q =
    round_portion _ (down e * down d) (mul-pos (down_pos e) (down_pos d)) (omega (arith, zero_product m (up e) (n * up d) p))

-- 1.0 divided by hours that are finite and not below 1
pub div_portion : (h : Float) → finite h ≡ true → lt h float1 ≡ false → Portion (div binary64 float1 h)
unfolding div lt
div_portion nan f l = contra f refl
div_portion (inf s) f l = contra f refl
div_portion (fin true n d) f l = contra (lt-ltb 0 (n * up d * down (pos 0) + 1 * up (pos 0) * down d) (omega (arith, down_pos d))) l
div_portion (fin false n d) f l =
    by_cond Portion (eqb n 0) (λ t. absurd (omega (arith, more, zero_product n (up d) 1 (eqb-true n 0 t), down_pos d)))
    (λ t. round_portion _ (n * up d * down (pos 0)) (omega (arith, more, down_pos d)) (omega (arith, more)))
  where
    more : down d ≤ n * up d
    more = omega (arith, ltb-false (n * up d * down (pos 0)) (1 * up (pos 0) * down d) l)

-- ---- sums

-- not negative, by its sign, and no NaN
abbrev pub Plus : Float → Type 0
Plus nan = ⊥
Plus (inf s) = s ≡ false
Plus (fin s m e) = s ≡ false

odd_plus : (d q k l : ℕ) → Plus (odd d false q k l)
unfolding odd
odd_plus d zero k l = refl
odd_plus d (suc q) k l = refl

units_plus : (q k : ℕ) → Plus (units binary64 false q k)
unfolding units
units_plus q k = by_cond Plus (ltb (q * 2 ^ k) _) (λ t. odd_plus (suc (prec binary64)) q k (low binary64)) (λ t. refl)

round_plus : (a c : ℕ) → Plus (round binary64 false a c)
round_plus a c = subst Plus (sym (round_is binary64 false a c)) (units_plus _ _)

pub add_plus : (x y : Float) → Plus x → Portion y → Plus (add binary64 x y)
unfolding add sum
add_plus nan y p q = absurd p
add_plus (inf s) nan p q = absurd q
add_plus (inf s) (inf t) p q = absurd q
add_plus (inf s) (fin t n d) p q = p
add_plus (fin s m e) nan p q = absurd q
add_plus (fin s m e) (inf t) p q = absurd q
add_plus (fin true m e) (fin t n d) p q = absurd (true≢false p)
add_plus (fin false m e) (fin false n d) p q = round_plus (m * up e * down d + n * up d * down e) (down e * down d)
add_plus (fin false m e) (fin true n d) p q =
    let a = m * up e * down d in
    let b = n * up d * down e in
    by_cond Plus (ltb a b) (λ t. absurd (omega (arith, ltb-true a b t, zero_product n (up d) (down e) q)))
    (λ t. round_plus (a - b) (down e * down d))

pub plus_number : (x : Float) → Plus x → T (not (is_nan x))
unfolding is_nan
plus_number nan p = absurd p
plus_number (inf s) p = tt
plus_number (fin s m e) p = tt

pub portion_number : (x : Float) → Portion x → T (not (is_nan x))
unfolding is_nan
portion_number nan p = absurd p
portion_number (inf s) p = tt
portion_number (fin s m e) p = tt

pub plus_above : (x : Float) → Plus x → T (le float0 x)
unfolding le lt eq
plus_above nan p = absurd p
plus_above (inf true) p = absurd (true≢false p)
plus_above (inf false) p = tt
plus_above (fin true m e) p = absurd (true≢false p)
plus_above (fin false m e) p = not_below m e

-- at most k, and not negative by its sign
abbrev pub UpTo : ℕ → Float → Type 0
UpTo k nan = ⊥
UpTo k (inf s) = ⊥
UpTo k (fin s m e) = (s ≡ false) × (m * up e ≤ k * down e)

pub up_to_finite : (k : ℕ) (x : Float) → UpTo k x → T (finite x)
up_to_finite k nan p = p
up_to_finite k (inf s) p = p
up_to_finite k (fin s m e) p = tt

-- what is at most a value of k
up_to_of : (k : ℕ) (x y : Float) → Plus x → HasValue y false k 1 → T (le x y) → UpTo k x
unfolding le lt eq
up_to_of k nan y p v l = p
up_to_of k (inf true) y p v l = absurd (true≢false p)
up_to_of k (inf false) nan p v l = v
up_to_of k (inf false) (inf t) p v l = v
up_to_of k (inf false) (fin t n d) p v l = l
up_to_of k (fin true m e) y p v l = absurd (true≢false p)
up_to_of k (fin false m e) nan p v l = absurd v
up_to_of k (fin false m e) (inf t) p v l = absurd v
up_to_of k (fin false m e) (fin true n d) p v l = absurd (true≢false v.0)
up_to_of k (fin false m e) (fin false n d) p v l = (refl, le_of_mul-le-mul_right within (down_pos d))
  where
    within : m * up e * down d ≤ k * down e * down d
    within =
        le_trans (at_most (m * up e * down d) (n * up d * down e) l)
        (le_of_eq (ap (λ (z : ℕ). z * down e) (sym (mul-one (n * up d)) ∙ v.1) ∙ mul_right_comm k (down d) (down e)))

-- a fraction of at most k rounds to at most k, where floats count without a gap
round_up_to : (k a c : ℕ) → k ≤ 2 ^ prec binary64 → 0 < c → a ≤ k * c → UpTo k (round binary64 false a c)
round_up_to k a c K C h =
    up_to_of k (round binary64 false a c) (round binary64 false k 1) (round_plus a c) (round_whole binary64 false k K)
    (round_mono binary64 a c k 1 C (omega arith) (omega arith))

scaled : (k a c d : ℕ) → a ≤ k * c → a * d ≤ k * (c * d)
scaled k a c d h = le_trans (mul-le-mul_right d h) (le_of_eq (mul_assoc k c d))

one_more : (k a b c : ℕ) → a ≤ k * c → b ≤ c → a + b ≤ suc k * c
one_more k a b c h l = omega (arith, suc-mul k c)

pub add_up_to : (k : ℕ) (x y : Float) → suc k ≤ 2 ^ prec binary64 → UpTo k x → Portion y → UpTo (suc k) (add binary64 x y)
unfolding add sum
add_up_to k nan y K p q = absurd p
add_up_to k (inf s) y K p q = absurd p
add_up_to k (fin s m e) nan K p q = absurd q
add_up_to k (fin s m e) (inf t) K p q = absurd q
add_up_to k (fin true m e) (fin t n d) K p q = absurd (true≢false p.0)
add_up_to k (fin false m e) (fin false n d) K p q =
    round_up_to (suc k) (m * up e * down d + n * up d * down e) (down e * down d) K (mul-pos (down_pos e) (down_pos d))
    (one_more k (m * up e * down d) (n * up d * down e) (down e * down d) (scaled k (m * up e) (down e) (down d) p.1)
    (le_trans (mul-le-mul_right (down e) q) (le_of_eq (mul_comm (down d) (down e)))))
add_up_to k (fin false m e) (fin true n d) K p q =
    let a = m * up e * down d in
    let b = n * up d * down e in
    by_cond (UpTo (suc k)) (ltb a b) (λ t. absurd (omega (arith, ltb-true a b t, zero_product n (up d) (down e) q)))
    (λ t. round_up_to (suc k) (a - b) (down e * down d) K (mul-pos (down_pos e) (down_pos d))
    (omega (arith, suc-mul k (down e * down d), scaled k (m * up e) (down e) (down d) p.1)))

-- ---- order

-- x is not greater than y, as fractions
abbrev pub AtMost : Float → Float → Type 0
AtMost x y = num x * den y ≤ num y * den x

lt_cross : (x y : Float) → Portion x → Portion y → lt x y ≡ ltb (num x * den y) (num y * den x)
unfolding lt
lt_cross nan y p q = absurd p
lt_cross (inf s) y p q = absurd p
lt_cross (fin s m e) nan p q = absurd q
lt_cross (fin s m e) (inf t) p q = absurd q
lt_cross (fin false m e) (fin false n d) p q = refl
lt_cross (fin false m e) (fin true n d) p q =
    sym (le-ltb (m * up e * down d) (n * up d * down e) (omega (arith, zero_product n (up d) (down e) q)))
lt_cross (fin true m e) (fin false n d) p q = rw (zero_product m (up e) (down d) p, zero-add)
lt_cross (fin true m e) (fin true n d) p q = rw (zero_product m (up e) (down d) p, zero_product n (up d) (down e) q)

pub not_greater : (x y : Float) → Portion x → Portion y → AtMost x y → lt y x ≡ false
not_greater x y p q h = lt_cross y x q p ∙ le-ltb (num y * den x) (num x * den y) h

-- the one that gives way is not greater, nor is the one that does not
greater_most : (x p : Float) → Portion x → Portion p → AtMost x (greater_of x p) × AtMost p (greater_of x p)
unfolding greater_of
greater_most x p u v =
    by_cond (λ (z : Float). AtMost x z × AtMost p z) (lt x p)
    (λ t. (omega (arith, ltb-true (num x * den p) (num p * den x) (sym (lt_cross x p u v) ∙ t)), omega arith))
    (λ t. (omega arith, ltb-false (num x * den p) (num p * den x) (sym (lt_cross x p u v) ∙ t)))

greater_portion : (x p : Float) → Portion x → Portion p → Portion (greater_of x p)
unfolding greater_of
greater_portion x p u v = by_cond Portion (lt x p) (λ t. v) (λ t. u)

at_most_trans : (x y z : Float) → AtMost x y → AtMost y z → AtMost x z
at_most_trans x y z h k = through (num x) (num y) (num z) (den x) (den y) (den z) (den_pos y) h k

-- the one or the other
greater_one : (x p : Float) → (greater_of x p ≡ x) ⊎ (greater_of x p ≡ p)
unfolding greater_of
greater_one x p = by_cond (λ (z : Float). (z ≡ x) ⊎ (z ≡ p)) (lt x p) (λ t. inr refl) (λ t. inl refl)

-- y is the largest of a list that begins as x: from 0 to 1, one of these, and none of them is greater
pub record Largest (x : Float) (ps : List Float) (y : Float) : Type 0 where
  pub portion : Portion y
  pub found : (y ≡ x) ⊎ (y ∈ ps)
  pub before : AtMost x y
  pub each : (p : Float) → p ∈ ps → AtMost p y

pub largest_of : (x : Float) (ps : List Float) → Portion x → ((p : Float) → p ∈ ps → Portion p) → Largest x ps (foldl greater_of x ps)
largest_of x [] u v = record { portion = u; found = inl refl; before = omega arith; each = λ p m. absurd (Memᴰ.not-nil m) }
largest_of x (p ∷ ps) u v =
    let q = v p (Memᴰ.head refl) in
    let g = greater_most x p u q in
    let l = largest_of (greater_of x p) ps (greater_portion x p u q) (λ r m. v r (Memᴰ.tail m)) in
    let y = foldl greater_of (greater_of x p) ps in
    record {
      portion = l.portion;
      found = go (greater_one x p) l.found;
      before = at_most_trans x (greater_of x p) y g.0 l.before;
      each = all_cons (λ r. AtMost r y) (at_most_trans p (greater_of x p) y g.1 l.before) l.each;
    }
  where
    go : {y : Float} → (greater_of x p ≡ x) ⊎ (greater_of x p ≡ p) → (y ≡ greater_of x p) ⊎ (y ∈ ps) → (y ≡ x) ⊎ (y ∈ p ∷ ps)
    go (inl e) (inl f) = inl (f ∙ e)
    go (inr e) (inl f) = inr (Memᴰ.head (f ∙ e))
    go d (inr m) = inr (Memᴰ.tail m)

-- ---- folds

-- as many portions as floats count without a gap have a finite sum
pub sum_up_to : (ps : List Float) (k : ℕ) (x : Float) → k + length ps ≤ 2 ^ prec binary64 → UpTo k x → ((p : Float) → p ∈ ps → Portion p)
    → UpTo (k + length ps) (foldl (add binary64) x ps)
sum_up_to [] k x K u v = rw (add-zero k) u
sum_up_to (p ∷ ps) k x K u v =
    rw (add-suc k (length ps), ← suc-add k (length ps))
    (sum_up_to ps (suc k) (add binary64 x p) (omega arith) (add_up_to k x p (omega arith) u (v p (Memᴰ.head refl)))
    (λ q m. v q (Memᴰ.tail m)))

-- what each step keeps

pub fold_keeps : {A : Type 0} (P : Float → Type 0) (Q : A → Type 0) (f : Float → A → Float) → ((x : Float) (a : A) → P x → Q a → P (f x a))
    → (x : Float) → P x → (l : List A) → ((a : A) → a ∈ l → Q a) → P (foldl f x l)
fold_keeps P Q f step x p [] q = p
fold_keeps P Q f step x p (a ∷ l) q =
    fold_keeps P Q f step (f x a) (step x a p (q a (Memᴰ.head refl))) l (λ b m. q b (Memᴰ.tail m))
