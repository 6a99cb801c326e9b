-- What a test that passed or failed says.
use Rattle.std.specs.Prelude.{◌≡◌, refl, Bool, true, false, not, ◌&&◌, ◌||◌, cond, ◌≢◌, ◌⊎◌, ℕ, ◌+◌, ◌≤◌, ◌<◌, ltb, leb, eqb}
use Rattle.std.proofs.Common.{sym, inl, inr, arith, rules, ltb-true, ltb-false, leb-true, leb-false, eqb-true, lt-ltb, le-ltb, le-leb, eq-eqb, ne_eqb}
use Rattle.std.specs.Bool.{beq}
use Rattle.std.proofs.Math.Decide.{ℕ_discrete}
use Rattle.std.proofs.lemmas.Bool.{eqb-false, not-true, not-false, lt-leb}

-- 0 is not 1: two cases of a type that are said to be one bring this about
pub never : {A : Type 0} → ◌≡◌ {A = ℕ} 0 1 → A
never e = absurd (omega arith)

pub contra : {A : Type 0} {b : Bool} → b ≡ true → b ≡ false → A
contra {b = b} p q = never cc

pub not_of : (b : Bool) → b ≡ false → not b ≡ true
not_of b e = rw e

pub and_left : (a b : Bool) → a && b ≡ true → a ≡ true
and_left true b e = refl
and_left false b e = e

pub and_right : (a b : Bool) → a && b ≡ true → b ≡ true
and_right true b e = e
and_right false b e = contra e refl

pub and_intro : (a b : Bool) → a ≡ true → b ≡ true → a && b ≡ true
and_intro a b p q = rw (p, q)

pub or_cases : (a b : Bool) → a || b ≡ true → (a ≡ true) ⊎ (b ≡ true)
or_cases true b e = inl refl
or_cases false b e = inr e

pub or_left : (a b : Bool) → a ≡ true → a || b ≡ true
or_left a b p = rw p

pub or_right : (a b : Bool) → b ≡ true → a || b ≡ true
or_right true b p = refl
or_right false b p = p

pub or_none : (a b : Bool) → a || b ≡ false → (a ≡ false) × (b ≡ false)
or_none true b e = contra refl e
or_none false b e = (refl, e)

-- two tests that follow from each other are one
pub iff : (a b : Bool) → (a ≡ true → b ≡ true) → (b ≡ true → a ≡ true) → a ≡ b
iff true b f h = sym (f refl)
iff false true f h = h refl
iff false false f h = refl

pub dec : (b : Bool) → (b ≡ true) ⊎ (b ≡ false)
dec true = inl refl
dec false = inr refl

pub dec_eq : (a b : ℕ) → (a ≡ b) ⊎ (a ≢ b)
dec_eq a b = go (ℕ_discrete a b)
  where
    go : Dec (a ≡ b) → (a ≡ b) ⊎ (a ≢ b)
    go (yes p) = inl p
    go (no p) = inr p

pub dec_lt : (a b : ℕ) → (a < b) ⊎ (b ≤ a)
dec_lt a b = go (dec (ltb a b))
  where
    go : (ltb a b ≡ true) ⊎ (ltb a b ≡ false) → (a < b) ⊎ (b ≤ a)
    go (inl p) = inl (ltb-true a b p)
    go (inr p) = inr (ltb-false a b p)

-- what holds of both values holds of the one that a test picks
pub by_cond : {A : Type 0} {x y : A} (P : A → Type 0) (t : Bool) → (t ≡ true → P x) → (t ≡ false → P y) → P (cond t x y)
by_cond P true f g = f refl
by_cond P false f g = g refl

-- what a test picks, where its choice differs only when it holds
pub cond_ext : {A : Type 0} (t : Bool) {x y : A} (z : A) → (t ≡ true → x ≡ y) → cond t x z ≡ cond t y z
cond_ext true z e = e refl
cond_ext false z e = refl

-- the tests of a path through the code, for `search tests`
pub ruleset tests = (lt-ltb, le-ltb, le-leb, lt-leb, eq-eqb, ne_eqb)

-- .. and the bounds of the walk beside them, for `search auto`
pub ruleset auto = (rules, tests)

-- a test that both holds and fails, as numbers for `omega`
pub true_false : true ≡ false → 1 ≤ 0
true_false e = contra refl e

pub false_true : false ≡ true → 1 ≤ 0
false_true e = contra e refl

-- a negated test
module _ (a b : ℕ) where
  pub not_less : not (ltb a b) ≡ true → b ≤ a
  not_less e = ltb-false a b (not-true _ e)

  pub less_not : not (ltb a b) ≡ false → a < b
  less_not e = ltb-true a b (not-false _ e)

  pub not_most : not (leb a b) ≡ true → b < a
  not_most e = leb-false a b (not-true _ e)

  pub most_not : not (leb a b) ≡ false → a ≤ b
  most_not e = leb-true a b (not-false _ e)

  pub not_same : not (eqb a b) ≡ true → a ≡ b → ⊥
  not_same e = eqb-false a b (not-true _ e)

  pub same_not : not (eqb a b) ≡ false → a ≡ b
  same_not e = eqb-true a b (not-false _ e)

-- what the outcome of a test says of its numbers, for `omega`: however the test is worded
pub ruleset facts = (
  ltb-true,
  ltb-false,
  leb-true,
  leb-false,
  eqb-true,
  eqb-false,
  not_less,
  less_not,
  not_most,
  most_not,
  not_same,
  same_not,
  true_false,
  false_true,
)

-- two commands are compared in either order
pub turned : (a b t : Bool) → not (beq b a) ≡ t → not (beq a b) ≡ t
turned true true t e = e
turned true false t e = e
turned false true t e = e
turned false false t e = e

pub either : (a b : Bool) → not (beq b a) ≡ not (beq a b)
either a b = sym (turned a b _ refl)

pub ruleset compared = (turned, either, refl)

-- one index more below a bound: what is picked at another index stays, and at that index it is the first
module _ {A : Type 0} (x y : A) where
  pub below_other : (j k : ℕ) → j ≢ k → cond (ltb j k) x y ≡ cond (ltb j (k + 1)) x y
  below_other j k ne = go (dec_lt j k)
    where
      go : (j < k) ⊎ (k ≤ j) → cond (ltb j k) x y ≡ cond (ltb j (k + 1)) x y
      go (inl l) = rw (lt-ltb j k l, lt-ltb j (k + 1) (omega arith))
      go (inr l) = rw (le-ltb j k l, le-ltb j (k + 1) (omega (arith, ne)))

  pub below_last : (k : ℕ) → cond (ltb k (k + 1)) x y ≡ x
  below_last k = rw (lt-ltb k (k + 1) (omega arith))
