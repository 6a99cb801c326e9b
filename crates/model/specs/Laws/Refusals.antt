-- Laws of outcomes and of the refusals.
use mathlib.Core.Bool.{Bool-set}
use Rattle.std.specs.Prelude.{◌≡◌, refl, Bool, true, false, ◌⊎◌, ◌≢◌, List, [], ◌∷◌, ℕ, ◌≤◌, ◌<◌, ltb, leb, eqb, Ok, Err}
use Rattle.std.proofs.Math.Path.{sym, ap}
use Rattle.std.proofs.Common.{◌∙◌, subst, inl, inr, arith, ltb-true, ltb-false, lt-ltb, le-ltb, leb-true, le-leb, eqb-true, ne_eqb}
use Rattle.std.proofs.lemmas.Bool.{eqb-false}
use Rattle.std.proofs.Math.Bool.{cond}
use Rattle.model.specs.declared.Ring.{Ring}
use Rattle.model.specs.declared.Refusal.{Refusal}
use Rattle.model.specs.declared.Refusal.TheVariants.{
  FileShort,
  SizeOutside,
  ReportsAbove,
  LengthOther,
  PartOutside,
  WordOutside,
  GeneratorFit,
  BufferShort,
  BadRecord,
  BusOutside,
  CountAbove,
  WattsOutside,
  BookingNumber,
  BookingsFull,
  RateOutside,
  Unrated,
  Other,
}
use Rattle.model.specs.declared.OtherNumber.{OtherNumber}
use Rattle.model.specs.Lists.{any_of}
use Rattle.model.specs.Papers.{last_refusal, in_papers}
use Rattle.model.specs.Values.{Outcome, refusal_number, papers_refusal, refusal_by, refusal_of, outcome_number, outcome_of}
use Rattle.model.specs.Plant.{smallest, largest}
use Rattle.model.specs.Refusals.{first_met, or_else, size_outside, bad_ring, bus_outside}
use Rattle.model.specs.Laws.Tests.{never, contra, and_left, and_right, and_intro, or_none, or_right, by_cond, dec_eq}

-- ---- the numbers of refusals

-- a number that no refusal of the papers has is held by itself
refusal_other : (other : OtherNumber) → refusal_of other.number ≡ Other other
unfolding refusal_of
refusal_other other = go (in_papers other.number) refl
  where
    go : (inside : Bool) (e : in_papers other.number ≡ inside) → refusal_by other.number inside e ≡ Other other
    go true e = contra e other.outside_papers
    go false e = ap (λ h. Other (record { number = other.number; outside_papers = h })) (Bool-set _ _ e other.outside_papers)

-- a refusal's number names it
pub refusal_named : (r : Refusal) → refusal_of (refusal_number r) ≡ r
unfolding refusal_of
refusal_named FileShort = refl
refusal_named SizeOutside = refl
refusal_named ReportsAbove = refl
refusal_named LengthOther = refl
refusal_named PartOutside = refl
refusal_named WordOutside = refl
refusal_named GeneratorFit = refl
refusal_named BufferShort = refl
refusal_named BadRecord = refl
refusal_named BusOutside = refl
refusal_named CountAbove = refl
refusal_named WattsOutside = refl
refusal_named BookingNumber = refl
refusal_named BookingsFull = refl
refusal_named RateOutside = refl
refusal_named Unrated = refl
refusal_named (Other other) = refusal_other other

-- refusals of one number are one
pub same_refusal : (a b : Refusal) → refusal_number a ≡ refusal_number b → a ≡ b
same_refusal a b e = sym (refusal_named a) ∙ (ap refusal_of e ∙ refusal_named b)

-- k is the number of the first of two refusals, or that of the second
either_number : (k i : ℕ) (r rest : Refusal) → refusal_number r ≡ i → (k ≢ i → refusal_number rest ≡ k)
    → refusal_number (cond (eqb k i) r rest) ≡ k
either_number k i r rest e h =
    by_cond (λ x. refusal_number x ≡ k) (eqb k i) (λ t. e ∙ sym (eqb-true k i t)) (λ t. h (eqb-false k i t))

-- the number of a refusal of the papers
number_in_papers : (k : ℕ) → in_papers k ≡ true → refusal_number (papers_refusal k) ≡ k
number_in_papers k e =
    let low = ltb-true 0 k (and_left (ltb 0 k) (leb k last_refusal) e) in
    let high = leb-true k last_refusal (and_right (ltb 0 k) (leb k last_refusal) e) in
    either_number k 1 _ _ refl
    (λ a. either_number k 2 _ _ refl
    (λ b. either_number k 3 _ _ refl
    (λ c. either_number k 4 _ _ refl
    (λ d. either_number k 5 _ _ refl
    (λ f. either_number k 6 _ _ refl
    (λ g. either_number k 7 _ _ refl
    (λ h. either_number k 8 _ _ refl
    (λ i. either_number k 9 _ _ refl
    (λ j. either_number k 10 _ _ refl
    (λ l. either_number k 11 _ _ refl
    (λ m. either_number k 12 _ _ refl
    (λ n. either_number k 13 _ _ refl
    (λ o. either_number k 14 _ _ refl
    (λ p. either_number k 15 _ _ refl
    (λ q. omega (arith, low, high, a, b, c, d, f, g, h, i, j, l, m, n, o, p, q))))))))))))))))

-- the number of the refusal that has a number
pub number_of_refusal : (k : ℕ) → refusal_number (refusal_of k) ≡ k
unfolding refusal_of
number_of_refusal k = go (in_papers k) refl
  where
    go : (inside : Bool) (e : in_papers k ≡ inside) → refusal_number (refusal_by k inside e) ≡ k
    go true e = number_in_papers k e
    go false e = refl

-- the papers give r its number
abbrev pub InPapers : Refusal → Type 0
InPapers r = in_papers (refusal_number r) ≡ true

-- no refusal of the papers is numbered 0
pub refusal_positive : (r : Refusal) → InPapers r → 0 < refusal_number r
refusal_positive r e = ltb-true 0 (refusal_number r) (and_left _ _ e)

-- k is 0 or the number of a refusal of the papers
abbrev pub IsNumber : ℕ → Type 0
IsNumber k = k ≤ last_refusal

-- the number of a refusal of the papers, and 0
pub is_number : (r : Refusal) → InPapers r → IsNumber (refusal_number r)
is_number r e = leb-true (refusal_number r) last_refusal (and_right _ _ e)

pub zero_number : IsNumber 0
zero_number = omega arith

-- a number of the papers is that of a refusal of theirs
pub refusal_in_papers : (k : ℕ) → IsNumber k → k ≢ 0 → InPapers (refusal_of k)
refusal_in_papers k p e =
    rw (number_of_refusal k) (and_intro (ltb 0 k) (leb k last_refusal) (lt-ltb 0 k (omega (arith, e))) (le-leb k last_refusal p))

-- one of two numbers
pub cond_number : (met : Bool) {j k : ℕ} → IsNumber j → IsNumber k → IsNumber (cond met j k)
cond_number true p q = p
cond_number false p q = q

-- the first of two refusals
pub or_else_number : {j k : ℕ} → IsNumber j → IsNumber k → IsNumber (or_else j k)
or_else_number {j = j} p q = cond_number (eqb j 0) q p

-- the numbers of conditions
pub data Numbers : List (ℕ × Bool) → Type 0 where
  no_number : Numbers []
  number_and : {k : ℕ} {met : Bool} {cs : List (ℕ × Bool)} → IsNumber k → Numbers cs → Numbers ((k, met) ∷ cs)

-- the number of the first condition that is met
pub first_number : {cs : List (ℕ × Bool)} → Numbers cs → IsNumber (first_met cs)
unfolding first_met
first_number no_number = zero_number
first_number (number_and {met = met} p ps) = cond_number met p (first_number ps)

-- a first condition that is not met
pub first_unmet : (met : Bool) (j k : ℕ) → 0 < j → cond met j k ≡ 0 → (met ≡ false) × (k ≡ 0)
first_unmet true j k h e = absurd (omega (arith, e))
first_unmet false j k h e = (refl, e)

-- a size that is not refused
pub size_bounds : (n : ℕ) → size_outside n ≡ false → (smallest ≤ n) × (n ≤ largest)
unfolding size_outside
size_bounds n e = let t = or_none (ltb n smallest) (ltb largest n) e in (ltb-false n smallest t.0, ltb-false largest n t.1)

-- the size of a record that is not refused
pub good_size : (ring : Ring) → bad_ring ring ≡ false → (smallest ≤ ring.n) × (ring.n ≤ largest)
unfolding bad_ring any_of
good_size ring good = size_bounds ring.n (or_none (size_outside ring.n) _ good).0

pub outside : (n : ℕ) → (n < 3) ⊎ (20 < n) → size_outside n ≡ true
unfolding size_outside
outside n (inl p) = rw (lt-ltb n 3)
outside n (inr p) = or_right (ltb n 3) (ltb 20 n) (lt-ltb 20 n p)

pub inside : (n : ℕ) → 3 ≤ n → n ≤ 20 → size_outside n ≡ false
unfolding size_outside
inside n p q = rw (le-ltb n 3, le-ltb 20 n)

-- a bus of the ring
pub bus_inside : (n bus : ℕ) → bus_outside n bus ≡ false → (1 ≤ bus) × (bus ≤ n)
unfolding bus_outside
bus_inside n bus e = let t = or_none (ltb bus 1) (ltb n bus) e in (ltb-false bus 1 t.0, ltb-false n bus t.1)

-- ---- outcomes

-- no outcome is both served and refused
pub served_refused : {A : Type 0} {r : Refusal} {o : Outcome} → o ≡ Ok tt → o ≡ Err r → A
served_refused {r = r} {o} p q = never cc

-- the outcome that has a number, of none and of a refusal
pub served_of : outcome_of 0 ≡ Ok tt
unfolding outcome_of
served_of = refl

pub refused_of : (k : ℕ) → k ≢ 0 → outcome_of k ≡ Err (refusal_of k)
unfolding outcome_of
refused_of k e = rw (ne_eqb k 0 e)

-- the outcome that has a number has that number
pub outcome_number_lem : (k : ℕ) → outcome_number (outcome_of k) ≡ k
outcome_number_lem k = go (dec_eq k 0)
  where
    go : (k ≡ 0) ⊎ (k ≢ 0) → outcome_number (outcome_of k) ≡ k
    go (inl e) = rw (e, served_of)
    go (inr e) = rw (refused_of k e) (number_of_refusal k)

-- o is the outcome of number k
pub outcome_is : (k : ℕ) (o : Outcome) → o ≡ outcome_of k → (o ≡ outcome_of k) × (outcome_number o ≡ k)
outcome_is k o e = (e, rw e (outcome_number_lem k))

-- the number of an outcome that is served, and of one that is refused
module _ {k : ℕ} {o : Outcome} (is : o ≡ outcome_of k) where
  pub served_zero : o ≡ Ok tt → k ≡ 0
  served_zero e = go (dec_eq k 0)
    where
      go : (k ≡ 0) ⊎ (k ≢ 0) → k ≡ 0
      go (inl z) = z
      go (inr z) = served_refused e (is ∙ refused_of k z)

  pub refused_by : (r : Refusal) → o ≡ Err r → (refusal_of k ≡ r) × (k ≢ 0)
  refused_by r e = go (dec_eq k 0)
    where
      go : (k ≡ 0) ⊎ (k ≢ 0) → (refusal_of k ≡ r) × (k ≢ 0)
      go (inl z) = served_refused (is ∙ ap outcome_of z ∙ served_of) e
      go (inr z) = let t : Err (refusal_of k) ≡ Err r = sym (refused_of k z) ∙ sym is ∙ e in (cc, z)

  pub refused_number : (r : Refusal) → o ≡ Err r → (k ≡ refusal_number r) × (k ≢ 0)
  refused_number r e = (sym (outcome_number_lem k) ∙ ap outcome_number (sym is ∙ e), (refused_by r e).1)

  -- a call that is refused by a number of the papers is refused by a refusal of theirs
  pub refused_in_papers : IsNumber k → (r : Refusal) → o ≡ Err r → InPapers r
  refused_in_papers p r e = let t = refused_by r e in subst (λ x. InPapers x) t.0 (refusal_in_papers k p t.1)

-- the answer to a call whose checks have the outcome o, of number k
module _ {A : Type 0} (served : A) (refused : Refusal → A) (k : ℕ) (o : Outcome) (is : o ≡ outcome_of k) where
  pub when_served : o ≡ Ok tt → served ≡ cond (eqb k 0) served (refused (refusal_of k))
  when_served e = rw (served_zero is e)

  pub when_refused : (r : Refusal) → o ≡ Err r → refused r ≡ cond (eqb k 0) served (refused (refusal_of k))
  when_refused r e = let t = refused_by is r e in rw (ne_eqb k 0 t.1, t.0)
