-- Distances round the ring. Buses and breakers are indices from 0; breaker i joins bus i and the next.
use Rattle.std.specs.Prelude.{◌≡◌, refl, Bool, true, false, ◌≢◌, ◌⊎◌, ◌∷◌, ℕ, zero, suc, ◌+◌, ◌≤◌, ◌<◌, leb, eqb}
use Rattle.std.proofs.Common.{sym, ◌∙◌, ap, inl, inr, arith, leb-true, leb-false, eqb-true}
use mathlib.Core.List.Memᴰ
use Rattle.std.proofs.lemmas.Bool.{eqb-false}
use Rattle.model.specs.Plant.{next, up, arc}
use Rattle.model.specs.Laws.Tests.{dec_eq, dec_lt}
use Rattle.model.specs.Lists.{◌∈◌}

-- what `up` and `next` are, by cases
pub data Up (n a b : ℕ) : Type 0 where
  fwd : a ≤ b → up n a b + a ≡ b → Up n a b
  wrap : b < a → up n a b + a ≡ b + n → Up n a b

pub up_cases : (n a b : ℕ) → a < n → Up n a b
unfolding up
up_cases n a b h = go (leb a b) refl
  where
    go : (t : Bool) → leb a b ≡ t → Up n a b
    go true e = let l = leb-true a b e in fwd l (rw (e, up) (omega arith))
    go false e = let l = leb-false a b e in wrap l (rw (e, up) (omega arith))

-- the bus after bus i: one up, or the first after the last
pub data Next (n i : ℕ) : Type 0 where
  more : suc i < n → next n i ≡ suc i → Next n i
  last : suc i ≡ n → next n i ≡ 0 → Next n i

pub next_cases : (n i : ℕ) → i < n → Next n i
unfolding next
next_cases n i h = go (eqb (suc i) n) refl
  where
    go : (t : Bool) → eqb (suc i) n ≡ t → Next n i
    go true e = last (eqb-true (suc i) n e) (rw (e, next))
    go false e = let ne : suc i ≢ n = eqb-false (suc i) n e in more (omega arith) (rw (e, next))

pub next_lt : (n i : ℕ) → i < n → next n i < n
next_lt n i h = go (next_cases n i h)
  where
    go : Next n i → next n i < n
    go (more l e) = omega arith
    go (last l e) = omega arith

pub up_refl : (n a : ℕ) → a < n → up n a a ≡ 0
up_refl n a h = go (up_cases n a a h)
  where
    go : Up n a a → up n a a ≡ 0
    go (fwd l e) = omega arith
    go (wrap l e) = omega arith

pub up_zero : (n a b : ℕ) → a < n → b < n → up n a b ≡ 0 → a ≡ b
up_zero n a b ha hb z = go (up_cases n a b ha)
  where
    go : Up n a b → a ≡ b
    go (fwd l e) = omega arith
    go (wrap l e) = omega arith

pub up_lt : (n a b : ℕ) → a < n → b < n → up n a b < n
up_lt n a b ha hb = go (up_cases n a b ha)
  where
    go : Up n a b → up n a b < n
    go (fwd l e) = omega arith
    go (wrap l e) = omega arith

-- from a to i and on to b: as far as from a to b, or once round more
pub up_triangle : (n a i b : ℕ) → a < n → i < n → b < n → (up n a i + up n i b ≡ up n a b) ⊎ (up n a i + up n i b ≡ up n a b + n)
up_triangle n a i b ha hi hb = go (up_cases n a i ha) (up_cases n i b hi) (up_cases n a b ha)
  where
    go : Up n a i → Up n i b → Up n a b → (up n a i + up n i b ≡ up n a b) ⊎ (up n a i + up n i b ≡ up n a b + n)
    go (fwd l e) (fwd l₁ e₁) (fwd l₂ e₂) = inl (omega arith)
    go (fwd l e) (fwd l₁ e₁) (wrap l₂ e₂) = absurd (omega arith)
    go (fwd l e) (wrap l₁ e₁) (fwd l₂ e₂) = inr (omega arith)
    go (fwd l e) (wrap l₁ e₁) (wrap l₂ e₂) = inl (omega arith)
    go (wrap l e) (fwd l₁ e₁) (fwd l₂ e₂) = inr (omega arith)
    go (wrap l e) (fwd l₁ e₁) (wrap l₂ e₂) = inl (omega arith)
    go (wrap l e) (wrap l₁ e₁) (fwd l₂ e₂) = absurd (omega arith)
    go (wrap l e) (wrap l₁ e₁) (wrap l₂ e₂) = inr (omega arith)

-- on the way up from a to b, i first: the two stretches make up the whole
pub up_through : (n a i b : ℕ) → a < n → i < n → b < n → up n a i ≤ up n a b → up n a i + up n i b ≡ up n a b
up_through n a i b ha hi hb h = go (up_triangle n a i b ha hi hb)
  where
    go : (up n a i + up n i b ≡ up n a b) ⊎ (up n a i + up n i b ≡ up n a b + n) → up n a i + up n i b ≡ up n a b
    go (inl e) = e
    go (inr e) = absurd (omega (arith, up_lt n i b hi hb))

-- b first: the two stretches go round once more
pub up_past : (n a i b : ℕ) → a < n → i < n → b < n → up n a b < up n a i → up n a i + up n i b ≡ up n a b + n
up_past n a i b ha hi hb h = go (up_triangle n a i b ha hi hb)
  where
    go : (up n a i + up n i b ≡ up n a b) ⊎ (up n a i + up n i b ≡ up n a b + n) → up n a i + up n i b ≡ up n a b + n
    go (inl e) = absurd (omega arith)
    go (inr e) = e

-- the next bus is one step up
up_one : (n a : ℕ) → a < n → a ≢ next n a → up n a (next n a) ≡ 1
up_one n a ha ne = go (next_cases n a ha) (up_cases n a (next n a) ha)
  where
    go : Next n a → Up n a (next n a) → up n a (next n a) ≡ 1
    go (more l e) (fwd l₁ e₁) = omega arith
    go (more l e) (wrap l₁ e₁) = omega arith
    go (last l e) (fwd l₁ e₁) = absurd (ne (omega arith))
    go (last l e) (wrap l₁ e₁) = omega arith

-- in a ring of more than one bus the next is another
next_other : (n a b : ℕ) → a < n → b < n → a ≢ b → a ≢ next n a
next_other n a b ha hb ne = go (next_cases n a ha)
  where
    go : Next n a → a ≢ next n a
    go (more l e) = omega arith
    go (last l e) = λ z. ne (omega arith)

-- one step up from a comes one step nearer to b
pub up_next : (n a b : ℕ) → a < n → b < n → a ≢ b → up n a b ≡ suc (up n (next n a) b)
up_next n a b ha hb ne =
    let hn = next_lt n a ha in
    let one = up_one n a ha (next_other n a b ha hb ne) in
    let z : up n a b ≢ 0 = λ e. ne (up_zero n a b ha hb e) in
    omega (arith, up_through n a (next n a) b ha hn hb (omega arith))

-- one step up to b comes one step farther from a
pub up_next_right : (n a b : ℕ) → a < n → b < n → next n b ≢ a → up n a (next n b) ≡ suc (up n a b)
up_next_right n a b ha hb ne = go (dec_eq b (next n b)) (up_triangle n a b (next n b) ha hb hn)
  where
    hn : next n b < n
    hn = next_lt n b hb

    far : up n a (next n b) ≢ 0
    far e = ne (sym (up_zero n a (next n b) ha hn e))

    go : (b ≡ next n b) ⊎ (b ≢ next n b)
        → (up n a b + up n b (next n b) ≡ up n a (next n b)) ⊎ (up n a b + up n b (next n b) ≡ up n a (next n b) + n)
        → up n a (next n b) ≡ suc (up n a b)
    go (inl p) t = absurd (next_other n b a hb ha (λ z. ne (sym p ∙ z)) p)
    go (inr p) (inl t) = omega (arith, up_one n b hb p)
    go (inr p) (inr t) = absurd (far (omega (arith, up_one n b hb p, up_lt n a b ha hb)))

pub up_inj : (n a i b : ℕ) → a < n → i < n → b < n → up n a i ≡ up n a b → i ≡ b
up_inj n a i b ha hi hb e = up_zero n i b hi hb (omega (arith, up_through n a i b ha hi hb (omega arith)))

pub up_inj_left : (n a b c : ℕ) → a < n → b < n → c < n → up n a c ≡ up n b c → a ≡ b
up_inj_left n a b c ha hb hc e = up_zero n a b ha hb (go (dec_lt (up n a c) (up n a b)))
  where
    go : (up n a c < up n a b) ⊎ (up n a b ≤ up n a c) → up n a b ≡ 0
    go (inl p) = absurd (omega (arith, up_past n a b c ha hb hc p, up_lt n a b ha hb))
    go (inr p) = omega (arith, up_through n a b c ha hb hc p)

-- a breaker on the arc from a to c is on any longer arc to c
pub up_nested : (n a b c i : ℕ) → a < n → b < n → c < n → i < n → up n a c ≤ up n b c → up n a i < up n a c → up n b i < up n b c
up_nested n a b c i ha hb hc hi l s = go (dec_lt (up n b i) (up n b c)) (dec_eq (up n b i) (up n b c))
  where
    near : up n a i + up n i c ≡ up n a c
    near = up_through n a i c ha hi hc (omega arith)

    go : (up n b i < up n b c) ⊎ (up n b c ≤ up n b i) → (up n b i ≡ up n b c) ⊎ (up n b i ≢ up n b c) → up n b i < up n b c
    go (inl p) q = p
    go (inr p) (inl q) = absurd (omega (arith, near, ap (up n a) (up_inj n b i c hb hi hc q)))
    go (inr p) (inr q) = absurd (omega (arith, near, up_past n b i c hb hi hc (omega arith), up_lt n b i hb hi))

-- ---- the breakers of an arc

pub arc_at : (n a k i : ℕ) → a < n → i ∈ arc n a k → (i < n) × (up n a i < k)
unfolding arc
arc_at n a zero i ha m = absurd (Memᴰ.not-nil m)
arc_at n a (suc k) i ha m = go (arc_at n (next n a) k i (next_lt n a ha)) (Memᴰ.cases_cons m) (dec_eq a i)
  where
    go : (i ∈ arc n (next n a) k → (i < n) × (up n (next n a) i < k)) → (i ≡ a) ⊎ (i ∈ arc n (next n a) k) → (a ≡ i) ⊎ (a ≢ i)
        → (i < n) × (up n a i < suc k)
    go r s (inl q) = (omega arith, rw (← q) (omega (arith, up_refl n a ha)))
    go r (inl p) (inr q) = absurd (q (sym p))
    go r (inr p) (inr q) = let t = r p in (t.0, omega (arith, t.1, up_next n a i ha t.0 q))

pub arc_in : (n a k i : ℕ) → a < n → i < n → up n a i < k → i ∈ arc n a k
unfolding arc
arc_in n a zero i ha hi l = absurd (omega arith)
arc_in n a (suc k) i ha hi l = go (arc_in n (next n a) k i (next_lt n a ha) hi) (dec_eq a i)
  where
    go : (up n (next n a) i < k → i ∈ arc n (next n a) k) → (a ≡ i) ⊎ (a ≢ i) → i ∈ a ∷ arc n (next n a) k
    go r (inl q) = Memᴰ.head (sym q)
    go r (inr q) = Memᴰ.tail (r (omega (arith, up_next n a i ha hi q)))
