-- The subsets of a set of parts, the sets of one size, and the order of the list (document 02, Note 1).
use Rattle.std.specs.Prelude.{◌≡◌, refl, Bool, true, false, ◌⊎◌, ℕ, zero, suc, ◌≤◌, ◌<◌, ltb, length, take, drop}
use Rattle.std.proofs.Common.{sym, ◌∙◌, ap, ap₂, inl, inr, arith, ltb-true, lt-ltb}
use mathlib.Core.List.Memᴰ
use mathlib.Core.List.{
  List,
  [],
  ◌∷◌,
  ◌++◌,
  map,
  flat_map,
}
use Rattle.model.specs.declared.Part.{Part}
use Rattle.model.specs.Lists.{below, keep, ◌∈◌, RisingBy, empty, more, Distinct, nothing, one_more}
use Rattle.model.specs.Values.{part_code}
use Rattle.model.specs.CutSets.{subsets, proper_subsets, of_size, sizes_below}
use Rattle.model.specs.Laws.Tests.{dec}
use Rattle.model.specs.Laws.Lists.{all_cons, below_in, below_lt, map_in, map_at, flat_in, flat_at, flat_below, keep_at, keep_in}
use Rattle.theory.specs.Statements.CutSets.{Sub, end, takes, skips, Proper, Earlier, here, there, Before, InOrder, no_more, then}

-- every part of S is one of T
abbrev pub Within : List Part → List Part → Type 0
Within S T = (p : Part) → p ∈ S → p ∈ T

-- ---- parts left out

pub sub_within : {S T : List Part} → Sub S T → Within S T
sub_within end p m = m
sub_within (takes {p = q} s) p m = go (sub_within s p) (Memᴰ.cases_cons m)
  where
    go : {A B : List Part} → (p ∈ A → p ∈ B) → (p ≡ q) ⊎ (p ∈ A) → p ∈ q ∷ B
    go f (inl e) = Memᴰ.head e
    go f (inr k) = Memᴰ.tail (f k)
sub_within (skips s) p m = Memᴰ.tail (sub_within s p m)

pub sub_length : {S T : List Part} → Sub S T → length S ≤ length T
sub_length end = omega arith
sub_length (takes s) = omega (arith, sub_length s)
sub_length (skips s) = omega (arith, sub_length s)

pub sub_none : (T : List Part) → Sub [] T
sub_none [] = end
sub_none (p ∷ T) = skips (sub_none T)

sub_all : (T : List Part) → Sub T T
sub_all [] = end
sub_all (p ∷ T) = takes (sub_all T)

-- the front of a list
pub sub_front : (S T : List Part) → Sub S (S ++ T)
sub_front [] T = sub_none T
sub_front (p ∷ S) T = takes (sub_front S T)

-- of two rising lists, one within the other
pub sub_rising : {S T : List Part} → Sub S T → RisingBy part_code T → RisingBy part_code S
sub_rising end r = r
sub_rising (takes s) (more l r) = more (λ y m. l y (sub_within s y m)) (sub_rising s r)
sub_rising (skips s) (more l r) = sub_rising s r

pub rising_sub : {S T : List Part} → RisingBy part_code T → RisingBy part_code S → Within S T → Sub S T
rising_sub {T = T} r empty w = sub_none T
rising_sub empty (more {x = p} l q) w = absurd (Memᴰ.not-nil (w p (Memᴰ.head refl)))
rising_sub (more {x = t} {xs = T} k r) (more {x = p} {xs = S} l q) w =
    go (λ v. rising_sub r q v) (λ v. rising_sub r (more l q) v) (Memᴰ.cases_cons (w p (Memᴰ.head refl)))
  where
    behind : (x : Part) → part_code t < part_code x → x ∈ t ∷ T → x ∈ T
    behind x c m = pick (Memᴰ.cases_cons m)
      where
        pick : (x ≡ t) ⊎ (x ∈ T) → x ∈ T
        pick (inl e) = absurd (omega (arith, ap part_code e))
        pick (inr y) = y

    go : (Within S T → Sub S T) → (Within (p ∷ S) T → Sub (p ∷ S) T) → (p ≡ t) ⊎ (p ∈ T) → Sub (p ∷ S) (t ∷ T)
    go f g (inl e) =
        let c : (x : Part) → x ∈ S → part_code t < part_code x = λ x m. omega (arith, l x m, ap part_code e) in
        rw e (takes (f (λ x m. behind x (c x m) (w x (Memᴰ.tail m)))))
    go f g (inr m) =
        let c : (x : Part) → x ∈ p ∷ S → part_code t < part_code x =
        all_cons (λ x. part_code t < part_code x) (k p m) (λ x j. omega (arith, l x j, k p m)) in
        skips (g (λ x j. behind x (c x j) (w x j)))

-- ---- subsets

subsets_in : {S T : List Part} → Sub S T → S ∈ subsets T
unfolding subsets
subsets_in end = Memᴰ.head refl
subsets_in (takes {p = p} {T = T} s) = Memᴰ.append_left (subsets T) (map_in (λ R. p ∷ R) (subsets_in s))
subsets_in (skips {p = p} {T = T} s) = Memᴰ.append_right (map (λ R. p ∷ R) (subsets T)) (subsets_in s)

subsets_at : (T : List Part) {S : List Part} → S ∈ subsets T → Sub S T
unfolding subsets
subsets_at [] m = rw (Memᴰ.eq_of_singleton m) end
subsets_at (p ∷ T) {S} m = go (λ R k. subsets_at T k) (λ k. subsets_at T k) (Memᴰ.append_cases (map (λ R. p ∷ R) (subsets T)) m)
  where
    go : ((R : List Part) → R ∈ subsets T → Sub R T) → (S ∈ subsets T → Sub S T)
        → (S ∈ map (λ R. p ∷ R) (subsets T)) ⊎ (S ∈ subsets T) → Sub S (p ∷ T)
    go f g (inl k) = let t = map_at (λ R. p ∷ R) (subsets T) k in rw t.2 (takes (f t.0 t.1))
    go f g (inr k) = skips (g k)

pub proper_in : {S T : List Part} → Proper S T → S ∈ proper_subsets T
unfolding proper_subsets
proper_in {S} {T} r = keep_in (λ R. ltb (length R) (length T)) (subsets_in r.0) (lt-ltb (length S) (length T) (omega (arith, r.1)))

pub proper_at : (T : List Part) {S : List Part} → S ∈ proper_subsets T → Proper S T
unfolding proper_subsets
proper_at T {S} m =
    let t = keep_at (λ R. ltb (length R) (length T)) (subsets T) m in
    (subsets_at T t.0, omega (arith, ltb-true (length S) (length T) t.1))

-- ---- one part left out

-- S without its part at index i
unfoldable pub without : ℕ → List Part → List Part
without i S = take i S ++ drop (suc i) S

pub without_proper : (i : ℕ) (S : List Part) → i < length S → Proper (without i S) S
unfolding without
without_proper i [] l = absurd (omega arith)
without_proper zero (p ∷ S) l = (skips (sub_all S), omega arith)
without_proper (suc i) (p ∷ S) l = let r = without_proper i S (omega arith) in (takes r.0, omega (arith, r.1))

-- a proper subset lacks one part at least
pub proper_without : {S T : List Part} → Sub S T → length S < length T → (i : ℕ) × (i < length T) × Sub S (without i T)
unfolding without
proper_without end l = absurd (omega arith)
proper_without (takes s) l = let r = proper_without s (omega arith) in (suc r.0, omega (arith, r.1), takes r.2)
proper_without (skips s) l = (0, omega arith, s)

-- a part of a set stands at an index, and every other is left without it
pub part_index : {p : Part} {S : List Part} → p ∈ S → (i : ℕ) × (i < length S) × ((q : Part) → q ∈ S → (q ≡ p) ⊎ (q ∈ without i S))
unfolding without
part_index {p} (Memᴰ.head {x = x} {xs = S} e) = (0, omega arith, λ q m. go q (Memᴰ.cases_cons m))
  where
    go : (q : Part) → (q ≡ x) ⊎ (q ∈ S) → (q ≡ p) ⊎ (q ∈ S)
    go q (inl z) = inl (z ∙ sym e)
    go q (inr k) = inr k
part_index {p} (Memᴰ.tail {x = x} {xs = S} m) = go (part_index m)
  where
    go : (i : ℕ) × (i < length S) × ((q : Part) → q ∈ S → (q ≡ p) ⊎ (q ∈ without i S))
        → (i : ℕ) × (i < suc (length S)) × ((q : Part) → q ∈ x ∷ S → (q ≡ p) ⊎ (q ∈ without i (x ∷ S)))
    go (i, l, f) = (suc i, omega arith, λ q k. pick q (Memᴰ.cases_cons k))
      where
        pick : (q : Part) → (q ≡ x) ⊎ (q ∈ S) → (q ≡ p) ⊎ (q ∈ x ∷ without i S)
        pick q (inl e) = inr (Memᴰ.head e)
        pick q (inr k) = later (f q k)
          where
            later : (q ≡ p) ⊎ (q ∈ without i S) → (q ≡ p) ⊎ (q ∈ x ∷ without i S)
            later (inl e) = inl e
            later (inr j) = inr (Memᴰ.tail j)

-- ---- the sets of a size

pub size_at : (k : ℕ) (ps : List Part) {S : List Part} → S ∈ of_size k ps → (length S ≡ k) × Sub S ps
unfolding of_size
size_at zero ps {S} m = rw (Memᴰ.eq_of_singleton m) (refl, sub_none ps)
size_at (suc k) [] m = absurd (Memᴰ.not-nil m)
size_at (suc k) (p ∷ ps) {S} m =
    go (λ R r. size_at k ps r) (λ r. size_at (suc k) ps r) (Memᴰ.append_cases (map (λ R. p ∷ R) (of_size k ps)) m)
  where
    go : ((R : List Part) → R ∈ of_size k ps → (length R ≡ k) × Sub R ps)
        → (S ∈ of_size (suc k) ps → (length S ≡ suc k) × Sub S ps)
        → (S ∈ map (λ R. p ∷ R) (of_size k ps)) ⊎ (S ∈ of_size (suc k) ps) → (length S ≡ suc k) × Sub S (p ∷ ps)
    go f g (inl r) =
        let t = map_at (λ R. p ∷ R) (of_size k ps) r in
        let u = f t.0 t.1 in
        rw t.2 (ap suc u.0, takes u.1)
    go f g (inr r) = let u = g r in (u.0, skips u.1)

size_in : {S ps : List Part} → Sub S ps → S ∈ of_size (length S) ps
unfolding of_size
size_in end = Memᴰ.head refl
size_in (takes {p = p} {S = S} {T = T} s) = Memᴰ.append_left (of_size (suc (length S)) T) (map_in (λ R. p ∷ R) (size_in s))
size_in (skips {p = p} {S = S} {T = T} s) = go S (size_in s)
  where
    go : (R : List Part) → R ∈ of_size (length R) T → R ∈ of_size (length R) (p ∷ T)
    go [] m = Memᴰ.head refl
    go (q ∷ R) m = Memᴰ.append_right (map (λ X. p ∷ X) (of_size (length R) T)) m

module _ (k : ℕ) (ps : List Part) where
  pub sizes_at : {S : List Part} → S ∈ sizes_below k ps → (length S < k) × Sub S ps
  unfolding sizes_below
  sizes_at {S} m =
      let t = flat_at (λ j. of_size j ps) (below k) m in
      let u = size_at t.0 ps t.2 in
      (omega (arith, u.0, below_lt k t.0 t.1), u.1)

  pub sizes_in : {S : List Part} → length S < k → Sub S ps → S ∈ sizes_below k ps
  unfolding sizes_below
  sizes_in {S} l s = flat_in (λ j. of_size j ps) (below_in k (length S) l) (size_in s)

  -- one size more
  pub sizes_next : sizes_below (suc k) ps ≡ sizes_below k ps ++ of_size k ps
  unfolding sizes_below
  sizes_next = flat_below (λ j. of_size j ps) k

-- ---- "by size, then by part codes"

earlier_other : {S T : List Part} → Earlier S T → S ≡ T → ⊥
earlier_other (here {p = p} {q = q} l) e = let z : p ≡ q = cc in omega (arith, ap part_code z)
earlier_other (there r) e = earlier_other r cc

before_other : (S : List Part) → Before S S → ⊥
before_other S (inl l) = omega arith
before_other S (inr r) = earlier_other r.1 refl

-- so each set is listed once
pub order_once : {Ss : List (List Part)} → InOrder Ss → Distinct Ss
order_once no_more = nothing
order_once (then {S = S} f r) = one_more (λ m. before_other S (f S m)) (order_once r)

-- stated of two pairs that are the same, so that the two are taken apart by themselves
earlier_apart : {S T U V : List Part} → Earlier S T → Earlier U V → S ≡ V → T ≡ U → ⊥
earlier_apart (here {p = p} {q = q} l) (here {p = r} {q = s} m) d e =
    let a : p ≡ s = cc in
    let b : q ≡ r = cc in
    omega (arith, ap part_code a, ap part_code b)
earlier_apart (here {p = p} {q = q} l) (there {p = r} s) d e =
    let a : p ≡ r = cc in
    let b : q ≡ r = cc in
    omega (arith, ap part_code a, ap part_code b)
earlier_apart (there {p = p} r) (here {p = q} {q = s} m) d e =
    let a : p ≡ s = cc in
    let b : p ≡ q = cc in
    omega (arith, ap part_code a, ap part_code b)
earlier_apart (there {S = S} {T = T} r) (there {S = U} {T = V} s) d e =
    let a : S ≡ V = cc in
    let b : T ≡ U = cc in
    earlier_apart r s a b

earlier_one_way : {S T : List Part} → Earlier S T → Earlier T S → ⊥
earlier_one_way r s = earlier_apart r s refl refl

before_one_way : (S T : List Part) → Before S T → Before T S → ⊥
before_one_way S T (inl l) (inl m) = omega arith
before_one_way S T (inl l) (inr m) = omega (arith, m.0)
before_one_way S T (inr l) (inl m) = omega (arith, l.0)
before_one_way S T (inr l) (inr m) = earlier_one_way l.1 m.1

-- two lists in order that have the same sets are one
pub order_only : {Ss Ts : List (List Part)} → InOrder Ss → InOrder Ts → ((S : List Part) → S ∈ Ss → S ∈ Ts)
    → ((T : List Part) → T ∈ Ts → T ∈ Ss) → Ss ≡ Ts
order_only no_more no_more f g = refl
order_only no_more (then {S = T} k s) f g = absurd (Memᴰ.not-nil (g T (Memᴰ.head refl)))
order_only (then {S = S} h r) no_more f g = absurd (Memᴰ.not-nil (f S (Memᴰ.head refl)))
order_only (then {S = S} {Ss = Ss} h r) (then {S = T} {Ss = Ts} k s) f g =
    go (λ x y. order_only r s x y) (Memᴰ.cases_cons (f S (Memᴰ.head refl))) (Memᴰ.cases_cons (g T (Memᴰ.head refl)))
  where
    -- behind the first, which is the same
    behind : {A B : List Part} {As Bs : List (List Part)} → A ≡ B → ((X : List Part) → X ∈ As → Before A X)
        → ((X : List Part) → X ∈ A ∷ As → X ∈ B ∷ Bs) → (X : List Part) → X ∈ As → X ∈ Bs
    behind {A} {B} {As} {Bs} e h f X m = pick (Memᴰ.cases_cons (f X (Memᴰ.tail m)))
      where
        pick : (X ≡ B) ⊎ (X ∈ Bs) → X ∈ Bs
        pick (inl z) = let w : Before A A = rw (z ∙ sym e) at (h X m) in absurd (before_other A w)
        pick (inr y) = y

    go : (((X : List Part) → X ∈ Ss → X ∈ Ts) → ((X : List Part) → X ∈ Ts → X ∈ Ss) → Ss ≡ Ts)
        → (S ≡ T) ⊎ (S ∈ Ts) → (T ≡ S) ⊎ (T ∈ Ss) → S ∷ Ss ≡ T ∷ Ts
    go o (inl e) y = ap₂ ◌∷◌ e (o (behind e h f) (behind (sym e) k g))
    go o (inr m) (inl e) = ap₂ ◌∷◌ (sym e) (o (behind (sym e) h f) (behind e k g))
    go o (inr m) (inr j) = absurd (before_one_way S T (h T j) (k S m))

order_append : {Ss Ts : List (List Part)} → InOrder Ss → InOrder Ts → ((S T : List Part) → S ∈ Ss → T ∈ Ts → Before S T)
    → InOrder (Ss ++ Ts)
order_append no_more o f = o
order_append {Ts = Ts} (then {S = S} {Ss = Ss} g r) o f =
    then (λ T m. go T (Memᴰ.append_cases Ss m)) (order_append r o (λ X Y m k. f X Y (Memᴰ.tail m) k))
  where
    go : (T : List Part) → (T ∈ Ss) ⊎ (T ∈ Ts) → Before S T
    go T (inl m) = g T m
    go T (inr m) = f S T (Memᴰ.head refl) m

pub order_keep : (f : List Part → Bool) {Ss : List (List Part)} → InOrder Ss → InOrder (keep f Ss)
unfolding keep
order_keep f no_more = no_more
order_keep f (then {S = S} {Ss = Ss} g r) = go (order_keep f r) (dec (f S))
  where
    go : InOrder (keep f Ss) → (f S ≡ true) ⊎ (f S ≡ false) → InOrder (keep f (S ∷ Ss))
    go q (inl e) = rw e (then (λ T m. g T (keep_at f Ss m).0) q)
    go q (inr e) = rw e q

order_cons : (p : Part) {Ss : List (List Part)} → InOrder Ss → InOrder (map (λ T. p ∷ T) Ss)
order_cons p no_more = no_more
order_cons p (then {S = S} {Ss = Ss} g r) = then (λ T m. go T (map_at (λ R. p ∷ R) Ss m)) (order_cons p r)
  where
    longer : (T : List Part) → Before S T → Before (p ∷ S) (p ∷ T)
    longer T (inl l) = inl (omega arith)
    longer T (inr e) = inr (ap suc e.0, there e.1)

    go : (T : List Part) → (R : List Part) × (R ∈ Ss) × (T ≡ p ∷ R) → Before (p ∷ S) T
    go T t = rw t.2 (longer t.0 (g t.0 t.1))

order_size : (k : ℕ) {ps : List Part} → RisingBy part_code ps → InOrder (of_size k ps)
unfolding of_size
order_size zero r = then (λ T m. absurd (Memᴰ.not-nil m)) no_more
order_size (suc k) empty = no_more
order_size (suc k) (more {x = p} {xs = ps} l r) =
    order_append (order_cons p (order_size k r)) (order_size (suc k) r)
    (λ S T m j. cross S T (map_at (λ R. p ∷ R) (of_size k ps) m) (size_at (suc k) ps j))
  where
    first : (R T : List Part) → length R ≡ k → length T ≡ suc k → Within T ps → Before (p ∷ R) T
    first R [] e z w = absurd (omega arith)
    first R (q ∷ T) e z w = inr (omega arith, here (l q (w q (Memᴰ.head refl))))

    cross : (S T : List Part) → (R : List Part) × (R ∈ of_size k ps) × (S ≡ p ∷ R) → (length T ≡ suc k) × Sub T ps → Before S T
    cross S T t u = rw t.2 (first t.0 T (size_at k ps t.1).0 u.0 (sub_within u.1))

pub order_sizes : (k : ℕ) {ps : List Part} → RisingBy part_code ps → InOrder (sizes_below k ps)
unfolding sizes_below below flat_map
order_sizes zero r = no_more
order_sizes (suc k) {ps} r =
    rw (sizes_next k ps)
    (order_append (order_sizes k r) (order_size k r) (λ S T m j. inl (omega (arith, (sizes_at k ps m).0, (size_at k ps j).0))))
