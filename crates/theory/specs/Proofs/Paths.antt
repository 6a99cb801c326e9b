-- The paths of a bus: what is on each, and that a bus tries every path to it and no other.
use Rattle.std.specs.Prelude.{◌≡◌, refl, Bool, true, false, not, cond, ◌≢◌, ◌⊎◌, ℕ, zero, suc, ◌≤◌, ◌<◌, leb, eqb}
use Rattle.std.proofs.Common.{sym, ◌∙◌, inl, inr, arith, leb-true, le-leb, eqb-true, eq-eqb, ne_eqb}
use mathlib.Core.List.Memᴰ
use mathlib.Core.List.{
  List,
  [],
  ◌∷◌,
  ◌++◌,
  map,
  reverse,
  reverse-cons,
}
use Rattle.model.specs.declared.Part.{Part}
use Rattle.model.specs.Lists.{below, keep, ◌∈◌}
use Rattle.model.specs.Plant.{generator, generator_breaker, bus_breaker, up, arc, InRing}
use Rattle.model.specs.Priority.{Path, others, sources, path_bus_breakers, path_breakers, path_parts, high_rises, paths_from, paths}
use Rattle.model.specs.Laws.Parts.{other_kind}
use Rattle.model.specs.Laws.Tests.{dec, dec_eq, not_of}
use Rattle.model.specs.Laws.Lists.{below_in, below_lt, keep_in, keep_at, map_in, map_at, flat_in, flat_at}
use Rattle.theory.specs.Proofs.Geometry.{arc_at, arc_in}

-- ---- what is on a path

-- the end of a path from which its bus breakers rise
abbrev pub lower : Path → ℕ
lower w = cond w.rising w.source w.bus

-- .. and the end to which they rise
abbrev pub upper : Path → ℕ
upper w = cond w.rising w.bus w.source

-- both ends of a path are buses of the ring
pub record Ends (n : ℕ) (w : Path) : Type 0 where
  pub source : w.source < n
  pub bus : w.bus < n

pub lower_lt : {n : ℕ} {w : Path} → Ends n w → lower w < n
lower_lt {n} {w} h = go w.rising
  where
    go : (r : Bool) → cond r w.source w.bus < n
    go true = h.source
    go false = h.bus

pub upper_lt : {n : ℕ} {w : Path} → Ends n w → upper w < n
upper_lt {n} {w} h = go w.rising
  where
    go : (r : Bool) → cond r w.bus w.source < n
    go true = h.bus
    go false = h.source

-- bus breaker i is on the path
abbrev pub Uses : ℕ → Path → ℕ → Type 0
Uses n w i = up n (lower w) i < up n (lower w) (upper w)

reverse_in : {A : Type 0} {x : A} {xs : List A} → x ∈ xs → x ∈ reverse xs
reverse_in (Memᴰ.head {x = y} {xs = ys} p) = rw (reverse-cons y ys) (Memᴰ.append_right (reverse ys) (Memᴰ.head p))
reverse_in (Memᴰ.tail {x = y} {xs = ys} m) = rw (reverse-cons y ys) (Memᴰ.append_left (y ∷ []) (reverse_in m))

reverse_at : {A : Type 0} {x : A} (xs : List A) → x ∈ reverse xs → x ∈ xs
reverse_at [] m = m
reverse_at {x = x} (y ∷ ys) m = go (reverse_at ys) (Memᴰ.append_cases (reverse ys) (rw (reverse-cons y ys) at m))
  where
    go : (x ∈ reverse ys → x ∈ ys) → (x ∈ reverse ys) ⊎ (x ∈ y ∷ []) → x ∈ y ∷ ys
    go r (inl p) = Memᴰ.tail (r p)
    go r (inr p) = Memᴰ.head (Memᴰ.eq_of_singleton p)

pub path_at : {n : ℕ} {w : Path} (i : ℕ) → Ends n w → i ∈ path_bus_breakers n w → (i < n) × Uses n w i
unfolding path_bus_breakers
path_at {n} {w} i h m = go w.rising refl
  where
    go : (r : Bool) → w.rising ≡ r
        → (i < n) × (up n (cond r w.source w.bus) i < up n (cond r w.source w.bus) (cond r w.bus w.source))
    go true e = arc_at n w.source (up n w.source w.bus) i h.source (rw e at m)
    go false e =
        arc_at n w.bus (up n w.bus w.source) i h.bus (reverse_at (arc n w.bus (up n w.bus w.source)) (rw e at m))

pub path_in : {n : ℕ} {w : Path} (i : ℕ) → Ends n w → i < n → Uses n w i → i ∈ path_bus_breakers n w
unfolding path_bus_breakers
path_in {n} {w} i h hi u = go w.rising u
  where
    go : (r : Bool) → up n (cond r w.source w.bus) i < up n (cond r w.source w.bus) (cond r w.bus w.source)
        → i ∈ cond r (arc n w.source (up n w.source w.bus)) (reverse (arc n w.bus (up n w.bus w.source)))
    go true l = arc_in n w.source (up n w.source w.bus) i h.source hi l
    go false l = reverse_in (arc_in n w.bus (up n w.bus w.source) i h.bus hi l)

-- the parts of a path, by kind
pub data OnPath (n : ℕ) (w : Path) : Part → Type 0 where
  at_generator : OnPath n w (generator w.source)
  at_generator_breaker : OnPath n w (generator_breaker w.source)
  at_bus_breaker : {i : ℕ} → i ∈ path_bus_breakers n w → OnPath n w (bus_breaker i)

pub on_path : (n : ℕ) (w : Path) (p : Part) → p ∈ path_parts n w → OnPath n w p
unfolding path_parts path_breakers
on_path n w p m = go (Memᴰ.cases_cons m)
  where
    line : p ∈ map bus_breaker (path_bus_breakers n w) → OnPath n w p
    line x = let t = map_at bus_breaker (path_bus_breakers n w) x in rw t.2 (at_bus_breaker t.1)

    breaker : (p ≡ generator_breaker w.source) ⊎ (p ∈ map bus_breaker (path_bus_breakers n w)) → OnPath n w p
    breaker (inl e) = rw e at_generator_breaker
    breaker (inr x) = line x

    go : (p ≡ generator w.source) ⊎ (p ∈ path_breakers n w) → OnPath n w p
    go (inl e) = rw e at_generator
    go (inr x) = breaker (Memᴰ.cases_cons x)

pub source_on : (n : ℕ) (w : Path) → generator w.source ∈ path_parts n w
unfolding path_parts
source_on n w = Memᴰ.head refl

pub breaker_on : (n : ℕ) (w : Path) → generator_breaker w.source ∈ path_parts n w
unfolding path_parts path_breakers
breaker_on n w = Memᴰ.tail (Memᴰ.head refl)

pub line_on : (n : ℕ) (w : Path) {i : ℕ} → i ∈ path_bus_breakers n w → bus_breaker i ∈ path_parts n w
unfolding path_parts path_breakers
line_on n w m = Memᴰ.tail (Memᴰ.tail (map_in bus_breaker m))

pub breakers_on : (n : ℕ) (w : Path) (p : Part) → p ∈ path_breakers n w → p ∈ path_parts n w
unfolding path_parts
breakers_on n w p m = Memᴰ.tail m

-- which path's part a part of one kind is
pub generator_on : (n : ℕ) (w : Path) (g : ℕ) → generator g ∈ path_parts n w → g ≡ w.source
generator_on n w g m = go (on_path n w (generator g) m) refl
  where
    go : {p : Part} → OnPath n w p → p ≡ generator g → g ≡ w.source
    go at_generator e = let z : suc w.source ≡ suc g = cc in omega arith
    go at_generator_breaker e = other_kind e refl
    go (at_bus_breaker m) e = other_kind e refl

pub generator_breaker_on : (n : ℕ) (w : Path) (g : ℕ) → generator_breaker g ∈ path_parts n w → g ≡ w.source
generator_breaker_on n w g m = go (on_path n w (generator_breaker g) m) refl
  where
    go : {p : Part} → OnPath n w p → p ≡ generator_breaker g → g ≡ w.source
    go at_generator e = other_kind e refl
    go at_generator_breaker e = let z : suc w.source ≡ suc g = cc in omega arith
    go (at_bus_breaker m) e = other_kind e refl

pub bus_breaker_on : (n : ℕ) (w : Path) (i : ℕ) → bus_breaker i ∈ path_parts n w → i ∈ path_bus_breakers n w
bus_breaker_on n w i m = go (on_path n w (bus_breaker i) m) refl
  where
    go : {p : Part} → OnPath n w p → p ≡ bus_breaker i → i ∈ path_bus_breakers n w
    go at_generator e = other_kind e refl
    go at_generator_breaker e = other_kind e refl
    go (at_bus_breaker {i = j} m) e = let z : suc j ≡ suc i = cc in let y : j ≡ i = omega arith in rw y at m

-- the parts of a path are parts of the ring
pub path_in_ring : (n : ℕ) (w : Path) → Ends n w → (p : Part) → p ∈ path_parts n w → InRing n p
path_in_ring n w h p m = go (on_path n w p m)
  where
    go : {q : Part} → OnPath n w q → InRing n q
    go at_generator = let l = h.source in (omega arith, omega arith)
    go at_generator_breaker = let l = h.source in (omega arith, omega arith)
    go (at_bus_breaker {i = i} m) = let l = (path_at i h m).0 in (omega arith, omega arith)

-- ---- the sources of a bus

others_in : (n g : ℕ) → 2 ≤ g → g < n → g ∈ others n
unfolding others
others_in n g l h = keep_in (leb 2) (below_in n g h) (le-leb 2 g l)

pub others_at : (n g : ℕ) → g ∈ others n → (2 ≤ g) × (g < n)
unfolding others
others_at n g m = let t = keep_at (leb 2) (below n) m in (leb-true 2 g t.1, below_lt n g t.0)

-- bus b tries every generator
pub sources_in : (n b g : ℕ) → b < n → g < n → g ∈ sources n b
unfolding sources
sources_in n zero g hb hg = below_in n g hg
sources_in n (suc b) zero hb hg = low b
  where
    low : (k : ℕ) → 0 ∈ sources n (suc k)
    low zero = Memᴰ.tail (Memᴰ.head refl)
    low (suc k) = Memᴰ.tail (Memᴰ.head refl)
sources_in n (suc b) (suc zero) hb hg = low b
  where
    low : (k : ℕ) → 1 ∈ sources n (suc k)
    low zero = Memᴰ.head refl
    low (suc k) = Memᴰ.head refl
sources_in n (suc zero) (suc (suc g)) hb hg = Memᴰ.tail (Memᴰ.tail (others_in n (suc (suc g)) (omega arith) hg))
sources_in n (suc (suc b)) (suc (suc g)) hb hg = Memᴰ.tail (Memᴰ.tail (go (dec_eq (suc (suc g)) (suc (suc b)))))
  where
    mid : List ℕ
    mid = keep (λ h. not (eqb h (suc (suc b)))) (others n)

    go : (suc (suc g) ≡ suc (suc b)) ⊎ (suc (suc g) ≢ suc (suc b)) → suc (suc g) ∈ mid ++ (suc (suc b) ∷ [])
    go (inl e) = Memᴰ.append_right mid (Memᴰ.head e)
    go (inr e) =
        Memᴰ.append_left (suc (suc b) ∷ [])
        (keep_in (λ h. not (eqb h (suc (suc b)))) (others_in n (suc (suc g)) (omega arith) hg)
        (not_of (eqb (suc (suc g)) (suc (suc b))) (ne_eqb (suc (suc g)) (suc (suc b)) e)))

-- and no other
pub sources_at : (n b g : ℕ) → b < n → g ∈ sources n b → g < n
unfolding sources
sources_at n zero g hb m = below_lt n g m
sources_at n (suc zero) g hb m = go (Memᴰ.cases_cons m)
  where
    second : (g ≡ 0) ⊎ (g ∈ others n) → g < n
    second (inl e) = omega arith
    second (inr r) = (others_at n g r).1

    go : (g ≡ 1) ⊎ (g ∈ 0 ∷ others n) → g < n
    go (inl e) = omega arith
    go (inr r) = second (Memᴰ.cases_cons r)
sources_at n (suc (suc b)) g hb m = go (Memᴰ.cases_cons m)
  where
    mid : List ℕ
    mid = keep (λ h. not (eqb h (suc (suc b)))) (others n)

    third : (g ∈ mid) ⊎ (g ∈ suc (suc b) ∷ []) → g < n
    third (inl r) = (others_at n g (keep_at (λ h. not (eqb h (suc (suc b)))) (others n) r).0).1
    third (inr r) = rw (Memᴰ.eq_of_singleton r) hb

    second : (g ≡ 0) ⊎ (g ∈ mid ++ (suc (suc b) ∷ [])) → g < n
    second (inl e) = omega arith
    second (inr r) = third (Memᴰ.append_cases mid r)

    go : (g ≡ 1) ⊎ (g ∈ 0 ∷ (mid ++ (suc (suc b) ∷ []))) → g < n
    go (inl e) = omega arith
    go (inr r) = second (Memᴰ.cases_cons r)

-- ---- the paths of a bus

abbrev pub path_to : ℕ → ℕ → Bool → Path
path_to b g r = record { source = g; bus = b; rising = r }

either : (a b : Bool) → (a ≡ b) ⊎ (a ≡ not b)
either true true = inl refl
either true false = inr refl
either false true = inr refl
either false false = inl refl

from_in : (n b g : ℕ) (r : Bool) → (g ≡ b → r ≡ true) → path_to b g r ∈ paths_from n b g
unfolding paths_from
from_in n b g r own = go (dec (eqb g b)) (either r (high_rises n g b))
  where
    go : (eqb g b ≡ true) ⊎ (eqb g b ≡ false) → (r ≡ high_rises n g b) ⊎ (r ≡ not (high_rises n g b)) → path_to b g r ∈ paths_from n b g
    go (inl p) q = let e = eqb-true g b p in rw (p, own e, e) (Memᴰ.head refl)
    go (inr p) (inl q) = rw (p, q) (Memᴰ.head refl)
    go (inr p) (inr q) = rw (p, q) (Memᴰ.tail (Memᴰ.head refl))

pub from_at : (n b g : ℕ) (w : Path) → w ∈ paths_from n b g → (w.source ≡ g) × (w.bus ≡ b)
unfolding paths_from
from_at n b g w m = go (dec (eqb g b))
  where
    two : {x y : Path} → w ∈ x ∷ y ∷ [] → (x.source ≡ g) × (x.bus ≡ b) → (y.source ≡ g) × (y.bus ≡ b) → (w.source ≡ g) × (w.bus ≡ b)
    two {x} {y} m p q = pick (Memᴰ.cases_cons m)
      where
        pick : (w ≡ x) ⊎ (w ∈ y ∷ []) → (w.source ≡ g) × (w.bus ≡ b)
        pick (inl e) = rw e p
        pick (inr e) = rw (Memᴰ.eq_of_singleton e) q

    go : (eqb g b ≡ true) ⊎ (eqb g b ≡ false) → (w.source ≡ g) × (w.bus ≡ b)
    go (inl p) = let e : w ≡ path_to b b true = Memᴰ.eq_of_singleton (rw p at m) in let z = eqb-true g b p in rw e (sym z, refl)
    go (inr p) = two (rw p at m) (refl, refl) (refl, refl)

-- a bus's own path is the rising one
own_at : (n b g : ℕ) (w : Path) → w ∈ paths_from n b g → g ≡ b → w.rising ≡ true
unfolding paths_from
own_at n b g w m e = let own : w ≡ path_to b b true = Memᴰ.eq_of_singleton (rw (eq-eqb g b e) at m) in rw own

-- bus b tries each path to it, its own as the rising one
pub tried : (n b g : ℕ) (r : Bool) → b < n → g < n → (g ≡ b → r ≡ true) → path_to b g r ∈ paths n b
unfolding paths
tried n b g r hb hg own = flat_in (paths_from n b) (sources_in n b g hb hg) (from_in n b g r own)

-- and tries nothing else
pub tried_own : (n b : ℕ) (w : Path) → w ∈ paths n b → w.source ≡ b → w.rising ≡ true
unfolding paths
tried_own n b w m e =
    let t = flat_at (paths_from n b) (sources n b) m in
    own_at n b t.0 w t.2 (sym (from_at n b t.0 w t.2).0 ∙ e)

pub tried_at : (n b : ℕ) (w : Path) → b < n → w ∈ paths n b → (w.source < n) × (w.bus ≡ b)
unfolding paths
tried_at n b w hb m =
    let t = flat_at (paths_from n b) (sources n b) m in
    let e = from_at n b t.0 w t.2 in
    (rw e.0 (sources_at n b t.0 hb t.1), e.1)
