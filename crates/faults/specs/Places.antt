-- The parts of a ring by their places, in rising code, and a further fault stored in a health's arrays.
use Rattle.std.specs.Prelude.{◌≡◌, refl, Bool, true, false, not, cond, ◌⊎◌, ◌≢◌, List, [], ◌∷◌, ◌++◌, map, ℕ, zero, suc, ◌+◌, ◌-◌, ◌*◌, ◌≤◌, ◌<◌, ltb, eqb, length, get_or, set, drop}
use Rattle.std.proofs.Common.{sym, ◌∙◌, ap, inl, inr, add-one, drop_of_length-le, get_or-append-add, get_or-set_same, get_or-set_other, drop-cons}
use Rattle.std.proofs.Math.Path.{fun_ext}
use native.Mathlib.Omega.{arith}
use Rattle.std.proofs.lemmas.List.{length-map}
use Rattle.std.proofs.Math.ListN.{get_or-append}
use borrow.Author.Tests.{lt-ltb, le-ltb, eq-eqb, ne_eqb}
use Rattle.model.specs.declared.Part.{Part}
use Rattle.model.specs.declared.Part.TheVariants.{Generator, GeneratorBreaker, BusBreaker}
use Rattle.model.specs.declared.Health.{Health}
use Rattle.model.specs.Lists.{below}
use Rattle.model.specs.Values.{number, index, same_part}
use Rattle.model.specs.Plant.{generator, generator_breaker, bus_breaker, parts, stuck_open}
use Rattle.model.specs.Reports.{at_number, health_of, reported}
use Rattle.model.specs.CutSets.{with_faults}
use Rattle.model.specs.Laws.Tests.{dec, dec_eq, dec_lt}
use Rattle.model.specs.Laws.Lists.{below_length, map_below_at}
use Rattle.model.specs.Laws.Parts.{parts_length, array_of, with_array}
use Rattle.model.specs.Laws.CutSets.{fault, faults_locked}

-- the part at a place among the parts of a ring of n
unfoldable pub part_at : ℕ → ℕ → Part
part_at n p = cond (ltb p n) (generator p) (cond (ltb p (n + n)) (generator_breaker (p - n)) (bus_breaker (p - (n + n))))

module _ (n p : ℕ) where
  pub in_first : p < n → part_at n p ≡ generator p
  unfolding part_at
  in_first l = rw (lt-ltb p n l)

  pub in_second : n ≤ p → p < n + n → part_at n p ≡ generator_breaker (p - n)
  unfolding part_at
  in_second l h = rw (le-ltb p n l, lt-ltb p (n + n) h)

  pub in_third : n + n ≤ p → part_at n p ≡ bus_breaker (p - (n + n))
  unfolding part_at
  in_third l = let k : n ≤ p = omega arith in rw (le-ltb p n k, le-ltb p (n + n) l)

-- ---- a part's number, from 1, and its place among those of its kind

pub index_less : (k : ℕ) → index k ≡ k - 1
index_less zero = refl
index_less (suc k) = omega arith

pub numbered_from : (k : ℕ) → 1 ≤ k → k ≡ suc (k - 1)
numbered_from k l = omega arith

-- ---- a breaker that is not stuck open, however the code words its test

pub breaker_test : (h : ℕ) {r : Bool} → (h ≡ 2 → r ≡ true → ⊥) → (h ≢ 2 → r ≡ false → ⊥) → r ≡ not (stuck_open h)
breaker_test h {r} f g = go (dec_eq h 2) (dec r)
  where
    go : (h ≡ 2) ⊎ (h ≢ 2) → (r ≡ true) ⊎ (r ≡ false) → r ≡ not (stuck_open h)
    go (inl e) (inl t) = absurd (f e t)
    go (inl e) (inr t) = rw (eq-eqb h 2 e) t
    go (inr e) (inl t) = rw (ne_eqb h 2 e) t
    go (inr e) (inr t) = absurd (g e t)

-- ---- the part at a place is the one that stands there

kind_length : (kind : ℕ → Part) (n : ℕ) → length (map kind (below n)) ≡ n
kind_length kind n = length-map (below n) kind ∙ below_length n

past : (xs ys : List Part) (n p : ℕ) (d : Part) → length xs ≡ n → n ≤ p → get_or (xs ++ ys) p d ≡ get_or ys (p - n) d
past xs ys n p d e l =
    let z : p ≡ length xs + (p - n) = omega (arith, e) in
    ap (λ i. get_or (xs ++ ys) i d) z ∙ get_or-append-add xs ys (p - n) d

part_at_lem : (n p : ℕ) (d : Part) → p < 3 * n → get_or (parts n) p d ≡ part_at n p
unfolding parts
part_at_lem n p d l = go (dec_lt p n) (dec_lt p (n + n))
  where
    G : List Part
    G = map generator (below n)

    B : List Part
    B = map generator_breaker (below n)

    J : List Part
    J = map bus_breaker (below n)

    go : (p < n) ⊎ (n ≤ p) → (p < n + n) ⊎ (n + n ≤ p) → get_or (G ++ (B ++ J)) p d ≡ part_at n p
    go (inl h) k =
        get_or-append G (B ++ J) d p (omega (arith, kind_length generator n)) ∙ map_below_at generator n p d h ∙ sym (in_first n p h)
    go (inr h) (inl k) =
        past G (B ++ J) n p d (kind_length generator n) h
        ∙ get_or-append B J d (p - n) (omega (arith, kind_length generator_breaker n))
        ∙ map_below_at generator_breaker n (p - n) d (omega arith)
        ∙ sym (in_second n p h k)
    go (inr h) (inr k) =
        let z : p - n - n ≡ p - (n + n) = omega arith in
        past G (B ++ J) n p d (kind_length generator n) h
        ∙ past B J n (p - n) d (kind_length generator_breaker n) (omega arith)
        ∙ map_below_at bus_breaker n (p - n - n) d (omega arith)
        ∙ ap bus_breaker z
        ∙ sym (in_third n p k)

-- the parts from a place on
pub parts_left : (n p : ℕ) → p < 3 * n → drop p (parts n) ≡ part_at n p ∷ drop (p + 1) (parts n)
parts_left n p l =
    rw add-one
    (drop-cons (parts n) p (part_at n p) (omega (arith, parts_length n))
    ∙ ap (λ (q : Part). q ∷ drop (suc p) (parts n)) (part_at_lem n p (part_at n p) l))

pub parts_ended : (n p : ℕ) → 3 * n ≤ p → drop p (parts n) ≡ []
parts_ended n p l = drop_of_length-le (parts n) {i = p} (omega (arith, parts_length n))

-- ---- a further fault in the arrays

stored : (l : List ℕ) (i v : ℕ) → i < length l → (k : ℕ) → at_number 0 (set l i v) k ≡ cond (eqb k (suc i)) v (at_number 0 l k)
stored l i v h zero = rw (ne_eqb 0 (suc i) (λ e. omega arith))
stored l i v h (suc j) = go (dec_eq j i)
  where
    go : (j ≡ i) ⊎ (j ≢ i) → get_or (set l i v) j 0 ≡ cond (eqb (suc j) (suc i)) v (get_or l j 0)
    go (inl e) = rw (e, eq-eqb (suc i) (suc i) refl) (get_or-set_same l i v 0 h)
    go (inr e) = rw (ne_eqb (suc j) (suc i) (λ z. e (omega arith))) (get_or-set_other l i j v 0 e)

-- the fault of a part stored at its place
pub fault_stored : (h : Health) (p : Part) (i : ℕ) → number p ≡ suc i → i < length (array_of h p)
    → health_of (with_array h p (set (array_of h p) i (fault p))) ≡ with_faults (health_of h) (p ∷ [])
unfolding health_of with_faults reported same_part
fault_stored h p i e l = λ x. record { health = fun_ext (go p e l) x; locked = fun_ext (lock p) x }
  where
    go : (p : Part) → number p ≡ suc i → i < length (array_of h p) → (q : Part)
        → (health_of (with_array h p (set (array_of h p) i (fault p)))).health q ≡ (with_faults (health_of h) (p ∷ [])).health q
    go (Generator k) e l (Generator j) = rw e (stored h.generators i 1 l j)
    go (Generator k) e l (GeneratorBreaker j) = refl
    go (Generator k) e l (BusBreaker j) = refl
    go (GeneratorBreaker k) e l (Generator j) = refl
    go (GeneratorBreaker k) e l (GeneratorBreaker j) = rw e (stored h.generator_breakers i 2 l j)
    go (GeneratorBreaker k) e l (BusBreaker j) = refl
    go (BusBreaker k) e l (Generator j) = refl
    go (BusBreaker k) e l (GeneratorBreaker j) = refl
    go (BusBreaker k) e l (BusBreaker j) = rw e (stored h.bus_breakers i 2 l j)

    -- "Neither lock nor health alters the other" (Note 7)
    lock : (p : Part) (g : ℕ) → (health_of (with_array h p (set (array_of h p) i (fault p)))).locked g ≡ (with_faults (health_of h) (p ∷ [])).locked g
    lock (Generator k) g = sym (faults_locked (health_of h) (Generator k ∷ []) g)
    lock (GeneratorBreaker k) g = sym (faults_locked (health_of h) (GeneratorBreaker k ∷ []) g)
    lock (BusBreaker k) g = sym (faults_locked (health_of h) (BusBreaker k ∷ []) g)
