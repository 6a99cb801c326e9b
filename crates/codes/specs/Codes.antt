-- Part codes: what each code names. Parts carry the paper's numbers, from 1.
use Rattle.std.specs.Prelude.{◌≡◌, refl, Bool, true, false, cond, ◌⊎◌, ℕ, zero, suc, ◌+◌, ◌-◌, ◌≤◌, ◌<◌, min, eqb}
use Rattle.std.proofs.Common.{◌∙◌, ap, inl, inr, arith, ne_eqb, lt-ltb, le-ltb}
use Rattle.std.proofs.Math.Option.{Option, none, some}
use Rattle.model.specs.declared.Part.{Part}
use Rattle.model.specs.declared.Part.TheVariants.{Generator, GeneratorBreaker, BusBreaker}
use Rattle.model.specs.Lists.{first}
use Rattle.model.specs.Values.{number, index, first_code, part_code}
use Rattle.model.specs.Plant.{largest, parts, InRing}
use Rattle.model.specs.Reports.{part_named}
use Rattle.model.specs.Refusals.{not_of_ring}
use Rattle.model.specs.Laws.Tests.{dec_lt}
use Rattle.model.specs.Laws.Lists.{first_none}
use Rattle.model.specs.Laws.Parts.{parts_at, code_only}
use Rattle.model.specs.Laws.Reports.{named_code}
use Rattle.components.specs.Tests.{is_true, is_false}

-- the code of a part of the ring names it, however large the ring is said to be
code_names : (n : ℕ) (p : Part) → InRing (min n largest) p → part_named n (part_code p) ≡ some p
unfolding part_named
code_names n p h =
    let least : min n largest ≡ min (min n largest) largest = omega arith in
    ap (λ k. first (λ q. eqb (part_code q) (part_code p)) (parts k)) least ∙ named_code (min n largest) p (omega arith) h

-- a code that no part of the ring has names none
names_none : (n c : ℕ) → ((p : Part) → InRing (min n largest) p → part_code p ≡ c → ⊥) → part_named n c ≡ none
unfolding part_named
names_none n c h =
    first_none (λ q. eqb (part_code q) c) (parts (min n largest)) (λ q m. ne_eqb (part_code q) c (h q (parts_at (min n largest) q m)))

-- the part, if a ring of n has it
unfoldable pub of_ring : ℕ → Part → Option Part
of_ring n p = cond (not_of_ring n p) none (some p)

-- 5 of a part's number, by cases: however the code words the test
pub ring_test : (n : ℕ) (p : Part) (r : Bool) → (number p < 1 → r ≡ false → ⊥) → (n < number p → r ≡ false → ⊥)
    → (largest < number p → r ≡ false → ⊥)
    → (0 < number p → number p ≤ n → number p ≤ largest → r ≡ true → ⊥) → r ≡ not_of_ring n p
unfolding not_of_ring
ring_test n p r low above beyond within = go (dec_lt (number p) 1) (dec_lt n (number p)) (dec_lt largest (number p))
  where
    go : (number p < 1) ⊎ (1 ≤ number p) → (n < number p) ⊎ (number p ≤ n) → (largest < number p) ⊎ (number p ≤ largest) → r ≡ not_of_ring n p
    go (inl l) m k = rw (lt-ltb (number p) 1) (is_true r (low l))
    go (inr l) (inl m) k = rw (le-ltb (number p) 1, lt-ltb (min n largest) (number p) (omega arith)) (is_true r (above m))
    go (inr l) (inr m) (inl k) = rw (le-ltb (number p) 1, lt-ltb (min n largest) (number p) (omega arith)) (is_true r (beyond k))
    go (inr l) (inr m) (inr k) = rw (le-ltb (number p) 1, le-ltb (min n largest) (number p) (omega arith))
        (is_false r (within (omega arith) m k))

-- the code of a part of the largest ring names it, if a ring of n has it
code_of_ring : (n : ℕ) (p : Part) → InRing largest p → part_named n (part_code p) ≡ of_ring n p
unfolding of_ring not_of_ring
code_of_ring n p h = go (dec_lt (min n largest) (number p))
  where
    go : (min n largest < number p) ⊎ (number p ≤ min n largest) → part_named n (part_code p) ≡ of_ring n p
    go (inl l) =
        rw (lt-ltb (min n largest) (number p), le-ltb (number p) 1 h.0)
        (names_none n (part_code p) (λ q i e. omega (arith, ap number (code_only largest q p (omega arith) (omega arith) h e))))
    go (inr l) = rw (le-ltb (min n largest) (number p), le-ltb (number p) 1 h.0) (code_names n p (h.0, l))

pub index_less : (k : ℕ) → index k ≡ k - 1
index_less zero = refl
index_less (suc i) = omega arith

pub first_code_most : (p : Part) → first_code p ≤ 64
first_code_most (Generator k) = omega arith
first_code_most (GeneratorBreaker k) = omega arith
first_code_most (BusBreaker k) = omega arith

-- a code of a range names the part of its kind and number, if the ring has it
pub in_range : (n c : ℕ) (p : Part) → InRing largest p → first_code p + number p ≡ c + 1 → part_named n c ≡ of_ring n p
unfolding part_code
in_range n c p h e = let z : c ≡ part_code p = omega (arith, index_less (number p)) in rw z (code_of_ring n p h)

-- a code of no range names none
pub outside_ranges : (n c : ℕ) → 20 ≤ c → (32 ≤ c → 52 ≤ c) → (64 ≤ c → 84 ≤ c) → part_named n c ≡ none
unfolding part_code
outside_ranges n c a b d = names_none n c go
  where
    go : (p : Part) → InRing (min n largest) p → part_code p ≡ c → ⊥
    go (Generator k) h e = omega (arith, index_less k)
    go (GeneratorBreaker k) h e = omega (arith, index_less k, b (omega (arith, index_less k)))
    go (BusBreaker k) h e = omega (arith, index_less k, d (omega (arith, index_less k)))

-- codes of two kinds are 32 apart: a part of so many has its own, and it names the part, if the ring has it
pub code_reads : (n : ℕ) (p : Part) → InRing 32 p → part_named n (part_code p) ≡ of_ring n p
unfolding part_code of_ring not_of_ring
code_reads n p h = go (dec_lt largest (number p))
  where
    outside : (q : Part) → InRing 32 q → largest < number q → part_named n (part_code q) ≡ none
    outside (Generator k) i l = outside_ranges n _ (omega (arith, index_less k)) (λ j. absurd (omega (arith, index_less k)))
        (λ j. absurd (omega (arith, index_less k)))
    outside (GeneratorBreaker k) i l =
        outside_ranges n _ (omega (arith, index_less k)) (λ j. omega (arith, index_less k)) (λ j. absurd (omega (arith, index_less k)))
    outside (BusBreaker k) i l = outside_ranges n _ (omega (arith, index_less k)) (λ j. omega (arith, index_less k))
        (λ j. omega (arith, index_less k))

    go : (largest < number p) ⊎ (number p ≤ largest) → part_named n (part_code p) ≡ of_ring n p
    go (inl l) = rw (lt-ltb (min n largest) (number p) (omega arith), le-ltb (number p) 1 h.0) (outside p h l)
    go (inr l) = code_of_ring n p (h.0, l)
