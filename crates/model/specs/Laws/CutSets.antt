-- Laws of further faults and of the sheet of minimal cut sets.
use Rattle.std.specs.Prelude.{◌≡◌, refl, Bool, true, false, ◌||◌, cond, ◌⊎◌, ℕ, zero, suc, ◌+◌, ◌*◌, ◌/◌, ◌%◌, ◌≤◌, ◌<◌, length, get_or}
use Rattle.std.proofs.Common.{sym, ◌∙◌, ap, inl, inr, zero-add, arith, length-append, length-take-le, get_or-append-add}
use mathlib.Core.List.Memᴰ
use mathlib.Core.List.{List, [], ◌∷◌, ◌++◌, map, flat_map, append_assoc}
use Rattle.std.proofs.Math.ListN.{get_or-append}
use Rattle.model.specs.declared.Part.{Part}
use Rattle.model.specs.declared.Part.TheVariants.{Generator, GeneratorBreaker, BusBreaker}
use Rattle.model.specs.Lists.{any_of, ◌∈◌}
use Rattle.model.specs.Values.{part_code, same_part, word_number}
use Rattle.model.specs.Plant.{PartHealth, generator, InRing}
use Rattle.model.specs.Reports.{health_by, lock_by, reported}
use Rattle.model.specs.CutSets.{most_faults, fault_word, fault_report, with_faults, set_bytes, cut_sheet}
use Rattle.model.specs.Laws.Tests.{contra, dec}
use Rattle.model.specs.Laws.Lists.{all_cons, any_at, any_in, any_false}
use Rattle.model.specs.Laws.Parts.{same_eq, same_refl}

-- the health that its further fault gives a part
abbrev pub fault : Part → ℕ
fault p = word_number (fault_word p)

either : (t : Bool) (x : ℕ) → cond t x x ≡ x
either true x = refl
either false x = refl

-- a further fault is a word about health
pub fault_health : (p : Part) (h : ℕ) → health_by (fault_word p) h ≡ fault p
fault_health (Generator k) h = refl
fault_health (GeneratorBreaker k) h = refl
fault_health (BusBreaker k) h = refl

fault_lock : (p : Part) (l : Bool) → lock_by (fault_word p) l ≡ l
fault_lock (Generator k) l = refl
fault_lock (GeneratorBreaker k) l = refl
fault_lock (BusBreaker k) l = refl

-- a part of the set has its fault's health, any other its own
pub after_faults : (H : PartHealth) (S : List Part) (p : Part)
    → (with_faults H S).health p ≡ cond (any_of (same_part p) S) (fault p) (H.health p)
unfolding with_faults any_of reported
after_faults H [] p = refl
after_faults H (q ∷ S) p = after_faults (reported H (fault_report q)) S p ∙ go (dec (same_part p q))
  where
    go : (same_part p q ≡ true) ⊎ (same_part p q ≡ false)
        → cond (any_of (same_part p) S) (fault p) ((reported H (fault_report q)).health p)
        ≡ cond (same_part p q || any_of (same_part p) S) (fault p) (H.health p)
    go (inl e) =
        let z : health_by (fault_word q) (H.health p) ≡ fault p = fault_health q (H.health p) ∙ ap fault (sym (same_eq p q e)) in
        rw (e, z) (either (any_of (same_part p) S) (fault p))
    go (inr e) = rw e

-- further faults alter no lock
pub faults_locked : (H : PartHealth) (S : List Part) (g : ℕ) → (with_faults H S).locked g ≡ H.locked g
unfolding with_faults reported
faults_locked H [] g = refl
faults_locked H (q ∷ S) g = faults_locked (reported H (fault_report q)) S g ∙ go (same_part (generator g) q)
  where
    go : (t : Bool) → cond t (lock_by (fault_word q) (H.locked g)) (H.locked g) ≡ H.locked g
    go true = fault_lock q (H.locked g)
    go false = refl

module _ (H : PartHealth) (S : List Part) (p : Part) where
  pub failed : p ∈ S → (with_faults H S).health p ≡ fault p
  failed m = after_faults H S p ∙ rw (any_in (same_part p) m (same_refl p))

  pub kept : (p ∈ S → ⊥) → (with_faults H S).health p ≡ H.health p
  kept out = after_faults H S p ∙ rw (any_false (same_part p) S (λ q m. go q m (dec (same_part p q))))
    where
      go : (q : Part) → q ∈ S → (same_part p q ≡ true) ⊎ (same_part p q ≡ false) → same_part p q ≡ false
      go q m (inl e) = absurd (out (Memᴰ.cast (same_eq p q e) m))
      go q m (inr e) = e

-- a part is in a set, or it is not
pub in_or_out : (p : Part) (S : List Part) → (p ∈ S) ⊎ (p ∈ S → ⊥)
in_or_out p S = go (dec (any_of (same_part p) S))
  where
    go : (any_of (same_part p) S ≡ true) ⊎ (any_of (same_part p) S ≡ false) → (p ∈ S) ⊎ (p ∈ S → ⊥)
    go (inl e) = let t = any_at (same_part p) S e in inl (Memᴰ.cast (same_eq p t.0 t.2) t.1)
    go (inr e) = inr (λ m. contra (any_in (same_part p) m (same_refl p)) e)

-- two lists of parts have one in common, or none
pub common_or_apart : (S T : List Part) → ((p : Part) × (p ∈ T) × (p ∈ S)) ⊎ ((p : Part) → p ∈ S → p ∈ T → ⊥)
common_or_apart [] T = inr (λ p m k. Memᴰ.not-nil m)
common_or_apart (q ∷ S) T = go (in_or_out q T) (common_or_apart S T)
  where
    go : (q ∈ T) ⊎ (q ∈ T → ⊥) → ((p : Part) × (p ∈ T) × (p ∈ S)) ⊎ ((p : Part) → p ∈ S → p ∈ T → ⊥)
        → ((p : Part) × (p ∈ T) × (p ∈ q ∷ S)) ⊎ ((p : Part) → p ∈ q ∷ S → p ∈ T → ⊥)
    go (inl m) r = inl (q, m, Memᴰ.head refl)
    go (inr f) (inl t) = inl (t.0, t.1, Memᴰ.tail t.2)
    go (inr f) (inr g) = inr (all_cons (λ p. p ∈ T → ⊥) f g)

-- the faults of two sets, one after the other
pub faults_both : (H : PartHealth) (S T : List Part) → with_faults H (S ++ T) ≡ with_faults (with_faults H S) T
unfolding with_faults
faults_both H [] T = refl
faults_both H (p ∷ S) T = faults_both (reported H (fault_report p)) S T

-- ---- the sheet

-- "three bytes a set"
pub bytes_length : (S : List Part) → length (set_bytes S) ≡ 3
unfolding set_bytes
bytes_length S =
    length-take-le 3 (map part_code S ++ (255 ∷ 255 ∷ 255 ∷ []))
    (omega (arith, length-append (map part_code S) (255 ∷ 255 ∷ 255 ∷ [])))

pub bytes_count : (Ss : List (List Part)) → length (flat_map set_bytes Ss) ≡ 3 * length Ss
unfolding flat_map
bytes_count [] = refl
bytes_count (S ∷ Ss) = omega (arith, length-append (set_bytes S) (flat_map set_bytes Ss), bytes_length S, bytes_count Ss)

-- "a two-byte count .., then three bytes a set"
pub cut_sheet_length : (Ss : List (List Part)) → length (cut_sheet Ss) ≡ 2 + 3 * length Ss
unfolding cut_sheet
cut_sheet_length Ss = omega (arith, bytes_count Ss)

-- byte j of set i ..
byte_at : (sets : List (List Part)) (rest : List ℕ) (i j : ℕ) → i < length sets → j < 3
    → get_or (flat_map set_bytes sets ++ rest) (3 * i + j) 0 ≡ get_or (set_bytes (get_or sets i [])) j 0
unfolding flat_map
byte_at [] rest i j h l = absurd (omega arith)
byte_at (S ∷ sets) rest zero j h l =
    rw (zero-add, append_assoc) (get_or-append (set_bytes S) (flat_map set_bytes sets ++ rest) 0 j (omega (arith, bytes_length S)))
byte_at (S ∷ sets) rest (suc i) j h l =
    let e : 3 * suc i + j ≡ length (set_bytes S) + (3 * i + j) = omega (arith, bytes_length S) in
    rw (e, append_assoc)
    (get_or-append-add (set_bytes S) (flat_map set_bytes sets ++ rest) (3 * i + j) 0 ∙ byte_at sets rest i j (omega arith) l)

-- .. behind the count ..
pub behind_count : (sets : List (List Part)) (rest : List ℕ) (k : ℕ)
    → get_or (cut_sheet sets ++ rest) (2 + k) 0 ≡ get_or (flat_map set_bytes sets ++ rest) k 0
unfolding cut_sheet
behind_count sets rest k = get_or-append-add ((length sets % 256) ∷ (length sets / 256) ∷ []) (flat_map set_bytes sets ++ rest) k 0

-- .. in the sheet, whatever stands behind that
pub sheet_byte : (sets : List (List Part)) (rest : List ℕ) (i j k : ℕ) → i < length sets → j < 3 → k ≡ 2 + 3 * i + j
    → get_or (cut_sheet sets ++ rest) k 0 ≡ get_or (set_bytes (get_or sets i [])) j 0
sheet_byte sets rest i j k h l e =
    let z : k ≡ 2 + (3 * i + j) = omega arith in
    rw z (behind_count sets rest (3 * i + j) ∙ byte_at sets rest i j h l)

-- a set of at most three parts of a ring of n
abbrev pub Few : ℕ → List Part → Type 0
Few n S = (length S ≤ most_faults) × ((p : Part) → p ∈ S → InRing n p)
