-- A set that is being made, held by the places of its parts: the parts, their faults, and their bytes.
use Rattle.std.specs.Prelude.{◌≡◌, ◌⊎◌, ◌≢◌, ℕ, zero, suc, ◌+◌, ◌-◌, ◌*◌, ◌≤◌, ◌<◌, set, take, drop}
use Rattle.std.proofs.Math.Path.{refl, sym, ap}
use Rattle.std.proofs.Common.{◌∙◌, inl, inr, arith, add-one, get_or-set_other, get_or-take, take-take, drop-cons, drop_of_length-le}
use mathlib.Core.List.{List, [], ◌∷◌, ◌++◌, map, map-append}
use Rattle.std.proofs.Math.ListN.{length, get_or, get_or-append, get_or-replicate}
use Rattle.std.proofs.lemmas.List.{length-map, drop-take}
use Rattle.std.proofs.Math.Seq.{get_or-append-add, get_or-set_same, take-suc-set, length-take-le}
use Rattle.partsets.specs.declared.PartSet.{PartSet}
use Rattle.model.specs.declared.Part.{Part}
use Rattle.model.specs.Values.{part_code}
use Rattle.model.specs.Plant.{PartHealth}
use Rattle.model.specs.CutSets.{with_faults, set_bytes}
use Rattle.model.specs.Laws.Tests.{dec_eq}
use Rattle.model.specs.Laws.Lists.{map_within}
use Rattle.model.specs.Laws.CutSets.{faults_both}
use Rattle.model.specs.Laws.Appended.{Appended, appended_one, appended_two}
use Rattle.theory.proofs.Proofs.Subsets.{without}
use Rattle.faults.specs.Places.{part_at}

-- the set with one part more, at the next index
unfoldable pub with_place : PartSet → ℕ → PartSet
with_place s p = record { places = set s.places s.count p; count = s.count + 1 }

-- places of the ring
abbrev pub Inside : ℕ → List ℕ → Type 0
Inside n l = (i : ℕ) → i < length l → get_or l i 0 < 3 * n

-- at most three places, each of the ring
pub record Held (n : ℕ) (s : PartSet) : Type 0 where
  pub few : s.count ≤ 3
  pub inside : (i : ℕ) → i < s.count → get_or s.places i 0 < 3 * n

-- its parts
unfoldable pub parts_of : ℕ → PartSet → List Part
parts_of n s = map (part_at n) (take s.count s.places)

-- a set of no places has no parts
pub none_held : (n : ℕ) (s : PartSet) → s.count ≡ 0 → parts_of n s ≡ []
unfolding parts_of
none_held n s e = rw e

module _ (n : ℕ) (s : PartSet) (p : ℕ) (full : length s.places ≡ 3) (l : s.count < 3) where
  pub held_more : Held n s → p < 3 * n → Held n (with_place s p)
  unfolding with_place
  held_more h q = record { few = omega arith; inside = λ i k. go i k (dec_eq i s.count) }
    where
      go : (i : ℕ) → i < s.count + 1 → (i ≡ s.count) ⊎ (i ≢ s.count) → get_or (set s.places s.count p) i 0 < 3 * n
      go i k (inl e) = rw (e, get_or-set_same s.places s.count p 0 (omega arith)) q
      go i k (inr e) = rw (get_or-set_other s.places s.count i p 0 e) (h.inside i (omega arith))

  pub parts_more : parts_of n (with_place s p) ≡ parts_of n s ++ (part_at n p ∷ [])
  unfolding with_place parts_of
  parts_more = rw (add-one, take-suc-set s.places s.count p (omega arith), map-append)

-- ---- the faults of a set

module _ (n : ℕ) (H : PartHealth) (l : List ℕ) (i : ℕ) where
  -- one part more
  pub fault_step : i < length l
      → with_faults H (map (part_at n) (drop i l)) ≡ with_faults (with_faults H (part_at n (get_or l i 0) ∷ [])) (map (part_at n) (drop (i + 1) l))
  fault_step h =
      rw (add-one, drop-cons l i 0 h)
      (faults_both H (part_at n (get_or l i 0) ∷ []) (map (part_at n) (drop (suc i) l)))

  pub fault_end : length l ≤ i → with_faults H (map (part_at n) (drop i l)) ≡ H
  unfolding with_faults
  fault_end e = rw (drop_of_length-le l {i = i} e)

map_take : (f : ℕ → Part) (i : ℕ) (l : List ℕ) → take i (map f l) ≡ map f (take i l)
map_take f zero l = refl
map_take f (suc i) [] = refl
map_take f (suc i) (x ∷ l) = ap (λ (r : List Part). f x ∷ r) (map_take f i l)

map_drop : (f : ℕ → Part) (i : ℕ) (l : List ℕ) → drop i (map f l) ≡ map f (drop i l)
map_drop f zero l = refl
map_drop f (suc i) [] = refl
map_drop f (suc i) (x ∷ l) = map_drop f i l

-- the places after an index, as code cuts them
pub places_behind : (s : PartSet) (i : ℕ) → i < s.count → take (s.count - (i + 1)) (drop (i + 1) s.places) ≡ drop (i + 1) (take s.count s.places)
places_behind s i h =
    let z : i + 1 + (s.count - (i + 1)) ≡ s.count = omega arith in
    sym (rw z at (drop-take (i + 1) (s.count - (i + 1)) s.places))

-- the parts before an index and those after it
without_parts : (n : ℕ) (s : PartSet) (i : ℕ) → i < s.count
    → without i (parts_of n s) ≡ map (part_at n) (take i s.places) ++ map (part_at n) (drop (i + 1) (take s.count s.places))
unfolding without parts_of
without_parts n s i h =
    rw (add-one, map_take (part_at n) i (take s.count s.places), map_drop (part_at n) (suc i) (take s.count s.places))
    (rw (take-take i s.count s.places (omega arith)))

module _ (n : ℕ) (H : PartHealth) (s : PartSet) where
  pub other_faults : (i : ℕ) (J : PartHealth) → i < s.count → J ≡ with_faults H (map (part_at n) (take i s.places))
      → with_faults J (map (part_at n) (drop (i + 1) (take s.count s.places))) ≡ with_faults H (without i (parts_of n s))
  other_faults i J h e =
      rw (e, without_parts n s i h, faults_both H (map (part_at n) (take i s.places)) (map (part_at n) (drop (i + 1) (take s.count s.places))))

pub parts_count : (n : ℕ) (s : PartSet) → length s.places ≡ 3 → s.count ≤ 3 → length (parts_of n s) ≡ s.count
unfolding parts_of
parts_count n s full l = length-map (take s.count s.places) (part_at n) ∙ length-take-le s.count s.places (omega arith)

-- ---- the bytes of a set

module _ (n : ℕ) (s : PartSet) (full : length s.places ≡ 3) (few : s.count ≤ 3) (i : ℕ) (small : i < 3) where
  abbrev unused : List ℕ
  unused = 255 ∷ 255 ∷ 255 ∷ []

  abbrev codes : List ℕ
  codes = map part_code (parts_of n s)

  codes_length : length codes ≡ s.count
  codes_length = length-map (parts_of n s) part_code ∙ parts_count n s full few

  held_code : i < s.count → get_or codes i 0 ≡ part_code (part_at n (get_or s.places i 0))
  unfolding parts_of
  held_code l =
      map_within part_code (parts_of n s) i (part_at n 0) 0 (omega (arith, parts_count n s full few))
      ∙ ap part_code
      (map_within (part_at n) (take s.count s.places) i 0 (part_at n 0)
      (omega (arith, length-take-le s.count s.places (omega arith)))
      ∙ ap (part_at n) (get_or-take s.count s.places i 0 l))

  pub byte_used : i < s.count → part_code (part_at n (get_or s.places i 0)) ≡ get_or (set_bytes (parts_of n s)) i 0
  unfolding set_bytes
  byte_used l =
      sym
      (get_or-take 3 (codes ++ unused) i 0 small
      ∙ get_or-append codes unused 0 i (omega (arith, codes_length))
      ∙ held_code l)

  pub byte_unused : s.count ≤ i → 255 ≡ get_or (set_bytes (parts_of n s)) i 0
  unfolding set_bytes
  byte_unused l =
      let z : i ≡ length codes + (i - s.count) = omega (arith, codes_length) in
      sym
      (get_or-take 3 (codes ++ unused) i 0 small
      ∙ ap (λ j. get_or (codes ++ unused) j 0) z
      ∙ get_or-append-add codes unused (i - s.count) 0
      ∙ get_or-replicate 3 (i - s.count) 255 0 (omega arith))

three : (l : List ℕ) → length l ≡ 3 → l ≡ get_or l 0 0 ∷ get_or l 1 0 ∷ get_or l 2 0 ∷ []
three [] e = absurd (omega arith)
three (x ∷ []) e = absurd (omega arith)
three (x ∷ y ∷ []) e = absurd (omega arith)
three (x ∷ y ∷ z ∷ []) e = refl
three (x ∷ y ∷ z ∷ w ∷ l) e = absurd (omega arith)

-- three bytes stored one after the other
pub bytes_put : (l b : List ℕ) (at j x y z : ℕ) → length l ≡ 3 → x ≡ get_or l 0 0 → y ≡ get_or l 1 0 → z ≡ get_or l 2 0 → j ≡ at + 3
    → Appended l b at (set (set (set b at x) (at + 1) y) (at + 2) z) j
bytes_put l b at j x y z e p q r h = appended_one z (three l e ∙ rw (p, q, r)) (omega arith) (appended_two x y b at)
