-- The search for the sets of one size: the next part is taken, with a fault fewer to spend, or passed by.
use Rattle.std.specs.Prelude.{◌≡◌, Bool, true, false, ◌⊎◌, ◌≢◌, length, drop}
use Rattle.std.proofs.Math.Path.{refl, ap}
use Rattle.std.proofs.Common.{sym, ◌∙◌, inl, inr, length-append, length-drop}
use mathlib.Core.List.Memᴰ
use mathlib.Core.List.{
  List,
  [],
  ◌∷◌,
  ◌++◌,
  map,
  flat_map,
  map-append,
  append_assoc,
  append-nil,
}
use Prim.Native.Nat.{ℕ, zero, suc, ◌+◌, ◌-◌, ◌*◌, ◌≤◌, ◌<◌}
use native.Mathlib.Omega.{arith}
use Rattle.std.proofs.lemmas.List.{length-map}
use Rattle.partsets.specs.declared.PartSet.{PartSet}
use Rattle.model.specs.declared.Part.{Part}
use Rattle.model.specs.Lists.{keep, ◌∈◌}
use Rattle.model.specs.Plant.{PartHealth, parts}
use Rattle.model.specs.CutSets.{can_fail, minimal, of_size, set_bytes}
use Rattle.model.specs.Laws.Lists.{flat_append, map_at, keep_append, keep_length, keep_none}
use Rattle.model.specs.Laws.Parts.{parts_length}
use Rattle.model.specs.Laws.CutSets.{bytes_count}
use Rattle.model.specs.Laws.Appended.{Appended, appended_none, appended_more}
use Rattle.model.specs.Laws.Tests.{dec}
use Rattle.theory.proofs.Proofs.Subsets.{size_at}
use Rattle.theory.proofs.Theorems.CutSets.{Idle, idle_superfluous}
use Rattle.faults.specs.Places.{part_at, parts_left, parts_ended}
use Rattle.partsets.specs.Sets.{Held, with_place, parts_of, held_more, parts_more}
use Rattle.partsets.specs.Minimal.{NoneCounts}

-- the sets that count among those of S and k more of the parts ps that can fail
unfoldable pub found : ℕ → PartHealth → ℕ → List Part → List Part → ℕ → List (List Part)
found n H b S ps k = keep (minimal n H b) (map (λ T. S ++ T) (of_size k (keep (can_fail H) ps)))

-- what is found with a set held, from place p on
abbrev pub found_from : ℕ → PartHealth → ℕ → PartSet → ℕ → ℕ → List (List Part)
found_from n H b s p k = found n H b (parts_of n s) (drop p (parts n)) k

-- ---- how many there can be

-- the number of sets of k of m parts
unfoldable pub most : ℕ → ℕ → ℕ
most m zero = 1
most zero (suc k) = 0
most (suc m) (suc k) = most m k + most m (suc k)

-- so many there are
pub size_count : (k : ℕ) (ps : List Part) → length (of_size k ps) ≡ most (length ps) k
unfolding of_size most
size_count zero ps = refl
size_count (suc k) [] = refl
size_count (suc k) (p ∷ ps) =
    omega (
      arith,
      length-append (map (λ T. p ∷ T) (of_size k ps)) (of_size (suc k) ps),
      length-map (of_size k ps) (λ T. p ∷ T),
      size_count k ps,
      size_count (suc k) ps,
    )

most_suc : (m k : ℕ) → most m k ≤ most (suc m) k
unfolding most
most_suc m zero = omega arith
most_suc m (suc k) = omega arith

most_add : (m d k : ℕ) → most m k ≤ most (m + d) k
most_add m zero k = let z : m + 0 ≡ m = omega arith in rw z (omega arith)
most_add m (suc d) k = let z : m + suc d ≡ suc (m + d) = omega arith in rw z (omega (arith, most_add m d k, most_suc (m + d) k))

-- fewer parts have no more sets
pub most_le : (m j k : ℕ) → m ≤ j → most m k ≤ most j k
most_le m j k l = let z : m + (j - m) ≡ j = omega arith in rw z at (most_add m (j - m) k)

found_count : (n : ℕ) (H : PartHealth) (b : ℕ) (S ps : List Part) (k m : ℕ) → length ps ≤ m → length (found n H b S ps k) ≤ most m k
unfolding found
found_count n H b S ps k m l =
    omega (
      arith,
      keep_length (minimal n H b) (map (λ T. S ++ T) (of_size k (keep (can_fail H) ps))),
      length-map (of_size k (keep (can_fail H) ps)) (λ T. S ++ T),
      size_count k (keep (can_fail H) ps),
      most_le (length (keep (can_fail H) ps)) m k (omega (arith, keep_length (can_fail H) ps)),
    )

-- ---- the cases

-- none counts
none_found : (n : ℕ) (H : PartHealth) (b : ℕ) (S ps : List Part) (k : ℕ) → NoneCounts n H b S k → found n H b S ps k ≡ []
unfolding found
none_found n H b S ps k f = keep_none (minimal n H b) (map (λ T. S ++ T) (of_size k (keep (can_fail H) ps))) go
  where
    go : (X : List Part) → X ∈ map (λ T. S ++ T) (of_size k (keep (can_fail H) ps)) → minimal n H b X ≡ false
    go X m =
        let t = map_at (λ T. S ++ T) (of_size k (keep (can_fail H) ps)) m in
        rw t.2 (f t.0 (size_at k (keep (can_fail H) ps) t.1).0)

module _ (n : ℕ) (H : PartHealth) (b : ℕ) (S : List Part) where
  -- no fault is left to spend
  found_none : (ps : List Part) → minimal n H b S ≡ false → found n H b S ps 0 ≡ []
  unfolding found of_size keep
  found_none ps e = rw (append-nil S, e)

  found_one : (ps : List Part) → minimal n H b S ≡ true → found n H b S ps 0 ≡ S ∷ []
  unfolding found of_size keep
  found_one ps e = rw (append-nil S, e)

  -- no part is left
  found_ended : (k : ℕ) → k ≢ 0 → found n H b S [] k ≡ []
  unfolding found of_size keep
  found_ended zero z = absurd (z refl)
  found_ended (suc k) z = refl

  -- the next part cannot fail
  found_passed : (q : Part) (ps : List Part) (k : ℕ) → can_fail H q ≡ false → found n H b S (q ∷ ps) k ≡ found n H b S ps k
  unfolding found keep
  found_passed q ps k e = rw e

  -- it is taken, then passed by
  found_both : (q : Part) (ps : List Part) (k : ℕ) → k ≢ 0 → can_fail H q ≡ true
      → found n H b S (q ∷ ps) k ≡ found n H b (S ++ (q ∷ [])) ps (k - 1) ++ found n H b S ps k
  unfolding found of_size keep
  found_both q ps zero z e = absurd (z refl)
  found_both q ps (suc k) z e =
      let w : suc k - 1 ≡ k = omega arith in
      rw (e, w)
      (ap (keep (minimal n H b)) (map-append (λ T. S ++ T) (map (λ T. q ∷ T) (of_size k F)) (of_size (suc k) F))
      ∙ keep_append (minimal n H b) (map (λ T. S ++ T) (map (λ T. q ∷ T) (of_size k F))) (map (λ T. S ++ T) (of_size (suc k) F))
      ∙ ap (λ (l : List (List Part)). keep (minimal n H b) l ++ keep (minimal n H b) (map (λ T. S ++ T) (of_size (suc k) F)))
      (shift (of_size k F)))
    where
      F : List Part
      F = keep (can_fail H) ps

      shift : (Ts : List (List Part)) → map (λ T. S ++ T) (map (λ T. q ∷ T) Ts) ≡ map (λ T. (S ++ (q ∷ [])) ++ T) Ts
      shift [] = refl
      shift (T ∷ Ts) = rw (shift Ts, append_assoc S (q ∷ []) T)

  -- it is on no path: no set with it counts
  found_idle : b < n → (q : Part) (ps : List Part) (k : ℕ) → k ≢ 0 → Idle n H q → found n H b S (q ∷ ps) k ≡ found n H b S ps k
  found_idle hb q ps k z idle = go (dec (can_fail H q))
    where
      held : (T : List Part) → q ∈ (S ++ (q ∷ [])) ++ T
      held T = Memᴰ.append_left T (Memᴰ.append_right S (Memᴰ.head refl))

      go : (can_fail H q ≡ true) ⊎ (can_fail H q ≡ false) → found n H b S (q ∷ ps) k ≡ found n H b S ps k
      go (inl e) =
          found_both q ps k z e
          ∙ ap (λ (l : List (List Part)). l ++ found n H b S ps k)
          (none_found n H b (S ++ (q ∷ [])) ps (k - 1) (λ T l. idle_superfluous n H b hb (held T) idle))
      go (inr e) = found_passed q ps k e

-- ---- for the code: a set is held, p is the next place, m parts are left and k faults to spend

pub record Searching (n b : ℕ) (s : PartSet) (p m k : ℕ) : Type 0 where
  pub bus : b < n
  pub size : n ≤ 20
  pub held : Held n s
  pub rest : p + m ≡ 3 * n
  pub spend : s.count + k ≤ 3

most_falls : (m k : ℕ) → k ≢ 0 → m ≢ 0 → most m k ≡ most (m - 1) (k - 1) + most (m - 1) k
unfolding most
most_falls m zero z y = absurd (z refl)
most_falls zero (suc k) z y = absurd (y refl)
most_falls (suc m) (suc k) z y = let u : suc m - 1 ≡ m = omega arith in let v : suc k - 1 ≡ k = omega arith in rw (u, v)

pub most_one : (m k : ℕ) → k ≡ 0 → most m k ≡ 1
unfolding most
most_one m k e = rw e

-- `after` is `before` with the sets stored, behind the first i, that are found with a set held from place p on; j is how many there are
-- then
pub record Stored (n : ℕ) (H : PartHealth) (b : ℕ) (s : PartSet) (p k : ℕ) (before : List ℕ) (i : ℕ) (after : List ℕ) (j : ℕ) : Type 0 where
  pub bytes : Appended (flat_map set_bytes (found_from n H b s p k)) before (3 * i) after (3 * j)

-- what is stored at each return
module _ (n : ℕ) (H : PartHealth) (b : ℕ) (s : PartSet) (p m k : ℕ) (l : List ℕ) (i : ℕ) where
  nothing_found : found_from n H b s p k ≡ [] → Stored n H b s p k l i l i
  unfolding flat_map
  nothing_found e = record { bytes = rw e (appended_none l (3 * i)) }

  pub ends_none : {t : Bool} → k ≡ 0 → t ≡ minimal n H b (parts_of n s) → t ≡ false → Stored n H b s p k l i l i
  ends_none z e f = nothing_found (rw z (found_none n H b (parts_of n s) (drop p (parts n)) (sym e ∙ f)))

  pub ends_one : {l' : List ℕ} {h j : ℕ} {t : Bool} → k ≡ 0 → t ≡ minimal n H b (parts_of n s) → t ≡ true
      → Appended (set_bytes (parts_of n s)) l h l' j → h ≡ 3 * i → j ≡ 3 * (i + 1) → Stored n H b s p k l i l' (i + 1)
  unfolding flat_map
  ends_one z e f a at to = record {
    bytes = rw (z, found_one n H b (parts_of n s) (drop p (parts n)) (sym e ∙ f), append-nil (set_bytes (parts_of n s))) (rw (at, to) at a);
  }

  pub ends_parts : k ≢ 0 → m ≡ 0 → p + m ≡ 3 * n → Stored n H b s p k l i l i
  ends_parts z e r = nothing_found (rw (parts_ended n p (omega arith)) (found_ended n H b (parts_of n s) k z))

  pub ends_hopeless : NoneCounts n H b (parts_of n s) k → Stored n H b s p k l i l i
  ends_hopeless f = nothing_found (none_found n H b (parts_of n s) (drop p (parts n)) k f)

  pub ends_passed : {p' : ℕ} {l' : List ℕ} {j : ℕ} → b < n → k ≢ 0 → m ≢ 0 → p + m ≡ 3 * n → Idle n H (part_at n p)
      → Stored n H b s p' k l i l' j → p' ≡ p + 1 → Stored n H b s p k l i l' j
  ends_passed hb z y r idle a next = record {
    bytes =
        rw (parts_left n p (omega arith), found_idle n H b (parts_of n s) hb (part_at n p) (drop (p + 1) (parts n)) k z idle)
        (rw next at a.bytes);
  }

  -- the sets with the next part, then those without it
  pub ends_both : {p' p'' k' j i' h : ℕ} {t : PartSet} {l' l'' : List ℕ} → length s.places ≡ 3 → s.count < 3 → k ≢ 0 → m ≢ 0
      → p + m ≡ 3 * n → can_fail H (part_at n p) ≡ true → t ≡ with_place s p
      → Stored n H b t p' k' l i l' j → Stored n H b s p'' k l' i' l'' h → p' ≡ p + 1 → p'' ≡ p + 1 → k' ≡ k - 1 → i' ≡ j
      → Stored n H b s p k l i l'' h
  ends_both full few z y r e is a c next next' fewer from = record {
    bytes =
        rw (
          parts_left n p (omega arith),
          found_both n H b (parts_of n s) (part_at n p) (drop (p + 1) (parts n)) k z e,
          flat_append set_bytes (found n H b (parts_of n s ++ (part_at n p ∷ [])) (drop (p + 1) (parts n)) (k - 1))
              (found_from n H b s (p + 1) k),
        )
        (appended_more (rw (is, parts_more n s p full few, next, fewer) at a.bytes) (rw (next', from) at c.bytes));
  }

-- so many more are found
pub more_found : {n : ℕ} {H : PartHealth} {b : ℕ} {s : PartSet} {p k i j : ℕ} {l l' : List ℕ} (m : ℕ) → Stored n H b s p k l i l' j
    → p + m ≡ 3 * n → j ≤ i + most m k
more_found {n} {H} {b} {s} {p} {k} m a r =
    omega (
      arith,
      a.bytes.end,
      bytes_count (found_from n H b s p k),
      found_count n H b (parts_of n s) (drop p (parts n)) k m (omega (arith, length-drop p (parts n), parts_length n)),
    )

-- ---- the next call

module _ {n b : ℕ} {s : PartSet} {p m k : ℕ} (g : Searching n b s p m k) where
  pub taken_on : {p' m' k' : ℕ} (t : PartSet) → length s.places ≡ 3 → k ≢ 0 → m ≢ 0 → t ≡ with_place s p → p' ≡ p + 1 → m' ≡ m - 1
      → k' ≡ k - 1 → Searching n b t p' m' k'
  unfolding with_place
  taken_on t full z y e next less fewer =
      let few : s.count < 3 = omega (arith, g.spend) in
      rw e
      (record {
        bus = g.bus;
        size = g.size;
        held = held_more n s p full few g.held (omega (arith, g.rest));
        rest = omega (arith, g.rest);
        spend = omega (arith, g.spend);
      })

  pub passed_on : {p' m' : ℕ} → m ≢ 0 → p' ≡ p + 1 → m' ≡ m - 1 → Searching n b s p' m' k
  passed_on y next less = record { bus = g.bus; size = g.size; held = g.held; rest = omega (arith, g.rest); spend = g.spend }

  pub at_part : m ≢ 0 → p < 3 * n
  at_part y = omega (arith, g.rest)

-- the room that it has
module _ (m k i L : ℕ) (z : k ≢ 0) (y : m ≢ 0) (room : 3 * (i + most m k) ≤ L) where
  pub room_taken : {m' k' : ℕ} → m' ≡ m - 1 → k' ≡ k - 1 → 3 * (i + most m' k') ≤ L
  room_taken less fewer = rw (less, fewer) (omega (arith, most_falls m k z y))

  pub room_passed : {m' : ℕ} → m' ≡ m - 1 → 3 * (i + most m' k) ≤ L
  room_passed less = rw less (omega (arith, most_falls m k z y))

  pub room_both : {m' k' j : ℕ} → j ≤ i + most (m - 1) k' → k' ≡ k - 1 → m' ≡ m - 1 → 3 * (j + most m' k) ≤ L
  room_both h fewer less = rw less (omega (arith, most_falls m k z y, rw fewer at h))
