-- All sizes, one after the other, and how many sets there can be.
use Rattle.std.specs.Prelude.{◌≡◌, ℕ, zero, suc, ◌+◌, ◌-◌, ◌*◌, ◌≤◌, ◌<◌, length}
use Rattle.std.proofs.Math.Path.{refl}
use Rattle.std.proofs.Common.{◌∙◌, ap, arith, add-one, length-append}
use mathlib.Core.List.{List, ◌++◌, flat_map, map-id}
use Rattle.partsets.specs.declared.PartSet.{PartSet}
use Rattle.model.specs.declared.Part.{Part}
use Rattle.model.specs.Lists.{below, keep}
use Rattle.model.specs.Plant.{PartHealth, parts}
use Rattle.model.specs.CutSets.{can_fail, further_faults, minimal, of_size, sizes_below, cut_sets, set_bytes}
use Rattle.model.specs.Laws.Lists.{flat_append, keep_append, keep_length}
use Rattle.model.specs.Laws.Parts.{parts_length}
use Rattle.model.specs.Laws.Appended.{Appended, appended_none, appended_more}
use Rattle.theory.proofs.Proofs.Subsets.{sizes_next}
use Rattle.partsets.specs.Sets.{none_held}
use Rattle.cutsets.specs.Search.{found, found_from, Stored, most, size_count, most_le, more_found, Searching}

-- the sets of fewer than k parts that count
unfoldable pub listed_to : ℕ → PartHealth → ℕ → ℕ → List (List Part)
listed_to n H b k = keep (minimal n H b) (sizes_below k (further_faults n H))

-- no set is held
abbrev pub Blank : PartSet → Type 0
Blank s = s.count ≡ 0

module _ (n : ℕ) (H : PartHealth) (b : ℕ) where
  pub listed_all : listed_to n H b 4 ≡ cut_sets n H b
  unfolding listed_to cut_sets
  listed_all = refl

  listed_next : (s : PartSet) (k : ℕ) → Blank s → listed_to n H b (k + 1) ≡ listed_to n H b k ++ found_from n H b s 0 k
  unfolding listed_to found further_faults
  listed_next s k e =
      rw (add-one, none_held n s e, map-id)
      (ap (keep (minimal n H b)) (sizes_next k (further_faults n H))
      ∙ keep_append (minimal n H b) (sizes_below k (further_faults n H)) (of_size k (further_faults n H)))

  pub listed_more : (s : PartSet) (k i j : ℕ) (l l' l'' : List ℕ) → Blank s → Appended (flat_map set_bytes (listed_to n H b k)) l 0 l' (3 * i)
      → Stored n H b s 0 k l' i l'' j → Appended (flat_map set_bytes (listed_to n H b (k + 1))) l 0 l'' (3 * j)
  listed_more s k i j l l' l'' e a c =
      rw (listed_next s k e, flat_append set_bytes (listed_to n H b k) (found_from n H b s 0 k)) (appended_more a c.bytes)

  pub listed_start : (l : List ℕ) → Appended (flat_map set_bytes (listed_to n H b 0)) l 0 l 0
  unfolding listed_to sizes_below below keep flat_map
  listed_start l = appended_none l 0

-- ---- no more than so many

-- the sets of fewer than k of sixty parts
unfoldable pub most_to : ℕ → ℕ
most_to zero = 0
most_to (suc k) = most_to k + most 60 k

most_all : most_to 4 ≡ 36051
unfolding most_to most
most_all = refl

most_up : (k d : ℕ) → most_to k ≤ most_to (k + d)
unfolding most_to
most_up k zero = let z : k + 0 ≡ k = omega arith in rw z (omega arith)
most_up k (suc d) = let z : k + suc d ≡ suc (k + d) = omega arith in rw z (omega (arith, most_up k d))

most_next : (k : ℕ) → k < 4 → (most_to (k + 1) ≡ most_to k + most 60 k) × (most_to k + most 60 k ≤ 36051)
unfolding most_to
most_next k l =
    let z : suc k + (3 - k) ≡ 4 = omega arith in
    let u : most_to (suc k) ≤ most_to 4 = rw z at (most_up (suc k) (3 - k)) in
    (rw add-one, omega (arith, most_all))

pub most_end : (i k : ℕ) → i ≡ 4 → k ≤ most_to i → k ≤ 36051
most_end i k e l = let u : k ≤ most_to 4 = rw e at l in omega (arith, most_all)

listed_count : (n : ℕ) (H : PartHealth) (b : ℕ) → n ≤ 20 → (k : ℕ) → length (listed_to n H b k) ≤ most_to k
unfolding listed_to further_faults most_to sizes_below below keep flat_map
listed_count n H b h zero = omega arith
listed_count n H b h (suc k) =
    let F = keep (can_fail H) (parts n) in
    let e : keep (minimal n H b) (sizes_below (suc k) F) ≡ keep (minimal n H b) (sizes_below k F) ++ keep (minimal n H b) (of_size k F) =
    ap (keep (minimal n H b)) (sizes_next k F) ∙ keep_append (minimal n H b) (sizes_below k F) (of_size k F) in
    omega (
      arith,
      ap length e,
      length-append (keep (minimal n H b) (sizes_below k F)) (keep (minimal n H b) (of_size k F)),
      listed_count n H b h k,
      keep_length (minimal n H b) (of_size k F),
      size_count k F,
      most_le (length F) 60 k (omega (arith, keep_length (can_fail H) (parts n), parts_length n)),
    )

-- so no bus has more
pub cut_sets_few : (n : ℕ) (H : PartHealth) (b : ℕ) → n ≤ 20 → length (cut_sets n H b) ≤ 36051
cut_sets_few n H b h = omega (arith, ap length (listed_all n H b), listed_count n H b h 4, most_all)

pub room_size : (n k i L : ℕ) → n ≤ 20 → k < 4 → i ≤ most_to k → 108153 ≤ L → 3 * (i + most (3 * n) k) ≤ L
room_size n k i L h l r f = omega (arith, most_le (3 * n) 60 k (omega arith), (most_next k l).1)

pub more_listed : (n : ℕ) (H : PartHealth) (b : ℕ) (s : PartSet) (k i j : ℕ) (l l' : List ℕ) → n ≤ 20 → k < 4 → i ≤ most_to k
    → Stored n H b s 0 k l i l' j → j ≤ most_to (k + 1)
more_listed n H b s k i j l l' h q r a =
    omega (arith, more_found (3 * n) a (omega arith), most_le (3 * n) 60 k (omega arith), (most_next k q).0)

pub searching_size : (n b : ℕ) (s : PartSet) (k : ℕ) → b < n → n ≤ 20 → k < 4 → Blank s → Searching n b s 0 (3 * n) k
searching_size n b s k hb hn l e =
    record {
      bus = hb;
      size = hn;
      held = record { few = omega arith; inside = λ i h. absurd (omega arith) };
      rest = omega arith;
      spend = omega arith;
    }
