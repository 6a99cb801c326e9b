-- Whether a set counts, and when no larger one does.
use Rattle.std.specs.Prelude.{◌≡◌, Bool, false, ◌⊎◌, List, ◌++◌, ℕ, ◌+◌, ◌-◌, ◌<◌, map, take, drop, length}
use Rattle.std.proofs.Common.{sym, inl, inr, arith}
use Rattle.std.proofs.Math.Bool.{true}
use Rattle.std.proofs.Math.ListN.{length-append}
use Rattle.partsets.specs.declared.PartSet.{PartSet}
use Rattle.model.specs.declared.Part.{Part}
use Rattle.model.specs.Lists.{is_none}
use Rattle.model.specs.Plant.{PartHealth}
use Rattle.model.specs.Choosing.{plan}
use Rattle.model.specs.CutSets.{with_faults, darkens, minimal}
use Rattle.model.specs.Laws.Tests.{dec}
use Rattle.model.specs.Laws.CutSets.{faults_both}
use Rattle.theory.proofs.Proofs.Subsets.{sub_front, without, without_proper}
use Rattle.theory.proofs.Theorems.CutSets.{not_dark, not_least, minimal_one}
use Rattle.outages.specs.Least.{Least}
use Rattle.faults.specs.Places.{part_at}
use Rattle.partsets.specs.Sets.{parts_of, places_behind, other_faults}

-- no set of S and k parts more counts
abbrev pub NoneCounts : ℕ → PartHealth → ℕ → List Part → ℕ → Type 0
NoneCounts n H b S k = (T : List Part) → length T ≡ k → minimal n H b (S ++ T) ≡ false

module _ (n : ℕ) (H : PartHealth) (b : ℕ) (S : List Part) (m k : ℕ) (l : Least n (with_faults H S) b m) where
  -- more faults are needed
  pub too_few : k < m → NoneCounts n H b S k
  unfolding darkens
  too_few h T e = not_dark n H b (S ++ T) (go (dec (darkens n H b (S ++ T))))
    where
      after : darkens n H b (S ++ T) ≡ true → darkens n (with_faults H S) b T ≡ true
      after d = rw (faults_both H S T) at d

      go : (darkens n H b (S ++ T) ≡ true) ⊎ (darkens n H b (S ++ T) ≡ false) → darkens n H b (S ++ T) ≡ false
      go (inl d) = absurd (omega (arith, l.bound T (after d)))
      go (inr d) = d

  -- the bus is dark already
  pub too_many : m ≡ 0 → 0 < k → NoneCounts n H b S k
  unfolding darkens
  too_many z h T e = not_least n H b (S ++ T) S (sub_front S T, omega (arith, length-append S T)) (l.dark z)

-- ---- one part left out at a time

-- the health K after the faults of all parts of a set, and that after those of all but one
module _ (n : ℕ) (H : PartHealth) (b : ℕ) (s : PartSet) {K : PartHealth} where
  pub least_after : {m : ℕ} → K ≡ with_faults H (map (part_at n) (take s.count s.places)) → Least n K b m
      → Least n (with_faults H (parts_of n s)) b m
  unfolding parts_of
  least_after e l = rw e at l

  pub dark_after : {t : Bool} → K ≡ with_faults H (map (part_at n) (take s.count s.places)) → is_none (plan n K b) ≡ t
      → darkens n H b (parts_of n s) ≡ t
  unfolding darkens parts_of
  dark_after e d = rw e at d

  -- the faults of the parts up to index i are those before the one left out, those from the next on those behind it
  pub dark_without : (i : ℕ) {J : PartHealth} {t : Bool} → i < s.count
      → J ≡ with_faults H (map (part_at n) (take i s.places))
      → K ≡ with_faults J (map (part_at n) (take (s.count - (i + 1)) (drop (i + 1) s.places))) → is_none (plan n K b) ≡ t
      → darkens n H b (without i (parts_of n s)) ≡ t
  unfolding darkens
  dark_without i {J = J} h e f d = rw (other_faults n H s i J h e) at (rw (f, places_behind s i h) at d)

module _ (n : ℕ) (H : PartHealth) (b : ℕ) (hb : b < n) (S : List Part) where
  pub lit : darkens n H b S ≡ false → false ≡ minimal n H b S
  lit e = sym (not_dark n H b S e)

  pub larger : (i : ℕ) → i < length S → darkens n H b (without i S) ≡ true → false ≡ minimal n H b S
  larger i l e = sym (not_least n H b S (without i S) (without_proper i S l) e)

  pub least : darkens n H b S ≡ true → ((i : ℕ) → i < length S → darkens n H b (without i S) ≡ false) → true ≡ minimal n H b S
  least d f = sym (minimal_one n H b hb S d f)
