-- Document 02, Note 4: the parts of the closing phase are those whose command changes to on or closed, each once; they are as before in
-- another order, and a sheet has at most 122 bytes. Parts above n are not read.
use Rattle.std.specs.Prelude.{◌≡◌, true, false, ◌&&◌, ◌⊎◌, ◌≢◌, ◌↔◌, length}
use Rattle.std.proofs.Math.Path.{refl, ap₂}
use Rattle.std.proofs.Common.{◌∙◌, inl, inr, arith}
use Rattle.std.proofs.Math.Bool.{Bool, not}
use mathlib.Core.List.Memᴰ
use mathlib.Core.List.{List, flat_map, Permᴰ}
use Rattle.std.proofs.Math.Option.{Option, none, some}
use Prim.Native.Nat.{ℕ, zero, suc, ◌+◌, ◌≤◌, ◌<◌}
use borrow.Author.Tests.{not-true}
use Rattle.model.specs.declared.Part.{Part}
use Rattle.model.specs.Lists.{below, ◌∈◌, Distinct}
use Rattle.model.specs.Plant.{PartHealth, PartCommands, largest, parts, InRing}
use Rattle.model.specs.Priority.{Path}
use Rattle.model.specs.Choosing.{add_path, chosen, plan, commands}
use Rattle.model.specs.Sheet.{opening, first_occurrences, parts_of, sequence, closing, sheet_of, sheet}
use Rattle.model.specs.Laws.Tests.{contra, and_left, and_right, and_intro, not_of, dec_eq}
use Rattle.model.specs.Laws.Lists.{below_in, below_lt, flat_in, flat_at, keep_at, keep_in, keep_ext, keep_apart, rising_keep}
use Rattle.model.specs.Laws.Parts.{parts_in, parts_rise, parts_length}
use Rattle.model.specs.Laws.Distinct.{keep_distinct, rising_distinct, distinct_perm, perm_length}
use Rattle.model.specs.Laws.Sheet.{sheet_of_length, closing_by_code, occurrences_at, occurrences_in, occurrences_once, closing_paths}
use Rattle.theory.specs.Proofs.Choosing.{on_in}
use Rattle.theory.specs.Theorems.Feeds.{commanded_at}
use Rattle.theory.specs.Theorems.Locality.{Agree, SameHealth, plan_ext, commands_ext, commanded_in_ring, opening_ext}

-- ---- the paths chosen are the buses' paths

module _ (n : ℕ) (H : PartHealth) where
  -- bus b, before bus k, has path w
  abbrev Has : ℕ → Path → Type 0
  Has k w = (b : ℕ) × (b < k) × (plan n H b ≡ some w)

  chosen_at : (k : ℕ) {w : Path} → w ∈ chosen n H k → Has k w
  unfolding chosen plan add_path
  chosen_at zero m = absurd (Memᴰ.not-nil m)
  chosen_at (suc k) {w} m = go (plan n H k) refl (λ i. chosen_at k i) m
    where
      later : Has k w → Has (suc k) w
      later t = (t.0, omega (arith, t.1), t.2)

      pick : (v : Path) → plan n H k ≡ some v → (w ∈ chosen n H k → Has k w) → (w ≡ v) ⊎ (w ∈ chosen n H k) → Has (suc k) w
      pick v e r (inl z) = (k, omega arith, rw z e)
      pick v e r (inr i) = later (r i)

      go : (o : Option Path) → plan n H k ≡ o → (w ∈ chosen n H k → Has k w) → w ∈ add_path o (chosen n H k) → Has (suc k) w
      go none e r i = later (r i)
      go (some v) e r i = pick v e r (Memᴰ.cases_cons i)

  chosen_in : (k b : ℕ) {w : Path} → b < k → plan n H b ≡ some w → w ∈ chosen n H k
  unfolding chosen plan add_path
  chosen_in zero b l e = absurd (omega arith)
  chosen_in (suc k) b {w} l e = go (λ h. chosen_in k b h e) (dec_eq b k)
    where
      more : (o : Option Path) → w ∈ chosen n H k → w ∈ add_path o (chosen n H k)
      more none i = i
      more (some v) i = Memᴰ.tail i

      go : (b < k → w ∈ chosen n H k) → (b ≡ k) ⊎ (b ≢ k) → w ∈ add_path (plan n H k) (chosen n H k)
      go r (inl z) = let f : plan n H k ≡ some w = rw z at e in rw f (Memᴰ.head refl)
      go r (inr z) = more (plan n H k) (r (omega arith))

  -- a part of the sequence is one that is commanded on or closed
  pub sequence_exactly : (p : Part) → p ∈ sequence n (plan n H) ↔ (commands n H p ≡ true)
  unfolding sequence parts_of commands
  sequence_exactly p = (to, from)
    where
      each : ℕ → List Part
      each b = parts_of n (plan n H b)

      on : (b : ℕ) (o : Option Path) → b < n → plan n H b ≡ o → p ∈ parts_of n o → commands n H p ≡ true
      on b none l e m = absurd (Memᴰ.not-nil m)
      on b (some w) l e m = on_in n p (chosen_in n b l e) m

      to : p ∈ first_occurrences (flat_map each (below n)) → commands n H p ≡ true
      to m =
          let t = flat_at each (below n) (occurrences_at (flat_map each (below n)) m) in
          on t.0 (plan n H t.0) (below_lt n t.0 t.1) refl t.2

      from : commands n H p ≡ true → p ∈ first_occurrences (flat_map each (below n))
      from e =
          let t = commanded_at n H p e in
          let u = chosen_at n t.1 in
          let m : p ∈ each u.0 = rw u.2 t.2 in
          occurrences_in (flat_map each (below n)) (flat_in each (below_in n u.0 u.1) m)

-- ---- the parts that close

module _ (n : ℕ) (H : PartHealth) (old : PartCommands) where
  pub closing_at : (p : Part) → p ∈ closing n old (plan n H) → InRing n p × (old p ≡ false) × (commands n H p ≡ true)
  unfolding closing
  closing_at p m =
      let t = keep_at (λ q. not (old q)) (sequence n (plan n H)) m in
      let c = (sequence_exactly n H p).0 t.0 in
      (commanded_in_ring n H p c, not-true (old p) t.1, c)

  pub closing_in : (p : Part) → old p ≡ false → commands n H p ≡ true → p ∈ closing n old (plan n H)
  unfolding closing
  closing_in p o c = keep_in (λ q. not (old q)) ((sequence_exactly n H p).1 c) (not_of (old p) o)

  pub closing_once : Distinct (closing n old (plan n H))
  unfolding closing sequence
  closing_once = keep_distinct (λ q. not (old q)) (occurrences_once _)

  -- the same parts as in rising code, each once: one list in another order
  pub closing_same : n ≤ largest → Permᴰ (closing n old (plan n H)) (closing_by_code n old (commands n H))
  unfolding closing_by_code
  closing_same small =
      distinct_perm closing_once (rising_distinct (rising_keep (λ p. not (old p) && commands n H p) (parts_rise n small))) (λ p. (to p, from p))
    where
      to : (p : Part) → p ∈ closing n old (plan n H) → p ∈ closing_by_code n old (commands n H)
      to p m =
          let t = closing_at p m in
          keep_in (λ q. not (old q) && commands n H q) (parts_in n p t.0) (and_intro (not (old p)) _ (not_of (old p) t.1) t.2)

      from : (p : Part) → p ∈ closing_by_code n old (commands n H) → p ∈ closing n old (plan n H)
      from p m =
          let t = keep_at (λ q. not (old q) && commands n H q) (parts n) m in
          closing_in p (not-true (old p) (and_left (not (old p)) _ t.1)) (and_right (not (old p)) _ t.1)

  pub closing_count : n ≤ largest → length (closing n old (plan n H)) ≡ length (closing_by_code n old (commands n H))
  closing_count small = perm_length (closing_same small)

  -- a command changes in one direction only
  one_way : (was now : Bool) → was && not now ≡ true → not was && now ≡ false
  one_way true now e = refl
  one_way false now e = contra e refl

  -- both phases together have at most 60 parts
  pub phases_fit : n ≤ largest → length (opening n old (commands n H)) + length (closing n old (plan n H)) ≤ 60
  unfolding opening closing_by_code
  phases_fit small =
      let f : Part → Bool = λ p. old p && not (commands n H p) in
      let g : Part → Bool = λ p. not (old p) && commands n H p in
      let k = keep_apart f g (λ p. one_way (old p) (commands n H p)) (parts n) in
      omega (arith, closing_count small, parts_length n)

  -- ".. never more than 122"
  pub sheet_fits : n ≤ largest → length (sheet n old H) ≤ 122
  unfolding sheet
  sheet_fits small = omega (arith, sheet_of_length (opening n old (commands n H)) (closing n old (plan n H)), phases_fit small)

-- ---- parts above n are not read

module _ (n : ℕ) (C D : PartCommands) (H K : PartHealth) (olds : Agree n C D) (same : SameHealth n H K) where
  pub closing_ext : closing n C (plan n H) ≡ closing n D (plan n K)
  unfolding closing
  closing_ext =
      closing_paths n C (plan n H) (plan n K) (plan_ext n H K same)
      ∙ keep_ext (λ p. not (C p)) (λ p. not (D p)) (sequence n (plan n K))
      (λ p m. rw (olds p (commanded_in_ring n K p ((sequence_exactly n K p).0 m))))

  pub sheet_ext : sheet n C H ≡ sheet n D K
  unfolding sheet
  sheet_ext = ap₂ sheet_of (opening_ext n C D (commands n H) (commands n K) olds (λ p r. commands_ext n H K same p)) closing_ext
