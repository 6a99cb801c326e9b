-- The figures and the test of 16 that the code takes from a sheet's bytes are those of its sets.
use Rattle.std.specs.Prelude.{◌≡◌, true, false, get_or, Float}
use Rattle.std.proofs.Math.Path.{refl, sym, ap}
use Rattle.std.proofs.Common.{◌∙◌, zero-add, add-one, arith, length-append}
use Rattle.std.proofs.Math.Bool.{Bool}
use mathlib.Core.List.Memᴰ
use mathlib.Core.List.{List, [], ◌∷◌, ◌++◌, map, flat_map, foldl, foldl-append, map-append}
use Rattle.std.proofs.Math.Option.{none}
use Prim.Native.Nat.{ℕ, suc, ◌+◌, ◌-◌, ◌*◌, ◌≤◌, ◌<◌}
use Rattle.std.proofs.Math.ListN.{length, take, drop, length-map, get_or-append}
use Rattle.std.proofs.lemmas.List.{get_or-drop, length-drop, length-take-le, get_or-take, get_or_append_left, drop_at, drop-drop}
use Rattle.std.specs.Float.{binary64}
use Rattle.std.specs.Float.Ieee.{add, mul, lt}
use Rattle.model.specs.declared.Part.{Part}
use Rattle.model.specs.declared.Rates.{Rates}
use Rattle.model.specs.declared.Exposure.{Exposure}
use Rattle.model.specs.Lists.{below, first, any_of, ◌∈◌}
use Rattle.model.specs.Values.{part_code}
use Rattle.model.specs.Plant.{largest, parts, InRing}
use Rattle.model.specs.Reports.{part_named}
use Rattle.model.specs.CutSets.{set_bytes, cut_sheet}
use Rattle.model.specs.Exposure.{
  float1,
  rate_of,
  chance_of,
  set_product,
  product_sum,
  greater_of,
  largest_product,
  exposure_of,
  is_unrated,
  unrated_listed,
  no_exposure,
}
use Rattle.model.specs.Laws.Lists.{at_in, below_length, map_index, any_ext, any_map, any_flat}
use Rattle.model.specs.Laws.Reports.{named_code}
use Rattle.model.specs.Laws.CutSets.{bytes_count, behind_count, sheet_byte, Few}
use Rattle.components.specs.Searches.{any_first}
use Rattle.exposure.specs.Bytes.{times_code, product_of, product_at, unrated_code, with_product, figures_of, unrated_bytes}

-- ---- one set

-- 255 is no part's code
unused : part_named largest 255 ≡ none
unfolding part_named first parts below part_code
unused = refl

module _ (r : Rates) where
  times_part : (x : Float) (p : Part) → InRing largest p → times_code r x (part_code p) ≡ mul binary64 x (chance_of (rate_of r p))
  unfolding times_code
  times_part x p m = rw (named_code largest p (omega arith) m)

  times_unused : (x : Float) → times_code r x 255 ≡ x
  unfolding times_code
  times_unused x = rw unused

  unrated_part : (p : Part) → InRing largest p → unrated_code r (part_code p) ≡ is_unrated (rate_of r p)
  unfolding unrated_code
  unrated_part p m = rw (named_code largest p (omega arith) m)

  unrated_unused : unrated_code r 255 ≡ false
  unfolding unrated_code
  unrated_unused = rw unused

  set_product_lem : (S : List Part) → Few largest S → product_of r (get_or (set_bytes S) 0 0) (get_or (set_bytes S) 1 0) (get_or (set_bytes S) 2 0) ≡ set_product r S
  unfolding set_bytes product_of set_product
  set_product_lem [] f = simp times_unused
  set_product_lem (p ∷ []) f = rw (times_part float1 p (f.1 p (Memᴰ.head refl))) (simp times_unused)
  set_product_lem (p ∷ q ∷ []) f =
      rw (times_part _ p (f.1 p (Memᴰ.head refl)), times_part _ q (f.1 q (Memᴰ.tail (Memᴰ.head refl)))) (simp times_unused)
  set_product_lem (p ∷ q ∷ s ∷ []) f =
      rw (
        times_part _ p (f.1 p (Memᴰ.head refl)),
        times_part _ q (f.1 q (Memᴰ.tail (Memᴰ.head refl))),
        times_part _ s (f.1 s (Memᴰ.tail (Memᴰ.tail (Memᴰ.head refl)))),
      )
  set_product_lem (p ∷ q ∷ s ∷ t ∷ S) f = absurd (omega (arith, f.0))

  set_unrated : (S : List Part) → Few largest S → any_of (unrated_code r) (set_bytes S) ≡ any_of (λ p. is_unrated (rate_of r p)) S
  unfolding set_bytes any_of
  set_unrated [] f = simp unrated_unused
  set_unrated (p ∷ []) f = rw (unrated_part p (f.1 p (Memᴰ.head refl))) (simp unrated_unused)
  set_unrated (p ∷ q ∷ []) f =
      rw (unrated_part p (f.1 p (Memᴰ.head refl)), unrated_part q (f.1 q (Memᴰ.tail (Memᴰ.head refl)))) (simp unrated_unused)
  set_unrated (p ∷ q ∷ s ∷ []) f =
      rw (
        unrated_part p (f.1 p (Memᴰ.head refl)),
        unrated_part q (f.1 q (Memᴰ.tail (Memᴰ.head refl))),
        unrated_part s (f.1 s (Memᴰ.tail (Memᴰ.tail (Memᴰ.head refl)))),
      )
  set_unrated (p ∷ q ∷ s ∷ t ∷ S) f = absurd (omega (arith, f.0))

  -- one factor after the other, wherever the places come from
  pub product_of_lem : (sheet : List ℕ) (at b c : ℕ) {x y z : Float} → b ≡ at + 1 → c ≡ at + 2 → x ≡ times_code r float1 (get_or sheet at 0)
      → y ≡ times_code r x (get_or sheet b 0) → z ≡ times_code r y (get_or sheet c 0) → z ≡ product_at r sheet at
  unfolding product_at product_of
  product_of_lem sheet at b c e f first second third = rw (third, second, first, e, f)

  -- ---- one set after the other

  pub figures_none : (sheet : List ℕ) {e : Exposure} → e ≡ no_exposure → e ≡ figures_of r sheet 0
  unfolding figures_of below
  figures_none sheet d = d

  pub figures_more : (sheet : List ℕ) (i at : ℕ) {e : Exposure} {x : Float} → at ≡ 2 + 3 * i → e ≡ figures_of r sheet i → x ≡ product_at r sheet at
      → with_product e x ≡ figures_of r sheet (i + 1)
  unfolding figures_of below
  figures_more sheet i at z d e =
      rw (add-one, map-append, d, e, z) (sym (foldl-append with_product no_exposure (map (λ j. product_at r sheet (2 + 3 * j)) (below i)) _))

  -- the bytes of the first sets, three by three: what is left after k of them
  module _ (sheet : List ℕ) (count : ℕ) (h : 2 + 3 * count ≤ length sheet) where
    abbrev stretch : List ℕ
    stretch = take (2 + 3 * count - 2) (drop 2 sheet)

    stretch_length : length stretch ≡ 3 * count
    stretch_length = length-take-le (2 + 3 * count - 2) (drop 2 sheet) (omega (arith, length-drop 2 sheet)) ∙ omega arith

    stretch_at : (i : ℕ) → i < 3 * count → get_or stretch i 0 ≡ get_or sheet (2 + i) 0
    stretch_at i l = get_or-take (2 + 3 * count - 2) (drop 2 sheet) i 0 (omega arith) ∙ get_or-drop 2 sheet i 0

    module _ (k : ℕ) {rest : List ℕ} (left : rest ≡ drop (3 * k) stretch) where
      left_length : length rest ≡ 3 * count - 3 * k
      left_length = ap length left ∙ length-drop (3 * k) stretch ∙ omega (arith, stretch_length)

      -- none is left
      pub sets_end : k ≤ count → length rest < 3 → k ≡ count
      sets_end m l = omega (arith, left_length)

      -- the next one: its product, and what is left after it
      pub sets_turn : (set after : List ℕ) → rest ≡ set ++ after → length set ≡ 3
          → (k < count) × (after ≡ drop (3 * (k + 1)) stretch) × (product_at r set 0 ≡ product_at r sheet (2 + 3 * k))
      unfolding product_at
      sets_turn set after e l =
          (more, behind, rw (byte 0 (2 + 3 * k) (omega arith, omega arith), byte 1 (2 + 3 * k + 1) (omega arith, omega arith), byte 2 (2 + 3 * k + 2) (omega arith, omega arith)))
        where
          more : k < count
          more = omega (arith, left_length, ap length e, length-append set after)

          behind : after ≡ drop (3 * (k + 1)) stretch
          behind = sym (drop_at set after 3 l) ∙ ap (drop 3) (sym e ∙ left) ∙ drop-drop 3 (3 * k) stretch ∙ ap (λ n. drop n stretch) (omega arith)

          byte : (i j : ℕ) → (i < 3) × (j ≡ 2 + (3 * k + i)) → get_or set i 0 ≡ get_or sheet j 0
          byte i j m =
              sym (get_or_append_left set after 0 i (omega (arith, m))) ∙ ap (λ xs. get_or xs i 0) (sym e ∙ left)
              ∙ get_or-drop (3 * k) stretch i 0 ∙ stretch_at (3 * k + i) (omega (arith, more, m)) ∙ ap (λ n. get_or sheet n 0) (sym m.1)

  -- the bytes behind the count
  pub unrated_behind : (sheet : List ℕ) (k : ℕ) → 2 + k ≤ length sheet
      → unrated_bytes r sheet k ≡ any_of (unrated_code r) (take k (drop 2 sheet))
  unfolding unrated_bytes
  unrated_behind sheet k h =
      any_ext _ (λ i. unrated_code r (get_or (drop 2 sheet) i 0)) (below k) (λ i m. ap (unrated_code r) (sym (get_or-drop 2 sheet i 0)))
      ∙ any_first (unrated_code r) (drop 2 sheet) 0 k (omega (arith, length-drop 2 sheet))

-- "gives way only to a greater product"
module _ (x p : Float) where
  pub gives_way : lt x p ≡ true → p ≡ greater_of x p
  unfolding greater_of
  gives_way e = rw e

  pub stays : lt x p ≡ false → x ≡ greater_of x p
  unfolding greater_of
  stays e = rw e

pub one_more : (e : Exposure) (p : Float) {s l : Float} {k : ℕ} → s ≡ add binary64 e.sum p → l ≡ greater_of e.largest p → k ≡ e.count + 1
    → record { sum = s; largest = l; count = k } ≡ with_product e p
unfolding with_product
one_more e p sums largest counts = rw (sums, largest, counts)

-- each figure by itself
all_figures : (e : Exposure) (ps : List Float)
    → foldl with_product e ps
    ≡ record { sum = foldl (add binary64) e.sum ps; largest = foldl greater_of e.largest ps; count = e.count + length ps }
unfolding with_product
all_figures e [] = let z : e.count + 0 ≡ e.count = omega arith in rw z
all_figures e (p ∷ ps) =
    let z : e.count + 1 + length ps ≡ e.count + suc (length ps) = omega arith in
    all_figures (with_product e p) ps ∙ rw z

pub figures_count : (r : Rates) (sheet : List ℕ) (k : ℕ) {e : Exposure} → e ≡ figures_of r sheet k → e.count ≡ k
unfolding figures_of
figures_count r sheet k d =
    ap (λ (x : Exposure). x.count) (d ∙ all_figures no_exposure (map (λ i. product_at r sheet (2 + 3 * i)) (below k)))
    ∙ simp (length-map, below_length, zero-add)

-- ---- all sets of a sheet, whatever stands behind it

module _ (r : Rates) (sets : List (List Part)) (few : (S : List Part) → S ∈ sets → Few largest S) (rest : List ℕ) where
  product_is : (i : ℕ) → i < length sets → product_at r (cut_sheet sets ++ rest) (2 + 3 * i) ≡ set_product r (get_or sets i [])
  unfolding product_at
  product_is i l =
      rw (
        sheet_byte sets rest i 0 (2 + 3 * i) l (omega arith) (omega arith),
        sheet_byte sets rest i 1 (2 + 3 * i + 1) l (omega arith) (omega arith),
        sheet_byte sets rest i 2 (2 + 3 * i + 2) l (omega arith) (omega arith),
      )
      (set_product_lem r (get_or sets i []) (few _ (at_in sets i [] l)))

  pub figures_are : figures_of r (cut_sheet sets ++ rest) (length sets) ≡ exposure_of r sets
  unfolding figures_of exposure_of product_sum largest_product
  figures_are =
      let ps = map (set_product r) sets in
      let z : 0 + length ps ≡ length sets = omega (arith, length-map sets (set_product r)) in
      ap (foldl with_product no_exposure) (map_index (λ i. product_at r (cut_sheet sets ++ rest) (2 + 3 * i)) (set_product r) sets [] product_is)
      ∙ (all_figures no_exposure ps ∙ rw z)

  pub unrated_are : unrated_bytes r (cut_sheet sets ++ rest) (3 * length sets) ≡ unrated_listed r sets
  unfolding unrated_bytes unrated_listed
  unrated_are =
      let bytes = flat_map set_bytes sets in
      let f : ℕ → Bool = λ i. unrated_code r (get_or (cut_sheet sets ++ rest) (2 + i) 0) in
      rw (← bytes_count sets)
      (sym (any_map (λ (b : Bool). b) f (below (length bytes)))
      ∙ (ap (any_of (λ (b : Bool). b))
      (map_index f (unrated_code r) bytes 0 (λ i l. ap (unrated_code r) (behind_count sets rest i ∙ get_or-append bytes rest 0 i l)))
      ∙ (any_map (λ (b : Bool). b) (unrated_code r) bytes
      ∙ (any_flat (unrated_code r) set_bytes sets
      ∙ any_ext (λ S. any_of (unrated_code r) (set_bytes S)) (any_of (λ p. is_unrated (rate_of r p))) sets (λ S m. set_unrated r S (few S m))))))
