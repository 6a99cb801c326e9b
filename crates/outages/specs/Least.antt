-- How many faults leave a bus dark: at least one for each of its paths that have no part in common. Buses are indices from 0.
use Rattle.std.specs.Prelude.{◌≡◌, refl, Bool, not, cond, ltb, ◌⊎◌, ◌≢◌, List, [], ◌∷◌, ℕ, ◌+◌, ◌≤◌, ◌<◌, length, Option, Some, None}
use Rattle.std.proofs.Common.{sym, ◌∙◌, ap, inl, inr, arith}
use Rattle.std.proofs.Math.Bool.{true, false}
use mathlib.Core.List.Memᴰ
use borrow.Author.Tests.{not-true, lt-ltb, le-ltb}
use Rattle.model.specs.declared.Part.{Part}
use Rattle.model.specs.Lists.{is_none, ◌∈◌}
use Rattle.model.specs.Plant.{PartHealth, generator_breaker, bus_breaker, fit_generator, stuck_open, up, Reaches}
use Rattle.model.specs.Priority.{Path, path_parts, own_path}
use Rattle.model.specs.Choosing.{plan}
use Rattle.model.specs.CutSets.{with_faults, darkens}
use Rattle.model.specs.Laws.Tests.{contra, not_of, and_left, and_right, and_intro, dec, dec_eq, dec_lt}
use Rattle.model.specs.Laws.Lists.{all_cons}
use Rattle.theory.specs.Proofs.Geometry.{up_refl, up_triangle, up_through}
use Rattle.theory.specs.Proofs.Paths.{
  Uses,
  OnPath,
  at_generator,
  at_generator_breaker,
  at_bus_breaker,
  path_to,
  on_path,
  path_at,
  generator_on,
  generator_breaker_on,
  bus_breaker_on,
}
use Rattle.theory.specs.Theorems.Connected.{Arc, leads_arcs}
use Rattle.theory.proofs.Theorems.CutSets.{dark_exactly, Supplies, Disjoint, no_path, one_more_path, disjoint_faults}
use Rattle.sources.specs.Sources.{may_feed}
use Rattle.walks.specs.Walk.{Closed}
use Rattle.outages.specs.Sides.{passable, Leading, Met, side_paths, steps_some}

-- no set of fewer than k further faults leaves bus b dark; where k is 0, it is dark
pub record Least (n : ℕ) (H : PartHealth) (b k : ℕ) : Type 0 where
  pub bound : (S : List Part) → darkens n H b S ≡ true → k ≤ length S
  pub dark : k ≡ 0 → is_none (plan n H b) ≡ true

module _ (n : ℕ) (H : PartHealth) (b : ℕ) (hb : b < n) where
  may_feed_at : (g : ℕ) → may_feed H g ≡ true → (fit_generator H g ≡ true) × (stuck_open (H.health (generator_breaker g)) ≡ false)
  unfolding may_feed
  may_feed_at g e =
      let A = fit_generator H g in
      (and_left A _ e, not-true (stuck_open (H.health (generator_breaker g))) (and_right A _ e))

  -- ---- the paths that supply the bus

  own_supplies : may_feed H b ≡ true → Supplies n H b (own_path b)
  own_supplies e =
      let t = may_feed_at b e in
      record {
        ends = record { source = hb; bus = hb };
        to_bus = refl;
        usable = record { runs = t.0; breaker = t.1; line = λ i hi l. absurd (omega (arith, up_refl n b hb)) };
      }

  -- the breakers of the path from a side are those of its line
  side_line : (r : Bool) (g : ℕ) → Closed n (passable H) r b g → (i : ℕ) → i < n → Uses n (path_to b g (not r)) i → passable H i ≡ true
  side_line true g f = f
  side_line false g f = f

  side_supplies : (r : Bool) (g : ℕ) → Leading n H r b g → Supplies n H b (path_to b g (not r))
  side_supplies r g l =
      let t = may_feed_at g l.feeding in
      record {
        ends = record { source = l.inside; bus = hb };
        to_bus = refl;
        usable = record {
          runs = t.0;
          breaker = t.1;
          line = λ i hi u. not-true (stuck_open (H.health (bus_breaker i))) (side_line r g l.line i hi u);
        };
      }

  -- ---- no part in common

  -- the bus's own path, and one from another generator
  own_apart : (w : Path) → w.source ≢ b → (p : Part) → p ∈ path_parts n (own_path b) → p ∈ path_parts n w → ⊥
  own_apart w ne p m k = go (on_path n (own_path b) p m) k
    where
      go : {q : Part} → OnPath n (own_path b) q → q ∈ path_parts n w → ⊥
      go at_generator k = ne (sym (generator_on n w b k))
      go at_generator_breaker k = ne (sym (generator_breaker_on n w b k))
      go (at_bus_breaker {i = i} l) k =
          let t = path_at {w = own_path b} i (record { source = hb; bus = hb }) l in omega (arith, t.1, up_refl n b hb)

  -- two paths from both sides that together are shorter than the ring
  sides_apart : (g h : ℕ) → g < n → h < n → g ≢ b → up n b g + up n h b < n
      → (p : Part) → p ∈ path_parts n (path_to b g false) → p ∈ path_parts n (path_to b h true) → ⊥
  sides_apart g h hg hh ne short p m k = go (on_path n (path_to b g false) p m) k
    where
      same : g ≡ h → ⊥
      same e = round (up_triangle n b g b hb hg hb)
        where
          far : up n h b ≡ up n g b
          far = ap (λ x. up n x b) (sym e)

          round : (up n b g + up n g b ≡ up n b b) ⊎ (up n b g + up n g b ≡ up n b b + n) → ⊥
          round (inl z) = omega (arith, up_refl n b hb, steps_some n b hb true g hg ne)
          round (inr z) = omega (arith, far)

      between : (i : ℕ) → i < n → up n b i < up n b g → up n h i < up n h b → ⊥
      between i hi l j = round (up_triangle n b i b hb hi hb)
        where
          on : up n h i + up n i b ≡ up n h b
          on = up_through n h i b hh hi hb (omega arith)

          round : (up n b i + up n i b ≡ up n b b) ⊎ (up n b i + up n i b ≡ up n b b + n) → ⊥
          round (inl z) = omega (arith, on, up_refl n b hb)
          round (inr z) = omega (arith, on)

      go : {q : Part} → OnPath n (path_to b g false) q → q ∈ path_parts n (path_to b h true) → ⊥
      go at_generator k = same (generator_on n (path_to b h true) g k)
      go at_generator_breaker k = same (generator_breaker_on n (path_to b h true) g k)
      go (at_bus_breaker {i = i} l) k =
          let t = path_at {w = path_to b g false} i (record { source = hg; bus = hb }) l in
          let u = path_at {w = path_to b h true} i (record { source = hh; bus = hb }) (bus_breaker_on n (path_to b h true) i k) in
          between i t.0 t.1 u.1

  -- ---- both sides

  -- k paths from other generators that supply the bus, no two with a part in common
  pub record SidePaths (k : ℕ) : Type 0 where
    pub found : List Path
    pub count : length found ≡ k
    pub apart : Disjoint n found
    pub supplying : (w : Path) → w ∈ found → Supplies n H b w × (w.source ≢ b)

  -- a path from another generator
  abbrev Other : Path → Type 0
  Other w = Supplies n H b w × (w.source ≢ b)

  one_path : (w : Path) → Other w → SidePaths 1
  one_path w s = record {
    found = w ∷ [];
    count = refl;
    apart = one_more_path (λ v m. absurd (Memᴰ.not-nil m)) no_path;
    supplying = all_cons Other s (λ v m. absurd (Memᴰ.not-nil m));
  }

  two_paths : (v w : Path) → Other v → Other w → ((p : Part) → p ∈ path_parts n v → p ∈ path_parts n w → ⊥) → SidePaths 2
  two_paths v w s t out = record {
    found = v ∷ w ∷ [];
    count = refl;
    apart =
        one_more_path (all_cons (λ u. (p : Part) → p ∈ path_parts n v → p ∈ path_parts n u → ⊥) out (λ u m. absurd (Memᴰ.not-nil m)))
        (one_more_path (λ u m. absurd (Memᴰ.not-nil m)) no_path);
    supplying = all_cons Other s (all_cons Other t (λ u m. absurd (Memᴰ.not-nil m)));
  }

  side_paths_lem : (rise fall : Option ℕ) → Met n H true b rise → Met n H false b fall → SidePaths (side_paths n rise fall)
  side_paths_lem None None u d = record {
    found = [];
    count = refl;
    apart = no_path;
    supplying = λ w m. absurd (Memᴰ.not-nil m);
  }
  side_paths_lem None (Some fall) u d = let t = d.found in one_path (path_to b t.0 true) (side_supplies false t.0 t.1, t.1.other)
  side_paths_lem (Some rise) None u d = let t = u.found in one_path (path_to b t.0 false) (side_supplies true t.0 t.1, t.1.other)
  side_paths_lem (Some rise) (Some fall) u d = go (dec_lt (rise + fall) n)
    where
      go : (rise + fall < n) ⊎ (n ≤ rise + fall) → SidePaths (cond (ltb (rise + fall) n) 2 1)
      go (inl l) =
          let t = u.found in
          let s = d.found in
          rw (lt-ltb (rise + fall) n l)
          (two_paths (path_to b t.0 false) (path_to b s.0 true)
          (side_supplies true t.0 t.1, t.1.other)
          (side_supplies false s.0 s.1, s.1.other)
          (sides_apart t.0 s.0 t.1.inside s.1.inside t.1.other (omega (arith, t.2, s.2))))
      go (inr l) = let t = u.found in rw (le-ltb (rise + fall) n l) (one_path (path_to b t.0 false) (side_supplies true t.0 t.1, t.1.other))

  none_beside : (rise fall : Option ℕ) → side_paths n rise fall ≡ 0 → (rise ≡ None) × (fall ≡ None)
  none_beside None None z = (refl, refl)
  none_beside None (Some fall) z = absurd (omega arith)
  none_beside (Some rise) None z = absurd (omega arith)
  none_beside (Some rise) (Some fall) z = go (dec_lt (rise + fall) n)
    where
      go : (rise + fall < n) ⊎ (n ≤ rise + fall) → (Some rise ≡ None) × (Some fall ≡ None)
      go (inl l) = absurd (omega (arith, rw (lt-ltb (rise + fall) n l) at z))
      go (inr l) = absurd (omega (arith, rw (le-ltb (rise + fall) n l) at z))

  module _ (rise fall : Option ℕ) (up_side : Met n H true b rise) (down_side : Met n H false b fall) where
    -- with the bus's own generator
    pub least_own : (k : ℕ) → may_feed H b ≡ true → k ≡ side_paths n rise fall + 1 → Least n H b k
    least_own k e is =
        let t = side_paths_lem rise fall up_side down_side in
        record {
          bound = λ S d.
              let c = disjoint_faults n H b hb S d {ws = own_path b ∷ t.found}
              (one_more_path (λ v m. own_apart v (t.supplying v m).1) t.apart)
              (all_cons (Supplies n H b) (own_supplies e) (λ v m. (t.supplying v m).0)) in
              omega (arith, t.count);
          dark = λ z. absurd (omega arith);
        }

    -- without it
    pub least_sides : (k : ℕ) → may_feed H b ≡ false → k ≡ side_paths n rise fall → Least n H b k
    unfolding may_feed
    least_sides k e is =
        let t = side_paths_lem rise fall up_side down_side in
        record {
          bound = λ S d.
              let c = disjoint_faults n H b hb S d {ws = t.found} t.apart (λ v m. (t.supplying v m).0) in
              omega (arith, t.count);
          dark = λ z. (dark_exactly n H b hb).1 (λ g r. unreached (none_beside rise fall (sym is ∙ z)) g r (dec_eq g b));
        }
      where
        feeds : (g : ℕ) → Reaches n H b g → may_feed H g ≡ true
        feeds g r = and_intro (fit_generator H g) _ r.runs (not_of (stuck_open (H.health (generator_breaker g))) r.breaker)

        none_above : rise ≡ None → Met n H true b None
        none_above e = rw e at up_side

        none_below : fall ≡ None → Met n H false b None
        none_below e = rw e at down_side

        unreached : (rise ≡ None) × (fall ≡ None) → (g : ℕ) → Reaches n H b g → (g ≡ b) ⊎ (g ≢ b) → ⊥
        unreached z g r (inl q) = contra (feeds g r) (rw q e)
        unreached z g r (inr q) = side (leads_arcs hb r.line)
          where
            side : Arc n (passable H) g b ⊎ Arc n (passable H) b g → ⊥
            side (inl f) = none_below z.1 g (record { inside = r.inside; other = q; feeding = feeds g r; line = f })
            side (inr f) = none_above z.0 g (record { inside = r.inside; other = q; feeding = feeds g r; line = f })

-- dark is 0, exactly: however the code words its test
pub dark_test : (n : ℕ) (H : PartHealth) (b k : ℕ) {r : Bool} → Least n H b k → (k ≡ 0 → r ≡ false → ⊥) → (k ≢ 0 → r ≡ true → ⊥)
    → r ≡ is_none (plan n H b)
unfolding darkens with_faults
dark_test n H b k {r} l p q = go (dec_eq k 0) (dec r) (dec (is_none (plan n H b)))
  where
    go : (k ≡ 0) ⊎ (k ≢ 0) → (r ≡ true) ⊎ (r ≡ false) → (is_none (plan n H b) ≡ true) ⊎ (is_none (plan n H b) ≡ false)
        → r ≡ is_none (plan n H b)
    go (inl e) (inl t) d = t ∙ sym (l.dark e)
    go (inl e) (inr t) d = absurd (p e t)
    go (inr e) (inl t) d = absurd (q e t)
    go (inr e) (inr t) (inl d) = absurd (omega (arith, e, l.bound [] d))
    go (inr e) (inr t) (inr d) = t ∙ sym d
