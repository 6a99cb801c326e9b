-- Minimal cut sets (document 02, Note 1): what leaves a bus dark, that more faults never give it light, how many faults it takes at
-- least, what is listed and in which order, and what does not matter.
use Rattle.std.specs.Prelude.{◌≡◌, refl, Bool, true, false, ◌&&◌, ◌⊎◌, ◌↔◌, ◌≢◌, ℕ, zero, suc, ◌≤◌, ◌<◌, length, get_or}
use Rattle.std.proofs.Common.{sym, ◌∙◌, ap₂, inl, inr, arith, eq-eqb, ne_eqb}
use Rattle.std.proofs.Math.Path.{ap}
use Rattle.std.proofs.Math.Bool.{not}
use mathlib.Core.List.Memᴰ
use mathlib.Core.List.{List, [], ◌∷◌, map, flat_map}
use Rattle.std.proofs.Math.Option.{Option, none, some}
use Rattle.std.proofs.lemmas.List.{length-map}
use Rattle.std.proofs.lemmas.Bool.{not-true}
use Rattle.model.specs.declared.Part.{Part}
use Rattle.model.specs.declared.Part.TheVariants.{Generator, GeneratorBreaker, BusBreaker}
use Rattle.model.specs.declared.Word.TheVariants.{StuckClosed}
use Rattle.model.specs.Lists.{below, keep, first, any_of, all_of, is_none, ◌∈◌, RisingBy, empty, Distinct, nothing, one_more}
use Rattle.model.specs.Values.{part_code, same_part}
use Rattle.model.specs.Plant.{
  PartHealth,
  largest,
  generator,
  generator_breaker,
  bus_breaker,
  parts,
  fit,
  fit_generator,
  stuck_open,
  InRing,
  next,
  up,
  arc,
  connected,
  Reaches,
}
use Rattle.model.specs.Priority.{Path, others, sources, path_bus_breakers, path_breakers, path_parts, high_rises, paths_from, paths}
use Rattle.model.specs.Choosing.{on_paths, usable, counted_closed, isolated, permitted, choose, add_path, chosen, plan}
use Rattle.model.specs.Reports.{all_fit, reported}
use Rattle.model.specs.CutSets.{
  most_faults,
  can_fail,
  further_faults,
  with_faults,
  darkens,
  subsets,
  proper_subsets,
  minimal,
  of_size,
  sizes_below,
  cut_sets,
}
use Rattle.model.specs.Laws.Tests.{contra, not_of, and_left, and_right, and_intro, iff, dec, dec_eq}
use Rattle.model.specs.Laws.Lists.{all_cons, any_false, any_none, any_ext, keep_at, keep_in, keep_ext, rising_keep}
use Rattle.model.specs.Laws.Parts.{parts_in, parts_at, parts_rise}
use Rattle.model.specs.Laws.CutSets.{failed, kept, faults_locked, in_or_out, common_or_apart}
use Rattle.theory.specs.Theorems.Connected.{leads_mono}
use Rattle.theory.specs.Theorems.Completeness.{de_energized_exactly}
use Rattle.theory.specs.Theorems.Feeds.{reaches_usable, usable_reaches}
use Rattle.theory.specs.Theorems.Priorities.{distinct_shorter}
use Rattle.theory.specs.Statements.CutSets.{Proper, CutSet, InOrder, Listed, Alike, Worked, worked, listed_codes}
use Rattle.theory.specs.Statements.Settled.{health_after}
use Rattle.theory.specs.Proofs.Paths.{
  Ends,
  OnPath,
  at_generator,
  at_generator_breaker,
  at_bus_breaker,
  path_to,
  on_path,
  path_at,
  path_in,
  source_on,
  breaker_on,
  line_on,
}
use Rattle.theory.specs.Proofs.Choosing.{Usable}
use Rattle.theory.proofs.Proofs.Subsets.{
  Within,
  sub_within,
  sub_none,
  sub_rising,
  rising_sub,
  proper_in,
  proper_at,
  without,
  part_index,
  without_proper,
  proper_without,
  sizes_at,
  sizes_in,
  order_once,
  order_only,
  order_keep,
  order_sizes,
}

-- ---- dark by choosing is dark by reaching

is_none_lem : {A : Type 0} (o : Option A) → is_none o ≡ true → o ≡ none
is_none_lem none e = refl
is_none_lem (some x) e = contra refl (sym e)

none_is : {A : Type 0} (o : Option A) → o ≡ none → is_none o ≡ true
none_is o e = rw e

-- choosing gives a bus no path exactly when no generator could feed it
pub dark_exactly : (n : ℕ) (H : PartHealth) (b : ℕ) → b < n → is_none (plan n H b) ≡ true ↔ ((g : ℕ) → Reaches n H b g → ⊥)
dark_exactly n H b hb = (
  λ e g r. let u = reaches_usable hb r in (de_energized_exactly n H b hb).0 (is_none_lem _ e) g u.0 r.inside u.1,
  λ f. none_is _ ((de_energized_exactly n H b hb).1 (λ g r hg u. f g (usable_reaches r hg hb u))),
)

-- a set leaves a bus dark exactly when after its faults no generator could feed the bus
pub darkens_exactly : (n : ℕ) (H : PartHealth) (b : ℕ) → b < n → (S : List Part)
    → darkens n H b S ≡ true ↔ ((g : ℕ) → Reaches n (with_faults H S) b g → ⊥)
unfolding darkens
darkens_exactly n H b hb S = dark_exactly n (with_faults H S) b hb

-- ---- a path under further faults

-- no part of a path is in a set
abbrev Spared : ℕ → Path → List Part → Type 0
Spared n w S = (p : Part) → p ∈ path_parts n w → p ∈ S → ⊥

module _ (n : ℕ) (H : PartHealth) (w : Path) (h : Ends n w) (S : List Part) where
  -- a usable path stays usable while its parts are spared
  spared_usable : Usable n H w → Spared n w S → Usable n (with_faults H S) w
  spared_usable u out = record {
    runs = rw (kept H S (generator w.source) (out _ (source_on n w)), faults_locked H S w.source) u.runs;
    breaker = rw (kept H S (generator_breaker w.source) (out _ (breaker_on n w))) u.breaker;
    line = λ i hi l. rw (kept H S (bus_breaker i) (out _ (line_on n w (path_in i h hi l)))) (u.line i hi l);
  }

  -- and none is usable otherwise
  usable_spared : Usable n (with_faults H S) w → Spared n w S
  usable_spared u p m j = go (on_path n w p m) j
    where
      go : {q : Part} → OnPath n w q → q ∈ S → ⊥
      go at_generator k = contra u.runs (rw (failed H S (generator w.source) k))
      go at_generator_breaker k = contra (rw (failed H S (generator_breaker w.source) k)) u.breaker
      go (at_bus_breaker {i = i} l) k =
          let t = path_at i h l in contra (rw (failed H S (bus_breaker i) k)) (u.line i t.0 t.1)

  usable_before : Usable n (with_faults H S) w → Usable n H w
  usable_before u =
      let out = usable_spared u in
      record {
        runs = rw (kept H S (generator w.source) (out _ (source_on n w)), faults_locked H S w.source) at u.runs;
        breaker = rw (kept H S (generator_breaker w.source) (out _ (breaker_on n w))) at u.breaker;
        line = λ i hi l. rw (kept H S (bus_breaker i) (out _ (line_on n w (path_in i h hi l)))) at (u.line i hi l);
      }

-- a path to bus b from a generator of the ring, usable under a health
pub record Supplies (n : ℕ) (H : PartHealth) (b : ℕ) (w : Path) : Type 0 where
  pub ends : Ends n w
  pub to_bus : w.bus ≡ b
  pub usable : Usable n H w

module _ (n : ℕ) (H : PartHealth) (b : ℕ) (hb : b < n) where
  supplied : (S : List Part) → darkens n H b S ≡ true → (w : Path) → Supplies n (with_faults H S) b w → ⊥
  unfolding darkens
  supplied S e w s =
      (de_energized_exactly n (with_faults H S) b hb).0 (is_none_lem _ e) w.source w.rising s.ends.source
      (rw s.to_bus at s.usable)

  -- more faults leave a dark bus dark
  pub darkens_more : (S T : List Part) → Within S T → darkens n H b S ≡ true → darkens n H b T ≡ true
  unfolding darkens
  darkens_more S T s e = none_is _ ((de_energized_exactly n (with_faults H T) b hb).1 (λ g r hg u. none_left g r hg u))
    where
      none_left : (g : ℕ) (r : Bool) → g < n → Usable n (with_faults H T) (path_to b g r) → ⊥
      none_left g r hg u =
          let h : Ends n (path_to b g r) = record { source = hg; bus = hb } in
          let out = usable_spared n H (path_to b g r) h T u in
          let v = spared_usable n H (path_to b g r) h S (usable_before n H (path_to b g r) h T u) (λ p m j. out p m (s p j)) in
          (de_energized_exactly n (with_faults H S) b hb).0 (is_none_lem _ e) g r hg v

  -- a set that leaves the bus dark has a part of every path that supplied it
  pub darkens_hits : (S : List Part) → darkens n H b S ≡ true → (w : Path) → Supplies n H b w → (p : Part) × (p ∈ S) × (p ∈ path_parts n w)
  darkens_hits S e w s = go (common_or_apart (path_parts n w) S)
    where
      go : ((p : Part) × (p ∈ S) × (p ∈ path_parts n w)) ⊎ Spared n w S → (p : Part) × (p ∈ S) × (p ∈ path_parts n w)
      go (inl t) = t
      go (inr f) =
          absurd (supplied S e w (record { ends = s.ends; to_bus = s.to_bus; usable = spared_usable n H w s.ends S s.usable f }))

-- ---- how many faults it takes at least

-- paths no two of which have a part in common
pub data Disjoint (n : ℕ) : List Path → Type 0 where
  no_path : Disjoint n []
  one_more_path : {w : Path} {ws : List Path} → ((v : Path) → v ∈ ws → (p : Part) → p ∈ path_parts n w → p ∈ path_parts n v → ⊥)
      → Disjoint n ws → Disjoint n (w ∷ ws)

-- a fault for each of them: no fewer leave the bus dark
pub disjoint_faults : (n : ℕ) (H : PartHealth) (b : ℕ) → b < n → (S : List Part) → darkens n H b S ≡ true
    → {ws : List Path} → Disjoint n ws → ((w : Path) → w ∈ ws → Supplies n H b w) → length ws ≤ length S
disjoint_faults n H b hb S e {ws} d s = let t = hits d s in omega (arith, t.1, distinct_shorter t.2 S (λ p m. (t.3 p m).0))
  where
    -- a part of the set on each path, no two the same
    hits : {vs : List Path} → Disjoint n vs → ((w : Path) → w ∈ vs → Supplies n H b w)
        → (ps : List Part) × (length ps ≡ length vs) × Distinct ps
        × ((p : Part) → p ∈ ps → (p ∈ S) × ((v : Path) × (v ∈ vs) × (p ∈ path_parts n v)))
    hits no_path s = ([], refl, nothing, λ p m. absurd (Memᴰ.not-nil m))
    hits (one_more_path {w = w} {ws = vs} f d) s =
        let t = hits d (λ v m. s v (Memᴰ.tail m)) in
        let x = darkens_hits n H b hb S e w (s w (Memᴰ.head refl)) in (
          x.0 ∷ t.0,
          ap suc t.1,
          one_more (λ m. let y = (t.3 x.0 m).1 in f y.0 y.1 x.0 x.2 y.2) t.2,
          all_cons (λ p. (p ∈ S) × ((v : Path) × (v ∈ w ∷ vs) × (p ∈ path_parts n v))) (x.1, (w, Memᴰ.head refl, x.2))
              (λ p m. let y = t.3 p m in (y.0, (y.1.0, Memᴰ.tail y.1.1, y.1.2))),
        )

-- ---- minimal sets

module _ (n : ℕ) (H : PartHealth) (b : ℕ) (S : List Part) where
  minimal_at : minimal n H b S ≡ true → (darkens n H b S ≡ true) × ((T : List Part) → Proper T S → darkens n H b T ≡ false)
  unfolding minimal
  minimal_at e = (
    and_left (darkens n H b S) _ e,
    λ T r. any_none (darkens n H b) (not-true _ (and_right (darkens n H b S) _ e)) (proper_in r),
  )

  pub minimal_of : darkens n H b S ≡ true → ((T : List Part) → Proper T S → darkens n H b T ≡ false) → minimal n H b S ≡ true
  unfolding minimal
  minimal_of d f =
      and_intro (darkens n H b S) _ d
      (not_of _ (any_false (darkens n H b) (proper_subsets S) (λ T m. f T (proper_at S m))))

  pub not_dark : darkens n H b S ≡ false → minimal n H b S ≡ false
  unfolding minimal
  not_dark e = rw e

  -- a set is not minimal when a proper subset leaves the bus dark
  pub not_least : (T : List Part) → Proper T S → darkens n H b T ≡ true → minimal n H b S ≡ false
  not_least T r e = go (dec (minimal n H b S))
    where
      go : (minimal n H b S ≡ true) ⊎ (minimal n H b S ≡ false) → minimal n H b S ≡ false
      go (inl m) = contra e ((minimal_at m).1 T r)
      go (inr m) = m

-- it is enough to leave out one part at a time
pub minimal_one : (n : ℕ) (H : PartHealth) (b : ℕ) → b < n → (S : List Part) → darkens n H b S ≡ true
    → ((i : ℕ) → i < length S → darkens n H b (without i S) ≡ false) → minimal n H b S ≡ true
minimal_one n H b hb S d f = minimal_of n H b S d (λ T r. go T r (dec (darkens n H b T)))
  where
    go : (T : List Part) → Proper T S → (darkens n H b T ≡ true) ⊎ (darkens n H b T ≡ false) → darkens n H b T ≡ false
    go T r (inl e) =
        let t = proper_without r.0 r.1 in
        contra (darkens_more n H b hb T (without t.0 S) (sub_within t.2) e) (f t.0 t.1)
    go T r (inr e) = e

-- a part that is on no path to a bus
abbrev pub Idle : ℕ → PartHealth → Part → Type 0
Idle n H p = (b : ℕ) (w : Path) → Supplies n H b w → p ∈ path_parts n w → ⊥

-- .. is in no minimal set: without it the bus is dark all the same
pub idle_superfluous : (n : ℕ) (H : PartHealth) (b : ℕ) → b < n → {p : Part} {S : List Part} → p ∈ S → Idle n H p → minimal n H b S ≡ false
unfolding darkens
idle_superfluous n H b hb {p} {S} m idle = go (dec (darkens n H b S)) (part_index m)
  where
    -- a path that is usable without p is usable with it
    same : darkens n H b S ≡ true → (i : ℕ) → ((q : Part) → q ∈ S → (q ≡ p) ⊎ (q ∈ without i S))
        → (g : ℕ) (r : Bool) → g < n → Usable n (with_faults H (without i S)) (path_to b g r) → ⊥
    same e i f g r hg u =
        supplied n H b hb S e w (record { ends = h; to_bus = refl; usable = spared_usable n H w h S v (λ q k j. spared q k (f q j)) })
      where
        w : Path
        w = path_to b g r

        h : Ends n w
        h = record { source = hg; bus = hb }

        v : Usable n H w
        v = usable_before n H w h (without i S) u

        spared : (q : Part) → q ∈ path_parts n w → (q ≡ p) ⊎ (q ∈ without i S) → ⊥
        spared q k (inl z) = idle b w (record { ends = h; to_bus = refl; usable = v }) (Memᴰ.cast (sym z) k)
        spared q k (inr j) = usable_spared n H w h (without i S) u q k j

    go : (darkens n H b S ≡ true) ⊎ (darkens n H b S ≡ false)
        → (i : ℕ) × (i < length S) × ((q : Part) → q ∈ S → (q ≡ p) ⊎ (q ∈ without i S)) → minimal n H b S ≡ false
    go (inr e) t = not_dark n H b S e
    go (inl e) (i, l, f) =
        not_least n H b S (without i S) (without_proper i S l)
        (none_is _ ((de_energized_exactly n (with_faults H (without i S)) b hb).1 (same e i f)))

-- ---- what is listed

-- "every smallest set of at most three further faults that leaves that bus dark"; "Each set is listed once, by size, then by part codes."
pub listed : (n : ℕ) (H : PartHealth) (b : ℕ) → n ≤ largest → Listed n H b (cut_sets n H b)
unfolding cut_sets further_faults
listed n H b h = record { exactly = λ S. (to S, from S); in_order = order; once = order_once order }
  where
    rising : RisingBy part_code (further_faults n H)
    rising = rising_keep (can_fail H) (parts_rise n h)

    order : InOrder (cut_sets n H b)
    order = order_keep (minimal n H b) (order_sizes (suc most_faults) rising)

    to : (S : List Part) → S ∈ cut_sets n H b → CutSet n H b S
    to S m =
        let t = keep_at (minimal n H b) (sizes_below (suc most_faults) (further_faults n H)) m in
        let u = sizes_at (suc most_faults) (further_faults n H) t.0 in
        let d = minimal_at n H b S t.1 in
        record {
          rises = sub_rising u.1 rising;
          few = omega (arith, u.0);
          further = λ p k. let v = keep_at (can_fail H) (parts n) (sub_within u.1 p k) in (parts_at n p v.0, v.1);
          dark = d.0;
          least = d.1;
        }

    from : (S : List Part) → CutSet n H b S → S ∈ cut_sets n H b
    from S c =
        keep_in (minimal n H b)
        (sizes_in (suc most_faults) (further_faults n H) (omega (arith, c.few))
        (rising_sub rising c.rises (λ p k. let t = c.further p k in keep_in (can_fail H) (parts_in n p t.0) t.1)))
        (minimal_of n H b S c.dark c.least)

-- no other list is that of all cut sets
pub listed_only : (n : ℕ) (H : PartHealth) (b : ℕ) → n ≤ largest → {Ss : List (List Part)} → Listed n H b Ss → Ss ≡ cut_sets n H b
listed_only n H b h l =
    let m = listed n H b h in
    order_only l.in_order m.in_order (λ S k. (m.exactly S).1 ((l.exactly S).0 k)) (λ S k. (l.exactly S).1 ((m.exactly S).0 k))

-- a list without repeats that has one member alone
only_one : {A : Type 0} {x : A} (xs : List A) → Distinct xs → x ∈ xs → ((y : A) → y ∈ xs → y ≡ x) → xs ≡ x ∷ []
only_one [] d m f = absurd (Memᴰ.not-nil m)
only_one (y ∷ []) d m f = ap (λ z. z ∷ []) (f y (Memᴰ.head refl))
only_one (y ∷ z ∷ xs) (one_more g d) m f =
    absurd (g (Memᴰ.head (f y (Memᴰ.head refl) ∙ sym (f z (Memᴰ.tail (Memᴰ.head refl))))))

-- "A bus already dark has one set, the empty one."
pub dark_already : (n : ℕ) (H : PartHealth) (b : ℕ) → n ≤ largest → plan n H b ≡ none → cut_sets n H b ≡ [] ∷ []
unfolding darkens with_faults
dark_already n H b h e =
    only_one (cut_sets n H b) (listed n H b h).once (((listed n H b h).exactly []).1 nothing_more)
    (λ S m. empty_only S (((listed n H b h).exactly S).0 m))
  where
    dark : darkens n H b [] ≡ true
    dark = none_is (plan n H b) e

    nothing_more : CutSet n H b []
    nothing_more = record {
      rises = empty;
      few = omega arith;
      further = λ p m. absurd (Memᴰ.not-nil m);
      dark = dark;
      least = λ T r. absurd (omega (arith, r.1));
    }

    empty_only : (S : List Part) → CutSet n H b S → S ≡ []
    empty_only [] c = refl
    empty_only (p ∷ S) c = contra dark (c.least [] (sub_none (p ∷ S), omega arith))

-- ---- what does not matter

module _ (n : ℕ) (H K : PartHealth) (a : Alike n H K) where
  -- what f says of a part, after the same further faults
  faults_same : (f : ℕ → Bool) (p : Part) (S : List Part) → f (H.health p) ≡ f (K.health p) → f ((with_faults H S).health p) ≡ f ((with_faults K S).health p)
  faults_same f p S e = go (in_or_out p S)
    where
      go : (p ∈ S) ⊎ (p ∈ S → ⊥) → f ((with_faults H S).health p) ≡ f ((with_faults K S).health p)
      go (inl m) = rw (failed H S p m, failed K S p m)
      go (inr m) = rw (kept H S p m, kept K S p m) e

  -- the same generators are fit after them
  fit_same : (g : ℕ) (S : List Part) → fit_generator H g ≡ fit_generator K g → fit_generator (with_faults H S) g ≡ fit_generator (with_faults K S) g
  fit_same g S e = rw (faults_locked H S g, faults_locked K S g) (go (in_or_out (generator g) S))
    where
      go : (generator g ∈ S) ⊎ (generator g ∈ S → ⊥)
          → fit ((with_faults H S).health (generator g)) && not (H.locked g) ≡ fit ((with_faults K S).health (generator g)) && not (K.locked g)
      go (inl m) = rw (failed H S (generator g) m, failed K S (generator g) m)
      go (inr m) = rw (kept H S (generator g) m, kept K S (generator g) m) e

  pub alike_after : (S : List Part) → Alike n (with_faults H S) (with_faults K S)
  alike_after S = record {
    generators = λ g h. fit_same g S (a.generators g h);
    generator_breakers_lem = λ g h. faults_same stuck_open (generator_breaker g) S (a.generator_breakers_lem g h);
    bus_breakers_lem = λ i h. faults_same stuck_open (bus_breaker i) S (a.bus_breakers_lem i h);
  }

  can_fail_same : (p : Part) → InRing n p → can_fail H p ≡ can_fail K p
  unfolding can_fail
  can_fail_same (Generator zero) r = absurd (omega (arith, r.0))
  can_fail_same (Generator (suc g)) r = a.generators g r.1
  can_fail_same (GeneratorBreaker zero) r = absurd (omega (arith, r.0))
  can_fail_same (GeneratorBreaker (suc g)) r = ap not (a.generator_breakers_lem g r.1)
  can_fail_same (BusBreaker zero) r = absurd (omega (arith, r.0))
  can_fail_same (BusBreaker (suc i)) r = ap not (a.bus_breakers_lem i r.1)

  reaches_same : (b g : ℕ) → Reaches n H b g → Reaches n K b g
  reaches_same b g r = record {
    inside = r.inside;
    runs = sym (a.generators g r.inside) ∙ r.runs;
    breaker = sym (a.generator_breakers_lem g r.inside) ∙ r.breaker;
    line = leads_mono (λ i h e. ap not (sym (a.bus_breakers_lem i h)) ∙ e) r.line;
  }

turned : {n : ℕ} {H K : PartHealth} → Alike n H K → Alike n K H
turned a = record {
  generators = λ g h. sym (a.generators g h);
  generator_breakers_lem = λ g h. sym (a.generator_breakers_lem g h);
  bus_breakers_lem = λ i h. sym (a.bus_breakers_lem i h);
}

-- cut sets depend on which generators of the ring are fit and which breakers are stuck open, and on nothing else: not on commands,
-- not on parts above n, not on whether a breaker is fit or stuck closed
pub cut_sets_alike : (n : ℕ) (H K : PartHealth) → Alike n H K → (b : ℕ) → b < n → cut_sets n H b ≡ cut_sets n K b
unfolding cut_sets further_faults minimal
cut_sets_alike n H K a b hb =
    ap (λ ps. keep (minimal n H b) (sizes_below (suc most_faults) ps))
    (keep_ext (can_fail H) (can_fail K) (parts n) (λ p m. can_fail_same n H K a p (parts_at n p m)))
    ∙ keep_ext (minimal n H b) (minimal n K b) (sizes_below (suc most_faults) (further_faults n K))
    (λ S m. ap₂ ◌&&◌ (same S) (ap not (any_ext (darkens n H b) (darkens n K b) (proper_subsets S) (λ T k. same T))))
  where
    into : (H K : PartHealth) → Alike n H K → (S : List Part) → darkens n H b S ≡ true → darkens n K b S ≡ true
    into H K a S e =
        (darkens_exactly n K b hb S).1
        (λ g r. (darkens_exactly n H b hb S).0 e g (reaches_same n (with_faults K S) (with_faults H S) (turned (alike_after n H K a S)) b g r))

    same : (S : List Part) → darkens n H b S ≡ darkens n K b S
    same S = iff (darkens n H b S) (darkens n K b S) (into H K a S) (into K H (turned a) S)

-- so a breaker that sticks closed changes no list
pub stuck_closed_same : (n : ℕ) (H : PartHealth) (i : ℕ) → stuck_open (H.health (bus_breaker i)) ≡ false → (b : ℕ) → b < n
    → cut_sets n H b ≡ cut_sets n (reported H (record { part = bus_breaker i; word = StuckClosed })) b
unfolding reported same_part
stuck_closed_same n H i e b hb =
    cut_sets_alike n H (reported H (record { part = bus_breaker i; word = StuckClosed }))
    (record { generators = λ g h. refl; generator_breakers_lem = λ g h. refl; bus_breakers_lem = λ j h. go j (dec_eq (suc j) (suc i)) }) b hb
  where
    go : (j : ℕ) → (suc j ≡ suc i) ⊎ (suc j ≢ suc i)
        → stuck_open (H.health (bus_breaker j)) ≡ stuck_open ((reported H (record { part = bus_breaker i; word = StuckClosed })).health (bus_breaker j))
    go j (inl z) = rw (eq-eqb (suc j) (suc i) z) (ap (λ k. stuck_open (H.health (BusBreaker k))) z ∙ e)
    go j (inr z) = rw (ne_eqb (suc j) (suc i) z)

-- ---- worked examples

pub worked_sets : map listed_codes worked ≡ map (λ (x : Worked). x.expected) worked
unfolding worked listed_codes health_after below keep first any_of all_of part_code same_part parts next up arc connected
    others sources path_bus_breakers path_breakers path_parts high_rises paths_from paths flat_map
    on_paths usable counted_closed isolated permitted choose add_path chosen plan
    can_fail further_faults reported with_faults darkens subsets proper_subsets minimal of_size sizes_below cut_sets
worked_sets = refl

-- "A started ring of three has ten sets for B3."
pub ten_for_b3 : length (cut_sets 3 all_fit 2) ≡ 10
unfolding worked listed_codes health_after
ten_for_b3 = sym (length-map (cut_sets 3 all_fit 2) (map part_code)) ∙ ap (λ (l : List (List (List ℕ))). length (get_or l 0 [])) worked_sets
