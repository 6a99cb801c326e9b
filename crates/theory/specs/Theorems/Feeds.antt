-- Who feeds a bus: what the reckoning says, that fewer commands feed less, and that after all commands of a plan a bus with a
-- choice is fed by the generator named and no other, a dark bus by none.
use Rattle.std.specs.Prelude.{◌≡◌, Bool, not, ◌&&◌, ◌||◌, cond, ◌≢◌, ◌⊎◌, ℕ, zero, suc, ◌≤◌, ◌<◌}
use Rattle.std.proofs.Math.Path.{refl}
use Rattle.std.proofs.Common.{sym, ◌∙◌, ap, inl, inr, arith}
use Rattle.std.proofs.Math.Bool.{true, false}
use mathlib.Core.List.Memᴰ
use mathlib.Core.List.{List, [], ◌∷◌}
use Rattle.std.proofs.Math.Option.{Option, none, some}
use Rattle.std.proofs.lemmas.Bool.{not-true}
use Rattle.model.specs.declared.Part.{Part}
use Rattle.model.specs.declared.Feed.TheVariants.{Dark, Fed, Clash}
use Rattle.model.specs.Lists.{below, ◌∈◌, more}
use Rattle.model.specs.Plant.{
  PartHealth,
  PartCommands,
  generator,
  generator_breaker,
  bus_breaker,
  stuck_open,
  stuck_closed,
  closed,
  up,
  Leads,
  connected,
  bus_breaker_closed,
  fit_generator,
  running,
  feeds,
  feeders,
  feed_by,
  bus_feed,
  Reaches,
}
use Rattle.model.specs.Priority.{Path, path_parts}
use Rattle.model.specs.Choosing.{on_paths, counted_closed, choose, add_path, chosen, plan, commands}
use Rattle.model.specs.Laws.Tests.{never, contra, not_of, and_left, and_right, and_intro, or_cases, or_left, or_right, iff, dec, dec_eq}
use Rattle.model.specs.Laws.Lists.{below_in, below_lt, keep_at, keep_in, keep_ext, Rising, rising_below, rising_keep, none_some}
use Rattle.theory.specs.Theorems.Connected.{
  Arc,
  connected_leads,
  leads_connected,
  leads_mono,
  leads_trans,
  leads_sym,
  arc_leads,
  leads_arcs,
}
use Rattle.theory.specs.Proofs.Paths.{Ends, Uses, path_to, path_in, generator_on, source_on, breaker_on}
use Rattle.theory.specs.Proofs.Choosing.{on_at, on_in, Usable, Safe, counted_in, counted_usable, safe_chosen}
use Rattle.theory.specs.Theorems.Completeness.{complete, chosen_usable}

-- ---- the reckoning

-- no two generators feed bus b
abbrev pub Single : ℕ → PartHealth → PartCommands → ℕ → Type 0
Single n H C b = (g h : ℕ) → g < n → h < n → feeds n H C b g ≡ true → feeds n H C b h ≡ true → g ≡ h

rising_two : {x y : ℕ} {r : List ℕ} → Rising (x ∷ y ∷ r) → x < y
rising_two {y = y} (more l r) = l y (Memᴰ.head refl)

module _ (n : ℕ) (H : PartHealth) (C : PartCommands) (b : ℕ) where
  feeder_at : (g : ℕ) → g ∈ feeders n H C b → (g < n) × (feeds n H C b g ≡ true)
  unfolding feeders
  feeder_at g m = let t = keep_at (feeds n H C b) (below n) m in (below_lt n g t.0, t.1)

  feeder_in : (g : ℕ) → g < n → feeds n H C b g ≡ true → g ∈ feeders n H C b
  unfolding feeders
  feeder_in g h e = keep_in (feeds n H C b) (below_in n g h) e

  feeders_rise : Rising (feeders n H C b)
  unfolding feeders
  feeders_rise = rising_keep (feeds n H C b) (rising_below n)

  pub feed_dark : ((g : ℕ) → g < n → feeds n H C b g ≡ false) → bus_feed n H C b ≡ Dark
  unfolding bus_feed feed_by
  feed_dark f = go (feeders n H C b) refl
    where
      go : (l : List ℕ) → feeders n H C b ≡ l → feed_by l ≡ Dark
      go [] e = refl
      go (x ∷ xs) e = let t = feeder_at x (rw e (Memᴰ.head refl)) in contra t.1 (f x t.0)

  pub feed_by_lem : (g : ℕ) → g < n → feeds n H C b g ≡ true → ((h : ℕ) → h < n → feeds n H C b h ≡ true → h ≡ g)
      → bus_feed n H C b ≡ Fed (suc g)
  unfolding bus_feed feed_by
  feed_by_lem g hg fg only = go (feeders n H C b) refl
    where
      one : (x : ℕ) → x ∈ feeders n H C b → x ≡ g
      one x m = let t = feeder_at x m in only x t.0 t.1

      go : (l : List ℕ) → feeders n H C b ≡ l → feed_by l ≡ Fed (suc g)
      go [] e = absurd (Memᴰ.not-nil (rw e at (feeder_in g hg fg)))
      go (x ∷ []) e = ap (λ k. Fed (suc k)) (one x (rw e (Memᴰ.head refl)))
      go (x ∷ y ∷ r) e =
          let l : x < y = rising_two (rw e at feeders_rise) in
          absurd (omega (arith, one x (rw e (Memᴰ.head refl)), one y (rw e (Memᴰ.tail (Memᴰ.head refl)))))

  -- where no two generators feed the bus the answer is no clash
  pub no_clash : Single n H C b → (g h : ℕ) → bus_feed n H C b ≢ Clash g h
  unfolding bus_feed feed_by
  no_clash s g h c = go (feeders n H C b) refl
    where
      go : (l : List ℕ) → feeders n H C b ≡ l → ⊥
      go [] e = let q : Dark ≡ Clash g h = rw e at c in never cc
      go (x ∷ []) e = let q : Fed (suc x) ≡ Clash g h = rw e at c in never cc
      go (x ∷ y ∷ r) e =
          let l : x < y = rising_two (rw e at feeders_rise) in
          let t = feeder_at x (rw e (Memᴰ.head refl)) in
          let u = feeder_at y (rw e (Memᴰ.tail (Memᴰ.head refl))) in
          omega (arith, s x y t.0 u.0 t.1 u.1)

-- ---- what it takes to feed

pub record Feeding (n : ℕ) (H : PartHealth) (C : PartCommands) (b g : ℕ) : Type 0 where
  pub runs : fit_generator H g ≡ true
  pub on : C (generator g) ≡ true
  pub breaker : closed (H.health (generator_breaker g)) (C (generator_breaker g)) ≡ true
  pub line : Leads n (bus_breaker_closed H C) g b

module _ {n : ℕ} {H : PartHealth} {C : PartCommands} {b g : ℕ} where
  pub feeds_at : g < n → b < n → feeds n H C b g ≡ true → Feeding n H C b g
  unfolding feeds
  feeds_at hg hb e =
      let R = running H C g in
      let K = closed (H.health (generator_breaker g)) (C (generator_breaker g)) in
      let J = connected n (bus_breaker_closed H C) g b in
      let rk : R && K ≡ true = and_left (R && K) J e in
      let r : R ≡ true = and_left R K rk in
      record {
        runs = and_left (fit_generator H g) (C (generator g)) r;
        on = and_right (fit_generator H g) (C (generator g)) r;
        breaker = and_right R K rk;
        line = connected_leads hg hb (and_right (R && K) J e);
      }

  pub feeds_of : g < n → b < n → Feeding n H C b g → feeds n H C b g ≡ true
  unfolding feeds
  feeds_of hg hb f =
      let R = running H C g in
      let K = closed (H.health (generator_breaker g)) (C (generator_breaker g)) in
      and_intro (R && K) _ (and_intro R K (and_intro (fit_generator H g) (C (generator g)) f.runs f.on) f.breaker)
      (leads_connected hg hb f.line)

-- ---- what stands, and what stood: fewer fit and commanded parts feed less

-- what is closed or running by (H, C) is so by (K, D): of one part
pub closed_case : (h : ℕ) (c : Bool) → closed h c ≡ true → (stuck_closed h ≡ true) ⊎ ((stuck_open h ≡ false) × (c ≡ true))
closed_case h c e = go (or_cases (stuck_closed h) (not (stuck_open h) && c) e)
  where
    go : (stuck_closed h ≡ true) ⊎ (not (stuck_open h) && c ≡ true) → (stuck_closed h ≡ true) ⊎ ((stuck_open h ≡ false) × (c ≡ true))
    go (inl p) = inl p
    go (inr p) = inr (not-true (stuck_open h) (and_left (not (stuck_open h)) c p), and_right (not (stuck_open h)) c p)

pub closed_by : (h : ℕ) (c : Bool) → stuck_open h ≡ false → c ≡ true → closed h c ≡ true
closed_by h c p q = or_right (stuck_closed h) _ (rw (p, q))

-- every generator that runs, and every breaker that is closed, by H and C is so by K and D
pub record Less (n : ℕ) (H : PartHealth) (C : PartCommands) (K : PartHealth) (D : PartCommands) : Type 0 where
  pub runs : (g : ℕ) → g < n → fit_generator H g ≡ true → C (generator g) ≡ true → (fit_generator K g ≡ true) × (D (generator g) ≡ true)
  pub breaker : (g : ℕ) → g < n → closed (H.health (generator_breaker g)) (C (generator_breaker g)) ≡ true
      → closed (K.health (generator_breaker g)) (D (generator_breaker g)) ≡ true
  pub line : (i : ℕ) → i < n → closed (H.health (bus_breaker i)) (C (bus_breaker i)) ≡ true → closed (K.health (bus_breaker i)) (D (bus_breaker i)) ≡ true

pub feeds_less : {n : ℕ} {H K : PartHealth} {C D : PartCommands} → Less n H C K D → (b g : ℕ) → g < n → b < n → feeds n H C b g ≡ true
    → feeds n K D b g ≡ true
feeds_less l b g hg hb e =
    let t = feeds_at hg hb e in
    let r = l.runs g hg t.runs t.on in
    feeds_of hg hb (record { runs = r.0; on = r.1; breaker = l.breaker g hg t.breaker; line = leads_mono l.line t.line })

pub single_less : {n : ℕ} {H K : PartHealth} {C D : PartCommands} → Less n H C K D → (b : ℕ) → b < n → Single n K D b → Single n H C b
single_less l b hb s g h hg hh fg fh = s g h hg hh (feeds_less l b g hg hb fg) (feeds_less l b h hh hb fh)

-- the same run and the same are closed: every bus is fed alike
pub feed_alike : {n : ℕ} {H K : PartHealth} {C D : PartCommands} → Less n H C K D → Less n K D H C → (b : ℕ) → b < n
    → bus_feed n H C b ≡ bus_feed n K D b
unfolding bus_feed feeders
feed_alike {n} {H} {K} {C} {D} l m b hb = ap feed_by (keep_ext (feeds n H C b) (feeds n K D b) (below n) (λ g i. one g (below_lt n g i)))
  where
    one : (g : ℕ) → g < n → feeds n H C b g ≡ feeds n K D b g
    one g hg = iff (feeds n H C b g) (feeds n K D b g) (feeds_less l b g hg hb) (feeds_less m b g hg hb)

-- ---- after all commands of a plan

-- a path all of whose breakers are in D leads from its generator to its bus
path_leads : {n : ℕ} {w : Path} (D : ℕ → Bool) → Ends n w → ((i : ℕ) → i < n → Uses n w i → D i ≡ true) → Leads n D w.source w.bus
path_leads {n} {w} D h f = go w.rising f
  where
    go : (r : Bool)
        → ((i : ℕ) → i < n → up n (cond r w.source w.bus) i < up n (cond r w.source w.bus) (cond r w.bus w.source)
        → D i ≡ true)
        → Leads n D w.source w.bus
    go true f = arc_leads n D w.source w.bus h.source h.bus f
    go false f = leads_sym (arc_leads n D w.bus w.source h.bus h.source f)

-- the chosen paths only grow
add_in : (o : Option Path) {ws : List Path} {w : Path} → w ∈ ws → w ∈ add_path o ws
unfolding add_path
add_in none m = m
add_in (some v) m = Memᴰ.tail m

chosen_grows : (n : ℕ) (H : PartHealth) (k m : ℕ) (w : Path) → k ≤ m → w ∈ chosen n H k → w ∈ chosen n H m
unfolding chosen
chosen_grows n H k zero w h i = let e : k ≡ 0 = omega arith in rw e at i
chosen_grows n H k (suc m) w h i = go (chosen_grows n H k m w) (dec_eq k (suc m))
  where
    go : (k ≤ m → w ∈ chosen n H k → w ∈ chosen n H m) → (k ≡ suc m) ⊎ (k ≢ suc m) → w ∈ chosen n H (suc m)
    go r (inl p) = rw p at i
    go r (inr p) = add_in (choose n H (chosen n H m) m) (r (omega arith) i)

plan_in : (n : ℕ) (H : PartHealth) (b : ℕ) (w : Path) → plan n H b ≡ some w → w ∈ chosen n H (suc b)
unfolding chosen plan add_path
plan_in n H b w e = rw e (Memᴰ.head refl)

module _ (n : ℕ) (H : PartHealth) where
  -- all that is chosen in the end
  abbrev all : List Path
  all = chosen n H n

  all_safe : Safe n H all
  all_safe = safe_chosen n H n (omega arith)

  -- with the plan's commands, the closed bus breakers are those that count as closed
  closed_counted : (i : ℕ) → i < n → closed (H.health (bus_breaker i)) (commands n H (bus_breaker i)) ≡ true → counted_closed n H all i ≡ true
  unfolding counted_closed commands
  closed_counted i h e = go (closed_case (H.health (bus_breaker i)) (commands n H (bus_breaker i)) e)
    where
      go : (stuck_closed (H.health (bus_breaker i)) ≡ true) ⊎ ((stuck_open (H.health (bus_breaker i)) ≡ false) × (on_paths n all (bus_breaker i) ≡ true))
          → stuck_closed (H.health (bus_breaker i)) || on_paths n all (bus_breaker i) ≡ true
      go (inl p) = or_left (stuck_closed (H.health (bus_breaker i))) _ p
      go (inr p) = or_right (stuck_closed (H.health (bus_breaker i))) _ p.1

  counted_closed_lem : (i : ℕ) → i < n → counted_closed n H all i ≡ true → closed (H.health (bus_breaker i)) (commands n H (bus_breaker i)) ≡ true
  unfolding counted_closed commands
  counted_closed_lem i h e = go (or_cases (stuck_closed (H.health (bus_breaker i))) (on_paths n all (bus_breaker i)) e)
    where
      go : (stuck_closed (H.health (bus_breaker i)) ≡ true) ⊎ (on_paths n all (bus_breaker i) ≡ true)
          → closed (H.health (bus_breaker i)) (on_paths n all (bus_breaker i)) ≡ true
      go (inl p) = or_left (stuck_closed (H.health (bus_breaker i))) _ p
      go (inr p) = closed_by (H.health (bus_breaker i)) (on_paths n all (bus_breaker i)) (counted_usable all_safe i e) p

  -- a part that is commanded on or closed is on a chosen path
  pub commanded_at : (p : Part) → commands n H p ≡ true → (w : Path) × (w ∈ chosen n H n) × (p ∈ path_parts n w)
  unfolding commands
  commanded_at p e = on_at n all p e

  commanded_in : {w : Path} (p : Part) → w ∈ all → p ∈ path_parts n w → commands n H p ≡ true
  unfolding commands
  commanded_in p m q = on_in n p m q

  -- who feeds after the commands: the chosen generators, over what counts as closed
  feeds_chosen : (b g : ℕ) → g < n → b < n → feeds n H (commands n H) b g ≡ true
      → (w : Path) × (w ∈ all) × (g ≡ w.source) × Leads n (counted_closed n H all) g b
  feeds_chosen b g hg hb e =
      let t = feeds_at hg hb e in
      let c = commanded_at (generator g) t.on in
      (c.0, c.1, generator_on n c.0 g c.2, leads_mono closed_counted t.line)

  chosen_feeds : {w : Path} (b : ℕ) → w ∈ all → b < n → Leads n (counted_closed n H all) w.source b
      → feeds n H (commands n H) b w.source ≡ true
  chosen_feeds {w} b m hb r =
      let u = all_safe.usables w m in
      feeds_of (all_safe.ends w m).source hb
      (record {
        runs = u.runs;
        on = commanded_in (generator w.source) m (source_on n w);
        breaker =
            closed_by (H.health (generator_breaker w.source)) (commands n H (generator_breaker w.source)) u.breaker
            (commanded_in (generator_breaker w.source) m (breaker_on n w));
        line = leads_mono counted_closed_lem r;
      })

  -- the chosen generators are isolated from each other, so no bus has two feeders
  pub single : (b : ℕ) → b < n → Single n H (commands n H) b
  single b hb g h hg hh fg fh =
      let s = feeds_chosen b g hg hb fg in
      let t = feeds_chosen b h hh hb fh in
      s.2 ∙ all_safe.isolates s.0 t.0 s.1 t.1 (rw (s.2, t.2) at (leads_trans s.3 (leads_sym t.3))) ∙ sym t.2

  -- a bus with a choice
  pub energized_fed : (b : ℕ) (w : Path) → b < n → plan n H b ≡ some w → bus_feed n H (commands n H) b ≡ Fed (suc w.source)
  unfolding plan
  energized_fed b w hb e =
      feed_by_lem n H (commands n H) b w.source c.0.source feeding (λ h hh f. single b hb h w.source hh c.0.source f feeding)
    where
      c : Ends n w × (w.bus ≡ b) × Usable n H w
      c = chosen_usable n H (chosen n H b) (safe_chosen n H b (omega arith)) b hb w e

      m : w ∈ all
      m = chosen_grows n H (suc b) n w hb (plan_in n H b w e)

      r : Leads n (counted_closed n H all) w.source w.bus
      r = path_leads (counted_closed n H all) c.0 (λ i h u. counted_in n H i m (path_in i c.0 h u))

      feeding : feeds n H (commands n H) b w.source ≡ true
      feeding = chosen_feeds b m hb (rw c.1 at r)

  -- a generator that feeds bus b has a usable path to it
  feeder_usable : (b g : ℕ) → g < n → b < n → feeds n H (commands n H) b g ≡ true → (r : Bool) × Usable n H (path_to b g r)
  feeder_usable b g hg hb e = go (leads_arcs hb s.3)
    where
      s : (w : Path) × (w ∈ all) × (g ≡ w.source) × Leads n (counted_closed n H all) g b
      s = feeds_chosen b g hg hb e

      whole : (r : Bool) → ((i : ℕ) → i < n → Uses n (path_to b g r) i → counted_closed n H all i ≡ true) → Usable n H (path_to b g r)
      whole r f =
          let u = all_safe.usables s.0 s.1 in
          record { runs = rw s.2 u.runs; breaker = rw s.2 u.breaker; line = λ i h l. counted_usable all_safe i (f i h l) }

      go : Arc n (counted_closed n H all) g b ⊎ Arc n (counted_closed n H all) b g → (r : Bool) × Usable n H (path_to b g r)
      go (inl f) = (true, whole true f)
      go (inr f) = (false, whole false f)

  -- a dark bus
  pub de_energized_fed : (b : ℕ) → b < n → plan n H b ≡ none → bus_feed n H (commands n H) b ≡ Dark
  unfolding plan
  de_energized_fed b hb e = feed_dark n H (commands n H) b (λ g hg. go g hg (dec (feeds n H (commands n H) b g)))
    where
      go : (g : ℕ) → g < n → (feeds n H (commands n H) b g ≡ true) ⊎ (feeds n H (commands n H) b g ≡ false)
          → feeds n H (commands n H) b g ≡ false
      go g hg (inl f) =
          let s = feeder_usable b g hg hb f in
          none_some e (complete n H (chosen n H b) (safe_chosen n H b (omega arith)) b hb g s.0 hg s.1).1
      go g hg (inr f) = f

-- ---- a run of breakers, none stuck open

-- the same as a usable path in one of the two directions
pub reaches_usable : {n : ℕ} {H : PartHealth} {b g : ℕ} → b < n → Reaches n H b g → (r : Bool) × Usable n H (path_to b g r)
reaches_usable {n} {H} {b} {g} hb c = go (leads_arcs hb c.line)
  where
    free : ℕ → Bool
    free i = not (stuck_open (H.health (bus_breaker i)))

    whole : (r : Bool) → ((i : ℕ) → i < n → Uses n (path_to b g r) i → free i ≡ true) → Usable n H (path_to b g r)
    whole r f = record { runs = c.runs; breaker = c.breaker; line = λ i h l. not-true (stuck_open (H.health (bus_breaker i))) (f i h l) }

    go : Arc n free g b ⊎ Arc n free b g → (r : Bool) × Usable n H (path_to b g r)
    go (inl f) = (true, whole true f)
    go (inr f) = (false, whole false f)

pub usable_reaches : {n : ℕ} {H : PartHealth} {b g : ℕ} (r : Bool) → g < n → b < n → Usable n H (path_to b g r) → Reaches n H b g
usable_reaches {n} {H} {b} {g} r hg hb u = record {
  inside = hg;
  runs = u.runs;
  breaker = u.breaker;
  line =
      path_leads {w = path_to b g r} (λ i. not (stuck_open (H.health (bus_breaker i)))) (record { source = hg; bus = hb })
      (λ i h l. not_of (stuck_open (H.health (bus_breaker i))) (u.line i h l));
}
