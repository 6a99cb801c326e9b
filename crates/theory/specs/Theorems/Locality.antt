-- Parts above n are not read: choices, commands, the opening phase and feeds depend on the parts of the ring alone.
use Rattle.std.proofs.Math.Path.{◌≡◌, refl, ap, ap₂}
use Rattle.std.specs.Prelude.{Bool, ◌||◌, List, ◌∷◌}
use Rattle.std.proofs.Math.Bool.{true, false, not, ◌&&◌, cond}
use Prim.Native.Nat.{ℕ, zero, suc, ◌≤◌, ◌<◌}
use Rattle.std.proofs.Common.{arith, ltb-true}
use Rattle.std.proofs.Math.Dec.{ltb, eqb}
use Rattle.model.specs.declared.Part.{Part}
use Rattle.model.specs.declared.Choice.TheVariants.{Dark}
use Rattle.model.specs.declared.BusChoice.{BusChoice}
use Rattle.model.specs.Lists.{below, ◌∈◌}
use Rattle.model.specs.Plant.{
  PartHealth,
  PartCommands,
  largest,
  parts,
  generator,
  generator_breaker,
  bus_breaker,
  fit_generator,
  stuck_open,
  closed,
  bus_breaker_closed,
  InRing,
  running,
  feeds,
  feeders,
  feed_by,
  bus_feed,
}
use Rattle.model.specs.Priority.{Path, path_breakers, paths}
use Rattle.model.specs.Choosing.{usable, counted_closed, isolated, permitted, choose, chosen, plan, commands, choice_of, choices}
use Rattle.model.specs.Sheet.{opening}
use Rattle.model.specs.Laws.Lists.{all_cons, all_ext, first_ext, keep_ext, map_ext, below_lt}
use Rattle.model.specs.Reports.{health_of, health_places}
use Rattle.model.specs.Laws.Parts.{at_index, parts_at, health_places_lem, lock_places}
use Rattle.theory.specs.Theorems.Connected.{connected_ext}
use Rattle.theory.specs.Proofs.Paths.{Ends, path_in_ring, breakers_on, tried_at}
use Rattle.theory.specs.Proofs.Choosing.{safe_chosen}
use Rattle.theory.specs.Theorems.Feeds.{commanded_at}

-- two values for each part agree on the parts of the ring
abbrev pub Agree : {A : Type 0} → ℕ → (Part → A) → (Part → A) → Type 0
Agree n f g = (p : Part) → InRing n p → f p ≡ g p

-- two healths that agree on the ring: so do the locks
pub record SameHealth (n : ℕ) (H K : PartHealth) : Type 0 where
  pub health : Agree n H.health K.health
  pub locked : (g : ℕ) → g < n → H.locked g ≡ K.locked g

-- the same generators are fit
fit_ext : (n : ℕ) (H K : PartHealth) → SameHealth n H K → (g : ℕ) → g < n → fit_generator H g ≡ fit_generator K g
fit_ext n H K same g h = rw (same.health (generator g) (at_index n g h), same.locked g h)

-- ---- choosing

module _ (n : ℕ) (H K : PartHealth) (same : SameHealth n H K) where
  usable_ext : (w : Path) → Ends n w → usable n H w ≡ usable n K w
  unfolding usable
  usable_ext w h =
      ap₂ ◌&&◌ (fit_ext n H K same w.source h.source)
      (all_ext (λ p. not (stuck_open (H.health p))) (λ p. not (stuck_open (K.health p))) (path_breakers n w)
      (λ p m. rw (same.health p (path_in_ring n w h p (breakers_on n w p m)))))

  isolated_ext : (ws : List Path) → ((w : Path) → w ∈ ws → Ends n w) → isolated n H ws ≡ isolated n K ws
  unfolding isolated counted_closed
  isolated_ext ws ends = all_ext _ _ ws (λ v mv. all_ext _ _ ws (λ w mw. ap (λ t. eqb v.source w.source || not t)
      (connected_ext n (counted_closed n H ws) (counted_closed n K ws) v.source w.source (ends v mv).source (ends w mw).source
      (λ i h. rw (same.health (bus_breaker i) (at_index n i h))))))

  choose_ext : (ws : List Path) (b : ℕ) → b < n → ((w : Path) → w ∈ ws → Ends n w) → choose n H ws b ≡ choose n K ws b
  unfolding choose permitted
  choose_ext ws b hb ends = first_ext (permitted n H ws) (permitted n K ws) (paths n b) (λ w m.
      let t = tried_at n b w hb m in
      let h : Ends n w = record { source = t.0; bus = rw t.1 hb } in
      ap₂ ◌&&◌ (usable_ext w h) (isolated_ext (w ∷ ws) (all_cons (Ends n) h ends)))

  pub chosen_ext : (k : ℕ) → k ≤ n → chosen n H k ≡ chosen n K k
  unfolding chosen
  chosen_ext zero h = refl
  chosen_ext (suc k) h = rw (chosen_ext k (omega arith), choose_ext (chosen n K k) k h (safe_chosen n K k (omega arith)).ends)

  pub plan_ext : (b : ℕ) → b < n → plan n H b ≡ plan n K b
  unfolding plan
  plan_ext b h = rw (chosen_ext b (omega arith), choose_ext (chosen n K b) b h (safe_chosen n K b (omega arith)).ends)

  pub commands_ext : (p : Part) → commands n H p ≡ commands n K p
  unfolding commands
  commands_ext p = rw (chosen_ext n (omega arith))

  pub choices_ext : choices n H ≡ choices n K
  unfolding choices
  choices_ext = map_ext _ _ (below largest) (λ b m. go b (ltb b n) refl)
    where
      go : (b : ℕ) (t : Bool) → ltb b n ≡ t
          → ◌≡◌ {A = BusChoice} (record { choice = cond (ltb b n) (choice_of n (plan n H b)) Dark })
          (record { choice = cond (ltb b n) (choice_of n (plan n K b)) Dark })
      go b true e = rw (plan_ext b (ltb-true b n e))
      go b false e = rw e

-- only parts of the ring are commanded on or closed
pub commanded_in_ring : (n : ℕ) (H : PartHealth) (p : Part) → commands n H p ≡ true → InRing n p
commanded_in_ring n H p e =
    let t = commanded_at n H p e in path_in_ring n t.0 ((safe_chosen n H n (omega arith)).ends t.0 t.1) p t.2

-- the arrays that a health is made of plan as it does
module _ (n : ℕ) (small : n ≤ largest) (H : PartHealth) where
  held : SameHealth n (health_of (health_places H)) H
  held = record { health = λ p r. health_places_lem H p (r.0, omega (arith, r.1)); locked = λ g h. lock_places H g (omega arith) }

  pub choices_held : choices n (health_of (health_places H)) ≡ choices n H
  choices_held = choices_ext n (health_of (health_places H)) H held

  pub commands_held : commands n (health_of (health_places H)) ≡ commands n H
  commands_held = λ i p. commands_ext n (health_of (health_places H)) H held p i

-- ---- the opening phase

module _ (n : ℕ) (C C' D D' : PartCommands) (olds : Agree n C C') (news : Agree n D D') where
  pub opening_ext : opening n C D ≡ opening n C' D'
  unfolding opening
  opening_ext =
      keep_ext (λ p. C p && not (D p)) (λ p. C' p && not (D' p)) (parts n) (λ p m. let r = parts_at n p m in rw (olds p r, news p r))

-- ---- the reckoning

pub feed_ext : (n : ℕ) (H K : PartHealth) (C D : PartCommands) → SameHealth n H K → Agree n C D → (b : ℕ) → b < n
    → bus_feed n H C b ≡ bus_feed n K D b
unfolding bus_feed feeders feeds
feed_ext n H K C D same both b hb = ap feed_by (keep_ext (feeds n H C b) (feeds n K D b) (below n) (λ g m. one g (below_lt n g m)))
  where
    one : (g : ℕ) → g < n → feeds n H C b g ≡ feeds n K D b g
    one g hg =
        let r = at_index n g hg in
        let near : running H C g && closed (H.health (generator_breaker g)) (C (generator_breaker g))
        ≡ running K D g && closed (K.health (generator_breaker g)) (D (generator_breaker g)) =
        rw (fit_ext n H K same g hg, same.health (generator_breaker g) r, both (generator g) r, both (generator_breaker g) r) in
        ap₂ ◌&&◌ near
        (connected_ext n (bus_breaker_closed H C) (bus_breaker_closed K D) g b hg hb
        (λ i h. let s = at_index n i h in rw (same.health (bus_breaker i) s, both (bus_breaker i) s)))
