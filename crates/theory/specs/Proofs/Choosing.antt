-- What holds of the chosen paths at every moment of the plan: each is usable, and no two chosen generators are connected.
use Rattle.std.specs.Prelude.{◌≡◌, refl, Bool, not, ◌||◌, ◌⊎◌, List, [], ◌∷◌, ℕ, zero, suc, ◌≤◌, ◌<◌, eqb}
use Rattle.std.proofs.Math.Bool.{true, false}
use Rattle.std.proofs.Common.{inl, inr, arith}
use mathlib.Core.List.Memᴰ
use Rattle.std.proofs.Math.Option.{Option, none, some}
use borrow.Author.Tests.{eqb-true, eq-eqb, not-true}
use Rattle.model.specs.declared.Part.{Part}
use Rattle.model.specs.declared.Choice.TheVariants.{Dark}
use Rattle.model.specs.Lists.{any_of, all_of, ◌∈◌}
use Rattle.model.specs.Values.{same_part}
use Rattle.model.specs.Plant.{PartHealth, largest, generator, generator_breaker, bus_breaker, fit, fit_generator, stuck_open, stuck_closed, Leads, connected}
use Rattle.model.specs.Priority.{Path, path_bus_breakers, path_breakers, path_parts, paths}
use Rattle.model.specs.Choosing.{on_paths, usable, counted_closed, isolated, permitted, choose, add_path, chosen, plan, choice_of, choices}
use Rattle.model.specs.Laws.Tests.{contra, not_of, and_left, and_right, and_intro, or_cases, or_left, or_right, dec}
use Rattle.model.specs.Laws.Lists.{all_cons, any_at, any_in, all_at, all_of_lem, map_in, first_at}
use Rattle.model.specs.Laws.Parts.{same_eq, same_refl}
use Rattle.model.specs.Laws.Choosing.{choice_source_lem, choices_at, Inside, AllInside}
use Rattle.theory.specs.Theorems.Connected.{connected_leads, leads_connected}
use Rattle.theory.specs.Proofs.Paths.{
  Ends,
  Uses,
  OnPath,
  at_generator,
  at_generator_breaker,
  at_bus_breaker,
  on_path,
  path_at,
  path_in,
  bus_breaker_on,
  breakers_on,
  line_on,
  tried_at,
}

-- ---- parts of chosen paths

pub on_at : (n : ℕ) (ws : List Path) (p : Part) → on_paths n ws p ≡ true → (w : Path) × (w ∈ ws) × (p ∈ path_parts n w)
unfolding on_paths
on_at n ws p e =
    let t = any_at (λ w. any_of (same_part p) (path_parts n w)) ws e in
    let s = any_at (same_part p) (path_parts n t.0) t.2 in
    (t.0, t.1, Memᴰ.cast (same_eq p s.0 s.2) s.1)

pub on_in : (n : ℕ) {ws : List Path} {w : Path} (p : Part) → w ∈ ws → p ∈ path_parts n w → on_paths n ws p ≡ true
unfolding on_paths
on_in n p m q = any_in (λ w. any_of (same_part p) (path_parts n w)) m (any_in (same_part p) q (same_refl p))

-- ---- a usable path

-- a fit generator's health is that of a fit part
pub fit_health : (H : PartHealth) (g : ℕ) → fit_generator H g ≡ true → H.health (generator g) ≡ 0
fit_health H g e = eqb-true (H.health (generator g)) 0 (and_left (fit (H.health (generator g))) (not (H.locked g)) e)

pub record Usable (n : ℕ) (H : PartHealth) (w : Path) : Type 0 where
  pub runs : fit_generator H w.source ≡ true
  pub breaker : stuck_open (H.health (generator_breaker w.source)) ≡ false
  pub line : (i : ℕ) → i < n → Uses n w i → stuck_open (H.health (bus_breaker i)) ≡ false

abbrev not_open : PartHealth → Part → Bool
not_open H p = not (stuck_open (H.health p))

module _ {n : ℕ} {H : PartHealth} {w : Path} (h : Ends n w) where
  pub usable_at : usable n H w ≡ true → Usable n H w
  unfolding usable path_breakers
  usable_at e =
      let A = fit_generator H w.source in
      let all = all_at (not_open H) (path_breakers n w) (and_right A _ e) in
      record {
        runs = and_left A _ e;
        breaker = not-true (stuck_open (H.health (generator_breaker w.source))) (all (generator_breaker w.source) (Memᴰ.head refl));
        line =
            λ i hi u. not-true (stuck_open (H.health (bus_breaker i))) (all (bus_breaker i) (Memᴰ.tail (map_in bus_breaker (path_in i h hi u))));
      }

  pub usable_of : Usable n H w → usable n H w ≡ true
  unfolding usable
  usable_of u =
      and_intro (fit_generator H w.source) _ u.runs
      (all_of_lem (not_open H) (path_breakers n w) (λ p m. not_of (stuck_open (H.health p)) (go p (on_path n w p (breakers_on n w p m)))))
    where
      go : (p : Part) → OnPath n w p → stuck_open (H.health p) ≡ false
      go p at_generator = rw (fit_health H w.source u.runs)
      go p at_generator_breaker = u.breaker
      go p (at_bus_breaker {i = i} m) = let t = path_at i h m in u.line i t.0 t.1

-- ---- isolated paths

-- no two chosen generators' buses are connected
abbrev pub Isolated : ℕ → PartHealth → List Path → Type 0
Isolated n H ws = (v w : Path) → v ∈ ws → w ∈ ws → Leads n (counted_closed n H ws) v.source w.source → v.source ≡ w.source

module _ (n : ℕ) (H : PartHealth) (ws : List Path) (ends : (w : Path) → w ∈ ws → Ends n w) where
  -- two chosen generators are one, or not connected
  apart : Path → Path → Bool
  apart v w = eqb v.source w.source || not (connected n (counted_closed n H ws) v.source w.source)

  pub isolated_at : isolated n H ws ≡ true → Isolated n H ws
  unfolding isolated apart
  isolated_at e v w mv mw r =
      go (or_cases (eqb v.source w.source) _ (all_at (apart v) ws (all_at (λ x. all_of (apart x) ws) ws e v mv) w mw))
    where
      go : (eqb v.source w.source ≡ true) ⊎ (not (connected n (counted_closed n H ws) v.source w.source) ≡ true)
          → v.source ≡ w.source
      go (inl p) = eqb-true v.source w.source p
      go (inr p) =
          contra (leads_connected (ends v mv).source (ends w mw).source r)
          (not-true (connected n (counted_closed n H ws) v.source w.source) p)

  pub isolated_of : Isolated n H ws → isolated n H ws ≡ true
  unfolding isolated apart
  isolated_of f =
      all_of_lem (λ x. all_of (apart x) ws) ws
      (λ v mv. all_of_lem (apart v) ws (λ w mw. go v w mv mw (dec (connected n (counted_closed n H ws) v.source w.source))))
    where
      go : (v w : Path) → v ∈ ws → w ∈ ws
          → (connected n (counted_closed n H ws) v.source w.source ≡ true) ⊎
          (connected n (counted_closed n H ws) v.source w.source ≡ false)
          → apart v w ≡ true
      go v w mv mw (inl p) =
          or_left (eqb v.source w.source) _
          (eq-eqb v.source w.source (f v w mv mw (connected_leads (ends v mv).source (ends w mw).source p)))
      go v w mv mw (inr p) =
          or_right (eqb v.source w.source) _ (not_of (connected n (counted_closed n H ws) v.source w.source) p)

-- ---- what counts as closed

pub counted_stuck : (n : ℕ) (H : PartHealth) (ws : List Path) (i : ℕ) → stuck_closed (H.health (bus_breaker i)) ≡ true
    → counted_closed n H ws i ≡ true
unfolding counted_closed
counted_stuck n H ws i e = or_left (stuck_closed (H.health (bus_breaker i))) _ e

pub counted_in : (n : ℕ) (H : PartHealth) {ws : List Path} {w : Path} (i : ℕ) → w ∈ ws → i ∈ path_bus_breakers n w
    → counted_closed n H ws i ≡ true
unfolding counted_closed
counted_in n H {w = w} i m u = or_right (stuck_closed (H.health (bus_breaker i))) _ (on_in n (bus_breaker i) m (line_on n w u))

pub counted_at : (n : ℕ) (H : PartHealth) (ws : List Path) (i : ℕ) → counted_closed n H ws i ≡ true
    → (stuck_closed (H.health (bus_breaker i)) ≡ true) ⊎ ((w : Path) × (w ∈ ws) × (i ∈ path_bus_breakers n w))
unfolding counted_closed
counted_at n H ws i e = go (or_cases (stuck_closed (H.health (bus_breaker i))) _ e)
  where
    go : (stuck_closed (H.health (bus_breaker i)) ≡ true) ⊎ (on_paths n ws (bus_breaker i) ≡ true)
        → (stuck_closed (H.health (bus_breaker i)) ≡ true) ⊎ ((w : Path) × (w ∈ ws) × (i ∈ path_bus_breakers n w))
    go (inl p) = inl p
    go (inr p) = let t = on_at n ws (bus_breaker i) p in inr (t.0, t.1, bus_breaker_on n t.0 i t.2)

-- one path more
pub counted_cons : (n : ℕ) (H : PartHealth) (ws : List Path) (w : Path) (i : ℕ) → counted_closed n H (w ∷ ws) i ≡ true
    → (counted_closed n H ws i ≡ true) ⊎ (i ∈ path_bus_breakers n w)
counted_cons n H ws w i e = go (counted_at n H (w ∷ ws) i e)
  where
    pick : (v : Path) → i ∈ path_bus_breakers n v → (v ≡ w) ⊎ (v ∈ ws) → (counted_closed n H ws i ≡ true) ⊎ (i ∈ path_bus_breakers n w)
    pick v u (inl p) = inr (rw p at u)
    pick v u (inr p) = inl (counted_in n H i p u)

    go : (stuck_closed (H.health (bus_breaker i)) ≡ true) ⊎ ((v : Path) × (v ∈ w ∷ ws) × (i ∈ path_bus_breakers n v))
        → (counted_closed n H ws i ≡ true) ⊎ (i ∈ path_bus_breakers n w)
    go (inl p) = inl (counted_stuck n H ws i p)
    go (inr t) = pick t.0 t.2 (Memᴰ.cases_cons t.1)

-- ---- the chosen paths

pub record Safe (n : ℕ) (H : PartHealth) (ws : List Path) : Type 0 where
  pub ends : (w : Path) → w ∈ ws → Ends n w
  pub usables : (w : Path) → w ∈ ws → Usable n H w
  pub isolates : Isolated n H ws

-- a breaker that counts as closed is not stuck open
pub counted_usable : {n : ℕ} {H : PartHealth} {ws : List Path} → Safe n H ws → (i : ℕ) → counted_closed n H ws i ≡ true
    → stuck_open (H.health (bus_breaker i)) ≡ false
counted_usable {n} {H} {ws} s i e = go (counted_at n H ws i e)
  where
    go : (stuck_closed (H.health (bus_breaker i)) ≡ true) ⊎ ((w : Path) × (w ∈ ws) × (i ∈ path_bus_breakers n w))
        → stuck_open (H.health (bus_breaker i)) ≡ false
    go (inl p) = rw (eqb-true (H.health (bus_breaker i)) 3 p)
    go (inr t) = let u = path_at i (s.ends t.0 t.1) t.2 in (s.usables t.0 t.1).line i u.0 u.1

-- a permitted path, as propositions
pub permitted_at : {n : ℕ} {H : PartHealth} {ws : List Path} {w : Path} → ((v : Path) → v ∈ w ∷ ws → Ends n v) → permitted n H ws w ≡ true
    → Usable n H w × Isolated n H (w ∷ ws)
unfolding permitted
permitted_at {n} {H} {ws} {w} ends e =
    (usable_at (ends w (Memᴰ.head refl)) (and_left (usable n H w) _ e), isolated_at n H (w ∷ ws) ends (and_right (usable n H w) _ e))

pub permitted_of : {n : ℕ} {H : PartHealth} {ws : List Path} {w : Path} → ((v : Path) → v ∈ w ∷ ws → Ends n v) → Usable n H w
    → Isolated n H (w ∷ ws)
    → permitted n H ws w ≡ true
unfolding permitted
permitted_of {n} {H} {ws} {w} ends u i =
    and_intro (usable n H w) _ (usable_of (ends w (Memᴰ.head refl)) u) (isolated_of n H (w ∷ ws) ends i)

-- a chosen path leads to its bus
pub chosen_ends : (n : ℕ) (H : PartHealth) (ws : List Path) (b : ℕ) (w : Path) → b < n → choose n H ws b ≡ some w → Ends n w × (w.bus ≡ b)
unfolding choose
chosen_ends n H ws b w hb e =
    let f = first_at (permitted n H ws) (paths n b) w e in
    let t = tried_at n b w hb f.0 in
    (record { source = t.0; bus = rw t.1 hb }, t.1)

pub safe_none : (n : ℕ) (H : PartHealth) → Safe n H []
safe_none n H = record {
  ends = λ w m. absurd (Memᴰ.not-nil m);
  usables = λ w m. absurd (Memᴰ.not-nil m);
  isolates = λ v w m. absurd (Memᴰ.not-nil m);
}

pub safe_cons : {n : ℕ} {H : PartHealth} {ws : List Path} {w : Path} → Safe n H ws → Ends n w → permitted n H ws w ≡ true
    → Safe n H (w ∷ ws)
safe_cons {n} {H} s h e =
    let ends = all_cons (Ends n) h s.ends in
    let t = permitted_at ends e in
    record { ends = ends; usables = all_cons (Usable n H) t.0 s.usables; isolates = t.1 }

pub safe_add : (n : ℕ) (H : PartHealth) (ws : List Path) (b : ℕ) → b < n → Safe n H ws → Safe n H (add_path (choose n H ws b) ws)
unfolding add_path choose
safe_add n H ws b hb s = go (choose n H ws b) refl
  where
    go : (o : Option Path) → choose n H ws b ≡ o → Safe n H (add_path o ws)
    go none e = s
    go (some w) e = safe_cons s (chosen_ends n H ws b w hb e).0 (first_at (permitted n H ws) (paths n b) w e).1

-- the chosen paths stay safe
pub safe_chosen : (n : ℕ) (H : PartHealth) (k : ℕ) → k ≤ n → Safe n H (chosen n H k)
unfolding chosen
safe_chosen n H zero h = safe_none n H
safe_chosen n H (suc k) h = safe_add n H (chosen n H k) k h (safe_chosen n H k (omega arith))

-- every choice of a plan names a generator of the ring, or none
pub choices_inside : (n : ℕ) (H : PartHealth) → n ≤ largest → AllInside n (choices n H)
unfolding choice_of plan
choices_inside n H small b hb = rw (choices_at n H b (record { choice = Dark }) hb small) (go (plan n H b) refl)
  where
    go : (o : Option Path) → plan n H b ≡ o → Inside n (choice_of n o)
    go none e = inl refl
    go (some w) e = inr (rw (choice_source_lem n w) (omega arith, (chosen_ends n H (chosen n H b) b w hb e).0.source))
