-- The owner of each bus while buses are served: the number of the chosen generator that it is connected to, 0 where there is
-- none. By it one walk along a path says whether the path is permitted. Buses, generators and breakers are indices from 0.
use Rattle.std.specs.Prelude.{◌≡◌, Bool, true, false, ◌&&◌, cond, ◌⊎◌, ◌≢◌, List, ◌∷◌, eqb}
use Rattle.std.proofs.Math.Path.{refl}
use Rattle.std.proofs.Common.{sym, ◌∙◌, ap, inl, inr, eqb-true, eq-eqb}
use mathlib.Core.List.Memᴰ
use Rattle.std.proofs.Math.Option.{Option, none, some}
use Prim.Native.Nat.{ℕ, zero, suc, ◌≤◌, ◌<◌}
use native.Mathlib.Omega.{arith}
use Rattle.std.proofs.lemmas.Bool.{not-true}
use Rattle.model.specs.Lists.{first, ◌∈◌}
use Rattle.model.specs.Plant.{PartHealth, generator_breaker, bus_breaker, fit_generator, stuck_open, stuck_closed, next, up, Leads, connected}
use Rattle.model.specs.Priority.{Path, path_bus_breakers, paths}
use Rattle.model.specs.Choosing.{counted_closed, permitted, choose}
use Rattle.model.specs.Laws.Tests.{contra, not_of, and_left, and_right, and_intro, or_cases, or_right, iff, dec, dec_eq}
use Rattle.model.specs.Laws.Lists.{all_cons, first_at, first_in, first_ext}
use Rattle.theory.specs.Proofs.Geometry.{next_lt, up_refl, up_next_right}
use Rattle.theory.specs.Theorems.Connected.{
  Near,
  leads_mono,
  leads_trans,
  leads_sym,
  arc_leads,
  connected_leads,
  leads_connected,
  leads_split,
}
use Rattle.theory.specs.Proofs.Paths.{lower, upper, Ends, lower_lt, upper_lt, path_at, path_in, tried_at}
use Rattle.theory.specs.Proofs.Choosing.{
  Isolated,
  counted_stuck,
  counted_in,
  counted_at,
  counted_cons,
  Safe,
  safe_cons,
  permitted_at,
  permitted_of,
}
use Rattle.sources.specs.Sources.{may_feed}
use Rattle.walks.specs.Walk.{free, clear, Between, clear_at, clear_of}

-- the number of a path's generator
abbrev pub source_number : Option Path → ℕ
source_number none = 0
source_number (some w) = suc w.source

-- the owner of bus v, after the paths ws
unfoldable pub owner : ℕ → PartHealth → List Path → ℕ → ℕ
owner n H ws v = source_number (first (λ w. connected n (counted_closed n H ws) v w.source) ws)

-- ---- what owner says

module _ {n : ℕ} {H : PartHealth} {ws : List Path} (safe : Safe n H ws) where
  meets : ℕ → Path → Bool
  meets v w = connected n (counted_closed n H ws) v w.source

  -- a bus that is connected to a chosen generator is its
  pub owner_of : (v : ℕ) (w : Path) → v < n → w ∈ ws → Leads n (counted_closed n H ws) v w.source → owner n H ws v ≡ suc w.source
  unfolding owner meets
  owner_of v w hv m l =
      let t = first_in (meets v) m (leads_connected hv (safe.ends w m).source l) in
      let s = first_at (meets v) ws t.0 t.1 in
      let k = connected_leads hv (safe.ends t.0 s.0).source s.1 in
      rw t.1 (ap suc (safe.isolates t.0 w s.0 m (leads_trans (leads_sym k) l)))

  pub owner_at : (v g : ℕ) → v < n → owner n H ws v ≡ suc g
      → (w : Path) × (w ∈ ws) × (g ≡ w.source) × Leads n (counted_closed n H ws) v w.source
  unfolding owner meets
  owner_at v g hv e = go (first (meets v) ws) refl
    where
      go : (o : Option Path) → first (meets v) ws ≡ o
          → (w : Path) × (w ∈ ws) × (g ≡ w.source) × Leads n (counted_closed n H ws) v w.source
      go none q = let z : source_number (first (meets v) ws) ≡ 0 = rw q in absurd (omega arith)
      go (some w) q =
          let s = first_at (meets v) ws w q in
          let z : source_number (first (meets v) ws) ≡ suc w.source = rw q in
          (w, s.0, omega arith, connected_leads hv (safe.ends w s.0).source s.1)

free_cases : (o g : ℕ) → free o (suc g) ≡ true → (o ≡ 0) ⊎ (o ≡ suc g)
free_cases o g e = go (or_cases (eqb o 0) (eqb o (suc g)) e)
  where
    go : (eqb o 0 ≡ true) ⊎ (eqb o (suc g) ≡ true) → (o ≡ 0) ⊎ (o ≡ suc g)
    go (inl p) = inl (eqb-true o 0 p)
    go (inr p) = inr (eqb-true o (suc g) p)

free_of : (o g : ℕ) → ((h : ℕ) → o ≡ suc h → g ≡ h) → free o (suc g) ≡ true
free_of zero g f = refl
free_of (suc h) g f = or_right (eqb (suc h) 0) _ (eq-eqb (suc h) (suc g) (ap suc (sym (f h refl))))

-- ---- the buses of a path

abbrev pub Along : ℕ → Path → ℕ → Type 0
Along n w x = Between n (lower w) (upper w) x

module _ {n : ℕ} {w : Path} (h : Ends n w) where
  upper_in : Along n w (upper w)
  upper_in = (upper_lt h, omega arith)

  lower_in : Along n w (lower w)
  lower_in = (lower_lt h, omega (arith, up_refl n (lower w) (lower_lt h)))

  -- the generator's bus and the bus fed are the ends of the path
  pub ends_in : Along n w w.source × Along n w w.bus
  ends_in = go w.rising lower_in upper_in
    where
      go : (r : Bool) → Along n w (cond r w.source w.bus) → Along n w (cond r w.bus w.source)
          → Along n w w.source × Along n w w.bus
      go true p q = (p, q)
      go false p q = (q, p)

  -- where its breakers are closed, any two of its buses are connected
  along : (D : ℕ → Bool) → ((i : ℕ) → i ∈ path_bus_breakers n w → D i ≡ true) → (x y : ℕ) → Along n w x → Along n w y → Leads n D x y
  along D f x y p q = leads_trans (leads_sym (reach x p)) (reach y q)
    where
      reach : (z : ℕ) → Along n w z → Leads n D (lower w) z
      reach z b = arc_leads n D (lower w) z (lower_lt h) b.0 (λ i hi l. f i (path_in i h hi (omega (arith, b.1))))

  -- both ends of a breaker of it are buses of it
  sides : (i : ℕ) → i ∈ path_bus_breakers n w → Along n w i × Along n w (next n i)
  sides i m = let t = path_at i h m in ((t.0, omega (arith, t.1)), (next_lt n i t.0, go t.0 t.1 (dec_eq (next n i) (lower w))))
    where
      go : i < n → up n (lower w) i < up n (lower w) (upper w) → (next n i ≡ lower w) ⊎ (next n i ≢ lower w)
          → up n (lower w) (next n i) ≤ up n (lower w) (upper w)
      go hi l (inl e) = rw e (omega (arith, up_refl n (lower w) (lower_lt h)))
      go hi l (inr e) = omega (arith, up_next_right n (lower w) i (lower_lt h) hi e)

-- ---- one path more

-- the number of bus breakers of a path
abbrev pub path_steps : ℕ → Path → ℕ
path_steps n w = up n (lower w) (upper w)

-- the walk along a path is clear: B has the health of each bus breaker, O the owner of each bus
abbrev pub clear_path : ℕ → (ℕ → ℕ) → (ℕ → ℕ) → Path → Bool
clear_path n B O w = clear n B O (suc w.source) (lower w) (path_steps n w)

-- what a search asks of a path: its generator may feed, and the walk along it is clear
unfoldable pub passes : ℕ → PartHealth → (ℕ → ℕ) → Path → Bool
passes n H O w = may_feed H w.source && clear_path n (λ i. H.health (bus_breaker i)) O w

-- what counted as closed still does
counted_more : (n : ℕ) (H : PartHealth) (ws : List Path) (w : Path) (i : ℕ) → counted_closed n H ws i ≡ true
    → counted_closed n H (w ∷ ws) i ≡ true
counted_more n H ws w i e = go (counted_at n H ws i e)
  where
    go : (stuck_closed (H.health (bus_breaker i)) ≡ true) ⊎ ((v : Path) × (v ∈ ws) × (i ∈ path_bus_breakers n v)) → counted_closed n H (w ∷ ws) i ≡ true
    go (inl p) = counted_stuck n H (w ∷ ws) i p
    go (inr t) = counted_in n H i (Memᴰ.tail t.1) t.2

module _ {n : ℕ} {H : PartHealth} {ws : List Path} {w : Path} (safe : Safe n H ws) (h : Ends n w) where
  abbrev before : ℕ → Bool
  before = counted_closed n H ws

  abbrev after : ℕ → Bool
  after = counted_closed n H (w ∷ ws)

  ends : (v : Path) → v ∈ w ∷ ws → Ends n v
  ends = all_cons (Ends n) h safe.ends

  widen : {x y : ℕ} → Leads n before x y → Leads n after x y
  widen l = leads_mono (λ i hi e. counted_more n H ws w i e) l

  all_along : (x y : ℕ) → Along n w x → Along n w y → Leads n after x y
  all_along x y p q = along h after (λ i m. counted_in n H i (Memᴰ.head refl) m) x y p q

  -- the path connects only what is connected to buses of it
  split : {x y : ℕ} → Leads n after x y → Leads n before x y ⊎ (Near n before (Along n w) x × Near n before (Along n w) y)
  split l = leads_split n before after (Along n w) (λ i hi e. go i (counted_cons n H ws w i e)) l
    where
      go : (i : ℕ) → (before i ≡ true) ⊎ (i ∈ path_bus_breakers n w) → (before i ≡ true) ⊎ (Along n w i × Along n w (next n i))
      go i (inl p) = inl p
      go i (inr m) = inr (sides h i m)

  -- a path whose buses are all free connects no two chosen generators
  frees : ((x : ℕ) → Along n w x → free (owner n H ws x) (suc w.source) ≡ true) → Isolated n H (w ∷ ws)
  frees f a b ma mb l = go (Memᴰ.cases_cons ma) (Memᴰ.cases_cons mb) (split l)
    where
      same : (y : Path) → y ∈ ws → Near n before (Along n w) y.source → y.source ≡ w.source
      same y m t =
          pick (owner_of safe t.0 y t.1.0 m (leads_sym t.2)) (free_cases (owner n H ws t.0) w.source (f t.0 t.1))
        where
          pick : {o : ℕ} → o ≡ suc y.source → (o ≡ 0) ⊎ (o ≡ suc w.source) → y.source ≡ w.source
          pick e (inl p) = absurd (omega arith)
          pick e (inr p) = omega arith

      -- w's own bus is on it
      home : (y : Path) → y ∈ ws → Leads n before y.source w.source → y.source ≡ w.source
      home y m t = same y m (w.source, (ends_in h).0, t)

      go : (a ≡ w) ⊎ (a ∈ ws) → (b ≡ w) ⊎ (b ∈ ws)
          → Leads n before a.source b.source ⊎ (Near n before (Along n w) a.source × Near n before (Along n w) b.source)
          → a.source ≡ b.source
      go (inl p) (inl q) t = rw (p, q)
      go (inr p) (inr q) (inl t) = safe.isolates a b p q t
      go (inr p) (inr q) (inr t) = same a p t.0 ∙ sym (same b q t.1)
      go (inl p) (inr q) (inl t) = rw p (sym (home b q (leads_sym (rw p at t))))
      go (inl p) (inr q) (inr t) = rw p (sym (same b q t.1))
      go (inr p) (inl q) (inl t) = rw q (home a p (rw q at t))
      go (inr p) (inl q) (inr t) = rw q (same a p t.0)

  -- a path that connects no two chosen generators has only free buses
  free_all : Isolated n H (w ∷ ws) → (x : ℕ) → Along n w x → free (owner n H ws x) (suc w.source) ≡ true
  free_all f x p = free_of (owner n H ws x) w.source (λ g e. let t = owner_at safe x g p.0 e in
      f w t.0 (Memᴰ.head refl) (Memᴰ.tail t.1) (leads_trans (all_along w.source x (ends_in h).0 p) (widen t.3))
      ∙ sym t.2)

  -- one walk along a path says whether it is permitted
  pub walk_permits : (O : ℕ → ℕ) → ((v : ℕ) → v < n → O v ≡ owner n H ws v) → permitted n H ws w ≡ passes n H O w
  unfolding passes may_feed
  walk_permits O is = iff (permitted n H ws w) (passes n H O w) to from
    where
      g : ℕ
      g = w.source

      B : ℕ → ℕ
      B i = H.health (bus_breaker i)

      to : permitted n H ws w ≡ true → passes n H O w ≡ true
      to e =
          let t = permitted_at ends e in
          and_intro (may_feed H g) _ (and_intro (fit_generator H g) _ t.0.runs
          (not_of (stuck_open (H.health (generator_breaker g))) t.0.breaker))
          (clear_of n B O (suc g) (upper w) (upper_lt h) (up n (lower w) (upper w)) (lower w) (lower_lt h) refl
          (record { line = t.0.line; buses = λ x b. rw (is x b.0) (free_all t.1 x b) }))

      from : passes n H O w ≡ true → permitted n H ws w ≡ true
      from e =
          let u = and_left (may_feed H g) _ e in
          let c = clear_at n B O (suc g) (upper w) (upper_lt h) (up n (lower w) (upper w)) (lower w) (lower_lt h) refl
          (and_right (may_feed H g) _ e) in
          permitted_of ends
          (record {
            runs = and_left (fit_generator H g) _ u;
            breaker = not-true (stuck_open (H.health (generator_breaker g))) (and_right (fit_generator H g) _ u);
            line = c.line;
          })
          (frees (λ x b. rw (is x b.0) at (c.buses x b)))

  -- a permitted path gives its generator every bus connected to a bus s of it, and the others keep their owners
  pub owner_more : permitted n H ws w ≡ true → (s v : ℕ) → Along n w s → v < n
      → owner n H (w ∷ ws) v ≡ cond (connected n (counted_closed n H (w ∷ ws)) s v) (suc w.source) (owner n H ws v)
  owner_more e s v hs hv = go (dec (connected n after s v))
    where
      safer : Safe n H (w ∷ ws)
      safer = safe_cons safe h e

      joins : (x : ℕ) → Along n w x → Leads n after v x → connected n after s v ≡ true
      joins x p l = leads_connected hs.0 hv (leads_sym (leads_trans l (all_along x s p hs)))

      -- a bus that is not connected to the path
      other : connected n after s v ≡ false → (o p : ℕ) → owner n H ws v ≡ o → owner n H (w ∷ ws) v ≡ p → p ≡ o
      other j zero zero q r = refl
      other j (suc g) p q r =
          let t = owner_at safe v g hv q in
          sym r ∙ owner_of safer v t.0 hv (Memᴰ.tail t.1) (widen t.3) ∙ ap suc (sym t.2)
      other j zero (suc g) q r = let t = owner_at safer v g hv r in new t.0 t.3 (Memᴰ.cases_cons t.1)
        where
          old : (x : Path) → x ∈ ws → Leads n before v x.source ⊎ (Near n before (Along n w) v × Near n before (Along n w) x.source)
              → suc g ≡ 0
          old x m (inl l) = absurd (omega (arith, owner_of safe v x hv m l))
          old x m (inr t) = contra (joins t.0.0 t.0.1 (widen t.0.2)) j

          new : (x : Path) → Leads n after v x.source → (x ≡ w) ⊎ (x ∈ ws) → suc g ≡ 0
          new x l (inl p) = contra (joins w.source (ends_in h).0 (rw p at l)) j
          new x l (inr m) = old x m (split l)

      go : (connected n after s v ≡ true) ⊎ (connected n after s v ≡ false)
          → owner n H (w ∷ ws) v ≡ cond (connected n after s v) (suc w.source) (owner n H ws v)
      go (inl j) =
          rw j (owner_of safer v w hv (Memᴰ.head refl)
          (leads_trans (leads_sym (connected_leads hs.0 hv j)) (all_along s w.source hs (ends_in h).0)))
      go (inr j) = rw j (other j (owner n H ws v) (owner n H (w ∷ ws) v) refl refl)

-- the first path that passes is the choice
pub walk_choice : (n : ℕ) (H : PartHealth) (ws : List Path) (O : ℕ → ℕ) (b : ℕ) → b < n → Safe n H ws
    → ((v : ℕ) → v < n → O v ≡ owner n H ws v)
    → choose n H ws b ≡ first (passes n H O) (paths n b)
unfolding choose
walk_choice n H ws O b hb safe is =
    first_ext (permitted n H ws) (passes n H O) (paths n b)
    (λ w m. let t = tried_at n b w hb m in walk_permits safe (record { source = t.0; bus = rw t.1 hb }) O is)
