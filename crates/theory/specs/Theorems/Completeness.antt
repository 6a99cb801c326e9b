-- A bus is dark exactly when no fit generator has a path to it with no breaker stuck open, whatever was chosen before.
use Rattle.std.specs.Prelude.{◌≡◌, refl, Bool, true, ◌||◌, ◌≢◌, ◌⊎◌, ◌↔◌, List, ◌∷◌, ℕ, zero, suc, ◌≤◌, ◌<◌, ltb}
use Rattle.std.proofs.Common.{sym, ◌∙◌, ap, arith, not-suc-le-zero, ltb-true, lt-ltb}
use Rattle.std.proofs.Math.Bool.{false}
use Rattle.std.proofs.Math.Logic.{inl, inr}
use mathlib.Core.List.Memᴰ
use Rattle.std.proofs.Math.Option.{Option, none, some}
use Rattle.model.specs.Lists.{any_of, ◌∈◌}
use Rattle.model.specs.Plant.{PartHealth, bus_breaker, stuck_open, next, up, Leads, connected}
use Rattle.model.specs.Priority.{Path, path_bus_breakers, paths}
use Rattle.model.specs.Choosing.{counted_closed, permitted, choose, chosen, plan}
use Rattle.model.specs.Laws.Tests.{contra, or_cases, or_left, or_right, dec, dec_eq, dec_lt}
use Rattle.model.specs.Laws.Lists.{all_cons, any_at, any_in, first_at, first_in, none_some}
use Rattle.theory.specs.Proofs.Geometry.{up_refl, up_next, up_next_right, up_through, up_nested, up_inj, up_inj_left, next_lt}
use Rattle.theory.specs.Theorems.Connected.{
  Arc,
  Near,
  connected_leads,
  leads_connected,
  leads_mono,
  leads_trans,
  leads_sym,
  arc_leads,
  leads_arcs,
  leads_split,
}
use Rattle.theory.specs.Proofs.Paths.{Ends, Uses, lower, upper, path_to, path_at, tried}
use Rattle.theory.specs.Proofs.Choosing.{
  Usable,
  Safe,
  counted_cons,
  counted_usable,
  permitted_at,
  permitted_of,
  chosen_ends,
  safe_chosen,
}

-- ---- the number of least distance that passes a test

Least : ℕ → (ℕ → ℕ) → (ℕ → Bool) → Type 0
Least n d f = ((i : ℕ) → i < n → f i ≡ false) ⊎ ((i : ℕ) × (i < n) × (f i ≡ true) × ((j : ℕ) → j < n → f j ≡ true → d i ≤ d j))

-- what holds at n and below n holds below n + 1
with_last : (n : ℕ) (P : ℕ → Type 0) → P n → ((j : ℕ) → j < n → P j) → (j : ℕ) → j < suc n → P j
with_last n P p r j h = go (dec_eq j n)
  where
    go : (j ≡ n) ⊎ (j ≢ n) → P j
    go (inl e) = rw e p
    go (inr e) = r j (omega arith)

least : (n : ℕ) (d : ℕ → ℕ) (f : ℕ → Bool) → Least n d f
unfolding Least
least zero d f = inl (λ i h. absurd (not-suc-le-zero h))
least (suc n) d f = go (least n d f) (dec (f n))
  where
    go : Least n d f → (f n ≡ true) ⊎ (f n ≡ false) → Least (suc n) d f
    go (inl r) (inr p) = inl (with_last n (λ j. f j ≡ false) p r)
    go (inl r) (inl p) = inr (n, omega arith, p, with_last n (λ j. f j ≡ true → d n ≤ d j) (λ e. omega arith) (λ j h e. contra e (r j h)))
    go (inr r) (inr p) = inr (r.0, omega (arith, r.1), r.2, with_last n (λ j. f j ≡ true → d r.0 ≤ d j) (λ e. contra e p) r.3)
    go (inr r) (inl p) = nearer (dec_lt (d n) (d r.0))
      where
        nearer : (d n < d r.0) ⊎ (d r.0 ≤ d n) → Least (suc n) d f
        nearer (inl q) =
            inr (n, omega arith, p, with_last n (λ j. f j ≡ true → d n ≤ d j) (λ e. omega arith) (λ j h e. omega (arith, r.3 j h e)))
        nearer (inr q) = inr (r.0, omega (arith, r.1), r.2, with_last n (λ j. f j ≡ true → d r.0 ≤ d j) (λ e. q) r.3)

-- ---- what both directions of the ring share

-- the paths to bus k in one direction, by a distance d from k: a nearer generator's path is a part of a farther one's
pub record Arm (n k : ℕ) (r : Bool) (d : ℕ → ℕ) : Type 0 where
  pub near : (v i : ℕ) → v < n → i < n → Uses n (path_to k v r) i → (d i ≤ d v) × (d (next n i) ≤ d v)
  pub nested : (u v i : ℕ) → u < n → v < n → i < n → d u ≤ d v → Uses n (path_to k u r) i → Uses n (path_to k v r) i
  pub same : (u v : ℕ) → u < n → v < n → d u ≡ d v → u ≡ v
  pub leads : (v : ℕ) (D : ℕ → Bool) → v < n → ((i : ℕ) → i < n → Uses n (path_to k v r) i → D i ≡ true) → Leads n D v k

falling : (n k : ℕ) → k < n → Arm n k false (λ x. up n k x)
falling n k hk = record {
  near = λ v i hv hi l. (omega arith, next_near v i hi l (dec_eq (next n i) k));
  nested = λ u v i hu hv hi l e. omega arith;
  same = λ u v hu hv e. up_inj n k u v hk hu hv e;
  leads = λ v D hv f. leads_sym (arc_leads n D k v hk hv f);
}
  where
    next_near : (v i : ℕ) → i < n → up n k i < up n k v → (next n i ≡ k) ⊎ (next n i ≢ k) → up n k (next n i) ≤ up n k v
    next_near v i hi l (inl p) = rw p (omega (arith, up_refl n k hk))
    next_near v i hi l (inr p) = omega (arith, up_next_right n k i hk hi p)

rising : (n k : ℕ) → k < n → Arm n k true (λ x. up n x k)
rising n k hk = record {
  near = λ v i hv hi l.
      let t = up_through n v i k hv hi hk (omega arith) in
      let ne : i ≢ k = λ e. omega (arith, ap (up n v) e) in
      (omega arith, omega (arith, up_next n i k hi hk ne));
  nested = λ u v i hu hv hi l e. up_nested n u v k i hu hv hk hi l e;
  same = λ u v hu hv e. up_inj_left n u v k hu hv hk e;
  leads = λ v D hv f. arc_leads n D v k hv hk f;
}

-- ---- completeness

-- some path to k that is tried is permitted
Permits : ℕ → PartHealth → List Path → ℕ → Type 0
Permits n H ws k = (g : ℕ) × (r : Bool) × (g < n) × (g ≡ k → r ≡ true) × (permitted n H ws (path_to k g r) ≡ true)

-- the buses no farther than v
Inside : ℕ → (ℕ → ℕ) → ℕ → ℕ → Type 0
Inside n d v x = (x < n) × (d x ≤ d v)

module _ (n : ℕ) (H : PartHealth) (ws : List Path) (safe : Safe n H ws) (k : ℕ) (hk : k < n) where
  ends_with : (g : ℕ) (r : Bool) → g < n → (v : Path) → v ∈ path_to k g r ∷ ws → Ends n v
  ends_with g r hg = all_cons (Ends n) (record { source = hg; bus = hk }) safe.ends

  -- bus x is connected to a chosen generator
  reached : ℕ → Bool
  reached x = any_of (λ w. connected n (counted_closed n H ws) w.source x) ws

  reached_of : {w : Path} (x : ℕ) → w ∈ ws → x < n → Leads n (counted_closed n H ws) w.source x → reached x ≡ true
  unfolding reached
  reached_of {w} x m hx r = any_in (λ v. connected n (counted_closed n H ws) v.source x) m (leads_connected (safe.ends w m).source hx r)

  reached_at : (x : ℕ) → x < n → reached x ≡ true → (w : Path) × (w ∈ ws) × Leads n (counted_closed n H ws) w.source x
  unfolding reached
  reached_at x hx e =
      let t = any_at (λ v. connected n (counted_closed n H ws) v.source x) ws e in
      (t.0, t.1, connected_leads (safe.ends t.0 t.1).source hx t.2)

  module _ (r : Bool) (d : ℕ → ℕ) (arm : Arm n k r d) where
    -- the breakers of the path from v, added to those that count as closed, connect only what leads to buses on it
    along : (v : ℕ) → v < n → (D : ℕ → Bool) → ((i : ℕ) → i < n → D i ≡ true → (counted_closed n H ws i ≡ true) ⊎ Uses n (path_to k v r) i)
        → {a b : ℕ} → Leads n D a b
        → Leads n (counted_closed n H ws) a b ⊎
        (Near n (counted_closed n H ws) (Inside n d v) a × Near n (counted_closed n H ws) (Inside n d v) b)
    unfolding Inside
    along v hv D f = leads_split n (counted_closed n H ws) D (Inside n d v) (λ i h e. go i h (f i h e))
      where
        go : (i : ℕ) → i < n → (counted_closed n H ws i ≡ true) ⊎ Uses n (path_to k v r) i
            → (counted_closed n H ws i ≡ true) ⊎ (Inside n d v i × Inside n d v (next n i))
        go i h (inl p) = inl p
        go i h (inr p) = let t = arm.near v i hv h p in inr ((h, t.0), (next_lt n i h, t.1))

    -- no bus on the path from g is connected to a chosen generator: that path is permitted
    clear : (g : ℕ) → g < n → Usable n H (path_to k g r) → ((x : ℕ) → x < n → d x ≤ d g → reached x ≡ false)
        → permitted n H ws (path_to k g r) ≡ true
    unfolding Inside
    clear g hg u far = permitted_of (ends_with g r hg) u (λ v w mv mw l. distinct v w (Memᴰ.cases_cons mv) (Memᴰ.cases_cons mw) l)
      where
        p : Path
        p = path_to k g r

        split : (i : ℕ) → i < n → counted_closed n H (p ∷ ws) i ≡ true → (counted_closed n H ws i ≡ true) ⊎ Uses n p i
        split i h e = go (counted_cons n H ws p i e)
          where
            go : (counted_closed n H ws i ≡ true) ⊎ (i ∈ path_bus_breakers n p) → (counted_closed n H ws i ≡ true) ⊎ Uses n p i
            go (inl q) = inl q
            go (inr q) = inr (path_at i (record { source = hg; bus = hk }) q).1

        off : {A : Type 0} {v : Path} → v ∈ ws → Near n (counted_closed n H ws) (Inside n d g) v.source → A
        off m t = contra (reached_of t.0 m t.1.0 t.2) (far t.0 t.1.0 t.1.1)

        distinct : (v w : Path) → (v ≡ p) ⊎ (v ∈ ws) → (w ≡ p) ⊎ (w ∈ ws) → Leads n (counted_closed n H (p ∷ ws)) v.source w.source
            → v.source ≡ w.source
        distinct v w s t l = go (along g hg (counted_closed n H (p ∷ ws)) split l) s t
          where
            go : Leads n (counted_closed n H ws) v.source w.source
                ⊎ (Near n (counted_closed n H ws) (Inside n d g) v.source × Near n (counted_closed n H ws) (Inside n d g) w.source)
                → (v ≡ p) ⊎ (v ∈ ws) → (w ≡ p) ⊎ (w ∈ ws) → v.source ≡ w.source
            go x (inl a) (inl b) = ap (λ (q : Path). q.source) (a ∙ sym b)
            go (inl x) (inr a) (inr b) = safe.isolates v w a b x
            go (inr x) (inr a) b = off a x.0
            go (inr x) (inl a) (inr b) = off b x.1
            go (inl x) (inr a) (inl b) = off a (g, (hg, omega arith), rw b at x)
            go (inl x) (inl a) (inr b) = off b (g, (hg, omega arith), leads_sym (rw a at x))

    -- v is the first bus on the path from g that is connected to a chosen generator: a path from that generator is permitted
    met : (g : ℕ) → g < n → Usable n H (path_to k g r) → (v : ℕ) → v < n → d v ≤ d g → reached v ≡ true
        → ((x : ℕ) → x < n → reached x ≡ true → d v ≤ d x)
        → Permits n H ws k
    unfolding Inside Permits
    met g hg u v hv dv rv nearest = turn (leads_arcs hk to_k)
      where
        at : (w : Path) × (w ∈ ws) × Leads n (counted_closed n H ws) w.source v
        at = reached_at v hv rv

        h : ℕ
        h = at.0.source

        hh : h < n
        hh = (safe.ends at.0 at.1).source

        -- what counts as closed, and the path from v
        p : Path
        p = path_to k v r

        D : ℕ → Bool
        D i = counted_closed n H ws i || ltb (up n (lower p) i) (up n (lower p) (upper p))

        in_d : (i : ℕ) → i < n → D i ≡ true → (counted_closed n H ws i ≡ true) ⊎ Uses n p i
        in_d i hi e = go (or_cases (counted_closed n H ws i) _ e)
          where
            go : (counted_closed n H ws i ≡ true) ⊎ (ltb (up n (lower p) i) (up n (lower p) (upper p)) ≡ true)
                → (counted_closed n H ws i ≡ true) ⊎ Uses n p i
            go (inl q) = inl q
            go (inr q) = inr (ltb-true (up n (lower p) i) (up n (lower p) (upper p)) q)

        to_k : Leads n D h k
        to_k =
            leads_trans (leads_mono (λ i hi e. or_left (counted_closed n H ws i) _ e) at.2)
            (arm.leads v D hv (λ i hi e. or_right (counted_closed n H ws i) _ (lt-ltb (up n (lower p) i) (up n (lower p) (upper p)) e)))

        -- what D adds connects no two chosen generators
        alone : (a b : Path) → a ∈ ws → b ∈ ws → Leads n D a.source b.source → a.source ≡ b.source
        alone a b ma mb l = go (along v hv D in_d l)
          where
            reach : (x : Path) → x ∈ ws → Near n (counted_closed n H ws) (Inside n d v) x.source
                → Leads n (counted_closed n H ws) x.source v
            reach x mx t =
                let near = nearest t.0 t.1.0 (reached_of t.0 mx t.1.0 t.2) in
                let e : t.0 ≡ v = arm.same t.0 v t.1.0 hv (omega (arith, t.1.1, near)) in
                rw e at t.2

            go : Leads n (counted_closed n H ws) a.source b.source
                ⊎ (Near n (counted_closed n H ws) (Inside n d v) a.source × Near n (counted_closed n H ws) (Inside n d v) b.source)
                → a.source ≡ b.source
            go (inl t) = safe.isolates a b ma mb t
            go (inr t) = safe.isolates a b ma mb (leads_trans (reach a ma t.0) (leads_sym (reach b mb t.1)))

        -- a path from h whose breakers are all in D
        from : (s : Bool) → (h ≡ k → s ≡ true) → ((i : ℕ) → i < n → Uses n (path_to k h s) i → D i ≡ true) → Permits n H ws k
        from s own f = (
          h,
          s,
          hh,
          own,
          permitted_of (ends_with h s hh) whole
              (λ a b ma mb l. isolates a b (was a (Memᴰ.cases_cons ma)) (was b (Memᴰ.cases_cons mb))
              (leads_mono (λ i hi e. into_d i hi (counted_cons n H ws q i e)) l)),
        )
          where
            q : Path
            q = path_to k h s

            was : (a : Path) → (a ≡ q) ⊎ (a ∈ ws) → (x : Path) × (x ∈ ws) × (a.source ≡ x.source)
            was a (inl e) = (at.0, at.1, ap (λ (z : Path). z.source) e)
            was a (inr m) = (a, m, refl)

            isolates : (a b : Path) → (x : Path) × (x ∈ ws) × (a.source ≡ x.source) → (y : Path) × (y ∈ ws) × (b.source ≡ y.source)
                → Leads n D a.source b.source → a.source ≡ b.source
            isolates a b x y l = x.2 ∙ alone x.0 y.0 x.1 y.1 (rw (x.2, y.2) at l) ∙ sym y.2

            into_d : (i : ℕ) → i < n → (counted_closed n H ws i ≡ true) ⊎ (i ∈ path_bus_breakers n q) → D i ≡ true
            into_d i hi (inl e) = or_left (counted_closed n H ws i) _ e
            into_d i hi (inr m) = f i hi (path_at i (record { source = hh; bus = hk }) m).1

            fine : (i : ℕ) → i < n → (counted_closed n H ws i ≡ true) ⊎ Uses n p i → stuck_open (H.health (bus_breaker i)) ≡ false
            fine i hi (inl e) = counted_usable safe i e
            fine i hi (inr e) = u.line i hi (arm.nested v g i hv hg hi dv e)

            whole : Usable n H q
            whole =
                let x = safe.usables at.0 at.1 in
                record { runs = x.runs; breaker = x.breaker; line = λ i hi e. fine i hi (in_d i hi (f i hi e)) }

        turn : Arc n D h k ⊎ Arc n D k h → Permits n H ws k
        turn (inl f) = from true (λ e. refl) f
        turn (inr f) = own_or_other (dec_eq h k)
          where
            own_or_other : (h ≡ k) ⊎ (h ≢ k) → Permits n H ws k
            own_or_other (inl e) = from true (λ z. refl) (λ i hi l. absurd (no_step i l e))
              where
                no_step : (i : ℕ) → up n h i < up n h k → h ≡ k → ⊥
                no_step i l z = omega (arith, ap (up n h) z, up_refl n h hh)
            own_or_other (inr e) = from false (λ z. absurd (e z)) f

    -- from a usable path to a permitted one; an own path is tried as the rising one
    found : (g : ℕ) → g < n → (g ≡ k → r ≡ true) → Usable n H (path_to k g r) → Permits n H ws k
    unfolding Least Permits
    found g hg own u = go (least n d reached)
      where
        go : Least n d reached → Permits n H ws k
        go (inl f) = (g, r, hg, own, clear g hg u (λ x hx l. f x hx))
        go (inr t) = near_or_far (dec_lt (d g) (d t.0))
          where
            near_or_far : (d g < d t.0) ⊎ (d t.0 ≤ d g) → Permits n H ws k
            near_or_far (inl l) = (g, r, hg, own, clear g hg u (λ x hx m. beyond x hx m (dec (reached x))))
              where
                beyond : (x : ℕ) → x < n → d x ≤ d g → (reached x ≡ true) ⊎ (reached x ≡ false) → reached x ≡ false
                beyond x hx m (inl e) = absurd (omega (arith, t.3 x hx e))
                beyond x hx m (inr e) = e
            near_or_far (inr l) = met g hg u t.0 t.1 l t.2 t.3

  permits : (g : ℕ) (r : Bool) → g < n → Usable n H (path_to k g r) → Permits n H ws k
  permits g true hg u = found true (λ x. up n x k) (rising n k hk) g hg (λ e. refl) u
  permits g false hg u = go (dec_eq g k)
    where
      go : (g ≡ k) ⊎ (g ≢ k) → Permits n H ws k
      go (inl e) =
          found true (λ x. up n x k) (rising n k hk) g hg (λ z. refl)
          (record { runs = u.runs; breaker = u.breaker; line = λ i hi l. absurd (omega (arith, ap (up n g) e, up_refl n g hg)) })
      go (inr e) = found false (λ x. up n k x) (falling n k hk) g hg (λ z. absurd (e z)) u

  -- a usable path to k from a generator of the ring: some path is chosen
  pub complete : (g : ℕ) (r : Bool) → g < n → Usable n H (path_to k g r) → (w : Path) × (choose n H ws k ≡ some w)
  unfolding choose Permits
  complete g r hg u = let t = permits g r hg u in first_in (permitted n H ws) (tried n k t.0 t.1 hk t.2 t.3) t.4

  -- and back: a chosen path is a usable path to k from a generator of the ring
  pub chosen_usable : (w : Path) → choose n H ws k ≡ some w → Ends n w × (w.bus ≡ k) × Usable n H w
  unfolding choose
  chosen_usable w e =
      let t = chosen_ends n H ws k w hk e in
      let f = first_at (permitted n H ws) (paths n k) w e in
      (t.0, t.1, (permitted_at (all_cons (Ends n) t.0 safe.ends) f.1).0)

-- a bus is dark exactly when no generator of the ring has a usable path to it
pub de_energized_exactly : (n : ℕ) (H : PartHealth) (b : ℕ) → b < n
    → plan n H b ≡ none ↔ ((g : ℕ) (r : Bool) → g < n → Usable n H (path_to b g r) → ⊥)
unfolding plan
de_energized_exactly n H b hb = (
  λ e g r hg u. none_some e (complete n H (chosen n H b) (safe_chosen n H b (omega arith)) b hb g r hg u).1,
  λ f. go f (plan n H b) refl,
)
  where
    go : ((g : ℕ) (r : Bool) → g < n → Usable n H (path_to b g r) → ⊥) → (o : Option Path) → plan n H b ≡ o → o ≡ none
    go f none e = refl
    go f (some w) e =
        let c = chosen_usable n H (chosen n H b) (safe_chosen n H b (omega arith)) b hb w e in
        absurd (f w.source w.rising c.0.source (rw (← c.1) c.2))
