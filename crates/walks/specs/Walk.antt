-- Walks round the ring, step by step: along the arc of a path, and out from a bus while breakers are closed.
-- Buses and breakers are indices from 0; an owner is a generator's number, from 1, or 0.
use Rattle.std.specs.Prelude.{◌≡◌, Bool, not, ◌&&◌, ◌||◌, ◌⊎◌, ◌≢◌, eqb, get_or, set}
use Rattle.std.proofs.Math.Path.{refl}
use Rattle.std.proofs.Common.{sym, ◌∙◌, inl, inr, eqb-true, eq-eqb, ne_eqb}
use Rattle.std.proofs.Math.Bool.{true, false, cond}
use mathlib.Core.List.Memᴰ
use mathlib.Core.List.{List, [], ◌∷◌, ◌++◌, reverse, reverse-append}
use Prim.Native.Nat.{ℕ, zero, suc, ◌+◌, ◌-◌, ◌≤◌, ◌<◌}
use native.Mathlib.Omega.{arith}
use Rattle.std.proofs.lemmas.Bool.{not-true}
use Rattle.model.specs.Lists.{any_of, ◌∈◌}
use Rattle.model.specs.Priority.{Path, path_bus_breakers}
use Rattle.model.specs.Plant.{stuck_open, stuck_closed, next, up, arc, Leads, stay, rise, fall, connected}
use Rattle.model.specs.Laws.Tests.{not_of, and_left, and_right, and_intro, or_cases, or_left, or_right, iff, dec, dec_eq}
use Rattle.model.specs.Laws.Lists.{any_at, any_in}
use Rattle.theory.specs.Proofs.Geometry.{
  Next,
  more,
  last,
  next_cases,
  next_lt,
  up_refl,
  up_zero,
  up_lt,
  up_next,
  up_next_right,
}
use Rattle.theory.specs.Proofs.Paths.{lower, upper, Ends}
use Rattle.theory.specs.Theorems.Connected.{Arc, leads_arcs, connected_leads, leads_connected}
use Rattle.walks.specs.Arrays.{set_all}

-- ---- along the arc of a path

-- a bus of this owner may be connected to the generator of this number
abbrev pub free : ℕ → ℕ → Bool
free o g = eqb o 0 || eqb o g

-- m steps from bus k through rising bus numbers meet no breaker that is stuck open and no bus of another owner than g:
-- B has the health of each bus breaker, O the owner of each bus
unfoldable pub clear : ℕ → (ℕ → ℕ) → (ℕ → ℕ) → ℕ → ℕ → ℕ → Bool
clear n B O g k zero = free (O k) g
clear n B O g k (suc m) = let r = clear n B O g (next n k) m in not (stuck_open (B k)) && (free (O k) g && r)

-- bus x is on the rising arc from a to e, whose ends count
abbrev pub Between : ℕ → ℕ → ℕ → ℕ → Type 0
Between n a e x = (x < n) × (up n a x ≤ up n a e)

-- what a clear walk says
pub record Clear (n : ℕ) (B O : ℕ → ℕ) (g a e : ℕ) : Type 0 where
  pub line : (i : ℕ) → i < n → up n a i < up n a e → stuck_open (B i) ≡ false
  pub buses : (x : ℕ) → Between n a e x → free (O x) g ≡ true

module _ (n : ℕ) (B O : ℕ → ℕ) (g e : ℕ) (he : e < n) where
  -- a walk that has steps left is not at its end, and comes nearer to it
  off_end : (m a : ℕ) → a < n → up n a e ≡ suc m → a ≢ e
  off_end m a ha z p = omega (arith, rw (← p) at z, up_refl n a ha)

  nearer : (m a : ℕ) → a < n → up n a e ≡ suc m → up n (next n a) e ≡ m
  nearer m a ha z = omega (arith, up_next n a e ha he (off_end m a ha z))

  pub clear_at : (m a : ℕ) → a < n → up n a e ≡ m → clear n B O g a m ≡ true → Clear n B O g a e
  unfolding clear
  clear_at zero a ha z t = record {
    line = λ i hi l. absurd (omega arith);
    buses = λ x b. let y : a ≡ x = up_zero n a x ha b.0 (omega (arith, b.1)) in rw (← y) t;
  }
  clear_at (suc m) a ha z t = go (clear_at m (next n a) (next_lt n a ha) (nearer m a ha z) (and_right (free (O a) g) _ rest))
    where
      rest : free (O a) g && clear n B O g (next n a) m ≡ true
      rest = and_right (not (stuck_open (B a))) _ t

      go : Clear n B O g (next n a) e → Clear n B O g a e
      go c = record { line = λ i hi l. line i hi l (dec_eq a i); buses = λ x b. buses x b (dec_eq a x) }
        where
          line : (i : ℕ) → i < n → up n a i < up n a e → (a ≡ i) ⊎ (a ≢ i) → stuck_open (B i) ≡ false
          line i hi l (inl p) = rw (← p) (not-true (stuck_open (B a)) (and_left (not (stuck_open (B a))) _ t))
          line i hi l (inr p) = c.line i hi (omega (arith, nearer m a ha z, up_next n a i ha hi p))

          buses : (x : ℕ) → Between n a e x → (a ≡ x) ⊎ (a ≢ x) → free (O x) g ≡ true
          buses x b (inl p) = rw (← p) (and_left (free (O a) g) _ rest)
          buses x b (inr p) = c.buses x (b.0, omega (arith, b.1, nearer m a ha z, up_next n a x ha b.0 p))

  pub clear_of : (m a : ℕ) → a < n → up n a e ≡ m → Clear n B O g a e → clear n B O g a m ≡ true
  unfolding clear
  clear_of zero a ha z c = c.buses a (ha, omega (arith, up_refl n a ha))
  clear_of (suc m) a ha z c =
      and_intro (not (stuck_open (B a))) _ (not_of (stuck_open (B a)) first_line)
      (and_intro (free (O a) g) _ first_bus (clear_of m (next n a) (next_lt n a ha) (nearer m a ha z)
      (record { line = λ i hi l. line i hi l (dec_eq a i); buses = λ x b. buses x b (dec_eq a x) })))
    where
      first_line : stuck_open (B a) ≡ false
      first_line = c.line a ha (omega (arith, up_refl n a ha))

      first_bus : free (O a) g ≡ true
      first_bus = c.buses a (ha, omega (arith, up_refl n a ha))

      line : (i : ℕ) → i < n → up n (next n a) i < up n (next n a) e → (a ≡ i) ⊎ (a ≢ i) → stuck_open (B i) ≡ false
      line i hi l (inl p) = rw (← p) first_line
      line i hi l (inr p) = c.line i hi (omega (arith, nearer m a ha z, up_next n a i ha hi p))

      buses : (x : ℕ) → Between n (next n a) e x → (a ≡ x) ⊎ (a ≢ x) → free (O x) g ≡ true
      buses x b (inl p) = rw (← p) first_bus
      buses x b (inr p) = c.buses x (b.0, omega (arith, b.1, nearer m a ha z, up_next n a x ha b.0 p))

-- at bus k of a walk of m steps of which d are done
module _ (n : ℕ) (B O : ℕ → ℕ) (g k m d : ℕ) where
  pub clear_open : d < m → stuck_open (B k) ≡ true → clear n B O g k (m - d) ≡ false
  unfolding clear
  clear_open l e = let z : m - d ≡ suc (m - (d + 1)) = omega arith in rw (z, e)

  pub clear_met : d < m → stuck_open (B k) ≡ false → free (O k) g ≡ false → clear n B O g k (m - d) ≡ false
  unfolding clear
  clear_met l e f = let z : m - d ≡ suc (m - (d + 1)) = omega arith in rw (z, e, f)

  pub clear_step : d < m → stuck_open (B k) ≡ false → free (O k) g ≡ true → clear n B O g k (m - d) ≡ clear n B O g (next n k) (m - (d + 1))
  unfolding clear
  clear_step l e f = let z : m - d ≡ suc (m - (d + 1)) = omega arith in rw (z, e, f)

  pub clear_end : m ≤ d → clear n B O g k (m - d) ≡ free (O k) g
  unfolding clear
  clear_end l = let z : m - d ≡ 0 = omega arith in rw z

-- ---- out from a bus, and the breakers of a path

-- the bus before bus k
unfoldable pub previous : ℕ → ℕ → ℕ
previous n k = cond (eqb k 0) (n - 1) (k - 1)

pub next_previous : (n k : ℕ) → k < n → (previous n k < n) × (next n (previous n k) ≡ k)
unfolding previous
next_previous n k hk = go (dec_eq k 0)
  where
    at : (j : ℕ) → j < n → Next n j → (suc j ≡ n → k ≡ 0) → (suc j < n → k ≡ suc j) → next n j ≡ k
    at j hj (more l e) f g = e ∙ sym (g l)
    at j hj (last l e) f g = e ∙ sym (f l)

    go : (k ≡ 0) ⊎ (k ≢ 0) → (previous n k < n) × (next n (previous n k) ≡ k)
    go (inl e) =
        rw (eq-eqb k 0 e) (
          omega arith,
          at (n - 1) (omega arith) (next_cases n (n - 1) (omega arith)) (λ l. e)
              (λ l. absurd (omega arith)),
        )
    go (inr e) =
        rw (ne_eqb k 0 e) (
          omega arith,
          at (k - 1) (omega arith) (next_cases n (k - 1) (omega arith)) (λ l. absurd (omega arith))
              (λ l. omega arith),
        )

-- one step less leads from bus a to the bus before bus k
pub up_previous : (n a k : ℕ) → a < n → k < n → a ≢ k → up n a k ≡ suc (up n a (previous n k))
up_previous n a k ha hk ne =
    let p = next_previous n k hk in
    rw p.1 at (up_next_right n a (previous n k) ha p.0 (λ q. ne (sym q ∙ p.1)))

-- the bus breaker at bus k on its rising or its falling side
abbrev pub breaker_beside : ℕ → Bool → ℕ → ℕ
breaker_beside n r k = cond r k (previous n k)

-- .. and the bus behind it
abbrev pub bus_beside : ℕ → Bool → ℕ → ℕ
bus_beside n r k = cond r (next n k) (previous n k)

-- the m bus breakers met from bus k on one side
unfoldable pub outward : ℕ → Bool → ℕ → ℕ → List ℕ
outward n r k zero = []
outward n r k (suc m) = breaker_beside n r k ∷ outward n r (bus_beside n r k) m

-- .. one by one
pub outward_none : (n : ℕ) (r : Bool) (k m : ℕ) → m ≡ 0 → outward n r k m ≡ []
unfolding outward
outward_none n r k m e = rw e

pub outward_some : (n : ℕ) (r : Bool) (k m : ℕ) → m ≢ 0
    → outward n r k m ≡ breaker_beside n r k ∷ outward n r (bus_beside n r k) (m - 1)
unfolding outward
outward_some n r k zero e = absurd (e refl)
outward_some n r k (suc m) e = let z : suc m - 1 ≡ m = omega arith in rw z

-- a bus breaker counts as closed: B has the health of each, l says which are on chosen paths
abbrev pub closed_by : (ℕ → ℕ) → List Bool → ℕ → Bool
closed_by B l i = stuck_closed (B i) || get_or l i false

-- bus k and those after it on one side while the breakers between are closed, m at most
unfoldable pub reach : ℕ → (ℕ → Bool) → Bool → ℕ → ℕ → List ℕ
reach n C r k zero = []
reach n C r k (suc m) = let rest = reach n C r (bus_beside n r k) m in k ∷ cond (C (breaker_beside n r k)) rest []

-- the arc from bus k to bus v on one side is closed, and how long it is
abbrev pub Closed : ℕ → (ℕ → Bool) → Bool → ℕ → ℕ → Type 0
Closed n C true k v = Arc n C k v
Closed n C false k v = Arc n C v k

abbrev pub steps : ℕ → Bool → ℕ → ℕ → ℕ
steps n r k v = cond r (up n k v) (up n v k)

pub breaker_lt : (n : ℕ) (r : Bool) (k : ℕ) → k < n → breaker_beside n r k < n
breaker_lt n true k hk = hk
breaker_lt n false k hk = (next_previous n k hk).0

pub bus_lt : (n : ℕ) (r : Bool) (k : ℕ) → k < n → bus_beside n r k < n
bus_lt n true k hk = next_lt n k hk
bus_lt n false k hk = (next_previous n k hk).0

-- those met are the ring's
pub outward_lt : (n : ℕ) (r : Bool) (k m : ℕ) {i : ℕ} {is : List ℕ} → k < n → outward n r k m ≡ i ∷ is → i < n
unfolding outward
outward_lt n r k zero hk e = absurd (cc)
outward_lt n r k (suc m) {i} {is} hk e = let z : breaker_beside n r k ≡ i = cc in rw (← z) (breaker_lt n r k hk)

-- ---- the breakers met outward from a path's generator are those of the path, in its sequence

module _ (n : ℕ) where
  outward_rising : (m k : ℕ) → outward n true k m ≡ arc n k m
  unfolding outward arc
  outward_rising zero k = refl
  outward_rising (suc m) k = rw (outward_rising m (next n k))

  -- the last breaker of an arc of one step more, at bus p
  arc_last : (m a p : ℕ) → a < n → p < n → up n a p ≡ m → arc n a (suc m) ≡ arc n a m ++ (p ∷ [])
  unfolding arc
  arc_last zero a p ha hp z = rw (up_zero n a p ha hp z)
  arc_last (suc m) a p ha hp z =
      let ne : a ≢ p = λ q. omega (arith, rw (← q) at z, up_refl n a ha) in
      rw (arc_last m (next n a) p (next_lt n a ha) hp (omega (arith, up_next n a p ha hp ne)))

  -- falling to bus e
  outward_falling : (e : ℕ) → e < n → (m k : ℕ) → k < n → up n e k ≡ m → outward n false k m ≡ reverse (arc n e m)
  unfolding outward arc
  outward_falling e he zero k hk z = refl
  outward_falling e he (suc m) k hk z =
      let p = previous n k in
      let hp = (next_previous n k hk).0 in
      let near : up n e p ≡ m = omega (arith, up_previous n e k he hk (λ q. omega (arith, rw (← q) at z, up_refl n e he))) in
      rw (arc_last m e p he hp near, reverse-append (arc n e m) (p ∷ []), outward_falling e he m p hp near)

  pub outward_path : (w : Path) → Ends n w → outward n w.rising w.source (up n (lower w) (upper w)) ≡ path_bus_breakers n w
  unfolding path_bus_breakers
  outward_path w h = go w.rising
    where
      go : (r : Bool)
          → outward n r w.source (up n (cond r w.source w.bus) (cond r w.bus w.source))
          ≡ cond r (arc n w.source (up n w.source w.bus)) (reverse (arc n w.bus (up n w.bus w.source)))
      go true = outward_rising (up n w.source w.bus) w.source
      go false = outward_falling w.bus h.bus (up n w.bus w.source) w.source h.source refl

module _ (n : ℕ) (C : ℕ → Bool) where
  beside_leads : (r : Bool) (k v : ℕ) → k < n → C (breaker_beside n r k) ≡ true → Leads n C (bus_beside n r k) v → Leads n C k v
  beside_leads true k v hk c l = rise hk c refl l
  beside_leads false k v hk c l = let p = next_previous n k hk in fall p.0 c (sym p.1) l

  -- what is reached is connected
  pub reach_at : (r : Bool) (m k v : ℕ) → k < n → v ∈ reach n C r k m → (v < n) × Leads n C k v
  unfolding reach
  reach_at r zero k v hk i = absurd (Memᴰ.not-nil i)
  reach_at r (suc m) k v hk i =
      go (reach_at r m (bus_beside n r k) v (bus_lt n r k hk)) (dec (C (breaker_beside n r k))) (Memᴰ.cases_cons i)
    where
      go : (v ∈ reach n C r (bus_beside n r k) m → (v < n) × Leads n C (bus_beside n r k) v)
          → (C (breaker_beside n r k) ≡ true) ⊎ (C (breaker_beside n r k) ≡ false)
          → (v ≡ k) ⊎ (v ∈ cond (C (breaker_beside n r k)) (reach n C r (bus_beside n r k) m) []) → (v < n) × Leads n C k v
      go f c (inl e) = rw e (hk, stay)
      go f (inl c) (inr j) = let t = f (rw c at j) in (t.0, beside_leads r k v hk c t.1)
      go f (inr c) (inr j) = absurd (Memᴰ.not-nil (rw c at j))

  -- one step along a closed arc
  step : (r : Bool) (k v : ℕ) → k < n → v < n → k ≢ v → Closed n C r k v
      → (C (breaker_beside n r k) ≡ true) × Closed n C r (bus_beside n r k) v × (steps n r k v ≡ suc (steps n r (bus_beside n r k) v))
  step true k v hk hv ne f = (here, (λ i hi l. on i hi l (dec_eq k i)), far)
    where
      far : up n k v ≡ suc (up n (next n k) v)
      far = up_next n k v hk hv ne

      here : C k ≡ true
      here = f k hk (omega (arith, far, up_refl n k hk))

      on : (i : ℕ) → i < n → up n (next n k) i < up n (next n k) v → (k ≡ i) ⊎ (k ≢ i) → C i ≡ true
      on i hi l (inl e) = rw (← e) here
      on i hi l (inr e) = f i hi (omega (arith, far, up_next n k i hk hi e))
  step false k v hk hv ne f =
      (f (previous n k) (next_previous n k hk).0 (omega (arith, far)), (λ i hi l. f i hi (omega (arith, far))), far)
    where
      far : up n v k ≡ suc (up n v (previous n k))
      far = up_previous n v k hv hk (λ q. ne (sym q))

  reach_in : (r : Bool) (m k v : ℕ) → k < n → v < n → Closed n C r k v → steps n r k v < m → v ∈ reach n C r k m
  unfolding reach
  reach_in r zero k v hk hv f l = absurd (omega arith)
  reach_in r (suc m) k v hk hv f l = go (reach_in r m (bus_beside n r k) v (bus_lt n r k hk) hv) (dec_eq k v)
    where
      go : (Closed n C r (bus_beside n r k) v → steps n r (bus_beside n r k) v < m → v ∈ reach n C r (bus_beside n r k) m) → (k ≡ v) ⊎ (k ≢ v)
          → v ∈ k ∷ cond (C (breaker_beside n r k)) (reach n C r (bus_beside n r k) m) []
      go i (inl e) = Memᴰ.head (sym e)
      go i (inr e) = let t = step r k v hk hv e f in rw t.0 (Memᴰ.tail (i t.1 (omega (arith, t.2))))

  -- both sides together reach the buses that are connected
  pub reach_connected : (b v : ℕ) → b < n → v < n
      → any_of (eqb v) (reach n C true b n) || any_of (eqb v) (reach n C false b n) ≡ connected n C b v
  reach_connected b v hb hv = iff (reached true || reached false) (connected n C b v) to from
    where
      reached : Bool → Bool
      reached r = any_of (eqb v) (reach n C r b n)

      leads : (r : Bool) → reached r ≡ true → Leads n C b v
      leads r e = let t = any_at (eqb v) (reach n C r b n) e in rw (eqb-true v t.0 t.2) (reach_at r n b t.0 hb t.1).1

      to : reached true || reached false ≡ true → connected n C b v ≡ true
      to e = leads_connected hb hv (pick (or_cases (reached true) _ e))
        where
          pick : (reached true ≡ true) ⊎ (reached false ≡ true) → Leads n C b v
          pick (inl p) = leads true p
          pick (inr p) = leads false p

      found : (r : Bool) → Closed n C r b v → steps n r b v < n → reached r ≡ true
      found r f l = any_in (eqb v) (reach_in r n b v hb hv f l) (eq-eqb v v refl)

      from : connected n C b v ≡ true → reached true || reached false ≡ true
      from e = pick (leads_arcs hv (connected_leads hb hv e))
        where
          pick : Arc n C b v ⊎ Arc n C v b → reached true || reached false ≡ true
          pick (inl f) = or_left (reached true) _ (found true f (up_lt n b v hb hv))
          pick (inr f) = or_right (reached true) _ (found false f (up_lt n v b hv hb))

-- ---- stores on the way, at bus k of a walk of m steps of which d are done

module _ {A : Type 0} (x : A) (n k m d : ℕ) (l : List A) (C : ℕ → Bool) (r : Bool) where
  pub reach_step : d < m → C (breaker_beside n r k) ≡ true
      → set_all x (reach n C r k (m - d)) l ≡ set_all x (reach n C r (bus_beside n r k) (m - (d + 1))) (set l k x)
  unfolding reach set_all
  reach_step h e = let z : m - d ≡ suc (m - (d + 1)) = omega arith in rw (z, e)

  pub reach_stop : d < m → C (breaker_beside n r k) ≡ false → set_all x (reach n C r k (m - d)) l ≡ set l k x
  unfolding reach set_all
  reach_stop h e = let z : m - d ≡ suc (m - (d + 1)) = omega arith in rw (z, e)

  pub reach_end : m ≤ d → set_all x (reach n C r k (m - d)) l ≡ l
  unfolding reach set_all
  reach_end h = let z : m - d ≡ 0 = omega arith in rw z
