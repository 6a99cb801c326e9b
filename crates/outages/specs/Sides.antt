-- The walk out from a bus on one side to the first generator that may feed. Buses and breakers are indices from 0.
use Rattle.std.specs.Prelude.{◌≡◌, Bool, true, false, not, cond, ◌⊎◌, ◌≢◌, ℕ, suc, ◌+◌, ◌≤◌, ◌<◌, ltb, Option, Some, None}
use Rattle.std.proofs.Common.{sym, ◌∙◌, ap, inl, inr, arith, eq-eqb, ne_eqb}
use Rattle.std.proofs.lemmas.Bool.{not-true}
use Rattle.model.specs.Plant.{PartHealth, bus_breaker, stuck_open, next, up}
use Rattle.model.specs.Laws.Tests.{contra, not_of, dec_eq, dec_lt}
use Rattle.theory.specs.Proofs.Geometry.{
  Next,
  more,
  last,
  next_cases,
  Up,
  fwd,
  wrap,
  up_cases,
  up_refl,
  up_zero,
  up_lt,
  up_past,
  up_next,
  up_next_right,
  up_inj,
  up_inj_left,
}
use Rattle.theory.specs.Theorems.Connected.{arc_longer}
use Rattle.walks.specs.Walk.{previous, next_previous, up_previous, breaker_beside, bus_beside, Closed, steps, bus_lt}
use Rattle.sources.specs.Sources.{may_feed}

-- bus breaker i is not stuck open
abbrev pub passable : PartHealth → ℕ → Bool
passable H i = not (stuck_open (H.health (bus_breaker i)))

-- generator g of another bus may feed, and no breaker from bus b to it on one side is stuck open
pub record Leading (n : ℕ) (H : PartHealth) (r : Bool) (b g : ℕ) : Type 0 where
  pub inside : g < n
  pub other : g ≢ b
  pub feeding : may_feed H g ≡ true
  pub line : Closed n (passable H) r b g

-- so many steps, if any, are fewer than the ring has buses
abbrev pub Within : ℕ → Option ℕ → Type 0
Within n (Some d) = d < n
Within n None = Unit {0}

-- the first such generator on one side is so many steps away
pub record MetAt (n : ℕ) (H : PartHealth) (r : Bool) (b d : ℕ) : Type 0 where
  pub short : d < n
  pub found : (g : ℕ) × Leading n H r b g × (steps n r b g ≡ d)

-- what is met on one side: that generator, or none
abbrev pub Met : (n : ℕ) (H : PartHealth) (r : Bool) (b : ℕ) → Option ℕ → Type 0
Met n H r b (Some d) = MetAt n H r b d
Met n H r b None = (g : ℕ) → Leading n H r b g → ⊥

-- ---- geometry of the two sides

-- the bus before a is as far from a as can be
once_round : (n a k : ℕ) → a < n → k < n → next n k ≡ a → suc (up n a k) ≡ n
once_round n a k ha hk e = go (next_cases n k hk) (up_cases n a k ha)
  where
    go : Next n k → Up n a k → suc (up n a k) ≡ n
    go (more l f) (fwd m g) = absurd (omega arith)
    go (more l f) (wrap m g) = omega arith
    go (last l f) (fwd m g) = omega arith
    go (last l f) (wrap m g) = absurd (omega arith)

module _ (n : ℕ) (b : ℕ) (hb : b < n) where
  pub steps_refl : (r : Bool) → steps n r b b ≡ 0
  steps_refl true = up_refl n b hb
  steps_refl false = up_refl n b hb

  pub steps_lt : (r : Bool) (g : ℕ) → g < n → steps n r b g < n
  steps_lt true g hg = up_lt n b g hb hg
  steps_lt false g hg = up_lt n g b hg hb

  pub steps_some : (r : Bool) (g : ℕ) → g < n → g ≢ b → 0 < steps n r b g
  steps_some true g hg ne = let z : up n b g ≢ 0 = λ e. ne (sym (up_zero n b g hb hg e)) in omega arith
  steps_some false g hg ne = let z : up n g b ≢ 0 = λ e. ne (up_zero n g b hg hb e) in omega arith

  steps_only : (r : Bool) (g k : ℕ) → g < n → k < n → steps n r b g ≡ steps n r b k → g ≡ k
  steps_only true g k hg hk e = up_inj n b g k hb hg hk e
  steps_only false g k hg hk e = up_inj_left n g k b hg hk hb e

  -- one bus farther
  steps_more : (r : Bool) (k : ℕ) → k < n → suc (steps n r b k) < n → steps n r b (bus_beside n r k) ≡ suc (steps n r b k)
  steps_more true k hk l = up_next_right n b k hb hk (λ e. omega (arith, once_round n b k hb hk e))
  steps_more false k hk l =
      let p = next_previous n k hk in
      let ne : previous n k ≢ b = λ e. omega (arith, once_round n k b hk hb (ap (next n) (sym e) ∙ p.1)) in
      up_next n (previous n k) b p.0 hb ne ∙ ap (λ x. suc (up n x b)) p.1

  module _ (C : ℕ → Bool) where
    closed_more : (r : Bool) (k : ℕ) → k < n → suc (steps n r b k) < n → Closed n C r b k → C (breaker_beside n r k) ≡ true
        → Closed n C r b (bus_beside n r k)
    closed_more true k hk l f c = λ i hi m. go i hi m (dec_eq (up n b i) (up n b k))
      where
        go : (i : ℕ) → i < n → up n b i < up n b (next n k) → (up n b i ≡ up n b k) ⊎ (up n b i ≢ up n b k) → C i ≡ true
        go i hi m (inl e) = rw (up_inj n b i k hb hi hk e) c
        go i hi m (inr e) = f i hi (omega (arith, m, steps_more true k hk l))
    closed_more false k hk l f c =
        let p = next_previous n k hk in
        let ne : previous n k ≢ b = λ e. omega (arith, once_round n k b hk hb (ap (next n) (sym e) ∙ p.1)) in
        arc_longer n C (previous n k) b p.0 hb c ne (rw p.1 f)

    -- a breaker on the line to a bus beyond is closed
    closed_on : (r : Bool) (k g : ℕ) → k < n → g < n → Closed n C r b g → steps n r b k < steps n r b g → C (breaker_beside n r k) ≡ true
    closed_on true k g hk hg f l = f k hk l
    closed_on false k g hk hg f l = f (previous n k) (next_previous n k hk).0 (go (dec_lt (up n g b) (up n g k)))
      where
        ne : g ≢ k
        ne e = omega (arith, ap (λ x. up n x b) e)

        go : (up n g b < up n g k) ⊎ (up n g k ≤ up n g b) → up n g (previous n k) < up n g b
        go (inl m) = absurd (omega (arith, up_past n g k b hg hk hb m, up_lt n g k hg hk))
        go (inr m) = omega (arith, up_previous n g k hg hk ne)

-- ---- the walk, at bus k before step d

pub record Walked (n : ℕ) (H : PartHealth) (r : Bool) (b k d : ℕ) : Type 0 where
  pub at : k < n
  pub far : suc (steps n r b k) ≡ d
  pub line : Closed n (passable H) r b k
  pub past : (g : ℕ) → Leading n H r b g → d ≤ steps n r b g

module _ (n : ℕ) (H : PartHealth) (r : Bool) (b : ℕ) (hb : b < n) where
  pub walked_start : Walked n H r b b 1
  walked_start = record {
    at = hb;
    far = ap suc (steps_refl n b hb r);
    line = start r;
    past = λ g l. steps_some n b hb r g l.inside l.other;
  }
    where
      start : (r : Bool) → Closed n (passable H) r b b
      start true = λ i h l. absurd (omega (arith, up_refl n b hb))
      start false = λ i h l. absurd (omega (arith, up_refl n b hb))

  module _ (k d : ℕ) (w : Walked n H r b k d) where
    pub walked_open : H.health (bus_breaker (breaker_beside n r k)) ≡ 2 → Met n H r b None
    walked_open e = λ g l.
        contra (eq-eqb (H.health (bus_breaker (breaker_beside n r k))) 2 e)
        (not-true (stuck_open (H.health (bus_breaker (breaker_beside n r k))))
        (closed_on n b hb (passable H) r k g w.at l.inside l.line (omega (arith, w.far, w.past g l))))

    pub walked_end : n ≤ d → Met n H r b None
    walked_end h = λ g l. omega (arith, w.past g l, steps_lt n b hb r g l.inside)

    module _ (room : d < n) (clear : H.health (bus_breaker (breaker_beside n r k)) ≢ 2) where
      short : suc (steps n r b k) < n
      short = omega (arith, w.far)

      farther : steps n r b (bus_beside n r k) ≡ d
      farther = omega (arith, steps_more n b hb r k w.at short, w.far)

      on : Closed n (passable H) r b (bus_beside n r k)
      on =
          closed_more n b hb (passable H) r k w.at short w.line
          (not_of (stuck_open (H.health (bus_breaker (breaker_beside n r k)))) (ne_eqb (H.health (bus_breaker (breaker_beside n r k))) 2 clear))

      pub walked_met : may_feed H (bus_beside n r k) ≡ true → Met n H r b (Some d)
      walked_met e = record {
        short = room;
        found = (
          bus_beside n r k,
          record {
            inside = bus_lt n r k w.at;
            other = λ z. omega (arith, farther, ap (steps n r b) z, steps_refl n b hb r, w.far);
            feeding = e;
            line = on;
          },
          farther,
        );
      }

      pub walked_on : may_feed H (bus_beside n r k) ≡ false → Walked n H r b (bus_beside n r k) (d + 1)
      walked_on e = record {
        at = bus_lt n r k w.at;
        far = omega (arith, farther);
        line = on;
        past = λ g l. go g l (dec_eq (steps n r b g) d);
      }
        where
          go : (g : ℕ) → Leading n H r b g → (steps n r b g ≡ d) ⊎ (steps n r b g ≢ d) → d + 1 ≤ steps n r b g
          go g l (inl z) =
              contra l.feeding (rw (steps_only n b hb r g (bus_beside n r k) l.inside (bus_lt n r k w.at) (z ∙ sym farther)) e)
          go g l (inr z) = omega (arith, w.past g l, z)

-- how many of the paths from the two sides have no part in common: they meet where together they are as long as the ring
abbrev pub side_paths : ℕ → Option ℕ → Option ℕ → ℕ
side_paths n (Some rise) (Some fall) = cond (ltb (rise + fall) n) 2 1
side_paths n (Some rise) None = 1
side_paths n None (Some fall) = 1
side_paths n None None = 0
