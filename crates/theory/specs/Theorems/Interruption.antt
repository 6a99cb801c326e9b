-- Every interruption of a plan's commands is safe, over any two healths: while parts open or stop no more feeds than before,
-- unless a breaker has stuck closed; once they have opened, what stands is within the new commands.
use Rattle.std.specs.Prelude.{◌≡◌, Bool, true, false, ◌⊎◌, ℕ, ◌<◌}
use Rattle.std.proofs.Common.{inl, inr, arith}
use Rattle.model.specs.declared.Part.{Part}
use Rattle.model.specs.Plant.{
  PartHealth,
  PartCommands,
  generator,
  generator_breaker,
  bus_breaker,
  fit_generator,
  stuck_open,
  stuck_closed,
  closed,
  InRing,
}
use Rattle.model.specs.Choosing.{chosen, commands}
use Rattle.model.specs.Laws.Tests.{or_left}
use Rattle.model.specs.Laws.Parts.{at_index}
use Rattle.theory.specs.Proofs.Paths.{generator_on, generator_breaker_on, bus_breaker_on, path_at}
use Rattle.theory.specs.Proofs.Choosing.{Safe, safe_chosen}
use Rattle.theory.specs.Theorems.Feeds.{Single, Less, single, single_less, closed_case, closed_by, commanded_at}

-- every part of the ring that C commands on or closed, D does
abbrev pub Fewer : ℕ → PartCommands → PartCommands → Type 0
Fewer n C D = (p : Part) → InRing n p → C p ≡ true → D p ≡ true

-- a part of a plan is fit, or a breaker that is not stuck open: no command waits for a failed part to return
module _ (n : ℕ) (H : PartHealth) where
  safe : Safe n H (chosen n H n)
  safe = safe_chosen n H n (omega arith)

  pub on_fit : (g : ℕ) → commands n H (generator g) ≡ true → fit_generator H g ≡ true
  on_fit g e = let t = commanded_at n H (generator g) e in rw (generator_on n t.0 g t.2) (safe.usables t.0 t.1).runs

  pub breaker_free : (g : ℕ) → commands n H (generator_breaker g) ≡ true → stuck_open (H.health (generator_breaker g)) ≡ false
  breaker_free g e =
      let t = commanded_at n H (generator_breaker g) e in rw (generator_breaker_on n t.0 g t.2) (safe.usables t.0 t.1).breaker

  pub line_free : (i : ℕ) → commands n H (bus_breaker i) ≡ true → stuck_open (H.health (bus_breaker i)) ≡ false
  line_free i e =
      let t = commanded_at n H (bus_breaker i) e in
      let u = path_at i (safe.ends t.0 t.1) (bus_breaker_on n t.0 i t.2) in
      (safe.usables t.0 t.1).line i u.0 u.1

-- no breaker is stuck closed in K that was not in H
pub record NoneStuckClosed (n : ℕ) (H K : PartHealth) : Type 0 where
  pub breaker : (g : ℕ) → g < n → stuck_closed (K.health (generator_breaker g)) ≡ true → stuck_closed (H.health (generator_breaker g)) ≡ true
  pub line : (i : ℕ) → i < n → stuck_closed (K.health (bus_breaker i)) ≡ true → stuck_closed (H.health (bus_breaker i)) ≡ true

-- a breaker that is closed by health k and command c was closed by health h and command d
was_closed : (h k : ℕ) (c d : Bool) → (stuck_closed k ≡ true → stuck_closed h ≡ true) → (d ≡ true → stuck_open h ≡ false)
    → (c ≡ true → d ≡ true) → closed k c ≡ true
    → closed h d ≡ true
was_closed h k c d stuck free fewer e = go (closed_case k c e)
  where
    go : (stuck_closed k ≡ true) ⊎ ((stuck_open k ≡ false) × (c ≡ true)) → closed h d ≡ true
    go (inl p) = or_left (stuck_closed h) _ (stuck p)
    go (inr p) = let q = fewer p.1 in closed_by h d (free q) q

-- while parts open or stop: the standing commands or fewer, after a change of health
pub opening_single : (n : ℕ) (H K : PartHealth) (C : PartCommands) → NoneStuckClosed n H K → Fewer n C (commands n H) → (b : ℕ) → b < n
    → Single n K C b
opening_single n H K C e f b hb = single_less less b hb (single n H b hb)
  where
    less : Less n K C H (commands n H)
    less = record {
      runs = λ g hg r c. let d = f (generator g) (at_index n g hg) c in (on_fit n H g d, d);
      breaker =
          λ g hg c. was_closed (H.health (generator_breaker g)) (K.health (generator_breaker g)) (C (generator_breaker g))
          (commands n H (generator_breaker g)) (e.breaker g hg) (breaker_free n H g) (f (generator_breaker g) (at_index n g hg)) c;
      line =
          λ i hi c. was_closed (H.health (bus_breaker i)) (K.health (bus_breaker i)) (C (bus_breaker i)) (commands n H (bus_breaker i)) (e.line i hi)
          (line_free n H i) (f (bus_breaker i) (at_index n i hi)) c;
    }

-- while parts close or start: the new commands or fewer
pub closing_single : (n : ℕ) (H : PartHealth) (C : PartCommands) → Fewer n C (commands n H) → (b : ℕ) → b < n → Single n H C b
closing_single n H C f b hb = single_less less b hb (single n H b hb)
  where
    less : Less n H C H (commands n H)
    less = record {
      runs = λ g hg r c. (r, f (generator g) (at_index n g hg) c);
      breaker =
          λ g hg c. was_closed (H.health (generator_breaker g)) (H.health (generator_breaker g)) (C (generator_breaker g))
          (commands n H (generator_breaker g)) (λ s. s) (breaker_free n H g) (f (generator_breaker g) (at_index n g hg)) c;
      line =
          λ i hi c. was_closed (H.health (bus_breaker i)) (H.health (bus_breaker i)) (C (bus_breaker i)) (commands n H (bus_breaker i)) (λ s. s)
          (line_free n H i) (f (bus_breaker i) (at_index n i hi)) c;
    }
