-- Which generators may feed. Generators are indices from 0.
use Rattle.std.specs.Prelude.{◌≡◌, Bool, true, false, not, ◌&&◌, ◌⊎◌, ◌≢◌, ℕ}
use Rattle.std.proofs.Common.{inl, inr, eq-eqb, ne_eqb}
use Rattle.model.specs.Plant.{PartHealth, generator_breaker, fit, fit_generator, stuck_open}
use Rattle.model.specs.Laws.Tests.{dec, dec_eq}

-- the generator may feed: it is fit, and its breaker is not stuck open
unfoldable pub may_feed : PartHealth → ℕ → Bool
may_feed H g = fit_generator H g && not (stuck_open (H.health (generator_breaker g)))

-- .. of a generator of health g and lock l with a breaker of health h, by cases of the numbers: however the code words its test
module _ (g : ℕ) (l : Bool) (h : ℕ) {k : Bool} (is : k ≡ fit g && not l) where
  pub fed_by : {r : Bool} → k ≡ true → (h ≡ 2 → r ≡ true → ⊥) → (h ≢ 2 → r ≡ false → ⊥) → r ≡ (fit g && not l) && not (stuck_open h)
  fed_by {r} e p q = rw (← is, e) (go (dec_eq h 2) (dec r))
    where
      go : (h ≡ 2) ⊎ (h ≢ 2) → (r ≡ true) ⊎ (r ≡ false) → r ≡ not (stuck_open h)
      go (inl i) (inl z) = absurd (p i z)
      go (inl i) (inr z) = rw (eq-eqb h 2 i) z
      go (inr i) (inl z) = rw (ne_eqb h 2 i) z
      go (inr i) (inr z) = absurd (q i z)

  pub unfed_by : k ≡ false → false ≡ (fit g && not l) && not (stuck_open h)
  unfed_by e = rw (← is, e)
