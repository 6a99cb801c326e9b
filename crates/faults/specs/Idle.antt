-- Which parts can fail and are on a path. Generators and breakers are indices from 0.
use Rattle.std.specs.Prelude.{◌≡◌, Bool, true, false, not, ℕ}
use Rattle.std.proofs.Math.Path.{sym}
use Rattle.std.proofs.Common.{◌∙◌, ap}
use Rattle.model.specs.declared.Part.{Part}
use Rattle.model.specs.Plant.{PartHealth, generator, generator_breaker, bus_breaker, fit_generator, stuck_open}
use Rattle.model.specs.Priority.{Path}
use Rattle.model.specs.CutSets.{can_fail}
use Rattle.model.specs.Laws.Tests.{contra, not_of, and_left, and_right, and_intro}
use Rattle.theory.specs.Proofs.Paths.{generator_on, generator_breaker_on, bus_breaker_on, path_at}
use Rattle.theory.proofs.Theorems.CutSets.{Supplies, Idle}
use Rattle.sources.specs.Sources.{may_feed}

-- r says that a part can fail; where it is false the part is on no path to any bus
pub record Matters (n : ℕ) (H : PartHealth) (p : Part) (r : Bool) : Type 0 where
  pub fails : r ≡ true → can_fail H p ≡ true
  pub idle : r ≡ false → Idle n H p

module _ (n : ℕ) (H : PartHealth) where
  -- the generator of a path may feed
  source_feeds : {b : ℕ} {w : Path} → Supplies n H b w → may_feed H w.source ≡ true
  unfolding may_feed
  source_feeds {w = w} s =
      and_intro (fit_generator H w.source) _ s.usable.runs
      (not_of (stuck_open (H.health (generator_breaker w.source))) s.usable.breaker)

  module _ (g : ℕ) {r : Bool} (is : r ≡ may_feed H g) where
    pub generator_matters : Matters n H (generator g) r
    unfolding can_fail may_feed
    generator_matters = record {
      fails = λ e. and_left (fit_generator H g) _ (sym is ∙ e);
      idle = λ e b w s m. contra (source_feeds s) (ap (may_feed H) (sym (generator_on n w g m)) ∙ sym is ∙ e);
    }

    pub generator_breaker_matters : Matters n H (generator_breaker g) r
    unfolding can_fail may_feed
    generator_breaker_matters = record {
      fails = λ e. and_right (fit_generator H g) _ (sym is ∙ e);
      idle = λ e b w s m. contra (source_feeds s) (ap (may_feed H) (sym (generator_breaker_on n w g m)) ∙ sym is ∙ e);
    }

  pub bus_breaker_matters : (i : ℕ) {r : Bool} → r ≡ not (stuck_open (H.health (bus_breaker i))) → Matters n H (bus_breaker i) r
  unfolding can_fail
  bus_breaker_matters i is = record {
    fails = λ e. sym is ∙ e;
    idle = λ e b w s m.
        let t = path_at i s.ends (bus_breaker_on n w i m) in
        contra (is ∙ not_of (stuck_open (H.health (bus_breaker i))) (s.usable.line i t.0 t.1)) e;
  }
