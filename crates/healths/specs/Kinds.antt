-- The check that each health of a ring is one of its part's kind, kind by kind.
use Rattle.std.specs.Prelude.{◌≡◌, Bool, not, ◌||◌, ℕ, min, take}
use Rattle.std.proofs.Common.{◌∙◌, refl}
use Rattle.model.specs.declared.Health.{Health}
use Rattle.model.specs.Lists.{any_of}
use Rattle.model.specs.Plant.{largest, parts, fit, stuck_off, stuck_open, stuck_closed, health_of_kind}
use Rattle.model.specs.Reports.{health_of}
use Rattle.model.specs.Refusals.{health_outside}
use Rattle.model.specs.Laws.Parts.{Sized}
use Rattle.components.specs.Searches.{any_kinds, any_held}

-- a generator's health of another kind, and a breaker's
abbrev pub no_generator : ℕ → Bool
no_generator h = not (fit h || stuck_off h)

abbrev pub no_breaker : ℕ → Bool
no_breaker h = not (fit h || stuck_open h || stuck_closed h)

-- .. of the first n, or of all that the arrays hold: beyond them every part is fit
module _ (h : Health) (s : Sized h) (n : ℕ) where
  pub outside_kinds : health_outside (health_of h) (parts n)
      ≡ any_of no_generator (take (min n largest) h.generators)
      || (any_of no_breaker (take (min n largest) h.generator_breakers) || any_of no_breaker (take (min n largest) h.bus_breakers))
  unfolding health_outside health_of health_of_kind
  outside_kinds =
      any_kinds _ n
      ∙ rw (
        any_held no_generator h.generators 0 n largest s.generators refl,
        any_held no_breaker h.generator_breakers 0 n largest s.generator_breakers_lem refl,
        any_held no_breaker h.bus_breakers 0 n largest s.bus_breakers_lem refl,
      )
