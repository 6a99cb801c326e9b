-- The rate that an array holds at a place, and 15 over the places.
use Rattle.std.specs.Prelude.{◌≡◌, Bool, List, ℕ, zero, suc, ◌-◌, ◌≤◌, ◌<◌, length, get_or, take, ◌||◌}
use Rattle.std.proofs.Common.{sym, ◌∙◌, arith}
use Rattle.std.proofs.Math.Numerals.{unary_clauses}
use Rattle.model.specs.declared.Rate.{Rate}
use Rattle.model.specs.declared.PartRate.{PartRate}
use Rattle.model.specs.declared.Rates.{Rates}
use Rattle.model.specs.Plant.{largest}
use Rattle.model.specs.Reports.{at_number}
use Rattle.model.specs.Lists.{any_of}
use Rattle.model.specs.Exposure.{unrated, rate_of, rate_outside, some_outside}
use Rattle.model.specs.Laws.Lists.{map_within}
use Rattle.components.specs.Searches.{any_kinds, any_first}

-- each array has a place for every part
pub record Sized (r : Rates) : Type 0 where
  pub generators : length r.generators ≡ largest
  pub generator_breakers_lem : length r.generator_breakers ≡ largest
  pub bus_breakers_lem : length r.bus_breakers ≡ largest

-- whatever stands for a place beyond an array, none that it has is read by it
held : (l : List PartRate) (i : ℕ) (d : PartRate) → i < length l → (get_or l i d).rate ≡ (get_or l i unrated).rate
held l i d h =
    let rate : PartRate → Rate = λ p. p.rate in
    sym (map_within rate l i d unrated.rate h) ∙ map_within rate l i unrated unrated.rate h

-- .. by a part's number
pub held_number : (l : List PartRate) (k : ℕ) (d : PartRate) → 0 < k → k ≤ length l → (get_or l (k - 1) d).rate ≡ (at_number unrated l k).rate
held_number l zero d p h = absurd (omega arith)
held_number l (suc i) d p h = simp unary_clauses (held l i d h)

-- 15 of some part's rate
abbrev pub any_outside : List PartRate → Bool
any_outside = any_of (λ p. rate_outside p.rate)

-- .. among the ring's parts, kind by kind
pub outside_kinds : (r : Rates) → Sized r → (n : ℕ) → n ≤ largest
    → some_outside n r
    ≡ any_outside (take n r.generators) || (any_outside (take n r.generator_breakers) || any_outside (take n r.bus_breakers))
unfolding some_outside rate_of
outside_kinds r s n h =
    any_kinds _ n
    ∙ rw (
      any_first (λ p. rate_outside p.rate) r.generators unrated n (omega (arith, s.generators)),
      any_first (λ p. rate_outside p.rate) r.generator_breakers unrated n (omega (arith, s.generator_breakers_lem)),
      any_first (λ p. rate_outside p.rate) r.bus_breakers unrated n (omega (arith, s.bus_breakers_lem)),
    )
