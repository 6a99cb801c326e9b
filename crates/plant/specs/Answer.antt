-- The whole answer of the plant reckoning, refused or served.
use Rattle.std.specs.Prelude.{◌≡◌, refl, Bool, true, false, ◌&&◌, cond, ℕ, suc, eqb, take, Ok, Err}
use Rattle.std.proofs.Common.{◌∙◌}
use Rattle.std.proofs.Math.Path.{ap}
use mathlib.Core.List.{List, [], ◌∷◌, map, map-map}
use Rattle.std.proofs.Math.Dec.{ltb}
use Rattle.model.specs.declared.Health.{Health}
use Rattle.model.specs.declared.Commands.{Commands}
use Rattle.model.specs.declared.FeedsAnswer.{FeedsAnswer}
use Rattle.model.specs.declared.Feed.TheVariants.{Dark}
use Rattle.model.specs.declared.Refusal.{Refusal}
use Rattle.model.specs.declared.Refusal.TheVariants.{SizeOutside, BadRecord}
use Rattle.model.specs.Lists.{below}
use Rattle.model.specs.Values.{refusal_of, outcome_number, outcome_of, feed_sources, feed_values}
use Rattle.model.specs.Plant.{largest, parts, feeders, feed_by, bus_feed}
use Rattle.model.specs.Reports.{places, health_of, commands_of}
use Rattle.model.specs.Refusals.{first_met, size_outside, health_outside, feeds_refusal}
use Rattle.model.specs.Answers.{feeds_answer, bus_values}
use Rattle.model.specs.Laws.Lists.{map_ext}
use Rattle.model.specs.Laws.Refusals.{outcome_number_lem}
use Rattle.plant.specs.Buses.{dark_buses, feeds_below}

-- a refused answer
abbrev pub refused_answer : Refusal → FeedsAnswer
refused_answer r = record { outcome = Err r; buses = dark_buses }

-- the generators that an answer names
feed_sources_lem : (t : Bool) (gs : List ℕ) → feed_sources (cond t (feed_by gs) Dark) ≡ cond t (map suc (take 2 gs)) []
unfolding feed_by
feed_sources_lem true [] = refl
feed_sources_lem true (g ∷ []) = refl
feed_sources_lem true (g ∷ k ∷ gs) = refl
feed_sources_lem false gs = refl

module _ (n : ℕ) (h : Health) (c : Commands) where
  -- the generators that each bus's answer names
  buses_values : feed_values (feeds_answer n h c).buses ≡ places (bus_values n h c)
  unfolding feeds_answer feed_values bus_feed places bus_values
  buses_values =
      map-map (λ bus. feed_sources bus.feed) _ (below largest)
      ∙ map_ext _ _ (below largest) (λ b m. feed_sources_lem (eqb (feeds_refusal n (health_of h)) 0 && ltb b n)
      (feeders n (health_of h) (commands_of c) b))

  -- the answer, its number and its values
  abbrev pub Answered : FeedsAnswer → Type 0
  Answered r =
      (r ≡ feeds_answer n h c) × ((outcome_number r.outcome ≡ feeds_refusal n (health_of h))
      × (feed_values r.buses ≡ places (bus_values n h c)))

  pub answered : (r : FeedsAnswer) → r ≡ feeds_answer n h c → Answered r
  unfolding feeds_answer
  answered r e = (
    e,
    (
      ap (λ a. outcome_number a.outcome) e ∙ outcome_number_lem (feeds_refusal n (health_of h)),
      ap (λ a. feed_values a.buses) e ∙ buses_values,
    ),
  )

  -- refused by 2, by 9, or served
  pub size_refused : size_outside n ≡ true → refused_answer SizeOutside ≡ feeds_answer n h c
  unfolding feeds_answer feeds_refusal first_met outcome_of refusal_of
  size_refused e = rw e

  pub health_refused : size_outside n ≡ false → health_outside (health_of h) (parts n) ≡ true → refused_answer BadRecord ≡ feeds_answer n h c
  unfolding feeds_answer feeds_refusal first_met outcome_of refusal_of
  health_refused e f = rw (e, f)

  pub served : size_outside n ≡ false → health_outside (health_of h) (parts n) ≡ false
      → record { outcome = Ok tt; buses = feeds_below (bus_feed n (health_of h) (commands_of c)) n } ≡ feeds_answer n h c
  unfolding feeds_answer feeds_refusal first_met outcome_of refusal_of feeds_below
  served e f = rw (e, f)
