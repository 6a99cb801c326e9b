-- Chance of a dark hour (document 02, Note 8): the figures of a served answer are numbers within their bounds, no answer has a NaN, and the
-- bits of a figure name one number.
use Rattle.std.specs.Prelude.{◌≡◌, refl, true, false, not, [], ◌∷◌, ℕ, ◌≤◌, T, eqb, pos, Float}
use Rattle.std.proofs.Common.{sym, ◌∙◌, ap, arith, eqb-true}
use mathlib.Core.List.Memᴰ
use Rattle.std.specs.Int.Count.{count_trailing_zeros}
use Rattle.std.specs.Float.{inf, fin, binary64}
use Rattle.std.specs.Float.Ieee.{span, climb, size, odd, units, round, sum, add, mul, lt, eq, le, fits, is_nan, to_bits, of_bits}
use Rattle.std.specs.Float.Ieee.Bits.{of_bits-to_bits}
use Rattle.model.specs.declared.Part.TheVariants.{Generator}
use Rattle.model.specs.declared.Rate.{Rate}
use Rattle.model.specs.declared.Rate.TheVariants.{Chance, Unrated}
use Rattle.model.specs.declared.Rates.{Rates}
use Rattle.model.specs.declared.RingState.{RingState}
use Rattle.model.specs.declared.Exposure.{Exposure}
use Rattle.model.specs.Lists.{below, any_of}
use Rattle.model.specs.Plant.{largest}
use Rattle.model.specs.Reports.{health_of, places}
use Rattle.model.specs.Values.{index}
use Rattle.model.specs.Refusals.{first_met, bus_outside}
use Rattle.model.specs.States.{bad_record}
use Rattle.model.specs.CutSets.{ring_cut_sets}
use Rattle.model.specs.Exposure.{rate_of, chance_of, set_product, product_sum, greater_of, largest_product, exposure_of, rate_outside, some_outside, is_unrated, unrated_listed, exposure_refusal, exposure_answer}
use Rattle.model.specs.Laws.Tests.{by_cond}
use Rattle.model.specs.Laws.Lists.{any_none}
use Rattle.model.specs.Laws.Parts.{parts_in}
use Rattle.model.specs.Laws.Refusals.{first_unmet, good_size}
use Rattle.model.specs.Laws.Bookings.{good_state}
use Rattle.theory.specs.Statements.Exposure.{Figures}
use Rattle.theory.specs.Statements.Recipe.{by_kind}
use Rattle.theory.proofs.Theorems.CutSets.{listed}
use Rattle.theory.proofs.Theorems.Figures.{chance_portion, product_portion, figures}

-- ---- a served answer

pub served_figures : (state : RingState) (bus : ℕ) (r : Rates) → exposure_refusal state bus r ≡ 0 → Figures r (ring_cut_sets state.ring bus)
unfolding exposure_refusal first_met some_outside unrated_listed ring_cut_sets
served_figures state bus r e =
    let n = state.ring.n in
    let sets = ring_cut_sets state.ring bus in
    let nine = first_unmet (bad_record state) 9 _ (omega arith) e in
    let ten = first_unmet (bus_outside n bus) 10 _ (omega arith) nine.1 in
    let fifteen = first_unmet (some_outside n r) 15 _ (omega arith) ten.1 in
    let sixteen = first_unmet (unrated_listed r sets) 16 _ (omega arith) fifteen.1 in
    let small : n ≤ largest = (good_size state.ring (good_state state nine.0).ring_good).1 in
    figures r sets
    (λ S m. product_portion r S
    (λ p k. chance_portion (rate_of r p)
    (any_none (λ q. rate_outside (rate_of r q)) fifteen.0
    (parts_in n p ((((listed n (health_of state.ring.health) (index bus) small).exactly S).0 m).further p k).0))
    (any_none (λ q. is_unrated (rate_of r q)) (any_none (any_of (λ q. is_unrated (rate_of r q))) sixteen.0 m) k)))

-- no answer has a NaN, served or refused
pub answer_numbers : (state : RingState) (bus : ℕ) (r : Rates)
    → T (not (is_nan (exposure_answer state bus r).exposure.sum)) × T (not (is_nan (exposure_answer state bus r).exposure.largest))
unfolding exposure_answer is_nan
answer_numbers state bus r =
    let k = exposure_refusal state bus r in
    by_cond (λ (x : Exposure). T (not (is_nan x.sum)) × T (not (is_nan x.largest))) (eqb k 0)
    (λ t. let f = served_figures state bus r (eqb-true k 0 t) in (f.sum, f.largest)) (λ t. (tt, tt))

-- "Bits must equal this recipe's.": they name one value
pub same_bits : (x y : Float) → T (fits binary64 x) → T (fits binary64 y) → to_bits binary64 x ≡ to_bits binary64 y → x ≡ y
same_bits x y u v e = sym (of_bits-to_bits binary64 x u) ∙ ap (of_bits binary64) e ∙ of_bits-to_bits binary64 y v

-- ---- what 15 and 16 keep out

-- every part with one rate
abbrev pub rated : Rate → Rates
rated x = by_kind x x x

-- .. and the figures of one set, of G1 alone
abbrev FiguresAt : Rate → Type 0
FiguresAt x = Figures (rated x) ((Generator 1 ∷ []) ∷ [])

-- without them a product could be above 1 or below 0, the sum a NaN, below 0 or infinite, and the largest above 1: chances of 2.0, -1.0 and
-- infinity, and an unrated part
pub bounds_needed : (FiguresAt (Chance (fin false 1 (pos 1))) → ⊥) × (FiguresAt (Chance (fin true 1 (pos 0))) → ⊥) × (FiguresAt Unrated → ⊥)
    × (FiguresAt (Chance (fin true 1 (pos 0))) → ⊥) × (FiguresAt (Chance (inf false)) → ⊥) × (FiguresAt (Chance (fin false 1 (pos 1))) → ⊥)
unfolding exposure_of set_product product_sum largest_product greater_of chance_of rate_of by_kind places below mul add sum round size span climb units odd
    count_trailing_zeros lt eq le is_nan
bounds_needed = (
  λ f. (f.products (Generator 1 ∷ []) (Memᴰ.head refl)).1,
  λ f. (f.products (Generator 1 ∷ []) (Memᴰ.head refl)).0,
  λ f. f.sum,
  λ f. f.sum_above,
  λ f. f.sum_finite (omega arith),
  λ f. f.largest_between.1,
)
