-- What a code's answer and the list of a bus's sets say, and the whole answer from them.
use Rattle.std.specs.Prelude.{◌≡◌, true, false, not, ◌⊎◌, List, ℕ, ◌+◌, ◌*◌, ◌≤◌, T, length, Result, Ok, Err}
use Rattle.std.proofs.Math.Path.{refl, ap}
use Rattle.std.proofs.Common.{sym, ◌∙◌, inl, inr, arith, le-ltb}
use Rattle.std.proofs.Math.Option.{Option, none, some}
use Rattle.std.proofs.Math.ListN.{drop}
use Rattle.std.specs.Float.Ieee.{is_nan}
use Rattle.model.specs.declared.Part.{Part}
use Rattle.model.specs.declared.Refusal.{Refusal}
use Rattle.model.specs.declared.Refusal.TheVariants.{BadRecord, BusOutside, RateOutside, Unrated}
use Rattle.model.specs.declared.Rates.{Rates}
use Rattle.model.specs.declared.RingState.{RingState}
use Rattle.model.specs.declared.Exposure.{Exposure}
use Rattle.model.specs.declared.ExposureAnswer.{ExposureAnswer}
use Rattle.model.specs.declared.CutSetsAnswer.{CutSetsAnswer}
use Rattle.model.specs.Lists.{◌∈◌}
use Rattle.model.specs.Values.{index, refusal_of, outcome_of, outcome_number}
use Rattle.model.specs.Plant.{largest}
use Rattle.model.specs.Sheet.{written}
use Rattle.model.specs.Reports.{part_named, health_of}
use Rattle.model.specs.Refusals.{first_met, too_short, bus_outside}
use Rattle.model.specs.Answers.{part_answer}
use Rattle.model.specs.States.{bad_record}
use Rattle.model.specs.CutSets.{cut_sheet, ring_cut_sets, cut_sets_refusal, served_cut_sets, refused_cut_sets, cut_sets_reply}
use Rattle.model.specs.CutText.{sheet_room}
use Rattle.model.specs.Exposure.{some_outside, exposure_refusal, exposure_answer}
use Rattle.model.specs.Laws.Tests.{dec}
use Rattle.model.specs.Laws.Refusals.{good_size, served_refused, outcome_number_lem}
use Rattle.model.specs.Laws.Bookings.{good_state}
use Rattle.model.specs.Laws.CutSets.{cut_sheet_length, Few}
use Rattle.theory.proofs.Theorems.CutSets.{listed}
use Rattle.theory.proofs.Theorems.Exposure.{answer_numbers}
use Rattle.cutsets.specs.Sizes.{cut_sets_few}
use Rattle.exposure.specs.Bytes.{figures_of, unrated_bytes, refused_exposure, sheet_answer}
use Rattle.exposure.proofs.Sets.{figures_are, unrated_are}

-- ---- the answer to a code

module _ (c : ℕ) {a : Result Part Refusal} (is : a ≡ part_answer (part_named largest c)) where
  pub is_part : {p : Part} → a ≡ Ok p → part_named largest c ≡ some p
  unfolding part_answer
  is_part {p} e = go (part_named largest c) (sym e ∙ is)
    where
      go : (o : Option Part) → Ok p ≡ part_answer o → o ≡ some p
      go none z = cc
      go (some q) z = let y : q ≡ p = cc in rw y

  pub is_none_lem : {k : Refusal} → a ≡ Err k → part_named largest c ≡ none
  unfolding part_answer
  is_none_lem {k} e = go (part_named largest c) (sym e ∙ is)
    where
      go : (o : Option Part) → Err k ≡ part_answer o → o ≡ none
      go none z = refl
      go (some q) z = cc

-- ---- 15, then 16, then the figures

module _ (n : ℕ) (r : Rates) (sheet : List ℕ) (k : ℕ) where
  pub outside_15 : some_outside n r ≡ true → refused_exposure RateOutside ≡ sheet_answer n r sheet k
  unfolding refused_exposure sheet_answer first_met outcome_of refusal_of
  outside_15 e = rw e

  pub unrated_16 : some_outside n r ≡ false → unrated_bytes r sheet (3 * k) ≡ true → refused_exposure Unrated ≡ sheet_answer n r sheet k
  unfolding refused_exposure sheet_answer first_met outcome_of refusal_of
  unrated_16 e f = rw (e, f)

  pub reckoned : {x : Exposure} → some_outside n r ≡ false → unrated_bytes r sheet (3 * k) ≡ false → x ≡ figures_of r sheet k
      → record { outcome = Ok tt; exposure = x } ≡ sheet_answer n r sheet k
  unfolding sheet_answer first_met outcome_of refusal_of
  reckoned e f g = rw (e, f, g)

-- ---- the list

-- room for any sheet is short for none
never_short : (state : RingState) (bus : ℕ) → bad_record state ≡ false → too_short sheet_room (cut_sheet (ring_cut_sets state.ring bus)) ≡ false
unfolding too_short ring_cut_sets
never_short state bus e =
    let ring = state.ring in
    let sets = ring_cut_sets ring bus in
    let few = cut_sets_few ring.n (health_of ring.health) (index bus) (good_size ring (good_state state e).ring_good).1 in
    le-ltb sheet_room (length (cut_sheet sets)) (omega (arith, few, cut_sheet_length sets))

-- a list that is served, with the bytes that it leaves
record ServedList (state : RingState) (bus : ℕ) (buffer : List ℕ) (answer : CutSetsAnswer) (after : List ℕ) : Type 0 where
  good : bad_record state ≡ false
  inside : bus_outside state.ring.n bus ≡ false
  counted : answer.count ≡ length (ring_cut_sets state.ring bus)
  laid : after ≡ written (cut_sheet (ring_cut_sets state.ring bus)) buffer

-- a call whose answer and whose buffer after it are the reply, for any rates
module _ (state : RingState) (bus : ℕ) (r : Rates) (buffer : List ℕ) (room : length buffer ≡ sheet_room) {answer : CutSetsAnswer} {after : List ℕ}
    (is : answer ≡ (cut_sets_reply state bus buffer).answer) (left : after ≡ (cut_sets_reply state bus buffer).buffer) where
  abbrev sets : List (List Part)
  sets = ring_cut_sets state.ring bus

  abbrev Turned : Refusal → Type 0
  Turned k = (answer.outcome ≡ Err k) × (refused_exposure k ≡ exposure_answer state bus r)

  -- refused by 9, refused by 10, or served
  abbrev Ways : Type 0
  Ways = Turned BadRecord ⊎ (Turned BusOutside ⊎ ((answer.outcome ≡ Ok tt) × ServedList state bus buffer answer after))

  ways : Ways
  unfolding cut_sets_reply cut_sets_refusal first_met refused_cut_sets served_cut_sets refused_exposure exposure_answer exposure_refusal outcome_of refusal_of
  ways = go (dec (bad_record state)) (dec (bus_outside state.ring.n bus))
    where
      outcome : {k : Refusal} → (cut_sets_reply state bus buffer).answer.outcome ≡ Err k → answer.outcome ≡ Err k
      outcome e = ap (λ (a : CutSetsAnswer). a.outcome) is ∙ e

      go : (bad_record state ≡ true) ⊎ (bad_record state ≡ false)
          → (bus_outside state.ring.n bus ≡ true) ⊎ (bus_outside state.ring.n bus ≡ false)
          → Ways
      go (inl e) f = inl (outcome (rw e), rw e)
      go (inr e) (inl f) = inr (inl (outcome (rw (e, f)), rw (e, f)))
      go (inr e) (inr f) =
          let z = never_short state bus e in
          inr (inr (
            ap (λ (a : CutSetsAnswer). a.outcome) is ∙ rw (room, e, f, z),
            record {
              good = e;
              inside = f;
              counted = ap (λ (a : CutSetsAnswer). a.count) is ∙ rw (room, e, f, z);
              laid = left ∙ rw (room, e, f, z);
            },
          ))

  pub refused_is : {k : Refusal} → answer.outcome ≡ Err k → refused_exposure k ≡ exposure_answer state bus r
  refused_is {k} e = go ways
    where
      go : Ways → refused_exposure k ≡ exposure_answer state bus r
      go (inl t) = let q = sym e ∙ t.0 in let z : k ≡ BadRecord = cc in rw z t.1
      go (inr (inl t)) = let q = sym e ∙ t.0 in let z : k ≡ BusOutside = cc in rw z t.1
      go (inr (inr t)) = served_refused t.0 e

  module _ (e : answer.outcome ≡ Ok tt) where
    served : ServedList state bus buffer answer after
    served = go ways
      where
        go : Ways → ServedList state bus buffer answer after
        go (inl t) = served_refused e t.0
        go (inr (inl t)) = served_refused e t.0
        go (inr (inr t)) = t.1

    size : state.ring.n ≤ largest
    size = (good_size state.ring (good_state state served.good).ring_good).1

    -- what the reckoning asks for
    pub served_room : (state.ring.n ≤ largest) × (answer.count ≤ 36051) × (2 + 3 * answer.count ≤ length buffer)
    unfolding ring_cut_sets
    served_room =
        let ring = state.ring in
        let few = cut_sets_few ring.n (health_of ring.health) (index bus) size in
        (size, omega (arith, few, served.counted), omega (arith, few, served.counted, room))

    -- a listed set has at most three parts, all of the ring
    sets_few : (S : List Part) → S ∈ sets → Few largest S
    unfolding ring_cut_sets
    sets_few S m =
        let ring = state.ring in
        let c = ((listed ring.n (health_of ring.health) (index bus) size).exactly S).0 m in
        (c.few, λ p k. let i = (c.further p k).0 in (i.0, omega (arith, i.1, size)))

    -- and what it gives
    pub served_is : sheet_answer state.ring.n r after answer.count ≡ exposure_answer state bus r
    unfolding written sheet_answer exposure_answer exposure_refusal first_met
    served_is =
        let rest = drop (length (cut_sheet sets)) buffer in
        rw (
          served.counted,
          served.laid,
          unrated_are r sets sets_few rest,
          figures_are r sets sets_few rest,
          served.good,
          served.inside,
        )

-- the answer, its number, and figures that are numbers
pub gives : (state : RingState) (bus : ℕ) (r : Rates) {a : ExposureAnswer} → a ≡ exposure_answer state bus r
    → (a ≡ exposure_answer state bus r)
    × ((outcome_number a.outcome ≡ exposure_refusal state bus r)
    × (T (not (is_nan a.exposure.sum)) × T (not (is_nan a.exposure.largest))))
unfolding exposure_answer
gives state bus r e =
    (e, (ap (λ (x : ExposureAnswer). outcome_number x.outcome) e ∙ outcome_number_lem (exposure_refusal state bus r), rw e (answer_numbers state bus r)))
