-- What a call of the list says, served or refused, and the text that is made of it.
use Rattle.std.specs.Prelude.{◌≡◌, refl, true, false, ◌⊎◌, ◌≢◌, ℕ, ◌+◌, ◌*◌, ◌≤◌, ◌<◌, length, drop, Ok, Err}
use Rattle.model.specs.declared.Refusal.{Refusal}
use Rattle.model.specs.Values.{refusal_of}
use Rattle.std.proofs.Common.{◌∙◌, inl, inr, arith}
use Rattle.std.proofs.Math.Path.{ap}
use mathlib.Core.List.{List, []}
use borrow.Author.Tests.{eq-eqb, ne_eqb, ltb-false}
use Rattle.model.specs.declared.Part.{Part}
use Rattle.model.specs.declared.Load.{Load}
use Rattle.model.specs.declared.Ring.{Ring}
use Rattle.model.specs.declared.CutSetsAnswer.{CutSetsAnswer}
use Rattle.model.specs.Values.{index}
use Rattle.model.specs.Plant.{largest}
use Rattle.model.specs.Sheet.{written}
use Rattle.model.specs.Reports.{health_of}
use Rattle.model.specs.Refusals.{first_met, too_short, bad_ring, bus_outside}
use Rattle.model.specs.Bookings.{no_load}
use Rattle.model.specs.States.{unloaded}
use Rattle.model.specs.CutSets.{cut_sheet, ring_cut_sets, cut_sets_refusal, refused_cut_sets, served_cut_sets, cut_sets_reply}
use Rattle.model.specs.CutText.{sheet_room, text_room, bus_cut_text}
use Rattle.model.specs.Laws.Tests.{dec, dec_eq}
use Rattle.model.specs.Laws.Refusals.{good_size, bus_inside, served_refused}
use Rattle.model.specs.Laws.Bookings.{unloaded_bad}
use Rattle.model.specs.Laws.CutSets.{cut_sheet_length}
use Rattle.model.specs.Laws.Appended.{Appended, appended_all, appended_length}
use Rattle.theory.proofs.Theorems.CutSets.{listed}
use Rattle.cutsets.specs.Sizes.{cut_sets_few}
use Rattle.cutlines.specs.Sets.{text_of, text_length, cut_text_lem}

-- what holds where the list is not refused
module _ (ring : Ring) (bus room : ℕ) (k : cut_sets_refusal (unloaded ring) bus room ≡ 0) where
  checked : (bad_ring ring ≡ false) × (bus_outside ring.n bus ≡ false) × (too_short room (cut_sheet (ring_cut_sets ring bus)) ≡ false)
  unfolding cut_sets_refusal first_met unloaded
  checked = go (dec (bad_ring ring)) (dec (bus_outside ring.n bus)) (dec (too_short room (cut_sheet (ring_cut_sets ring bus))))
    where
      go : (bad_ring ring ≡ true) ⊎ (bad_ring ring ≡ false) → (bus_outside ring.n bus ≡ true) ⊎ (bus_outside ring.n bus ≡ false)
          → (too_short room (cut_sheet (ring_cut_sets ring bus)) ≡ true) ⊎ (too_short room (cut_sheet (ring_cut_sets ring bus)) ≡ false)
          → (bad_ring ring ≡ false) × (bus_outside ring.n bus ≡ false) × (too_short room (cut_sheet (ring_cut_sets ring bus)) ≡ false)
      go (inl e) f g = absurd (omega (arith, rw (unloaded_bad ring, e) at k))
      go (inr e) (inl f) g = absurd (omega (arith, rw (unloaded_bad ring, e, f) at k))
      go (inr e) (inr f) (inl g) = absurd (omega (arith, rw (unloaded_bad ring, e, f, g) at k))
      go (inr e) (inr f) (inr g) = (e, f, g)

  bounds : (bus ≤ largest) × (ring.n ≤ largest) × (2 + 3 * length (ring_cut_sets ring bus) ≤ room)
  unfolding too_short
  bounds =
      let t = checked in
      let size = good_size ring t.0 in
      let inside = bus_inside ring.n bus t.1 in (
        omega (arith, inside.1, size.1),
        size.1,
        omega (arith, ltb-false room (length (cut_sheet (ring_cut_sets ring bus))) t.2, cut_sheet_length (ring_cut_sets ring bus)),
      )

-- a load without bookings, made by the code
pub unloaded_reply : (ring : Ring) (load : Load) (bus : ℕ) (buffer : List ℕ) {answer : CutSetsAnswer} {after : List ℕ} → load ≡ no_load
    → answer ≡ (cut_sets_reply (record { ring = ring; load = load }) bus buffer).answer
    → after ≡ (cut_sets_reply (record { ring = ring; load = load }) bus buffer).buffer
    → (answer ≡ (cut_sets_reply (unloaded ring) bus buffer).answer) × (after ≡ (cut_sets_reply (unloaded ring) bus buffer).buffer)
unfolding unloaded
unloaded_reply ring load bus buffer e is left = (rw e at is, rw e at left)

-- a call whose answer and whose buffer after it are the reply
module _ (ring : Ring) (bus : ℕ) (buffer : List ℕ) (room : length buffer ≡ sheet_room) {answer : CutSetsAnswer} {after : List ℕ}
    (is : answer ≡ (cut_sets_reply (unloaded ring) bus buffer).answer) (left : after ≡ (cut_sets_reply (unloaded ring) bus buffer).buffer) where
  abbrev sets : List (List Part)
  sets = ring_cut_sets ring bus

  number : ℕ
  number = cut_sets_refusal (unloaded ring) bus (length buffer)

  refused_answer : number ≢ 0 → answer.outcome ≡ Err (refusal_of number)
  unfolding cut_sets_reply refused_cut_sets number
  refused_answer e = ap (λ (a : CutSetsAnswer). a.outcome) is ∙ rw (ne_eqb (cut_sets_refusal (unloaded ring) bus (length buffer)) 0 e)

  served_answer : number ≡ 0 → (answer.outcome ≡ Ok tt) × (answer.count ≡ length sets) × (after ≡ written (cut_sheet sets) buffer)
  unfolding cut_sets_reply served_cut_sets number unloaded
  served_answer e = (
    ap (λ (a : CutSetsAnswer). a.outcome) is ∙ rw (eq-eqb (cut_sets_refusal (unloaded ring) bus (length buffer)) 0 e),
    ap (λ (a : CutSetsAnswer). a.count) is ∙ rw (eq-eqb (cut_sets_refusal (unloaded ring) bus (length buffer)) 0 e),
    left ∙ rw (eq-eqb (cut_sets_refusal (unloaded ring) bus (length buffer)) 0 e),
  )

  not_refused : answer.outcome ≡ Ok tt → number ≡ 0
  not_refused e = go (dec_eq number 0)
    where
      go : (number ≡ 0) ⊎ (number ≢ 0) → number ≡ 0
      go (inl z) = z
      go (inr z) = served_refused e (refused_answer z)

  -- what the text asks for
  pub served_room : answer.outcome ≡ Ok tt
      → (bus < 100) × (answer.count < 100000) × (2 + 3 * answer.count ≤ length buffer) × (10 + 15 * answer.count ≤ text_room)
  unfolding number ring_cut_sets
  served_room e =
      let z = not_refused e in
      let t = bounds ring bus (length buffer) z in
      let c = (served_answer z).1 in
      let few = cut_sets_few ring.n (health_of ring.health) (index bus) t.1 in
      (omega (arith, t.0), omega (arith, c, few), omega (arith, c, t.2), omega (arith, c, few))

  -- and what it gives
  served_text : answer.outcome ≡ Ok tt → text_of bus answer.count after ≡ bus_cut_text ring bus
  unfolding number bus_cut_text written ring_cut_sets
  served_text e =
      let z = not_refused e in
      let s = served_answer z in
      let small = (bounds ring bus (length buffer) z).1 in
      let all = listed ring.n (health_of ring.health) (index bus) small in
      let w : cut_sets_refusal (unloaded ring) bus sheet_room ≡ 0 = rw room at z in
      rw (s.1, s.2, w)
      (cut_text_lem ring.n small sets (λ S m. let c = (all.exactly S).0 m in (c.few, λ p k. (c.further p k).0))
      (drop (length (cut_sheet sets)) buffer) bus)

  pub text_served : {out out' : List ℕ} {r : ℕ} → answer.outcome ≡ Ok tt → text_room ≤ length out
      → Appended (text_of bus answer.count after) out 0 out' r
      → (out' ≡ written (bus_cut_text ring bus) out) × ((r ≡ length (bus_cut_text ring bus)) × (r ≤ length out'))
  text_served {out} {out'} {r} e large a =
      let t = served_room e in
      let fits : length (text_of bus answer.count after) ≤ length out =
      omega (arith, text_length bus answer.count after t.0 t.1, t.3) in
      let w = appended_all (rw (served_text e) at a) (rw (served_text e) at fits) in
      (w.0, (w.1, omega (arith, a.end, fits, appended_length a)))

  refused_none : (k : Refusal) → answer.outcome ≡ Err k → bus_cut_text ring bus ≡ []
  unfolding number bus_cut_text
  refused_none k e = go (dec_eq number 0)
    where
      go : (number ≡ 0) ⊎ (number ≢ 0) → bus_cut_text ring bus ≡ []
      go (inl z) = served_refused (served_answer z).0 e
      go (inr z) = let w : cut_sets_refusal (unloaded ring) bus sheet_room ≢ 0 = rw room at z in rw (ne_eqb (cut_sets_refusal (unloaded ring) bus sheet_room) 0 w)

  pub text_refused : (k : Refusal) {out : List ℕ} → answer.outcome ≡ Err k
      → (out ≡ written (bus_cut_text ring bus) out) × ((0 ≡ length (bus_cut_text ring bus)) × (0 ≤ length out))
  unfolding written
  text_refused k e = rw (refused_none k e) (refl, (refl, omega arith))
