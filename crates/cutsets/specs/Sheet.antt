-- The sheet of the sets that were found, and the whole answer.
use Rattle.std.specs.Prelude.{◌≡◌, refl, Bool, true, false, cond, ℕ, ◌+◌, ◌-◌, ◌*◌, ◌/◌, ◌%◌, ◌≤◌, ◌<◌, eqb, length, take, Ok}
use Rattle.std.specs.Int.{w16, to_le_bytes}
use Rattle.std.proofs.Common.{◌∙◌, arith, lt-ltb, le-ltb}
use Rattle.std.proofs.Math.Path.{ap}
use mathlib.Core.List.{List, ◌∷◌, flat_map}
use Rattle.model.specs.declared.Part.{Part}
use Rattle.model.specs.declared.Ring.{Ring}
use Rattle.model.specs.declared.RingState.{RingState}
use Rattle.model.specs.declared.CutSetsAnswer.{CutSetsAnswer}
use Rattle.model.specs.Values.{index, refusal_of, outcome_number}
use Rattle.model.specs.Sheet.{written}
use Rattle.model.specs.Reports.{health_of}
use Rattle.model.specs.Refusals.{first_met, too_short, bus_outside}
use Rattle.model.specs.States.{bad_record}
use Rattle.model.specs.CutSets.{
  cut_sets,
  set_bytes,
  cut_sheet,
  ring_cut_sets,
  cut_sets_refusal,
  CutSetsReply,
  refused_cut_sets,
  served_cut_sets,
  cut_sets_reply,
}
use Rattle.model.specs.Laws.Parts.{index_suc}
use Rattle.model.specs.Laws.CutSets.{bytes_count, cut_sheet_length}
use Rattle.model.specs.Laws.Appended.{Appended, appended_more, appended_written, appended_front}

-- a count, low byte first, and bytes behind it
abbrev pub headed : ℕ → List ℕ → List ℕ
headed c bytes = (c % 256) ∷ (c / 256) ∷ bytes

-- .. as they are appended, the count first
pub sheet_written : (c : ℕ) (number bytes : List ℕ) {l l' l'' : List ℕ} {i j : ℕ} → c < 65536 → number ≡ to_le_bytes w16 c
    → Appended number l 0 l' i → Appended bytes l' i l'' j → 2 + length bytes ≤ length l → l'' ≡ written (headed c bytes) l
sheet_written c number bytes fits e a b h =
    let z : c / 256 % 256 ≡ c / 256 = omega arith in
    rw (← z) (appended_written (appended_more (rw e at a) b) (omega arith))

-- the sheet in the buffer, or refusal 8
unfoldable pub sheet_reply : List (List Part) → List ℕ → CutSetsReply
sheet_reply sets buffer = cond (too_short (length buffer) (cut_sheet sets)) (refused_cut_sets 8 buffer) (served_cut_sets sets buffer)

-- what the search found, c sets, counted and laid out
module _ (sets : List (List Part)) (l l' : List ℕ) (c : ℕ) (a : Appended (flat_map set_bytes sets) l 0 l' (3 * c)) where
  pub sets_count : c ≡ length sets
  sets_count = omega (arith, a.end, bytes_count sets)

  module _ (room : 3 * c ≤ length l) where
    sheet_laid : headed c (take (3 * c) l') ≡ cut_sheet sets
    unfolding cut_sheet
    sheet_laid = rw (appended_front a (omega (arith, bytes_count sets, sets_count)), ← sets_count)

    -- r and the bytes after are the reply
    abbrev Replied : List ℕ → CutSetsAnswer → List ℕ → Type 0
    Replied buffer r after = (r ≡ (sheet_reply sets buffer).answer) × (after ≡ (sheet_reply sets buffer).buffer)

    module _ (buffer : List ℕ) where
      pub sheet_short : {r : CutSetsAnswer} → length buffer < 2 + 3 * c → r ≡ (refused_cut_sets 8 buffer).answer → Replied buffer r buffer
      unfolding sheet_reply too_short refused_cut_sets
      sheet_short h e = rw (lt-ltb (length buffer) (length (cut_sheet sets)) (omega (arith, cut_sheet_length sets, sets_count))) (e, refl)

      pub sheet_served : {after : List ℕ} → 2 + 3 * c ≤ length buffer → after ≡ written (headed c (take (3 * c) l')) buffer
          → Replied buffer (record { outcome = Ok tt; count = c }) after
      unfolding sheet_reply served_cut_sets too_short
      sheet_served h e =
          rw (le-ltb (length buffer) (length (cut_sheet sets)) (omega (arith, cut_sheet_length sets, sets_count)))
          (ap (λ n. record { outcome = Ok tt; count = n }) sets_count, e ∙ ap (λ (bytes : List ℕ). written bytes buffer) sheet_laid)

-- ---- the answer

-- a call's answer, the bytes that it leaves, and the number of its outcome
abbrev pub Gives : RingState → ℕ → List ℕ → CutSetsAnswer → List ℕ → Type 0
Gives state bus buffer r after =
    (r ≡ (cut_sets_reply state bus buffer).answer)
    × ((after ≡ (cut_sets_reply state bus buffer).buffer) × (outcome_number r.outcome ≡ cut_sets_refusal state bus (length buffer)))

module _ (state : RingState) (bus : ℕ) (buffer : List ℕ) where
  abbrev ring : Ring
  ring = state.ring

  -- 9 comes first
  pub bad : bad_record state ≡ true → Gives state bus buffer (refused_cut_sets 9 buffer).answer buffer
  unfolding cut_sets_reply cut_sets_refusal first_met refused_cut_sets refusal_of
  bad e = rw e (refl, (refl, refl))

  -- then 10
  pub outside : bad_record state ≡ false → bus_outside ring.n bus ≡ true → Gives state bus buffer (refused_cut_sets 10 buffer).answer buffer
  unfolding cut_sets_reply cut_sets_refusal first_met refused_cut_sets refusal_of
  outside e f = rw (e, f) (refl, (refl, refl))

  -- then 8
  pub answered : (b : ℕ) (r : CutSetsAnswer) (after : List ℕ) → bad_record state ≡ false → bus_outside ring.n bus ≡ false → b ≡ index bus
      → (r ≡ (sheet_reply (cut_sets ring.n (health_of ring.health) b) buffer).answer)
      × (after ≡ (sheet_reply (cut_sets ring.n (health_of ring.health) b) buffer).buffer)
      → Gives state bus buffer r after
  unfolding cut_sets_reply cut_sets_refusal first_met refused_cut_sets refusal_of served_cut_sets sheet_reply ring_cut_sets
  answered b r after e f z w = rw (e, f) (go (too_short (length buffer) (cut_sheet sets)) (rw z at w))
    where
      sets : List (List Part)
      sets = cut_sets ring.n (health_of ring.health) (index bus)

      -- by the test of 8, and by the number that it gives
      went : Bool → CutSetsReply
      went t = cond t (refused_cut_sets 8 buffer) (served_cut_sets sets buffer)

      reply : ℕ → CutSetsReply
      reply k = cond (eqb k 0) (served_cut_sets sets buffer) (refused_cut_sets k buffer)

      go : (t : Bool) → (r ≡ (went t).answer) × (after ≡ (went t).buffer)
          → (r ≡ (reply (cond t 8 0)).answer) × ((after ≡ (reply (cond t 8 0)).buffer) × (outcome_number r.outcome ≡ cond t 8 0))
      go true w = (w.0, (w.1, ap (λ (x : CutSetsAnswer). outcome_number x.outcome) w.0))
      go false w = (w.0, (w.1, ap (λ (x : CutSetsAnswer). outcome_number x.outcome) w.0))

pub bus_index : (bus : ℕ) → 1 ≤ bus → bus - 1 ≡ index bus
bus_index bus l = omega (arith, index_suc bus l)
