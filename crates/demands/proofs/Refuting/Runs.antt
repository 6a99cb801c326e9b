-- A run of any controller that can be computed: each phase's operations in the sheet's order, or the other way round.
use Rattle.std.specs.Prelude.{◌≡◌, Bool, true, false, cond, ◌⊎◌, List, ◌++◌, reverse, ℕ, take, drop}
use Rattle.std.proofs.Math.Path.{refl}
use Rattle.std.proofs.Common.{inl, inr, take-append-drop}
use mathlib.Core.List.Permᴰ
use Rattle.std.proofs.Math.Option.{Option, none, some}
use Rattle.model.specs.declared.BookingAnswer.{BookingAnswer}
use Rattle.model.specs.States.{StateReply}
use Rattle.model.specs.Laws.Tests.{dec}
use Rattle.model.specs.Laws.Lists.{none_some}
use Rattle.demands.specs.Statements.Demand3.{
  Controller,
  PlantState,
  fresh_plant,
  after_words,
  Operation,
  perform_all,
  Phases,
  decode,
  Call,
  BookingCall,
  Calls,
  nothing,
  ◌then◌,
  ◌also◌,
  reply_to,
  answer_to,
  words,
  is_served,
  is_booked,
  History,
  no_history,
  noted,
  World,
  AnyOrder,
  Performed,
  performed,
  switched,
  unswitched,
  Ended,
  started,
  served,
  refused,
  booked,
  not_booked,
}

-- the operations of a phase in the order performed: the sheet's, or the other way round
unfoldable pub ordered : Bool → List Operation → List Operation
ordered backward os = cond backward (reverse os) os

pub ordered_perm : (backward : Bool) (os : List Operation) → AnyOrder (ordered backward os) os
unfolding ordered
ordered_perm true os = Permᴰ.trans (Permᴰ.reverse_aux os _) (Permᴰ.append-nil os)
ordered_perm false os = Permᴰ.refl os

-- .. and cut at an operation
pub cut_perm : (backward : Bool) (k : ℕ) (os : List Operation) → AnyOrder (take k (ordered backward os) ++ drop k (ordered backward os)) os
cut_perm backward k os = rw (take-append-drop k (ordered backward os)) (ordered_perm backward os)

-- both phases performed
unfoldable pub both_phases : Bool → Phases → PlantState → PlantState
both_phases backward ph P = perform_all (ordered backward ph.second) (perform_all (ordered backward ph.first) P)

pub both_performed : (backward : Bool) (ph : Phases) (P : PlantState) → Performed ph P (both_phases backward ph P)
unfolding both_phases
both_performed backward ph P = performed (ordered_perm backward ph.first) (ordered_perm backward ph.second)

-- the world after a served call
unfoldable pub world_after : Bool → Option Phases → PlantState → StateReply → History → Option World
world_after backward none P reply h = none
world_after backward (some ph) P reply h = some (switched (both_phases backward ph P) reply.answer h)

-- .. after any call with orders
unfoldable pub after_call : Controller → Bool → ℕ → Call → Option World → Option World
after_call c backward n call none = none
after_call c backward n call (some W) =
    let reply = reply_to c W.state call in
    cond (is_served reply) (world_after backward (decode n reply.buffer) (after_words (words call) W.plant) reply W.history)
    (some (unswitched W reply.answer.state W.history))

-- .. after a booking or a cancellation
unfoldable pub after_booking : Controller → BookingCall → Option World → Option World
after_booking c call none = none
after_booking c call (some W) =
    let answer = answer_to c W.state call in
    some (unswitched W answer.state (cond (is_booked answer) (noted call W.history) W.history))

-- .. after a start and the calls of a list
unfoldable pub run : Controller → Bool → ℕ → List ℕ → Calls → Option World
run c backward n buffer nothing =
    let reply = c.start n buffer in
    cond (is_served reply) (world_after backward (decode n reply.buffer) fresh_plant reply no_history) none
run c backward n buffer (calls then call) = after_call c backward n call (run c backward n buffer calls)
run c backward n buffer (calls also call) = after_booking c call (run c backward n buffer calls)

module _ (c : Controller) (backward : Bool) (n : ℕ) (buffer : List ℕ) where
  -- a world after a served call has its phases
  world_after_lem : (o : Option Phases) (P : PlantState) (reply : StateReply) (h : History) (W : World) → world_after backward o P reply h ≡ some W
      → (ph : Phases) × (o ≡ some ph) × (W ≡ switched (both_phases backward ph P) reply.answer h)
  unfolding world_after
  world_after_lem none P reply h W e = none_some refl e
  world_after_lem (some ph) P reply h W e = (ph, refl, cc)

  -- what a run leads to has ended
  pub run_ended : (calls : Calls) (W : World) → run c backward n buffer calls ≡ some W → Ended c n buffer calls W
  unfolding run after_call after_booking
  run_ended nothing W e = go (dec (is_served reply))
    where
      reply : StateReply
      reply = c.start n buffer

      go : (is_served reply ≡ true) ⊎ (is_served reply ≡ false) → Ended c n buffer nothing W
      go (inl s) =
          let t = world_after_lem (decode n reply.buffer) fresh_plant reply no_history W (rw s at e) in
          rw t.2 (started s t.1 (both_performed backward t.0 fresh_plant))
      go (inr s) = none_some refl (rw s at e)
  run_ended (calls then call) W e = go (run c backward n buffer calls) refl (run_ended calls)
    where
      go : (o : Option World) → run c backward n buffer calls ≡ o
          → ((U : World) → run c backward n buffer calls ≡ some U → Ended c n buffer calls U) → Ended c n buffer (calls then call) W
      go none q ih = none_some (after_none q) e
        where
          after_none : run c backward n buffer calls ≡ none → after_call c backward n call (run c backward n buffer calls) ≡ none
          after_none q = rw q
      go (some U) q ih = by (dec (is_served reply))
        where
          reply : StateReply
          reply = reply_to c U.state call

          P : PlantState
          P = after_words (words call) U.plant

          now : cond (is_served reply) (world_after backward (decode n reply.buffer) P reply U.history)
              (some (unswitched U reply.answer.state U.history)) ≡ some W
          now = rw q at e

          by : (is_served reply ≡ true) ⊎ (is_served reply ≡ false) → Ended c n buffer (calls then call) W
          by (inl s) =
              let t = world_after_lem (decode n reply.buffer) P reply U.history W (rw s at now) in
              rw t.2 (served call (ih U q) s t.1 (both_performed backward t.0 P))
          by (inr s) =
              let u : some (unswitched U reply.answer.state U.history) ≡ some W = rw s at now in
              let z : W ≡ unswitched U reply.answer.state U.history = cc in
              rw z (refused call (ih U q) s)
  run_ended (calls also call) W e = go (run c backward n buffer calls) refl (run_ended calls)
    where
      go : (o : Option World) → run c backward n buffer calls ≡ o
          → ((U : World) → run c backward n buffer calls ≡ some U → Ended c n buffer calls U) → Ended c n buffer (calls also call) W
      go none q ih = none_some (after_none q) e
        where
          after_none : run c backward n buffer calls ≡ none → after_booking c call (run c backward n buffer calls) ≡ none
          after_none q = rw q
      go (some U) q ih = by (dec (is_booked answer))
        where
          answer : BookingAnswer
          answer = answer_to c U.state call

          now : some (unswitched U answer.state (cond (is_booked answer) (noted call U.history) U.history)) ≡ some W
          now = rw q at e

          by : (is_booked answer ≡ true) ⊎ (is_booked answer ≡ false) → Ended c n buffer (calls also call) W
          by (inl s) =
              let u : some (unswitched U answer.state (noted call U.history)) ≡ some W = rw s at now in
              let z : W ≡ unswitched U answer.state (noted call U.history) = cc in
              rw z (booked call (ih U q) s)
          by (inr s) =
              let u : some (unswitched U answer.state U.history) ≡ some W = rw s at now in
              let z : W ≡ unswitched U answer.state U.history = cc in
              rw z (not_booked call (ih U q) s)

-- a list whose orders have ended had a served start
pub ended_begun : {c : Controller} {n : ℕ} {buffer : List ℕ} {calls : Calls} {W : World} → Ended c n buffer calls W
    → is_served (c.start n buffer) ≡ true
ended_begun (started s d p) = s
ended_begun (served call h s d p) = ended_begun h
ended_begun (refused call h s) = ended_begun h
ended_begun (booked call h s) = ended_begun h
ended_begun (not_booked call h s) = ended_begun h
