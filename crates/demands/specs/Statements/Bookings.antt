-- What document 02, Note 5, says of choices: "Choices don't depend on load."; bookings and cancellations "do nothing to the plant or to what is
-- shown".
use Rattle.std.specs.Prelude.{◌≡◌}
use Rattle.model.specs.States.{StateReply}
use Rattle.demands.specs.Statements.Demand3.{Calls, nothing, ◌then◌, ◌also◌, World}

-- two replies that switch alike: one outcome, one ring, the same choices, and the same bytes in the buffer
pub record SwitchAlike (a b : StateReply) : Type 0 where
  pub outcome : a.answer.outcome ≡ b.answer.outcome
  pub ring : a.answer.state.ring ≡ b.answer.state.ring
  pub choices : a.answer.choices ≡ b.answer.choices
  pub buffer : a.buffer ≡ b.buffer

-- a list of calls without its bookings and cancellations
unfoldable pub unbooked : Calls → Calls
unbooked nothing = nothing
unbooked (calls then call) = unbooked calls then call
unbooked (calls also call) = unbooked calls

-- two worlds with one plant, in which the same is shown
pub record SeenAlike (U W : World) : Type 0 where
  pub plant : U.plant ≡ W.plant
  pub shown : U.shown ≡ W.shown
