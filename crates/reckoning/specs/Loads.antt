-- The answer of an inner call with the load beside the ring, and a load on a ring whose choices are planned.
use Rattle.std.specs.Prelude.{◌≡◌, List, Ok, Err}
use Rattle.model.specs.declared.Load.{Load}
use Rattle.model.specs.declared.Ring.{Ring}
use Rattle.model.specs.declared.BusChoice.{BusChoice}
use Rattle.model.specs.declared.RingAnswer.{RingAnswer}
use Rattle.model.specs.declared.StateAnswer.{StateAnswer}
use Rattle.model.specs.declared.Refusal.{Refusal}
use Rattle.model.specs.Values.{Outcome}
use Rattle.model.specs.Reports.{called_for}
use Rattle.model.specs.Bookings.{with_figures}
use Rattle.model.specs.States.{reckoned}

-- the load of an answer of outcome o: its figures made anew where it is served, the load as it was where it is refused
abbrev pub load_by : Outcome → RingAnswer → Load → Load
load_by (Ok _) a load = with_figures a.choices load
load_by (Err r) a load = load

-- an inner answer with the load beside the ring
unfoldable pub with_load : RingAnswer → Load → StateAnswer
with_load a load = record { outcome = a.outcome; state = record { ring = a.ring; load = load_by a.outcome a load }; choices = a.choices }

-- next is the load that the code gives
module _ (a : RingAnswer) (load next : Load) where
  pub served_load : a.outcome ≡ Ok tt → next ≡ with_figures a.choices load
      → record { outcome = Ok tt; state = record { ring = a.ring; load = next }; choices = a.choices } ≡ with_load a load
  unfolding with_load
  served_load e is = rw (e, is)

  pub refused_load : (k : Refusal) → a.outcome ≡ Err k → next ≡ load
      → record { outcome = Err k; state = record { ring = a.ring; load = next }; choices = a.choices } ≡ with_load a load
  unfolding with_load
  refused_load k e is = rw (e, is)

pub load_reckoned : (ring : Ring) (load next : Load) (cs : List BusChoice) → cs ≡ called_for ring → next ≡ with_figures cs load
    → record { ring = ring; load = next } ≡ reckoned ring load
unfolding reckoned
load_reckoned ring load next cs e is = rw (is, e)
