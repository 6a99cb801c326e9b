-- What document 02, Note 2, sets beside a scan: the single steps of its reports.
use Rattle.std.specs.Prelude.{◌≡◌, true, List, [], ◌∷◌, ℕ}
use Rattle.model.specs.declared.Report.{Report}
use Rattle.model.specs.declared.RingState.{RingState}
use Rattle.model.specs.declared.BusChoice.{BusChoice}
use Rattle.model.specs.States.{state_step}
use Rattle.demands.specs.Statements.Demand3.{is_served}

-- "single steps": one for each of some reports, each served in a buffer of its own, from a record and its choices to the last ones
pub data Singly : RingState → List BusChoice → List Report → RingState → List BusChoice → Type 0 where
  no_step : {state : RingState} {shown : List BusChoice} → Singly state shown [] state shown
  first_step : {state last : RingState} {shown last_shown : List BusChoice} {rs : List Report} (r : Report) (buffer : List ℕ)
      → is_served (state_step state r buffer) ≡ true
      → Singly (state_step state r buffer).answer.state (state_step state r buffer).answer.choices rs last last_shown
      → Singly state shown (r ∷ rs) last last_shown
