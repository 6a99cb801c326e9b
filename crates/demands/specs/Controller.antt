-- The controller whose answers are the definitions that the contracts of start, step, scan, book and cancel cite.
use Rattle.model.specs.States.{state_start, state_step, state_scan, book_answer, cancel_answer}
use Rattle.demands.specs.Statements.Demand3.{Controller}

-- the controller of the definitions
abbrev pub controller : Controller
controller = record { start = state_start; step = state_step; scan = state_scan; book = book_answer; cancel = cancel_answer }
