-- What document 02, Note 7, says of locks: "A generator under maintenance must never start."; "Neither lock nor health alters the other".
-- Nothing is proved here.
use Rattle.std.specs.Prelude.{◌≡◌, Bool, true, false, List, ◌++◌, ℕ, ◌<◌}
use Rattle.std.proofs.Math.Option.{some}
use Rattle.model.specs.declared.Part.{Part}
use Rattle.model.specs.declared.Word.{Word}
use Rattle.model.specs.declared.Word.TheVariants.{Fit, StuckOff, StuckOpen, StuckClosed, Lock, Unlock}
use Rattle.model.specs.declared.Report.{Report}
use Rattle.model.specs.Lists.{◌∈◌}
use Rattle.model.specs.Plant.{generator, running}
use Rattle.demands.specs.Statements.Demand3.{
  Controller,
  PlantState,
  after_words,
  operation,
  Phases,
  decode,
  Call,
  Calls,
  ◌then◌,
  Begins,
  reply_to,
  words,
  is_served,
  World,
  Ended,
  Interrupted,
}

-- ---- a locked generator

-- it does not run
abbrev pub NoneRuns : PlantState → Type 0
NoneRuns P = (g : ℕ) → P.health.locked g ≡ true → running P.health P.last g ≡ false

-- .. and not by its lock alone: no wave orders it on
abbrev pub NoneOrderedOn : PlantState → Phases → Type 0
NoneOrderedOn P ph = (g : ℕ) → P.health.locked g ≡ true → operation true (generator g) ∈ ph.first ++ ph.second → ⊥

-- it stands ordered off
abbrev pub NoneStandsOn : ℕ → PlantState → Type 0
NoneStandsOn n P = (g : ℕ) → g < n → P.health.locked g ≡ true → P.last (generator g) ≡ false

-- "A generator under maintenance must never start.": of a list of calls
pub record NeverStarts (c : Controller) (n : ℕ) (buffer : List ℕ) (calls : Calls) : Type 0 where
  -- wherever anyone halts the orders, at an excepted moment too
  pub not_running : {P : PlantState} {e : Bool} → Interrupted c n buffer calls P e → NoneRuns P
  -- the orders of a call, for the plant after its words
  pub not_ordered : {before : Calls} {W : World} (call : Call) {ph : Phases} → Begins (before then call) calls → Ended c n buffer before W
      → is_served (reply_to c W.state call) ≡ true → decode n (reply_to c W.state call).buffer ≡ some ph
      → NoneOrderedOn (after_words (words call) W.plant) ph
  -- when the orders have ended
  pub ordered_off : {before : Calls} {W : World} → Begins before calls → Ended c n buffer before W → NoneStandsOn n W.plant

-- ---- words

-- words 4 and 5
pub data AboutLock : Word → Type 0 where
  lock : AboutLock Lock
  unlock : AboutLock Unlock

-- words 0 to 3
pub data AboutHealth : Word → Type 0 where
  fit : AboutHealth Fit
  stuck_off : AboutHealth StuckOff
  stuck_open : AboutHealth StuckOpen
  stuck_closed : AboutHealth StuckClosed

-- all words for a part that are among some reports are of a kind
abbrev pub Only : (Word → Type 0) → Part → List Report → Type 0
Only kind p rs = (r : Report) → r ∈ rs → p ≡ r.part → kind r.word

-- "Neither lock nor health alters the other", of a plant and any words
pub record Apart (P : PlantState) : Type 0 where
  -- "a replaced set that is locked remains locked": whatever is said of its health
  pub lock_remains : (rs : List Report) (g : ℕ) → Only AboutHealth (generator g) rs → (after_words rs P).health.locked g ≡ P.health.locked g
  -- a locked set that fails and is unlocked stays off: whatever is said of its lock
  pub health_remains : (rs : List Report) (p : Part) → Only AboutLock p rs → (after_words rs P).health.health p ≡ P.health.health p
