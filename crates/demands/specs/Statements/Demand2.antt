-- The user's second demand as a statement about a controller: "For every list of reports each bus, in number order, gets the
-- first way of the published Triple Modular Generator priorities that the known faults and the earlier buses' ways permit, and
-- the orders in both waves are those that bring this about, none missing or extra."
use Rattle.std.specs.Prelude.{◌≡◌, true, false, ◌↔◌, List, [], ◌∷◌, ◌++◌, map, ℕ, zero, suc, ◌<◌, length}
use Rattle.std.proofs.Math.Option.{Option, none, some}
use Rattle.model.specs.declared.Part.{Part}
use Rattle.model.specs.Values.{part_code, choice_at}
use Rattle.model.specs.Plant.{PartHealth, InRing}
use Rattle.model.specs.Priority.{Path, path_parts, paths}
use Rattle.model.specs.Choosing.{permitted, add_path, choice_of}
use Rattle.model.specs.Sheet.{closing}
use Rattle.model.specs.Reports.{blank_ring}
use Rattle.model.specs.States.{StateReply, unloaded}
use Rattle.model.specs.Lists.{◌∈◌, RisingBy}
use Rattle.demands.specs.Statements.Demand3.{
  Controller,
  PlantState,
  fresh_plant,
  after_words,
  Operation,
  operation,
  Phases,
  decode,
  Calls,
  Call,
  Ended,
  World,
  Performed,
  reply_to,
  words,
  lent,
  is_served,
  StartMeets,
  Meets,
  Answered,
}

-- the first permitted path of a list, after the paths ws; none where none is permitted
pub data FirstPermitted (n : ℕ) (H : PartHealth) (ws : List Path) (tried : List Path) : Option Path → Type 0 where
  found : (front : List Path) (w : Path) (back : List Path) → tried ≡ front ++ (w ∷ back) → permitted n H ws w ≡ true
      → ((v : Path) → v ∈ front → permitted n H ws v ≡ false) → FirstPermitted n H ws tried (some w)
  not_found : ((v : Path) → v ∈ tried → permitted n H ws v ≡ false) → FirstPermitted n H ws tried none

-- the paths of the buses before bus b
unfoldable pub earlier : (ℕ → Option Path) → ℕ → List Path
earlier f zero = []
earlier f (suc k) = add_path (f k) (earlier f k)

-- part p is on a path of some bus of the ring
abbrev pub Needed : ℕ → (ℕ → Option Path) → Part → Type 0
Needed n f p = (w : Path) × (w ∈ earlier f n) × (p ∈ path_parts n w)

-- an operation that is to open: off or open, of a part of the ring that was on or closed and is on no path
abbrev pub ToOpen : ℕ → PlantState → (ℕ → Option Path) → Operation → Type 0
ToOpen n P f o = (o.command ≡ false) × InRing n o.part × (P.last o.part ≡ true) × (Needed n f o.part → ⊥)

-- .. and one that is to close: on or closed, of a part of the ring that was not and is on some path
abbrev pub ToClose : ℕ → PlantState → (ℕ → Option Path) → Operation → Type 0
ToClose n P f o = (o.command ≡ true) × InRing n o.part × (P.last o.part ≡ false) × Needed n f o.part

-- what a served call's answer is, for the plant just before its operations
pub record Serves (n : ℕ) (P : PlantState) (reply : StateReply) : Type 0 where
  -- each bus's path, and its name in the answer
  pub path : ℕ → Option Path
  pub named : (b : ℕ) → b < n → choice_at reply.answer.choices b ≡ choice_of n (path b)
  -- "each bus, in number order, gets the first way .. that the known faults and the earlier buses' ways permit"
  pub first_permitted : (b : ℕ) → b < n → FirstPermitted n P.health (earlier path b) (paths n b) (path b)
  -- "the orders in both waves are those that bring this about, none missing or extra", the first wave in rising code
  pub phases : Phases
  pub decodes : decode n reply.buffer ≡ some phases
  pub opens : (o : Operation) → o ∈ phases.first → ToOpen n P path o
  pub all_open : (o : Operation) → ToOpen n P path o → o ∈ phases.first
  pub closes : (o : Operation) → o ∈ phases.second → ToClose n P path o
  pub all_close : (o : Operation) → ToClose n P path o → o ∈ phases.second
  pub opens_rising : RisingBy (λ (o : Operation). part_code o.part) phases.first
  -- "The second wave goes through buses in number order and each chosen way in that sequence, a part only where it first comes." (document
  -- 02, Note 4): it is that list for these paths
  pub second_is : phases.second ≡ map (operation true) (closing n P.last path)
  pub brings_about : (Q : PlantState) → Performed phases P Q → (p : Part) → InRing n p → Q.last p ≡ true ↔ Needed n path p

-- "For every list of reports": a statement about a controller
pub record Demand2 (c : Controller) : Type 0 where
  -- a start is served or refused as it must be, and a served one gives what it must
  pub start_answered : (n : ℕ) (buffer : List ℕ) → Answered (StartMeets n (length buffer)) (unloaded (blank_ring 0)) buffer (c.start n buffer)
  pub start_serves : (n : ℕ) (buffer : List ℕ) → is_served (c.start n buffer) ≡ true → Serves n fresh_plant (c.start n buffer)
  -- and so is every call of every list
  pub call_answered : (n : ℕ) (buffer : List ℕ) → is_served (c.start n buffer) ≡ true → {before : Calls} {W : World} (call : Call)
      → Ended c n buffer before W → Answered (Meets n W.plant call) W.state (lent call) (reply_to c W.state call)
  pub call_serves : (n : ℕ) (buffer : List ℕ) → is_served (c.start n buffer) ≡ true → {before : Calls} {W : World} (call : Call)
      → Ended c n buffer before W → is_served (reply_to c W.state call) ≡ true
      → Serves n (after_words (words call) W.plant) (reply_to c W.state call)
