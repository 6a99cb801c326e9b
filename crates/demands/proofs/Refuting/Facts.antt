-- Facts of the tables in demand 3's statement: the words of a call, what is excepted, what the decoder takes, and whose watts a booking's are.
use Rattle.std.specs.Prelude.{◌≡◌, refl, true, false, ◌||◌, cond, ◌⊎◌, [], ◌∷◌, eqb, length}
use Rattle.std.proofs.Common.{ap, inl, inr, arith}
use mathlib.Core.List.Memᴰ
use Rattle.std.proofs.Math.Option.{none, some}
use Rattle.model.specs.declared.Part.{Part}
use Rattle.model.specs.declared.Part.TheVariants.{Generator, GeneratorBreaker, BusBreaker}
use Rattle.model.specs.declared.Word.{Word}
use Rattle.model.specs.declared.Word.TheVariants.{Fit, StuckOff, StuckOpen, StuckClosed, Lock, Unlock}
use Rattle.model.specs.declared.Report.{Report}
use Rattle.model.specs.declared.Feed.TheVariants.{Dark, Fed, Clash}
use Rattle.model.specs.Lists.{below, keep, first, any_of, all_of, ◌∈◌}
use Rattle.model.specs.Values.{part_code, same_part, feed_sources}
use Rattle.model.specs.Plant.{parts, up, arc, connected, feeds, feeders, feed_by, bus_feed}
use Rattle.model.specs.Reports.{part_named}
use Rattle.model.specs.Laws.Tests.{contra}
use Rattle.demands.specs.Statements.Demand3.{
  PlantState,
  fresh_plant,
  after_word,
  after_words,
  Operation,
  operation,
  perform_all,
  command_named,
  with_operation,
  operations,
  phases_at,
  decode,
  Call,
  BookingCall,
  Calls,
  ◌then◌,
  ◌also◌,
  Begins,
  whole,
  longer,
  longer_booking,
  excepted,
  fed_by,
  fed_by_none,
}
use Rattle.demands.specs.Statements.Returns.{none_returns, returns, unlocks, ByOperationAlone}
use Rattle.demands.specs.Statements.Locks.{NoneOrderedOn, NoneStandsOn}

-- a report of a part and a word
abbrev pub report : Part → Word → Report
report p w = record { part = p; word = w }

-- BB1 stuck closed, G1 stuck off, BB2 stuck open and fit again
abbrev pub breaker1_closed : Report
breaker1_closed = report (BusBreaker 1) StuckClosed

abbrev pub generator1_off : Report
generator1_off = report (Generator 1) StuckOff

abbrev pub breaker2_open : Report
breaker2_open = report (BusBreaker 2) StuckOpen

abbrev pub breaker2_fit : Report
breaker2_fit = report (BusBreaker 2) Fit

-- "the plant takes its reports' words in order": the last word for BB2 decides, and BB1 keeps its own
in_order : ((after_words (breaker2_open ∷ breaker1_closed ∷ breaker2_fit ∷ []) fresh_plant).health.health (BusBreaker 2) ≡ 0)
    × ((after_words (breaker2_fit ∷ breaker1_closed ∷ breaker2_open ∷ []) fresh_plant).health.health (BusBreaker 2) ≡ 2)
    × ((after_words (breaker2_fit ∷ breaker1_closed ∷ breaker2_open ∷ []) fresh_plant).health.health (BusBreaker 1) ≡ 3)
unfolding after_words after_word same_part
in_order = (refl, refl, refl)

-- "Word 4 locks it and word 5 unlocks it"; "Neither lock nor health alters the other": G1 locked, unlocked and locked again; replaced while
-- locked; failed while locked and unlocked; G2 is not locked with it; a breaker has no lock
locked_in_order :
    ((after_words (report (Generator 1) Lock ∷ []) fresh_plant).health.locked 0 ≡ true)
    × ((after_words (report (Generator 1) Lock ∷ report (Generator 1) Unlock ∷ []) fresh_plant).health.locked 0 ≡ false)
    × ((after_words (report (Generator 1) Unlock ∷ report (Generator 1) Lock ∷ []) fresh_plant).health.locked 0 ≡ true)
    × ((after_words (report (Generator 1) Lock ∷ report (Generator 1) Fit ∷ []) fresh_plant).health.locked 0 ≡ true)
    × ((after_words (report (Generator 1) Lock ∷ generator1_off ∷ report (Generator 1) Unlock ∷ []) fresh_plant).health.locked 0 ≡ false)
    × ((after_words (report (Generator 1) Lock ∷ generator1_off ∷ report (Generator 1) Unlock ∷ []) fresh_plant).health.health (Generator 1) ≡ 1)
    × ((after_words (report (Generator 1) Lock ∷ []) fresh_plant).health.health (Generator 1) ≡ 0)
    × ((after_words (report (Generator 1) Lock ∷ []) fresh_plant).health.locked 1 ≡ false)
    × ((after_words (report (BusBreaker 1) Lock ∷ []) fresh_plant).health.locked 0 ≡ false)
unfolding after_words after_word same_part
locked_in_order = (refl, refl, refl, refl, refl, refl, refl, refl, refl)

-- an order for BB1 to close
abbrev closing1 : Operation
closing1 = record { part = BusBreaker 1; command = true }

-- "The time excepted is that of a served word 3 ..; an empty first wave excepts nothing."; "a word 3 among them", first or last
excepts : (excepted (breaker1_closed ∷ []) (closing1 ∷ []) ≡ true)
    × (excepted (breaker2_fit ∷ []) (closing1 ∷ []) ≡ false)
    × (excepted (generator1_off ∷ []) (closing1 ∷ []) ≡ false)
    × (excepted (breaker2_open ∷ []) (closing1 ∷ []) ≡ false)
    × (excepted (report (Generator 1) Lock ∷ report (Generator 1) Unlock ∷ []) (closing1 ∷ []) ≡ false)
    × (excepted (breaker1_closed ∷ []) [] ≡ false)
    × (excepted [] (closing1 ∷ []) ≡ false)
    × (excepted (breaker1_closed ∷ breaker2_open ∷ []) (closing1 ∷ []) ≡ true)
    × (excepted (breaker2_open ∷ breaker1_closed ∷ []) (closing1 ∷ []) ≡ true)
    × (excepted (breaker2_open ∷ breaker2_fit ∷ []) (closing1 ∷ []) ≡ false)
    × (excepted (breaker1_closed ∷ breaker2_open ∷ []) [] ≡ false)
unfolding excepted any_of
excepts = (refl, refl, refl, refl, refl, refl, refl, refl, refl, refl, refl)

-- the decoder takes a sheet with bytes behind it, and refuses a byte that is no order, an unknown code and a short buffer
decodes :
    (decode 3 (1 ∷ 1 ∷ 65 ∷ 64 ∷ 0 ∷ 1 ∷ 9 ∷ []) ≡ some (record { first = operation false (BusBreaker 2) ∷ []; second = closing1 ∷ [] }))
    × (decode 3 (0 ∷ 1 ∷ 64 ∷ 2 ∷ []) ≡ none)
    × (decode 3 (0 ∷ 1 ∷ 67 ∷ 1 ∷ []) ≡ none)
    × (decode 3 (0 ∷ 2 ∷ 64 ∷ 67 ∷ 1 ∷ 1 ∷ []) ≡ none)
    × (decode 3 (0 ∷ 1 ∷ 64 ∷ []) ≡ none)
    × (decode 3 (0 ∷ 1 ∷ []) ≡ none)
    × (decode 3 [] ≡ none)
    × (operations 3 (64 ∷ []) [] ≡ none)
unfolding decode phases_at operations with_operation command_named part_named part_code parts below first
decodes = (refl, refl, refl, refl, refl, refl, refl, refl)

-- every list begins with what stands before its last call, of either kind
begins : (before : Calls) (c : Call) (b : BookingCall) → Begins before (before then c) × Begins before (before also b)
begins before c b = (longer whole, longer_booking whole)

-- a booking counts for the generator that alone feeds its bus, or for the dark buses; at a clash for neither
counts : (fed_by 1 Dark ≡ false) × (fed_by 1 (Fed 1) ≡ true) × (fed_by 1 (Fed 2) ≡ false) × (fed_by 1 (Clash 1 2) ≡ false)
    × (fed_by_none Dark ≡ true) × (fed_by_none (Fed 1) ≡ false) × (fed_by_none (Clash 1 2) ≡ false)
counts = (refl, refl, refl, refl, refl, refl, refl)

-- ---- a plant in which an order waits for a part to return does not have what is claimed of every list's

-- G1 is stuck off and ordered on, and GB1 closed
abbrev waiting_on : PlantState
waiting_on = record {
  health = record { health = λ p. cond (same_part p (Generator 1)) 1 0; locked = λ g. false };
  last = λ p. same_part p (Generator 1) || same_part p (GeneratorBreaker 1);
}

-- G1 is locked and ordered on, and GB1 closed
abbrev waiting_locked : PlantState
waiting_locked = record {
  health = record { health = λ p. 0; locked = λ g. eqb g 0 };
  last = λ p. same_part p (Generator 1) || same_part p (GeneratorBreaker 1);
}

-- BB1 is stuck open and ordered closed
abbrev waiting_closed : PlantState
waiting_closed = record {
  health = record { health = λ p. cond (same_part p (BusBreaker 1)) 2 0; locked = λ g. false };
  last = λ p. same_part p (BusBreaker 1);
}

none_in : {A : Type 0} {x : A} → x ∈ [] → ⊥
none_in m = Memᴰ.not-nil m

-- G1 starts as it returns, without an operation
starts_refuted : ByOperationAlone 3 waiting_on → ⊥
unfolding after_words after_word perform_all same_part
starts_refuted b = go (b.starts (report (Generator 1) Fit ∷ []) [] 0 (omega arith) refl)
  where
    go : (false ≡ true) ⊎ (operation true (Generator 1) ∈ []) → ⊥
    go (inl e) = contra e refl
    go (inr m) = none_in m

-- .. or as it is unlocked
unlock_starts_refuted : ByOperationAlone 3 waiting_locked → ⊥
unfolding after_words after_word perform_all same_part
unlock_starts_refuted b = go (b.starts (report (Generator 1) Unlock ∷ []) [] 0 (omega arith) refl)
  where
    go : (false ≡ true) ⊎ (operation true (Generator 1) ∈ []) → ⊥
    go (inl e) = contra e refl
    go (inr m) = none_in m

-- BB1 closes
closes_refuted : ByOperationAlone 3 waiting_closed → ⊥
unfolding after_words after_word perform_all same_part any_of
closes_refuted b = go (b.closes (report (BusBreaker 1) Fit ∷ []) [] (BusBreaker 1) (omega arith, omega arith) refl refl)
  where
    go : (false ≡ true) ⊎ (operation true (BusBreaker 1) ∈ []) → ⊥
    go (inl e) = contra e refl
    go (inr m) = none_in m

-- B1 is lit before the first operation
feeds_refuted : ByOperationAlone 3 waiting_on → ⊥
unfolding after_words after_word same_part bus_feed feeders feeds feed_by keep below connected arc up all_of
feeds_refuted b =
    let lit : Fed 1 ≡ Dark = b.fed_as_before (report (Generator 1) Fit ∷ []) (returns 1 none_returns) 0 (omega arith) in
    let sources = ap (λ f. length (feed_sources f)) lit in
    omega (arith, sources)

-- .. or as G1 is unlocked
unlock_feeds_refuted : ByOperationAlone 3 waiting_locked → ⊥
unfolding after_words after_word same_part bus_feed feeders feeds feed_by keep below connected arc up all_of
unlock_feeds_refuted b =
    let lit : Fed 1 ≡ Dark = b.fed_as_before (report (Generator 1) Unlock ∷ []) (unlocks 1 none_returns) 0 (omega arith) in
    let sources = ap (λ f. length (feed_sources f)) lit in
    omega (arith, sources)

-- ---- a plant in which a locked generator is ordered on does not have what is claimed of locks

-- by an order of either wave
ordered_on_refuted : (NoneOrderedOn waiting_locked (record { first = operation true (Generator 1) ∷ []; second = [] }) → ⊥)
    × (NoneOrderedOn waiting_locked (record { first = []; second = operation true (Generator 1) ∷ [] }) → ⊥)
ordered_on_refuted = (λ off. off 0 refl (Memᴰ.head refl), λ off. off 0 refl (Memᴰ.head refl))

-- by what stands
stands_on_refuted : NoneStandsOn 3 waiting_locked → ⊥
unfolding same_part
stands_on_refuted off = contra refl (off 0 (omega arith) refl)
