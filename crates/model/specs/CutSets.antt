-- Document 02, Note 1, "Which further faults darken a studio": minimal cut sets. A set is a list of parts in rising code.
-- Buses are indices from 0; the call's bus is a number, from 1.
use Rattle.std.specs.Prelude.{Bool, not, ◌&&◌, cond, ℕ, zero, suc, ◌/◌, ◌%◌, ltb, eqb, length, take, Ok, Err}
use mathlib.Core.List.{List, [], ◌∷◌, ◌++◌, map, flat_map}
use Rattle.model.specs.declared.Part.{Part}
use Rattle.model.specs.declared.Part.TheVariants.{Generator, GeneratorBreaker, BusBreaker}
use Rattle.model.specs.declared.Word.{Word}
use Rattle.model.specs.declared.Word.TheVariants.{StuckOff, StuckOpen}
use Rattle.model.specs.declared.Report.{Report}
use Rattle.model.specs.declared.Ring.{Ring}
use Rattle.model.specs.declared.RingState.{RingState}
use Rattle.model.specs.declared.CutSetsAnswer.{CutSetsAnswer}
use Rattle.model.specs.Lists.{below, keep, any_of, is_none}
use Rattle.model.specs.Values.{index, part_code, refusal_of}
use Rattle.model.specs.Plant.{PartHealth, parts, fit_generator, stuck_open}
use Rattle.model.specs.Choosing.{plan}
use Rattle.model.specs.Sheet.{written}
use Rattle.model.specs.Reports.{reported, health_of}
use Rattle.model.specs.Refusals.{first_met, too_short, bus_outside}
use Rattle.model.specs.States.{bad_record}

-- "at most three further faults"
abbrev pub most_faults : ℕ
most_faults = 3

-- "A further fault is a fit generator going off, or a breaker not stuck open becoming so.": part p can fail
unfoldable pub can_fail : PartHealth → Part → Bool
can_fail H (Generator k) = fit_generator H (index k)
can_fail H (GeneratorBreaker k) = not (stuck_open (H.health (GeneratorBreaker k)))
can_fail H (BusBreaker k) = not (stuck_open (H.health (BusBreaker k)))

-- the parts of a ring of n that can fail, in rising code
unfoldable pub further_faults : ℕ → PartHealth → List Part
further_faults n H = keep (can_fail H) (parts n)

-- ".. going off, or .. becoming so": the word of a part's further fault
abbrev pub fault_word : Part → Word
fault_word (Generator k) = StuckOff
fault_word (GeneratorBreaker k) = StuckOpen
fault_word (BusBreaker k) = StuckOpen

-- .. as a report would give it
abbrev pub fault_report : Part → Report
fault_report p = record { part = p; word = fault_word p }

-- the health after the further faults of a set
unfoldable pub with_faults : PartHealth → List Part → PartHealth
with_faults H [] = H
with_faults H (p ∷ S) = with_faults (reported H (fault_report p)) S

-- "leaves that bus dark": choosing under the health after its faults gives bus b no path
unfoldable pub darkens : ℕ → PartHealth → ℕ → List Part → Bool
darkens n H b S = is_none (plan n (with_faults H S) b)

-- the subsets of a set, the set itself among them
unfoldable pub subsets : List Part → List (List Part)
subsets [] = [] ∷ []
subsets (p ∷ S) = let rest = subsets S in map (λ T. p ∷ T) rest ++ rest

-- the proper ones have fewer parts
unfoldable pub proper_subsets : List Part → List (List Part)
proper_subsets S = keep (λ T. ltb (length T) (length S)) (subsets S)

-- "A set counts when no proper subset of it darkens the bus."
unfoldable pub minimal : ℕ → PartHealth → ℕ → List Part → Bool
minimal n H b S = darkens n H b S && not (any_of (darkens n H b) (proper_subsets S))

-- "then by part codes": the sets of k of the parts ps, where these stand in rising code
unfoldable pub of_size : ℕ → List Part → List (List Part)
of_size zero ps = [] ∷ []
of_size (suc k) [] = []
of_size (suc k) (p ∷ ps) = map (λ T. p ∷ T) (of_size k ps) ++ of_size (suc k) ps

-- "Each set is listed once, by size": the sets of fewer than k of the parts
unfoldable pub sizes_below : ℕ → List Part → List (List Part)
sizes_below k ps = flat_map (λ j. of_size j ps) (below k)

-- "every smallest set of at most three further faults that leaves that bus dark", in the order of the list
unfoldable pub cut_sets : ℕ → PartHealth → ℕ → List (List Part)
cut_sets n H b = keep (minimal n H b) (sizes_below (suc most_faults) (further_faults n H))

-- ".. then three bytes a set, rising, with 255 for unused"
unfoldable pub set_bytes : List Part → List ℕ
set_bytes S = take 3 (map part_code S ++ (255 ∷ 255 ∷ 255 ∷ []))

-- "The sheet has a two-byte count, low byte first, then three bytes a set"
unfoldable pub cut_sheet : List (List Part) → List ℕ
cut_sheet sets = (length sets % 256) ∷ (length sets / 256) ∷ flat_map set_bytes sets

-- "for a ring record and a bus", by its number
unfoldable pub ring_cut_sets : Ring → ℕ → List (List Part)
ring_cut_sets ring bus = cut_sets ring.n (health_of ring.health) (index bus)

-- "Turned away: 10 for a bus number outside 1 to n, after 9 and before 8."
unfoldable pub cut_sets_refusal : RingState → ℕ → ℕ → ℕ
cut_sets_refusal state bus room =
    let ring = state.ring in
    first_met ((9, bad_record state) ∷ (10, bus_outside ring.n bus) ∷ (8, too_short room (cut_sheet (ring_cut_sets ring bus))) ∷ [])

-- what the call gives: its answer, and the lent buffer after it
pub record CutSetsReply : Type 0 where
  pub answer : CutSetsAnswer
  pub buffer : List ℕ

-- "a refused call that they add is answered as a refused step, .. any figure beside the record 0": the buffer untouched, the count 0
unfoldable pub refused_cut_sets : ℕ → List ℕ → CutSetsReply
refused_cut_sets k buffer = record { answer = record { outcome = Err (refusal_of k); count = 0 }; buffer = buffer }

-- the sheet in the front of the buffer, and how many sets it has
unfoldable pub served_cut_sets : List (List Part) → List ℕ → CutSetsReply
served_cut_sets sets buffer = record { answer = record { outcome = Ok tt; count = length sets }; buffer = written (cut_sheet sets) buffer }

-- the whole answer of the call, served or refused
unfoldable pub cut_sets_reply : RingState → ℕ → List ℕ → CutSetsReply
cut_sets_reply state bus buffer =
    let k = cut_sets_refusal state bus (length buffer) in
    cond (eqb k 0) (served_cut_sets (ring_cut_sets state.ring bus) buffer) (refused_cut_sets k buffer)
