-- Document 01, "Fault file and reports" and "What is sent back unserved": the whole answer of each call, served or refused.
use Rattle.std.specs.Prelude.{◌&&◌, cond, List, [], ◌∷◌, map, ℕ, suc, ltb, eqb, length, get_or, take, Result, Ok, Err}
use Rattle.std.specs.Prelude as std
use Rattle.std.proofs.Math.Option.{Option, none, some}
use Rattle.model.specs.declared.Part.{Part}
use Rattle.model.specs.declared.Word.{Word}
use Rattle.model.specs.declared.Report.{Report}
use Rattle.model.specs.declared.Health.{Health}
use Rattle.model.specs.declared.Commands.{Commands}
use Rattle.model.specs.declared.Ring.{Ring}
use Rattle.model.specs.declared.Choice.TheVariants as choice
use Rattle.model.specs.declared.Refusal.{Refusal}
use Rattle.model.specs.declared.Refusal.TheVariants.{PartOutside, WordOutside}
use Rattle.model.specs.declared.FileHead.{FileHead}
use Rattle.model.specs.declared.BusChoice.{BusChoice}
use Rattle.model.specs.declared.Feed.TheVariants as feed
use Rattle.model.specs.declared.RingAnswer.{RingAnswer}
use Rattle.model.specs.declared.FeedsAnswer.{FeedsAnswer}
use Rattle.model.specs.Values.{refusal_of, outcome_of, numbered}
use Rattle.model.specs.Plant.{feeders, bus_feed}
use Rattle.model.specs.Choosing.{path_values, plan_values, choices}
use Rattle.model.specs.Sheet.{written}
use Rattle.model.specs.Reports.{file_size, file_count, places, health_of, commands_of, blank_ring, told, with_plan}
use Rattle.model.specs.Refusals.{
  sheet_refusal,
  start_refusal,
  step_refusal,
  feeds_refusal,
  file_refusal,
  code_refusal,
  byte_refusal,
  report_answer,
  report_refusal,
  next_sheet,
}

-- the part that a code names in a ring of n, or refusal 5
unfoldable pub part_answer : Option Part → Result Part Refusal
part_answer none = Err PartOutside
part_answer (some p) = Ok p

-- .. by its code
unfoldable pub code_values : ℕ → ℕ → ℕ × List ℕ
code_values n c = numbered (code_refusal n c) (c ∷ [])

-- the word that a byte names, or refusal 6
unfoldable pub word_answer : Option Word → Result Word Refusal
word_answer none = Err WordOutside
word_answer (some w) = Ok w

-- .. by its number
unfoldable pub byte_values : ℕ → ℕ × List ℕ
byte_values v = numbered (byte_refusal v) (v ∷ [])

-- the i-th report, from 0, of the part codes and words of a file; none past the end of either
unfoldable pub report_at : ℕ → List ℕ → List ℕ → ℕ → Result (std.Option Report) Refusal
report_at n codes words i =
    cond (ltb i (length codes) && ltb i (length words)) (report_answer n (get_or codes i 0) (get_or words i 0)) (Ok std.None)

-- .. by its code and its word; neither number nor values where there is no report
unfoldable pub report_values_at : ℕ → List ℕ → List ℕ → ℕ → ℕ × List ℕ
report_values_at n codes words i =
    let c = get_or codes i 0 in
    let v = get_or words i 0 in
    cond (ltb i (length codes) && ltb i (length words)) (numbered (report_refusal n c v) (c ∷ v ∷ [])) (0, [])

-- a whole file's n and m, or its first refusal
unfoldable pub file_answer : List ℕ → Result FileHead Refusal
file_answer f = cond (eqb (file_refusal f) 0) (Ok (record { n = file_size f; m = file_count f })) (Err (refusal_of (file_refusal f)))

-- .. by their numbers
unfoldable pub whole_values : List ℕ → ℕ × List ℕ
whole_values f = numbered (file_refusal f) (file_size f ∷ file_count f ∷ [])

-- "the buses of a refused reckoning are all dark; so, always, is a bus above n"
unfoldable pub feeds_answer : ℕ → Health → Commands → FeedsAnswer
feeds_answer n h c =
    let k = feeds_refusal n (health_of h) in
    record {
      outcome = outcome_of k;
      buses = places (λ b. record { feed = cond (eqb k 0 && ltb b n) (bus_feed n (health_of h) (commands_of c) b) feed.Dark });
    }

-- the generators that bus b's answer names, "the two lowest" at most
unfoldable pub bus_values : ℕ → Health → Commands → ℕ → List ℕ
bus_values n h c b =
    cond (eqb (feeds_refusal n (health_of h)) 0 && ltb b n) (map suc (take 2 (feeders n (health_of h) (commands_of c) b))) []

-- the lent buffer after a sheet was written, ".. and the buffer untouched" where 8 meets it
unfoldable pub buffer_after : List ℕ → List ℕ → List ℕ
buffer_after bytes buffer = cond (eqb (sheet_refusal (length buffer) bytes) 0) (written bytes buffer) buffer

-- what an inner start, step or scan gives: its answer, the ring alone, and the lent buffer after the call
pub record Reply : Type 0 where
  pub answer : RingAnswer
  pub buffer : List ℕ

-- "The choices of a refused start or step .. are all dark"
unfoldable pub all_dark : List BusChoice
all_dark = places (λ b. record { choice = choice.Dark })

-- "Each has its number as the answer, the record as handed in .."
unfoldable pub refused_answer : ℕ → Ring → RingAnswer
refused_answer k ring = record { outcome = Err (refusal_of k); ring = ring; choices = all_dark }

-- ".. and the buffer untouched."
unfoldable pub refused_reply : ℕ → Ring → List ℕ → Reply
refused_reply k ring buffer = record { answer = refused_answer k ring; buffer = buffer }

-- "gives the new record, each bus's choice ..": a ring that was told its reports
unfoldable pub served_answer : Ring → RingAnswer
served_answer ring = record { outcome = Ok tt; ring = with_plan ring; choices = choices ring.n (health_of ring.health) }

-- ".. and the sheet"
unfoldable pub served_reply : Ring → List ℕ → Reply
served_reply ring buffer = record { answer = served_answer ring; buffer = written (next_sheet ring) buffer }

-- a call of refusal k, for a ring that was told its reports: served where k is 0; refused, it gives back the ring kept
abbrev pub reply_by : ℕ → Ring → Ring → List ℕ → Reply
reply_by k ring kept buffer = cond (eqb k 0) (served_reply ring buffer) (refused_reply k kept buffer)

-- "Starting a ring takes n and gives the record with all parts fit, each bus's choice and the sheet of its first orders.";
-- "A refused start has a record with n = 0 and every part fit and ordered off or open."
unfoldable pub start_reply : ℕ → List ℕ → Reply
start_reply n buffer = reply_by (start_refusal n (length buffer)) (blank_ring n) (blank_ring 0) buffer

-- "A step takes a record and a report, and gives the new record, each bus's choice and the sheet."
unfoldable pub step_reply : Ring → Report → List ℕ → Reply
step_reply ring r buffer = reply_by (step_refusal ring r (length buffer)) (told ring r) ring buffer

-- the generator and the letter of each bus's choice in a call of refusal k that plans for a ring: "all dark" where it is refused
unfoldable pub call_values : ℕ → Ring → List (ℕ × ℕ)
call_values k ring = cond (eqb k 0) (plan_values ring.n (health_of ring.health)) (places (λ b. path_values ring.n none))
