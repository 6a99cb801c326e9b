-- Document 01, "What is sent back unserved": for each kind of call its conditions, in the order in which they are checked.
use Rattle.std.specs.Prelude.{Bool, not, ◌&&◌, ◌||◌, cond, List, [], ◌∷◌, ◌++◌, ℕ, suc, ◌+◌, ◌*◌, min, ltb, eqb, length, Result, Ok, Err}
use Rattle.std.specs.Prelude as std
use Rattle.std.specs.Bool.{beq}
use Rattle.std.proofs.Math.Option.{Option, none, some}
use Rattle.model.specs.declared.Part.{Part}
use Rattle.model.specs.declared.Part.TheVariants.{Generator, GeneratorBreaker, BusBreaker}
use Rattle.model.specs.declared.Word.{Word}
use Rattle.model.specs.declared.Report.{Report}
use Rattle.model.specs.declared.Ring.{Ring}
use Rattle.model.specs.declared.Refusal.{Refusal}
use Rattle.model.specs.declared.Refusal.TheVariants.{PartOutside, WordOutside}
use Rattle.model.specs.Lists.{below, any_of, is_none}
use Rattle.model.specs.Values.{number, word_number, refusal_of, report_values}
use Rattle.model.specs.Plant.{PartHealth, PartCommands, smallest, largest, parts, fit, health_of_kind}
use Rattle.model.specs.Choosing.{commands}
use Rattle.model.specs.Sheet.{sheet}
use Rattle.model.specs.Reports.{
  file_length,
  file_size,
  file_count,
  file_codes,
  file_words,
  part_named,
  word_named,
  health_of,
  commands_of,
  blank_ring,
  told,
}

-- the number of the first refusal of a list whose condition is met, 0 where none is
unfoldable pub first_met : List (ℕ × Bool) → ℕ
first_met [] = 0
first_met (c ∷ cs) = let r = first_met cs in cond c.1 c.0 r

-- the first of two refusals
abbrev pub or_else : ℕ → ℕ → ℕ
or_else k l = cond (eqb k 0) l k

-- 2: "n below 3 or above 20"
unfoldable pub size_outside : ℕ → Bool
size_outside n = ltb n smallest || ltb largest n

-- 5: "code names no part of this ring"; of a part itself, that its number is none of the ring's. A ring has at most 20 of each kind
unfoldable pub not_of_ring : ℕ → Part → Bool
not_of_ring n p = ltb (number p) 1 || ltb (min n largest) (number p)

-- 6: "word above 3, word 1 for a breaker, or 2 or 3 for a generator"; "refusal 6 now meets words above 5 and these two for a breaker" (document
-- 02, Note 7)
unfoldable pub word_of_other_kind : Part → ℕ → Bool
word_of_other_kind (Generator k) v = ltb 5 v || eqb v 2 || eqb v 3
word_of_other_kind (GeneratorBreaker k) v = ltb 5 v || eqb v 1 || eqb v 4 || eqb v 5
word_of_other_kind (BusBreaker k) v = ltb 5 v || eqb v 1 || eqb v 4 || eqb v 5

-- 8: "order buffer shorter than the sheet"
unfoldable pub too_short : ℕ → List ℕ → Bool
too_short room bytes = ltb room (length bytes)

-- 9: "a health is not one of its part's kind", among the parts ps
unfoldable pub health_outside : PartHealth → List Part → Bool
health_outside H ps = any_of (λ p. not (health_of_kind p (H.health p))) ps

-- 9: "a part above n is not fit or not ordered off or open"
unfoldable pub active_above : ℕ → PartHealth → PartCommands → Bool
active_above n H C = any_of (λ p. ltb n (number p) && (not (fit (H.health p)) || C p)) (parts largest)

-- 9: "A part above n must be unlocked, or the record meets refusal 9" (Note 7)
unfoldable pub locked_above : ℕ → PartHealth → Bool
locked_above n H = any_of (λ g. ltb n (suc g) && H.locked g) (below largest)

-- 9: "the standing orders differ from those the health calls for"; "those that health and locks call for" (Note 7)
unfoldable pub unplanned : ℕ → PartHealth → PartCommands → Bool
unplanned n H C = any_of (λ p. not (beq (C p) (commands n H p))) (parts largest)

-- "In a record, number 9 is met when n is outside 3 to 20, a health is not one of its part's kind, a part above n is not
-- fit or not ordered off or open, or the standing orders differ from those the health calls for."; a part above n is locked (Note 7)
unfoldable pub bad_ring : Ring → Bool
bad_ring ring =
    let H = health_of ring.health in
    let C = commands_of ring.commands in
    any_of (λ met. met)
    (size_outside ring.n
    ∷ health_outside H (parts largest)
    ∷ active_above ring.n H C
    ∷ locked_above ring.n H
    ∷ unplanned ring.n H C
    ∷ [])

-- 10 (document 02): "a bus number outside 1 to n"
unfoldable pub bus_outside : ℕ → ℕ → Bool
bus_outside n bus = ltb bus 1 || ltb n bus

-- 11 (document 02): "a count above 64"
unfoldable pub count_above : ℕ → Bool
count_above k = ltb 64 k

-- the sheet from a ring's standing commands to those that its health and locks call for
unfoldable pub next_sheet : Ring → List ℕ
next_sheet ring = sheet ring.n (commands_of ring.commands) (health_of ring.health)

-- "each 5, 6, 7", of a report in a ring of n; "refusal 7 is given to no input any more" (document 02, Note 3)
unfoldable pub report_conditions : ℕ → Report → List (ℕ × Bool)
report_conditions n r =
    let v = word_number r.word in
    (5, not_of_ring n r.part) ∷ (6, word_of_other_kind r.part v) ∷ []

-- 8 of a sheet
unfoldable pub sheet_refusal : ℕ → List ℕ → ℕ
sheet_refusal room bytes = first_met ((8, too_short room bytes) ∷ [])

-- 5 of a code
unfoldable pub code_refusal : ℕ → ℕ → ℕ
code_refusal n c = first_met ((5, is_none (part_named n c)) ∷ [])

-- 6 of a byte that is no word
unfoldable pub byte_refusal : ℕ → ℕ
byte_refusal v = first_met ((6, is_none (word_named v)) ∷ [])

-- "a start 2, 8"
unfoldable pub start_refusal : ℕ → ℕ → ℕ
start_refusal n room = first_met ((2, size_outside n) ∷ (8, too_short room (next_sheet (blank_ring n))) ∷ [])

-- "A step checks 9, 5, 6, 7, 8" (7: Note 3)
unfoldable pub step_refusal : Ring → Report → ℕ → ℕ
step_refusal ring r room =
    first_met ((9, bad_ring ring) ∷ (report_conditions ring.n r ++ ((8, too_short room (next_sheet (told ring r))) ∷ [])))

-- "the plant reckoning 2, then 9 only for a part up to n whose health is not one of its kind"
unfoldable pub feeds_refusal : ℕ → PartHealth → ℕ
feeds_refusal n H = first_met ((2, size_outside n) ∷ (9, health_outside H (parts n)) ∷ [])

-- a report as its part and word, or its refusal
unfoldable pub report_of : ℕ → Option Part → Option Word → Result (std.Option Report) Refusal
report_of n none w = Err PartOutside
report_of n (some p) none = Err WordOutside
report_of n (some p) (some w) =
    let r : Report = record { part = p; word = w } in
    let k = first_met (report_conditions n r) in
    cond (eqb k 0) (Ok (std.Some r)) (Err (refusal_of k))

-- the report that a code and a word make in a ring of n
unfoldable pub report_answer : ℕ → ℕ → ℕ → Result (std.Option Report) Refusal
report_answer n c v = report_of n (part_named n c) (word_named v)

-- the refusal of the report that a code and a word make, 0 where there is none
unfoldable pub report_refusal : ℕ → ℕ → ℕ → ℕ
report_refusal n c v = (report_values (report_answer n c v)).0

-- "then its reports first to last"
unfoldable pub reports_refusal : ℕ → List ℕ → List ℕ → ℕ
reports_refusal n [] vs = 0
reports_refusal n (c ∷ cs) [] = 0
reports_refusal n (c ∷ cs) (v ∷ vs) = let rest = reports_refusal n cs vs in or_else (report_refusal n c v) rest

-- "A file is checked 1, 2, 3, 4, then its reports first to last, each 5, 6, 7." (7: Note 3); "Refusal 1 is for one or two bytes." (Note 9)
unfoldable pub file_refusal : List ℕ → ℕ
file_refusal f =
    let reports = reports_refusal (file_size f) (file_codes f) (file_words f) in
    or_else
    (first_met
    ((1, ltb (file_length f) 3)
    ∷ (2, size_outside (file_size f))
    ∷ (3, ltb 4096 (file_count f))
    ∷ (4, not (eqb (file_length f) (3 + 2 * file_count f)))
    ∷ []))
    reports
