-- The paper's number and values for every case of every enum that is, or is in, an answer.
-- Numbers of parts, buses and generators are the paper's, from 1.
use Rattle.std.specs.Prelude.{◌≡◌, refl, Bool, true, false, ◌&&◌, cond, List, [], ◌∷◌, map, ℕ, zero, suc, ◌+◌, eqb, get_or, Option, None, Some, Result, Ok, Err}
use Prim.Native.Char.{code}
use Rattle.model.specs.declared.Part.{Part}
use Rattle.model.specs.declared.Part.TheVariants.{Generator, GeneratorBreaker, BusBreaker}
use Rattle.model.specs.declared.Word.{Word}
use Rattle.model.specs.declared.Word.TheVariants.{Fit, StuckOff, StuckOpen, StuckClosed, Lock, Unlock}
use Rattle.model.specs.declared.Report.{Report}
use Rattle.model.specs.declared.Refusal.{Refusal}
use Rattle.model.specs.declared.Refusal.TheVariants.{
  FileShort,
  SizeOutside,
  ReportsAbove,
  LengthOther,
  PartOutside,
  WordOutside,
  GeneratorFit,
  BufferShort,
  BadRecord,
  BusOutside,
  CountAbove,
  WattsOutside,
  BookingNumber,
  BookingsFull,
  RateOutside,
  Unrated,
  Other,
}
use Rattle.model.specs.declared.FileHead.{FileHead}
use Rattle.model.specs.declared.Choice.{Choice}
use Rattle.model.specs.declared.Choice.TheVariants as choice
use Rattle.model.specs.declared.BusChoice.{BusChoice}
use Rattle.model.specs.declared.Feed.{Feed}
use Rattle.model.specs.declared.Feed.TheVariants as feed
use Rattle.model.specs.declared.BusFeed.{BusFeed}
use Rattle.model.specs.Papers.{in_papers}

-- the number of a part among those of its kind
abbrev pub number : Part → ℕ
number (Generator k) = k
number (GeneratorBreaker k) = k
number (BusBreaker k) = k

-- the index of a number: places are counted from 0
abbrev pub index : ℕ → ℕ
index zero = zero
index (suc i) = i

-- the code of the first part of each kind
abbrev pub first_code : Part → ℕ
first_code (Generator k) = 0
first_code (GeneratorBreaker k) = 32
first_code (BusBreaker k) = 64

-- "Part codes: 0 to n − 1 are G1 to Gn, 32 to 31 + n are GB1 to GBn, 64 to 63 + n are BB1 to BBn."
unfoldable pub part_code : Part → ℕ
part_code p = first_code p + index (number p)

-- p and q are one part
unfoldable pub same_part : Part → Part → Bool
same_part p q = eqb (first_code p) (first_code q) && eqb (number p) (number q)

-- "Words: 0 fit again, 1 stuck off (generators), 2 stuck open, 3 stuck closed (breakers)."; "Word 4 locks it and word 5 unlocks it" (Note 7)
abbrev pub word_number : Word → ℕ
word_number Fit = 0
word_number StuckOff = 1
word_number StuckOpen = 2
word_number StuckClosed = 3
word_number Lock = 4
word_number Unlock = 5

-- "What is sent back unserved": the numbers of the table, and those of the Notes; any other by itself
abbrev pub refusal_number : Refusal → ℕ
refusal_number FileShort = 1
refusal_number SizeOutside = 2
refusal_number ReportsAbove = 3
refusal_number LengthOther = 4
refusal_number PartOutside = 5
refusal_number WordOutside = 6
refusal_number GeneratorFit = 7
refusal_number BufferShort = 8
refusal_number BadRecord = 9
refusal_number BusOutside = 10
refusal_number CountAbove = 11
refusal_number WattsOutside = 12
refusal_number BookingNumber = 13
refusal_number BookingsFull = 14
refusal_number RateOutside = 15
refusal_number Unrated = 16
refusal_number (Other other) = other.number

-- the refusal that has a number of the papers
abbrev pub papers_refusal : ℕ → Refusal
papers_refusal k =
    cond (eqb k 1) FileShort (
    cond (eqb k 2) SizeOutside (
    cond (eqb k 3) ReportsAbove (
    cond (eqb k 4) LengthOther (
    cond (eqb k 5) PartOutside (
    cond (eqb k 6) WordOutside (
    cond (eqb k 7) GeneratorFit (
    cond (eqb k 8) BufferShort (
    cond (eqb k 9) BadRecord (
    cond (eqb k 10) BusOutside (
    cond (eqb k 11) CountAbove (
    cond (eqb k 12) WattsOutside (
    cond (eqb k 13) BookingNumber (
    cond (eqb k 14) BookingsFull (
    cond (eqb k 15) RateOutside (
    Unrated)))))))))))))))

-- .. or any other number, by itself
abbrev pub refusal_by : (k : ℕ) (inside : Bool) → in_papers k ≡ inside → Refusal
refusal_by k true e = papers_refusal k
refusal_by k false e = Other (record { number = k; outside_papers = e })

-- the refusal that has a number
unfoldable pub refusal_of : ℕ → Refusal
refusal_of k = refusal_by k (in_papers k) refl

-- a call is served, or a refusal meets it
abbrev pub Outcome : Type 0
Outcome = Result Unit Refusal

-- "Each has its number as the answer": the number of an outcome, 0 where it is served
abbrev pub outcome_number : Outcome → ℕ
outcome_number (Ok _) = 0
outcome_number (Err r) = refusal_number r

-- the outcome that has a number
unfoldable pub outcome_of : ℕ → Outcome
outcome_of k = cond (eqb k 0) (Ok tt) (Err (refusal_of k))

-- the generator that a choice names; no generator is numbered 0
abbrev pub choice_source : Choice → ℕ
choice_source choice.Dark = 0
choice_source (choice.Own g) = g
choice_source (choice.High g) = g
choice_source (choice.Low g) = g

-- "(`o` own, `h` high, `l` low; `-` alone when dark ..)": the letter of a choice
abbrev pub choice_letter : Choice → ℕ
choice_letter choice.Dark = code "-"
choice_letter (choice.Own g) = code "o"
choice_letter (choice.High g) = code "h"
choice_letter (choice.Low g) = code "l"

-- the choice of bus b, from 0
abbrev pub choice_at : List BusChoice → ℕ → Choice
choice_at cs b = (get_or cs b (record { choice = choice.Dark })).choice

-- "dark, fed by one generator, or a clash that names the two lowest generators feeding it": the generators named
abbrev pub feed_sources : Feed → List ℕ
feed_sources feed.Dark = []
feed_sources (feed.Fed g) = g ∷ []
feed_sources (feed.Clash g h) = g ∷ h ∷ []

-- the generators that each bus's answer names
unfoldable pub feed_values : List BusFeed → List (List ℕ)
feed_values bs = map (λ (b : BusFeed). feed_sources b.feed) bs

-- a choice's generator and letter, bus by bus
unfoldable pub choice_values : List BusChoice → List (ℕ × ℕ)
choice_values cs = map (λ (c : BusChoice). (choice_source c.choice, choice_letter c.choice)) cs

-- The small answers, all in one shape: the refusal's number, 0 where there is none, and the values given.

-- the values vs where no refusal has the number k, none where one has
unfoldable pub numbered : ℕ → List ℕ → ℕ × List ℕ
numbered k vs = (k, cond (eqb k 0) vs [])

-- the part's code
abbrev pub part_values : Result Part Refusal → ℕ × List ℕ
part_values (Ok p) = (0, part_code p ∷ [])
part_values (Err r) = (refusal_number r, [])

-- the word's number
abbrev pub word_values : Result Word Refusal → ℕ × List ℕ
word_values (Ok w) = (0, word_number w ∷ [])
word_values (Err r) = (refusal_number r, [])

-- the report's code and word; none where there is no report
abbrev pub report_values : Result (Option Report) Refusal → ℕ × List ℕ
report_values (Ok (Some r)) = (0, part_code r.part ∷ word_number r.word ∷ [])
report_values (Ok None) = (0, [])
report_values (Err r) = (refusal_number r, [])

-- n and m
abbrev pub file_values : Result FileHead Refusal → ℕ × List ℕ
file_values (Ok head) = (0, head.n ∷ head.m ∷ [])
file_values (Err r) = (refusal_number r, [])
