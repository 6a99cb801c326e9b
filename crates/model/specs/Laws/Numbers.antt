-- The number that each kind of call is refused by is that of a refusal of the papers; that of a served call is 0.
use Rattle.std.specs.Prelude.{refl, List, [], ◌∷◌, ℕ, eqb}
use Rattle.std.proofs.Math.Option.{Option, none, some}
use Rattle.model.specs.declared.Part.{Part}
use Rattle.model.specs.declared.Word.{Word}
use Rattle.model.specs.declared.Report.{Report}
use Rattle.model.specs.declared.Ring.{Ring}
use Rattle.model.specs.declared.Scan.{Scan}
use Rattle.model.specs.declared.RingState.{RingState}
use Rattle.model.specs.declared.Booking.{Booking}
use Rattle.model.specs.declared.Rates.{Rates}
use Rattle.model.specs.declared.Refusal.TheVariants.{
  FileShort,
  SizeOutside,
  ReportsAbove,
  LengthOther,
  PartOutside,
  WordOutside,
  BufferShort,
  BadRecord,
  BusOutside,
  CountAbove,
  WattsOutside,
  BookingNumber,
  BookingsFull,
  RateOutside,
  Unrated,
}
use Rattle.model.specs.Values.{report_values}
use Rattle.model.specs.Plant.{PartHealth}
use Rattle.model.specs.Reports.{part_named, word_named}
use Rattle.model.specs.Refusals.{first_met, report_conditions, report_of, report_answer, report_refusal, reports_refusal, sheet_refusal, code_refusal, byte_refusal, start_refusal, step_refusal, feeds_refusal, file_refusal}
use Rattle.model.specs.Scans.{first_refusal, scan_refusal}
use Rattle.model.specs.States.{state_refusal, book_refusal, cancel_refusal}
use Rattle.model.specs.CutSets.{cut_sets_refusal}
use Rattle.model.specs.Exposure.{exposure_refusal}
use Rattle.model.specs.Laws.Refusals.{number_of_refusal, IsNumber, is_number, zero_number, or_else_number, no_number, number_and, first_number}
use Rattle.model.specs.Laws.Tests.{by_cond}

pub sheet_number : (room : ℕ) (bytes : List ℕ) → IsNumber (sheet_refusal room bytes)
unfolding sheet_refusal
sheet_number room bytes = first_number (number_and (is_number BufferShort refl) no_number)

pub code_number : (n c : ℕ) → IsNumber (code_refusal n c)
unfolding code_refusal
code_number n c = first_number (number_and (is_number PartOutside refl) no_number)

pub byte_number : (v : ℕ) → IsNumber (byte_refusal v)
unfolding byte_refusal
byte_number v = first_number (number_and (is_number WordOutside refl) no_number)

pub start_number : (n room : ℕ) → IsNumber (start_refusal n room)
unfolding start_refusal
start_number n room = first_number (number_and (is_number SizeOutside refl) (number_and (is_number BufferShort refl) no_number))

pub report_number : (n : ℕ) (r : Report) → IsNumber (first_met (report_conditions n r))
unfolding report_conditions
report_number n r = first_number (number_and (is_number PartOutside refl) (number_and (is_number WordOutside refl) no_number))

pub step_number : (ring : Ring) (r : Report) (room : ℕ) → IsNumber (step_refusal ring r room)
unfolding step_refusal report_conditions
step_number ring r room =
    first_number
    (number_and (is_number BadRecord refl)
    (number_and (is_number PartOutside refl) (number_and (is_number WordOutside refl) (number_and (is_number BufferShort refl) no_number))))

pub feeds_number : (n : ℕ) (H : PartHealth) → IsNumber (feeds_refusal n H)
unfolding feeds_refusal
feeds_number n H = first_number (number_and (is_number SizeOutside refl) (number_and (is_number BadRecord refl) no_number))

-- the number of the answer that a part and a word make
answer_number : (n : ℕ) (part : Option Part) (word : Option Word) → IsNumber (report_values (report_of n part word)).0
unfolding report_of
answer_number n none word = is_number PartOutside refl
answer_number n (some part) none = is_number WordOutside refl
answer_number n (some part) (some word) =
    let r : Report = record { part = part; word = word } in
    let k = first_met (report_conditions n r) in
    by_cond (λ a. IsNumber (report_values a).0) (eqb k 0) (λ t. zero_number) (λ t. rw (number_of_refusal k) (report_number n r))

pub code_and_word_number : (n c v : ℕ) → IsNumber (report_refusal n c v)
unfolding report_refusal report_answer
code_and_word_number n c v = answer_number n (part_named n c) (word_named v)

pub reports_number : (n : ℕ) (cs vs : List ℕ) → IsNumber (reports_refusal n cs vs)
unfolding reports_refusal
reports_number n [] vs = zero_number
reports_number n (c ∷ cs) [] = zero_number
reports_number n (c ∷ cs) (v ∷ vs) = or_else_number (code_and_word_number n c v) (reports_number n cs vs)

pub file_number : (f : List ℕ) → IsNumber (file_refusal f)
unfolding file_refusal
file_number f =
    or_else_number
    (first_number
    (number_and (is_number FileShort refl)
    (number_and (is_number SizeOutside refl) (number_and (is_number ReportsAbove refl) (number_and (is_number LengthOther refl) no_number)))))
    (reports_number _ _ _)

pub first_refusal_number : (n : ℕ) (rs : List Report) → IsNumber (first_refusal n rs)
unfolding first_refusal
first_refusal_number n [] = zero_number
first_refusal_number n (r ∷ rs) = or_else_number (report_number n r) (first_refusal_number n rs)

pub scan_number : (ring : Ring) (s : Scan) (room : ℕ) → IsNumber (scan_refusal ring s room)
unfolding scan_refusal
scan_number ring s room =
    or_else_number (first_number (number_and (is_number BadRecord refl) (number_and (is_number CountAbove refl) no_number)))
    (or_else_number (first_refusal_number _ _) (sheet_number _ _))

pub state_number : (state : RingState) {k : ℕ} → IsNumber k → IsNumber (state_refusal state k)
unfolding state_refusal
state_number state p = or_else_number (first_number (number_and (is_number BadRecord refl) no_number)) p

pub book_number : (state : RingState) (b : Booking) → IsNumber (book_refusal state b)
unfolding book_refusal
book_number state b =
    first_number
    (number_and (is_number BadRecord refl)
    (number_and (is_number BusOutside refl)
    (number_and (is_number WattsOutside refl) (number_and (is_number BookingNumber refl) (number_and (is_number BookingsFull refl) no_number)))))

pub cancel_number : (state : RingState) (v : ℕ) → IsNumber (cancel_refusal state v)
unfolding cancel_refusal
cancel_number state v = first_number (number_and (is_number BadRecord refl) (number_and (is_number BookingNumber refl) no_number))

pub cut_sets_number : (state : RingState) (bus room : ℕ) → IsNumber (cut_sets_refusal state bus room)
unfolding cut_sets_refusal
cut_sets_number state bus room =
    first_number (number_and (is_number BadRecord refl) (number_and (is_number BusOutside refl) (number_and (is_number BufferShort refl) no_number)))

pub exposure_number : (state : RingState) (bus : ℕ) (r : Rates) → IsNumber (exposure_refusal state bus r)
unfolding exposure_refusal
exposure_number state bus r =
    first_number
    (number_and (is_number BadRecord refl)
    (number_and (is_number BusOutside refl) (number_and (is_number RateOutside refl) (number_and (is_number Unrated refl) no_number))))
