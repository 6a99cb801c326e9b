-- The line of a bus, as it is appended.
use Rattle.std.specs.Prelude.{◌≡◌, List, ◌++◌, ℕ, ◌+◌, Float, Ok, Err}
use Rattle.std.proofs.Common.{append_assoc, arith, length-append}
use Prim.Native.Char.{code}
use Rattle.std.specs.Float.{binary64}
use Rattle.std.specs.Float.Ieee.{to_bits}
use Rattle.model.specs.declared.Refusal.{Refusal}
use Rattle.model.specs.Values.{refusal_number}
use Rattle.model.specs.declared.Exposure.{Exposure}
use Rattle.model.specs.declared.ExposureAnswer.{ExposureAnswer}
use Rattle.model.specs.Text.{ascii, decimal, refused_text}
use Rattle.model.specs.ExposureText.{hex_digits, bits_text, exposure_text, answered_text, exposure_line}
use Rattle.model.specs.Laws.Digits.{hex_length}
use Rattle.model.specs.Laws.Appended.{Appended, appended_more}
use Rattle.numbers.specs.Numbers.{marked}

-- the bits of a float, and a space behind them
abbrev pub spaced_bits : Float → List ℕ
spaced_bits x = bits_text x ++ ascii " "

pub bits_is : (x : Float) (b : ℕ) → b ≡ to_bits binary64 x → spaced_bits x ≡ hex_digits 16 b ++ ascii " "
unfolding bits_text
bits_is x b e = rw e

-- they end 17 bytes behind their place
pub bits_end : (x : Float) {l l' : List ℕ} {at end : ℕ} → Appended (spaced_bits x) l at l' end → end ≡ at + 17
unfolding bits_text ascii
bits_end x a = omega (arith, a.end, length-append (bits_text x) (ascii " "), hex_length 16 (to_bits binary64 x))

-- the figures: two floats and a count, and a line feed behind them
pub figures_parts : (e : Exposure) (count : ℕ) → count ≡ e.count
    → exposure_text e ≡ ((spaced_bits e.sum ++ spaced_bits e.largest) ++ decimal count) ++ ascii "\n"
unfolding exposure_text
figures_parts e count is = rw is (simp append_assoc)

-- what is answered, by the outcome
pub served_text : (a : ExposureAnswer) → a.outcome ≡ Ok tt → answered_text a.outcome a.exposure ≡ exposure_text a.exposure
unfolding answered_text
served_text a e = rw e

pub refused_text_lem : (a : ExposureAnswer) (k : Refusal) → a.outcome ≡ Err k → answered_text a.outcome a.exposure ≡ refused_text (refusal_number k)
unfolding answered_text
refused_text_lem a k e = rw e

-- the whole line: the bus, then its answer
line_is : (bus : ℕ) (a : ExposureAnswer)
    → exposure_line bus a ≡ (ascii "B" ++ marked bus (code " ")) ++ answered_text a.outcome a.exposure
unfolding exposure_line ascii
line_is bus a = simp append_assoc

pub line_parts : (bus k : ℕ) (a : ExposureAnswer) {l l' l'' : List ℕ} {at j end : ℕ} → k ≡ bus
    → Appended (ascii "B" ++ marked k (code " ")) l at l' j → Appended (answered_text a.outcome a.exposure) l' j l'' end
    → Appended (exposure_line bus a) l at l'' end
line_parts bus k a e first answer = rw (line_is bus a) (appended_more (rw e at first) answer)
