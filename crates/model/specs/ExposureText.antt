-- The text of the chance of a dark hour (document 02, Note 8) of every bus after a fault file's last report, as a list of bytes. "Bits must equal
-- this recipe's", so a float is written by its bits. A line feed ends every line.
use Rattle.std.specs.Prelude.{cond, List, [], ◌∷◌, ◌++◌, map, ℕ, zero, suc, ◌+◌, ◌-◌, ◌*◌, ◌/◌, ◌%◌, ltb, eqb, Float, Ok, Err}
use Rattle.model.specs.Values.{Outcome, refusal_number}
use Prim.Native.Char.{code}
use Rattle.std.specs.Float.{binary64}
use Rattle.std.specs.Float.Ieee.{to_bits}
use Rattle.model.specs.declared.Ring.{Ring}
use Rattle.model.specs.declared.Rates.{Rates}
use Rattle.model.specs.declared.Exposure.{Exposure}
use Rattle.model.specs.declared.ExposureAnswer.{ExposureAnswer}
use Rattle.model.specs.Lists.{below}
use Rattle.model.specs.Plant.{largest}
use Rattle.model.specs.Reports.{file_size}
use Rattle.model.specs.Refusals.{file_refusal}
use Rattle.model.specs.Text.{ascii, decimal, joined, refused_text}
use Rattle.model.specs.States.{unloaded}
use Rattle.model.specs.CutText.{latest_ring}
use Rattle.model.specs.Exposure.{exposure_answer}

-- a hexadecimal digit: `0` to `9`, then `a` to `f`
unfoldable pub hex_digit : ℕ → ℕ
hex_digit k = cond (ltb k 10) (code "0" + k) (code "a" + (k - 10))

-- the last d hexadecimal digits of a number
unfoldable pub hex_digits : ℕ → ℕ → List ℕ
hex_digits zero k = []
hex_digits (suc d) k = hex_digits d (k / 16) ++ (hex_digit (k % 16) ∷ [])

-- the bits of a float, as `3ff0000000000000`
unfoldable pub bits_text : Float → List ℕ
bits_text x = hex_digits 16 (to_bits binary64 x)

-- "The answer carries that sum, the largest product and the number of sets."
unfoldable pub exposure_text : Exposure → List ℕ
exposure_text e = bits_text e.sum ++ (ascii " " ++ (bits_text e.largest ++ (ascii " " ++ (decimal e.count ++ ascii "\n"))))

-- what is answered, the figures or the refusal
unfoldable pub answered_text : Outcome → Exposure → List ℕ
answered_text (Ok _) e = exposure_text e
answered_text (Err r) e = refused_text (refusal_number r)

-- a bus's line, as `B3 3b95edccb7e5db5a 3b872b15f44c6e30 10` or `B3 refused 16`
unfoldable pub exposure_line : ℕ → ExposureAnswer → List ℕ
exposure_line bus a = ascii "B" ++ (decimal bus ++ (ascii " " ++ answered_text a.outcome a.exposure))

-- room for any line: a bus, as `B20 `; two floats of 16 digits and a count, as `36051`, with spaces between; a line feed
abbrev pub exposure_room : ℕ
exposure_room = 4 + (16 + 1 + 16 + 1 + 5) + 1

-- the line of a bus of a ring without bookings
unfoldable pub bus_exposure_line : Rates → Ring → ℕ → List ℕ
bus_exposure_line r ring bus = exposure_line bus (exposure_answer (unloaded ring) bus r)

-- every bus in turn
unfoldable pub exposure_lines : Rates → Ring → ℕ → List ℕ
exposure_lines r ring n = joined (map (λ b. bus_exposure_line r ring (suc b)) (below n))

-- room for the lines of any ring
abbrev pub exposures_room : ℕ
exposures_room = exposure_room * largest

-- the printed chances of a fault file: those of the ring after its last report, or the refusal as the printed run has it
unfoldable pub printed_exposures : Rates → List ℕ → List ℕ
printed_exposures r f = cond (eqb (file_refusal f) 0) (exposure_lines r (latest_ring f) (file_size f)) (refused_text (file_refusal f))
