-- Laws of hexadecimal digits.
use Rattle.std.specs.Prelude.{◌≡◌, [], ◌∷◌, ℕ, zero, suc, ◌/◌, ◌%◌, length}
use Rattle.std.proofs.Common.{arith, length-append}
use Rattle.model.specs.ExposureText.{hex_digit, hex_digits}

-- as many digits as are asked for
pub hex_length : (d k : ℕ) → length (hex_digits d k) ≡ d
unfolding hex_digits
hex_length zero k = omega arith
hex_length (suc d) k = omega (arith, length-append (hex_digits d (k / 16)) (hex_digit (k % 16) ∷ []), hex_length d (k / 16))
