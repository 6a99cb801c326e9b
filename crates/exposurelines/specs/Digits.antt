-- Laws of the model's hexadecimal digits, stored one after the other.
use Rattle.std.specs.Prelude.{◌≡◌, List, [], ◌∷◌, ◌++◌, ℕ, ◌+◌, ◌-◌, ◌/◌, ◌%◌, ◌≤◌, ◌<◌}
use Prim.Native.Char.{code}
use Rattle.std.proofs.Common.{add-one, arith, lt-ltb, le-ltb}
use Rattle.model.specs.ExposureText.{hex_digit, hex_digits}
use Rattle.model.specs.Laws.Appended.{Appended, appended_none}
use Rattle.model.specs.Laws.Digits.{hex_length}

-- the digits of a number below 16
pub digit_low : (k x : ℕ) → k < 10 → x ≡ code "0" + k → x ≡ hex_digit k
unfolding hex_digit
digit_low k x h e = rw (e, lt-ltb k 10 h)

pub digit_high : (k x : ℕ) → 10 ≤ k → x ≡ code "a" + (k - 10) → x ≡ hex_digit k
unfolding hex_digit
digit_high k x h e = rw (e, le-ltb k 10 h)

-- no digit
pub hex_none : (d k : ℕ) (l : List ℕ) (at : ℕ) → d ≡ 0 → Appended (hex_digits d k) l at l at
unfolding hex_digits
hex_none d k l at e = rw e (appended_none l at)

-- one digit more is the last
pub hex_more : (d k c q x y : ℕ) → d ≡ c + 1 → q ≡ k / 16 → x ≡ k % 16 → y ≡ hex_digit x → hex_digits d k ≡ hex_digits c q ++ (y ∷ [])
unfolding hex_digits
hex_more d k c q x y e f g h = rw (h, e, f, g, add-one)

-- the digits end so many bytes behind their place
pub hex_end : (d k : ℕ) {l l' : List ℕ} {at end : ℕ} → Appended (hex_digits d k) l at l' end → end ≡ at + d
hex_end d k a = omega (arith, a.end, hex_length d k)
