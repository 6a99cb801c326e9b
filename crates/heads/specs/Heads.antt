-- The first line of a run fits where the longest line does.
use Rattle.std.specs.Prelude.{◌++◌, ℕ, ◌≤◌, ◌<◌, length}
use Rattle.std.proofs.Common.{arith, length-append}
use Rattle.model.specs.Text.{ascii, decimal, header, refused_text, line_room}
use Rattle.numbers.specs.Numbers.{decimal_length}

pub header_fits : (n m : ℕ) → n < 10000 → m < 10000 → length (header n m) ≤ line_room
unfolding header ascii
header_fits n m h l =
    omega (
      arith,
      length-append (decimal n) (ascii " reports " ++ (decimal m ++ ascii "\n")),
      length-append (decimal m) (ascii "\n"),
      decimal_length 3 n h,
      decimal_length 3 m l,
    )

pub refused_fits : (k : ℕ) → k < 10000 → length (refused_text k) ≤ line_room
unfolding refused_text ascii
refused_fits k h = omega (arith, length-append (decimal k) (ascii "\n"), decimal_length 3 k h)
