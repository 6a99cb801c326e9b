-- Safe: the buffers are as long as the calls ask for.
use Rattle.std.proofs.Common.{◌≡◌, ◌≤◌, ℕ, List, length, sym, replicate, arith}
use Rattle.std.proofs.lemmas.List.{length-replicate}
use Rattle.model.specs.CutText.{text_room}
use Rattle.ringcuts.proofs.main.Goals as goal

-- the length of the buffer
abbrev size : ℕ
size = 540775

-- any text has room in a buffer of as many bytes
room : (n : ℕ) (xs : List ℕ) → length xs ≡ n → text_room ≤ n → text_room ≤ length xs
room n xs e h = omega (arith, e, h)

pub slice_bounds-print_file-end-2 : goal.slice_bounds-print_file-end-2
slice_bounds-print_file-end-2 c = sym (length-replicate {A = ℕ} size 0)

pub print_file-requires : goal.print_file-requires
print_file-requires c = room size (replicate {A = ℕ} size 0) (length-replicate {A = ℕ} size 0) (omega arith)
