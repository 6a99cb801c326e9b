-- The numbers that the papers give to refusals.
use Rattle.std.specs.Prelude.{Bool, ◌&&◌, ℕ, ltb, leb}

-- "What is sent back unserved": the table and the Notes number the refusals from 1 to this
abbrev pub last_refusal : ℕ
last_refusal = 16

-- the papers give the number to a refusal
abbrev pub in_papers : ℕ → Bool
in_papers k = ltb 0 k && leb k last_refusal
