-- Document 01, "Orders in two waves", and document 02, Note 4. The first wave is the opening phase, the second the closing phase.
use Rattle.std.specs.Prelude.{not, ◌&&◌, ℕ, length, drop}
use mathlib.Core.List.{List, [], ◌∷◌, ◌++◌, map, flat_map}
use Rattle.std.proofs.Math.Option.{Option, none, some}
use Rattle.model.specs.declared.Part.{Part}
use Rattle.model.specs.Lists.{below, keep}
use Rattle.model.specs.Values.{part_code, same_part}
use Rattle.model.specs.Plant.{PartHealth, PartCommands, parts}
use Rattle.model.specs.Priority.{Path, path_parts}
use Rattle.model.specs.Choosing.{plan, commands}

-- "The first wave holds every part whose order changes to off or open .. in rising part code."; "The first wave keeps its order." (Note 4)
unfoldable pub opening : ℕ → PartCommands → PartCommands → List Part
opening n old new = keep (λ p. old p && not (new p)) (parts n)

-- "a part only where it first comes" (Note 4)
unfoldable pub first_occurrences : List Part → List Part
first_occurrences [] = []
first_occurrences (p ∷ ps) = let rest = first_occurrences ps in p ∷ keep (λ q. not (same_part q p)) rest

-- "each chosen way in that sequence" (Note 4): the parts of a bus's path; a dark bus has none
unfoldable pub parts_of : ℕ → Option Path → List Part
parts_of n none = []
parts_of n (some w) = path_parts n w

-- "The second wave goes through buses in number order and each chosen way in that sequence, a part only where it first comes." (Note 4)
unfoldable pub sequence : ℕ → (ℕ → Option Path) → List Part
sequence n path = first_occurrences (flat_map (λ b. parts_of n (path b)) (below n))

-- "the second every part whose order changes to on or closed": of the sequence of the buses' paths what was not commanded so
unfoldable pub closing : ℕ → PartCommands → (ℕ → Option Path) → List Part
closing n old path = keep (λ p. not (old p)) (sequence n path)

-- "The order sheet has its sizes first (one byte each: first wave, second wave), then two parallel arrays: the part codes
-- of both waves, then the orders (0 off or open, 1 on or closed)."
unfoldable pub sheet_of : List Part → List Part → List ℕ
sheet_of xs ys = length xs ∷ length ys ∷ (map part_code (xs ++ ys) ++ (map (λ p. 0) xs ++ map (λ p. 1) ys))

-- the sheet that leads from the old commands to those that a health calls for
unfoldable pub sheet : ℕ → PartCommands → PartHealth → List ℕ
sheet n old H = sheet_of (opening n old (commands n H)) (closing n old (plan n H))

-- "Bytes of the lent buffer behind the sheet keep their values.": the buffer after a served call
unfoldable pub written : List ℕ → List ℕ → List ℕ
written bytes buffer = bytes ++ drop (length bytes) buffer
