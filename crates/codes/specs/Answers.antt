-- The answer to a code, with its values.
use Rattle.std.specs.Prelude.{◌≡◌, refl, [], ◌∷◌, ℕ, ◌+◌, ◌≤◌, Result, Err}
use Rattle.std.proofs.Common.{ap}
use Rattle.std.proofs.Math.Option.{Option, none, some}
use Rattle.model.specs.declared.Part.{Part}
use Rattle.model.specs.declared.Refusal.{Refusal}
use Rattle.model.specs.declared.Refusal.TheVariants.{PartOutside}
use Rattle.model.specs.Lists.{is_none}
use Rattle.model.specs.Values.{number, first_code, numbered, part_values}
use Rattle.model.specs.Plant.{largest, InRing}
use Rattle.model.specs.Reports.{part_named}
use Rattle.model.specs.Refusals.{first_met, code_refusal}
use Rattle.model.specs.Answers.{part_answer, code_values}
use Rattle.model.specs.Laws.Reports.{code_named}
use Rattle.codes.specs.Codes.{of_ring, in_range, outside_ranges}

-- r is the answer to the code c, with its values
abbrev pub PartAnswered : ℕ → ℕ → Result Part Refusal → Type 0
PartAnswered n c r = (r ≡ part_answer (part_named n c)) × (part_values r ≡ code_values n c)

part_gives : (n c : ℕ) (r : Result Part Refusal) → r ≡ part_answer (part_named n c) → PartAnswered n c r
unfolding part_answer code_values code_refusal first_met numbered
part_gives n c r e = (e, rw e (go (part_named n c) refl))
  where
    go : (o : Option Part) → part_named n c ≡ o → part_values (part_answer o) ≡ numbered (first_met ((5, is_none o) ∷ [])) (c ∷ [])
    go none q = refl
    go (some p) q = ap (λ k. (0, k ∷ [])) (code_named n c p q).1

-- a code of a range
pub part_in_range : (n c : ℕ) (p : Part) (r : Result Part Refusal) → r ≡ part_answer (of_ring n p) → InRing largest p
    → first_code p + number p ≡ c + 1 → PartAnswered n c r
part_in_range n c p r e h q = part_gives n c r (rw (in_range n c p h q) e)

-- a code of no range
pub part_outside : (n c : ℕ) → 20 ≤ c → (32 ≤ c → 52 ≤ c) → (64 ≤ c → 84 ≤ c) → PartAnswered n c (Err PartOutside)
unfolding part_answer
part_outside n c a b d = part_gives n c (Err PartOutside) (rw (outside_ranges n c a b d))
