-- The bytes of the command sheet in the order in which they are stored.
use Rattle.std.specs.Prelude.{◌≡◌, refl, List, [], ◌∷◌, ◌++◌, map, ℕ, ◌+◌, ◌*◌, length, replicate}
use Rattle.std.proofs.Common.{◌∙◌, ap, append_assoc, append-nil, arith, length-append}
use Rattle.std.proofs.lemmas.List.{map-append, length-map, length-replicate}
use Rattle.std.proofs.Math.Seq.{drop-length}
use Rattle.model.specs.declared.Part.{Part}
use Rattle.model.specs.Values.{part_code}
use Rattle.model.specs.Sheet.{sheet_of, written}
use Rattle.model.specs.Laws.Appended.{Appended, appended_written}

-- the sheet of the codes of both phases
unfoldable pub layout : List ℕ → List ℕ → List ℕ
layout xs ys = length xs ∷ length ys ∷ (xs ++ ys ++ replicate (length xs) 0 ++ replicate (length ys) 1)

map_const : (n : ℕ) (xs : List Part) → map (λ p. n) xs ≡ replicate (length xs) n
map_const n [] = refl
map_const n (x ∷ xs) = ap (λ l. n ∷ l) (map_const n xs)

pub sheet_layout : (xs ys : List Part) → sheet_of xs ys ≡ layout (map part_code xs) (map part_code ys)
unfolding sheet_of layout
sheet_layout xs ys = simp (map-append, map_const, length-map, append_assoc)

pub layout_length : (xs ys : List ℕ) → length (layout xs ys) ≡ 2 + 2 * (length xs + length ys)
unfolding layout
layout_length xs ys = simp (length-append, length-replicate) (omega arith)

-- bytes as many as the buffer are the whole of what is written
written_whole : (xs l : List ℕ) → length xs ≡ length l → written xs l ≡ xs
unfolding written
written_whole xs l e = rw (e, drop-length l) (append-nil xs)

-- sizes, codes and commands, stored one after the other over the whole of the bytes
pub laid_out : (xs ys : List ℕ) {l l' : List ℕ} {o c j : ℕ} → length xs ≡ o → length ys ≡ c → length l ≡ 2 + 2 * (o + c)
    → Appended (o ∷ c ∷ (xs ++ ys ++ replicate o 0 ++ replicate c 1)) l 0 l' j → l' ≡ layout xs ys
unfolding layout
laid_out xs ys {l} {l'} {j = j} p q h a =
    let b : Appended (layout xs ys) l 0 l' j = rw (p, q) a in
    let full : length (layout xs ys) ≡ length l = omega (arith, layout_length xs ys) in
    appended_written b (omega arith) ∙ written_whole (layout xs ys) l full
