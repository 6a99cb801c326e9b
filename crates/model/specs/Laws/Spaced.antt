-- Texts as a loop appends them: with a space between each two, each behind a space; and one after the other.
use Rattle.std.specs.Prelude.{◌≡◌, refl, List, [], ◌∷◌, ◌++◌, ℕ, ◌+◌, ◌*◌, ◌≤◌, ◌<◌, length}
use Rattle.std.proofs.Common.{ap, append_assoc, append-nil, arith, length-append}
use mathlib.Core.List.Memᴰ
use Prim.Native.Char.{code}
use Rattle.model.specs.Text.{ascii, spaced, joined}
use Rattle.model.specs.Lists.{◌∈◌}

-- each text behind a space
unfoldable pub behind_spaces : List (List ℕ) → List ℕ
behind_spaces [] = []
behind_spaces (t ∷ ts) = code " " ∷ (t ++ behind_spaces ts)

pub behind_spaced : (ts : List (List ℕ)) → 0 < length ts → ascii " " ++ spaced ts ≡ behind_spaces ts
unfolding spaced behind_spaces ascii
behind_spaced [] h = absurd (omega arith)
behind_spaced (t ∷ []) h = rw append-nil
behind_spaced (t ∷ u ∷ ts) h = ap (λ l. code " " ∷ (t ++ l)) (behind_spaced (u ∷ ts) (omega arith))

-- one text more
pub behind_one : (ts : List (List ℕ)) (t : List ℕ) → behind_spaces (ts ++ (t ∷ [])) ≡ behind_spaces ts ++ (code " " ∷ t)
unfolding behind_spaces
behind_one [] t = rw append-nil
behind_one (u ∷ ts) t = rw (behind_one ts t, append_assoc)

pub behind_length : (m : ℕ) (ts : List (List ℕ)) → ((t : List ℕ) → t ∈ ts → length t ≤ m) → length (behind_spaces ts) ≤ (m + 1) * length ts
unfolding behind_spaces
behind_length m [] h = omega arith
behind_length m (t ∷ ts) h =
    omega (arith, length-append t (behind_spaces ts), h t (Memᴰ.head refl), behind_length m ts (λ u k. h u (Memᴰ.tail k)))

-- ---- one after the other

-- one text more
pub joined_one : (ts : List (List ℕ)) (t : List ℕ) → joined (ts ++ (t ∷ [])) ≡ joined ts ++ t
unfolding joined
joined_one [] t = append-nil t
joined_one (u ∷ ts) t = rw (joined_one ts t, append_assoc)

pub joined_length : (m : ℕ) (ts : List (List ℕ)) → ((t : List ℕ) → t ∈ ts → length t ≤ m) → length (joined ts) ≤ m * length ts
unfolding joined
joined_length m [] h = omega arith
joined_length m (t ∷ ts) h =
    omega (arith, length-append t (joined ts), h t (Memᴰ.head refl), joined_length m ts (λ u k. h u (Memᴰ.tail k)))
