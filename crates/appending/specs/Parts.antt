-- A part of a buffer that is stored as a whole: its bytes are appended from where the part begins.
use Rattle.std.specs.Prelude.{◌≡◌, List, ℕ, ◌+◌, ◌≤◌, length, take, drop, replicate}
use Rattle.std.proofs.Common.{sym, ◌∙◌, arith, append_assoc}
use Rattle.std.proofs.lemmas.List.{drop-drop, length-drop}
use Rattle.std.proofs.lemmas.List.Edits.{sets-eq}
use Rattle.std.proofs.Math.ListN.{length-replicate}
use Rattle.std.proofs.Math.Seq.{length-take-le}
use borrow.Rule.Slice.PartMut.{put_mid, mid_of}
use Rattle.model.specs.Laws.Appended.{Appended}

-- a part from index i on that holds ys now, the bytes xs, as many as before
pub appended_part : (xs l : List ℕ) (i k : ℕ) {ys : List ℕ} {j : ℕ} → ys ≡ xs → k ≡ length xs → i + length xs ≤ length l → j ≡ i + length xs
    → Appended xs l i (put_mid i k l ys) j
appended_part xs l i k s e h f =
    record {
      stored = rw (s, drop-drop k i l, e) (sym (sets-eq xs l i h ∙ append_assoc (take i l) xs (drop (i + length xs) l)));
      end = f;
    }

-- .. that holds n times v now
pub appended_fill : (v n : ℕ) (l : List ℕ) (i k : ℕ) {ys : List ℕ} {j : ℕ} → ys ≡ replicate (length (mid_of i k l)) v → k ≡ n → i + n ≤ length l → j ≡ i + n
    → Appended (replicate n v) l i (put_mid i k l ys) j
appended_fill v n l i k s e h f =
    let sized : length (mid_of i k l) ≡ n = length-take-le k (drop i l) (omega (arith, length-drop i l)) ∙ e in
    appended_part (replicate n v) l i k (rw (← sized) s) (omega (arith, length-replicate n v)) (omega (arith, length-replicate n v)) (omega (arith, length-replicate n v))
