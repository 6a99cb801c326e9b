-- Bytes stored in a list one after the other, from an index on.
use Rattle.std.specs.Prelude.{◌≡◌, refl, List, [], ◌∷◌, ◌++◌, ℕ, suc, ◌+◌, ◌≤◌, length, set, take, drop}
use Rattle.std.proofs.Common.{◌∙◌, ap, add-suc, suc-add, add-zero, arith, length-append}
use Rattle.std.proofs.Math.Nat.{zero-add}
use Rattle.std.proofs.lemmas.List.Edits.{sets}
use Rattle.std.proofs.Math.Seq.{sets-eq, length-sets, take-append_seam}
use Rattle.model.specs.Sheet.{written}

-- after is before with the bytes stored from index i on, and j is the index behind them
pub record Appended (bytes before : List ℕ) (i : ℕ) (after : List ℕ) (j : ℕ) : Type 0 where
  pub stored : after ≡ sets before i bytes
  pub end : j ≡ i + length bytes

pub appended_none : (l : List ℕ) (i : ℕ) → Appended [] l i l i
appended_none l i = record { stored = refl; end = omega arith }

sets_append : (xs ys l : List ℕ) (i : ℕ) → sets (sets l i xs) (i + length xs) ys ≡ sets l i (xs ++ ys)
sets_append [] ys l i = rw add-zero
sets_append (x ∷ xs) ys l i = rw (add-suc, ← suc-add) (sets_append xs ys (set l i x) (suc i))

-- more bytes behind them
pub appended_more : {xs ys l l' l'' : List ℕ} {i j k : ℕ} → Appended xs l i l' j → Appended ys l' j l'' k → Appended (xs ++ ys) l i l'' k
appended_more {xs} {ys} {l} {i = i} a b =
    record {
      stored = b.stored ∙ rw (a.stored, a.end) (sets_append xs ys l i);
      end = omega (arith, a.end, b.end, length-append xs ys);
    }

-- one byte behind them
pub appended_one : {xs zs l l' : List ℕ} {i j k : ℕ} (x : ℕ) → zs ≡ xs ++ (x ∷ []) → k ≡ j + 1 → Appended xs l i l' j
    → Appended zs l i (set l' j x) k
appended_one x e h a = rw (e, h) (appended_more a (record { stored = refl; end = refl }))

-- one byte, and two
pub appended_byte : (x : ℕ) (l : List ℕ) (i : ℕ) → Appended (x ∷ []) l i (set l i x) (i + 1)
appended_byte x l i = record { stored = refl; end = refl }

pub appended_two : (x y : ℕ) (l : List ℕ) (i : ℕ) → Appended (x ∷ y ∷ []) l i (set (set l i x) (i + 1) y) (i + 2)
appended_two x y l i = appended_one y refl (omega arith) (appended_byte x l i)

pub appended_length : {xs l l' : List ℕ} {i j : ℕ} → Appended xs l i l' j → length l' ≡ length l
appended_length {xs} {l} {i = i} a = ap length a.stored ∙ length-sets l i xs

-- what was stored from the front on stands there, and the rest keeps its values
module _ {xs l l' : List ℕ} {j : ℕ} (a : Appended xs l 0 l' j) (h : length xs ≤ length l) where
  pub appended_written : l' ≡ written xs l
  unfolding written
  appended_written = a.stored ∙ sets-eq xs l 0 (omega arith) ∙ rw zero-add

  pub appended_all : (l' ≡ written xs l) × (j ≡ length xs)
  appended_all = (appended_written, omega (arith, a.end))

  pub appended_front : take j l' ≡ xs
  unfolding written
  appended_front = rw (appended_written, a.end, zero-add) (take-append_seam xs (drop (length xs) l))

-- a text stands in the front of a lent buffer: the buffer before and after, and the text's length
pub record Stored (text before after : List ℕ) (size : ℕ) : Type 0 where
  pub bytes : after ≡ written text before
  pub sized : size ≡ length text

-- it has no more bytes than the buffer
pub stored_fits : {text before after : List ℕ} {size : ℕ} → Stored text before after size → size ≤ length after
unfolding written
stored_fits {text} {before} s = rw (s.bytes, s.sized) (omega (arith, length-append text (drop (length text) before)))
