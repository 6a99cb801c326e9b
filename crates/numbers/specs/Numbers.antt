-- Laws of the model's decimal numbers: their digits, and how many.
use Rattle.std.specs.Prelude.{◌≡◌, ◌⊎◌, List, [], ◌∷◌, ◌++◌, ℕ, zero, suc, ◌+◌, ◌*◌, ◌/◌, ◌%◌, ◌^◌, ◌≤◌, ◌<◌, length}
use Rattle.std.proofs.Common.{inl, inr, arith, length-append, lt-ltb, le-ltb}
use Prim.Native.Char.{code}
use Rattle.model.specs.Text.{digits, decimal}
use Rattle.model.specs.Laws.Tests.{dec_lt}
use Rattle.model.specs.Laws.Appended.{Appended}

-- more digits than the number has change nothing
enough : (d e k : ℕ) → k < d → k < e → digits d k ≡ digits e k
unfolding digits
enough zero e k h l = absurd (omega arith)
enough (suc d) zero k h l = absurd (omega arith)
enough (suc d) (suc e) k h l = go (enough d e (k / 10)) (dec_lt k 10)
  where
    go : (k / 10 < d → k / 10 < e → digits d (k / 10) ≡ digits e (k / 10)) → (k < 10) ⊎ (10 ≤ k) → digits (suc d) k ≡ digits (suc e) k
    go r (inl p) = rw (lt-ltb k 10 p)
    go r (inr p) = rw (le-ltb k 10 p, r (omega arith) (omega arith))

-- a number below 10 is its digit
pub decimal_digit : (k : ℕ) → k < 10 → decimal k ≡ (code "0" + k) ∷ []
unfolding decimal digits
decimal_digit k h = rw (lt-ltb k 10 h)

-- any other is the number of its tens, then its last digit
pub decimal_more : (k : ℕ) → 10 ≤ k → decimal k ≡ decimal (k / 10) ++ ((code "0" + k % 10) ∷ [])
unfolding decimal digits
decimal_more k h = rw (le-ltb k 10 h, enough k (suc (k / 10)) (k / 10) (omega arith) (omega arith))

-- .. however both are said
pub decimal_last : (k q x : ℕ) → 10 ≤ k → q ≡ k / 10 → x ≡ code "0" + k % 10 → decimal k ≡ decimal q ++ (x ∷ [])
decimal_last k q x h e f = rw (e, f) (decimal_more k h)

-- a number below a power of ten has at most that many digits
pub decimal_length : (d k : ℕ) → k < 10 ^ suc d → length (decimal k) ≤ suc d
decimal_length zero k h = rw (decimal_digit k (omega arith)) (omega arith)
decimal_length (suc d) k h = go (decimal_length d (k / 10) (omega arith)) (dec_lt k 10)
  where
    go : length (decimal (k / 10)) ≤ suc d → (k < 10) ⊎ (10 ≤ k) → length (decimal k) ≤ suc (suc d)
    go r (inl p) = rw (decimal_digit k p) (omega arith)
    go r (inr p) = rw (decimal_more k p, length-append) (omega arith)

-- .. and ends no further behind its place
pub decimal_end : (d k : ℕ) {l l' : List ℕ} {i j : ℕ} → Appended (decimal k) l i l' j → k < 10 ^ suc d → j ≤ i + suc d
decimal_end d k a h = omega (arith, a.end, decimal_length d k h)

-- ---- a number and the byte behind it

abbrev pub marked : ℕ → ℕ → List ℕ
marked k mark = decimal k ++ (mark ∷ [])

-- a number of two digits: the digit of its tens, then its last
pub marked_more : (k t d mark : ℕ) → k ≡ 10 * t + d → 0 < t → t < 10 → d < 10 → marked k mark ≡ (code "0" + t) ∷ marked d mark
marked_more k t d mark e p h l =
    let q : k / 10 ≡ t = omega arith in
    let r : k % 10 ≡ d = omega arith in
    rw (decimal_more k (omega arith), q, r, decimal_digit t h, decimal_digit d l)

pub marked_length : (k mark : ℕ) → k < 100 → length (marked k mark) ≤ 3
marked_length k mark h = rw length-append (omega (arith, decimal_length 1 k h))

pub marked_end : (k mark : ℕ) {l l' : List ℕ} {i j : ℕ} → Appended (marked k mark) l i l' j → k < 100 → j ≤ i + 3
marked_end k mark a h = omega (arith, a.end, marked_length k mark h)
