-- The texts of a phase's operations, made from the bytes of their codes and commands.
use Rattle.std.specs.Prelude.{◌≡◌, Bool, true, false, cond, ◌⊎◌, ℕ, ◌+◌, ◌*◌, ◌%◌, ◌≤◌, ◌<◌, ltb, eqb, get_or, take}
use Rattle.std.proofs.Math.Path.{refl, sym}
use Rattle.std.proofs.Common.{◌∙◌, ap, inl, inr, arith, length-append, take_all}
use mathlib.Core.List.Memᴰ
use mathlib.Core.List.{List, [], ◌∷◌, ◌++◌, map, append_assoc, zip_with}
use Prim.Native.Char.{code}
use Prim.Native.String.{String}
use Rattle.std.proofs.Math.Numerals.{add-one}
use Rattle.std.proofs.Math.ListN.{length}
use Rattle.std.proofs.Math.Seq.{take-suc, length-take-le}
use borrow.Author.Tests.{lt-ltb, le-ltb}
use Rattle.model.specs.declared.Part.{Part}
use Rattle.model.specs.declared.Part.TheVariants.{Generator, GeneratorBreaker, BusBreaker}
use Rattle.model.specs.Values.{number, index, part_code}
use Rattle.model.specs.Plant.{largest, InRing}
use Rattle.model.specs.Text.{ascii, decimal, spaced, kind_name, part_name, phase_text}
use Rattle.model.specs.Laws.Tests.{dec_eq}
use Rattle.model.specs.Lists.{◌∈◌}
use Rattle.model.specs.Laws.Parts.{index_suc}
use Rattle.model.specs.Laws.Appended.{Appended, appended_more}
use Rattle.numbers.specs.Numbers.{marked, decimal_length}
use Rattle.model.specs.Laws.Spaced.{behind_spaces, behind_spaced, behind_one}

-- ---- definitions

-- the kind of the part that has a code
unfoldable pub kind_of : ℕ → List ℕ
kind_of c = cond (ltb c 32) (ascii "G") (cond (ltb c 64) (ascii "GB") (ascii "BB"))

-- the sign of a command: 0 is off or open
abbrev pub sign : ℕ → ℕ
sign v = cond (eqb v 0) (code "-") (code "+")

-- the name of the part that has a code
unfoldable pub name_of : ℕ → List ℕ
name_of c = kind_of c ++ decimal (c % 32 + 1)

-- .. and the byte behind it
abbrev pub marked_name : ℕ → ℕ → List ℕ
marked_name c mark = name_of c ++ (mark ∷ [])

-- an operation: the part of a code and the sign of its command
abbrev pub operation_text : ℕ → ℕ → List ℕ
operation_text c v = marked_name c (sign v)

-- the texts of a phase's operations, a lone `-` where there are none
unfoldable pub operations_text : List (List ℕ) → List ℕ
operations_text [] = ascii "-"
operations_text (t ∷ ts) = spaced (t ∷ ts)

-- a phase, from its codes and its commands
unfoldable pub phase_of : List ℕ → List ℕ → List ℕ
phase_of codes commands = operations_text (zip_with operation_text codes commands)

-- ---- the codes and the commands of parts give the model's text

module _ (n : ℕ) (h : n ≤ largest) where
  kind : (p : Part) → InRing n p → kind_of (part_code p) ≡ kind_name p
  unfolding kind_of part_code kind_name
  kind (Generator k) r = let e = index_suc k r.0 in rw (lt-ltb (0 + index k) 32 (omega arith))
  kind (GeneratorBreaker k) r =
      let e = index_suc k r.0 in
      rw (le-ltb (32 + index k) 32 (omega arith), lt-ltb (32 + index k) 64 (omega arith))
  kind (BusBreaker k) r = rw (le-ltb (64 + index k) 32 (omega arith), le-ltb (64 + index k) 64 (omega arith))

  numbered : (p : Part) → InRing n p → part_code p % 32 + 1 ≡ number p
  unfolding part_code
  numbered (Generator k) r = omega (arith, index_suc k r.0)
  numbered (GeneratorBreaker k) r = omega (arith, index_suc k r.0)
  numbered (BusBreaker k) r = omega (arith, index_suc k r.0)

  pub part_name_lem : (p : Part) → InRing n p → name_of (part_code p) ≡ part_name p
  unfolding name_of
  part_name_lem p m = rw (kind p m, numbered p m)

  -- the parts of a phase, whose commands are all v
  module _ (v : ℕ) (s : String) (e : ascii s ≡ sign v ∷ []) where
    operations : (ps : List Part) → ((p : Part) → p ∈ ps → InRing n p)
        → zip_with operation_text (map part_code ps) (map (λ p. v) ps) ≡ map (λ p. part_name p ++ ascii s) ps
    unfolding zip_with
    operations [] r = refl
    operations (p ∷ ps) r =
        rw (part_name_lem p (r p (Memᴰ.head refl)))
        (ap (λ l. (part_name p ++ (sign v ∷ [])) ∷ l) (operations ps (λ q k. r q (Memᴰ.tail k))) ∙
        ap (λ t. (part_name p ++ t) ∷ map (λ q. part_name q ++ ascii s) ps) (sym e))

    phase : (ps : List Part) → ((p : Part) → p ∈ ps → InRing n p) → phase_of (map part_code ps) (map (λ p. v) ps) ≡ phase_text s ps
    unfolding phase_of phase_text operations_text
    phase [] r = rw (operations [] r)
    phase (p ∷ ps) r = rw (operations (p ∷ ps) r)

  pub opening_parts : (ps : List Part) → ((p : Part) → p ∈ ps → InRing n p) → phase_of (map part_code ps) (map (λ p. 0) ps) ≡ phase_text "-" ps
  unfolding ascii
  opening_parts = phase 0 "-" refl

  pub closing_parts : (ps : List Part) → ((p : Part) → p ∈ ps → InRing n p) → phase_of (map part_code ps) (map (λ p. 1) ps) ≡ phase_text "+" ps
  unfolding ascii
  closing_parts = phase 1 "+" refl

-- ---- one operation after the other

-- a name as it is appended: its kind, then its number k with the byte behind it
pub marked_name_lem : (c mark k : ℕ) {l l' l'' : List ℕ} {at j end : ℕ} → k ≡ c % 32 + 1
    → Appended (kind_of c) l at l' j → Appended (marked k mark) l' j l'' end → Appended (marked_name c mark) l at l'' end
unfolding name_of
marked_name_lem c mark k e kind number =
    rw (← e, append_assoc (kind_of c) (decimal k) (mark ∷ [])) (appended_more kind number)

-- one more of each
zip_one : {A B C : Type 0} (f : A → B → C) (xs : List A) (ys : List B) (x : A) (y : B) → length xs ≡ length ys
    → zip_with f (xs ++ (x ∷ [])) (ys ++ (y ∷ [])) ≡ zip_with f xs ys ++ (f x y ∷ [])
unfolding zip_with
zip_one f [] [] x y e = refl
zip_one f [] (b ∷ ys) x y e = absurd (omega arith)
zip_one f (a ∷ xs) [] x y e = absurd (omega arith)
zip_one f (a ∷ xs) (b ∷ ys) x y e = ap (λ l. f a b ∷ l) (zip_one f xs ys x y (omega arith))

-- the first i operations, each behind a space
abbrev pub first_operations : List ℕ → List ℕ → ℕ → List ℕ
first_operations codes commands i = behind_spaces (zip_with operation_text (take i codes) (take i commands))

module _ (codes commands : List ℕ) (i : ℕ) (e : length commands ≡ length codes) where
  -- one operation more
  pub first_more : i < length codes
      → first_operations codes commands (i + 1) ≡ first_operations codes commands i ++
      (ascii " " ++ operation_text (get_or codes i 0) (get_or commands i 0))
  unfolding ascii
  first_more h =
      let l : length (take i codes) ≡ length (take i commands) = length-take-le i codes (omega arith) ∙ sym
      (length-take-le i commands (omega arith)) in
      rw (
        add-one,
        take-suc codes i 0 h,
        take-suc commands i 0 (omega arith),
        zip_one operation_text (take i codes) (take i commands)
            (get_or codes i 0) (get_or commands i 0) l,
      )
      (behind_one (zip_with operation_text (take i codes) (take i commands)) (operation_text (get_or codes i 0) (get_or commands i 0)))

  -- all of them
  pub first_all : i ≡ length codes → first_operations codes commands i ≡ behind_spaces (zip_with operation_text codes commands)
  first_all h = rw (take_all i codes (omega arith), take_all i commands (omega arith))

-- an empty phase, and any other
pub phase_none : (codes commands : List ℕ) → length codes ≡ 0 → phase_of codes commands ≡ ascii "-"
unfolding phase_of operations_text zip_with
phase_none [] commands e = refl
phase_none (c ∷ codes) commands e = absurd (omega arith)

pub phase_some : (codes commands : List ℕ) → length commands ≡ length codes → (length codes ≡ 0 → ⊥)
    → ascii " / " ++ phase_of codes commands ≡ ascii " /" ++ behind_spaces (zip_with operation_text codes commands)
unfolding phase_of operations_text zip_with ascii
phase_some [] commands e h = absurd (h refl)
phase_some (c ∷ codes) [] e h = absurd (omega arith)
phase_some (c ∷ codes) (v ∷ commands) e h =
    ap (λ l. code " " ∷ code "/" ∷ l)
    (behind_spaced (operation_text c v ∷ zip_with operation_text codes commands) (omega arith))

-- ---- lengths

pub kind_length : (c : ℕ) → length (kind_of c) ≤ 2
unfolding kind_of ascii
kind_length c = go (ltb c 32) (ltb c 64)
  where
    go : (s t : Bool) → length (cond s (ascii "G") (cond t (ascii "GB") (ascii "BB"))) ≤ 2
    go true t = omega arith
    go false true = omega arith
    go false false = omega arith

-- `BB20` is the longest
name_length : (c : ℕ) → length (name_of c) ≤ 4
unfolding name_of
name_length c =
    omega (arith, length-append (kind_of c) (decimal (c % 32 + 1)), kind_length c, decimal_length 1 (c % 32 + 1) (omega arith))

pub marked_name_length : (c mark : ℕ) → length (marked_name c mark) ≤ 5
marked_name_length c mark = omega (arith, length-append (name_of c) (mark ∷ []), name_length c)

pub operations_length : (codes commands : List ℕ) → length (behind_spaces (zip_with operation_text codes commands)) ≤ 6 * length codes
unfolding behind_spaces zip_with
operations_length [] commands = omega arith
operations_length (c ∷ codes) [] = omega arith
operations_length (c ∷ codes) (v ∷ commands) =
    omega (
      arith,
      length-append (operation_text c v) (behind_spaces (zip_with operation_text codes commands)),
      marked_name_length c (sign v),
      operations_length codes commands,
    )

pub phase_length : (codes commands : List ℕ) → length commands ≡ length codes → length (phase_of codes commands) ≤ 1 + 6 * length codes
unfolding ascii
phase_length codes commands e = go (dec_eq (length codes) 0)
  where
    go : (length codes ≡ 0) ⊎ (length codes ≡ 0 → ⊥) → length (phase_of codes commands) ≤ 1 + 6 * length codes
    go (inl p) = rw (phase_none codes commands p) (omega arith)
    go (inr p) = omega (arith, ap length (phase_some codes commands e p), operations_length codes commands)
