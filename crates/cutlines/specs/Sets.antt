-- The text of a bus's minimal cut sets made from the bytes of their sheet: a count of two bytes, then three bytes a set.
use Rattle.std.specs.Prelude.{◌≡◌, false, cond, ◌⊎◌, ◌≢◌, ℕ, suc, ◌+◌, ◌-◌, ◌*◌, ◌≤◌, ◌<◌, eqb, length, get_or, take, drop}
use Rattle.std.proofs.Math.Path.{refl, sym, ap}
use Rattle.std.proofs.Common.{◌∙◌, inl, inr, add-one, arith, length-append}
use mathlib.Core.List.Memᴰ
use mathlib.Core.List.{List, [], ◌∷◌, ◌++◌, map, map-append, append_assoc}
use Prim.Native.Char.{code}
use Rattle.std.proofs.lemmas.List.{length-map, length-take-le, length-drop, get_or-take, get_or-drop, get_or_append_left, drop_at, drop-drop}
use borrow.Author.Tests.{eq-eqb, ne_eqb}
use Rattle.model.specs.declared.Part.{Part}
use Rattle.model.specs.declared.Part.TheVariants.{Generator, GeneratorBreaker, BusBreaker}
use Rattle.model.specs.Lists.{below, ◌∈◌}
use Rattle.model.specs.Values.{part_code}
use Rattle.model.specs.Plant.{largest, InRing}
use Rattle.model.specs.CutSets.{set_bytes, cut_sheet}
use Rattle.model.specs.Text.{ascii, decimal, spaced, joined, part_name}
use Rattle.model.specs.CutText.{set_line, count_line, cut_text}
use Rattle.model.specs.Laws.Tests.{dec_eq}
use Rattle.model.specs.Laws.Lists.{at_in, below_length, map_index, map_at}
use Rattle.model.specs.Laws.Parts.{index_suc}
use Rattle.model.specs.Laws.CutSets.{sheet_byte, Few}
use Rattle.model.specs.Laws.Appended.{Appended, appended_none, appended_more}
use Rattle.model.specs.Laws.Spaced.{joined_one, joined_length}
use Rattle.numbers.specs.Numbers.{marked, decimal_length}
use Rattle.operations.specs.Operations.{name_of, marked_name, marked_name_length, part_name_lem}

-- ---- definitions

-- the part codes among a set's bytes: those before the first 255
unfoldable pub used : List ℕ → List ℕ
used [] = []
used (c ∷ cs) = let rest = used cs in cond (eqb c 255) [] (c ∷ rest)

-- the line of the parts that have these codes; a lone `-` where there are none
unfoldable pub codes_line : List ℕ → List ℕ
codes_line [] = ascii "-\n"
codes_line (c ∷ cs) = spaced (map name_of (c ∷ cs)) ++ ascii "\n"

-- the line of a set's three bytes
unfoldable pub bytes_line : ℕ → ℕ → ℕ → List ℕ
bytes_line a b c = codes_line (used (a ∷ b ∷ c ∷ []))

-- .. of those from an index on
unfoldable pub line_from : List ℕ → ℕ → List ℕ
line_from bytes k = bytes_line (get_or bytes k 0) (get_or bytes (suc k) 0) (get_or bytes (suc (suc k)) 0)

-- the lines of the first k sets
unfoldable pub lines_of : List ℕ → ℕ → List ℕ
lines_of bytes k = joined (map (λ i. line_from bytes (2 + 3 * i)) (below k))

-- the text of a bus that has this many sets
unfoldable pub text_of : ℕ → ℕ → List ℕ → List ℕ
text_of bus count bytes = count_line bus count ++ lines_of bytes count

-- ---- one set, as it is appended

-- a part's name and the byte behind it, by the code behind the part's: a space, or a line feed behind the last part
unfoldable pub name_before : ℕ → ℕ → List ℕ
name_before c d = marked_name c (cond (eqb d 255) (code "\n") (code " "))

pub before_unused : (c d : ℕ) → d ≡ 255 → name_before c d ≡ marked_name c (code "\n")
unfolding name_before
before_unused c d e = rw (eq-eqb d 255 e)

pub before_part : (c d : ℕ) → d ≢ 255 → name_before c d ≡ marked_name c (code " ")
unfolding name_before
before_part c d e = rw (ne_eqb d 255 e)

-- a set of no part, of one, of two and of three
pub line_none : (a b c : ℕ) → a ≡ 255 → bytes_line a b c ≡ ascii "-\n"
unfolding bytes_line used codes_line
line_none a b c e = rw (eq-eqb a 255 e)

module _ (a b c : ℕ) (ne : a ≢ 255) where
  pub line_one : b ≡ 255 → bytes_line a b c ≡ name_before a b
  unfolding bytes_line name_before used codes_line spaced ascii
  line_one e = rw (ne_eqb a 255 ne, eq-eqb b 255 e)

  module _ (ne' : b ≢ 255) where
    pub line_two : c ≡ 255 → bytes_line a b c ≡ name_before a b ++ name_before b c
    unfolding bytes_line name_before used codes_line spaced ascii
    line_two e = rw (ne_eqb a 255 ne, ne_eqb b 255 ne', eq-eqb c 255 e) (simp append_assoc)

    pub line_three : c ≢ 255 → bytes_line a b c ≡ name_before a b ++ name_before b c ++ name_before c 255
    unfolding bytes_line name_before used codes_line spaced ascii
    line_three ne'' = rw (ne_eqb a 255 ne, ne_eqb b 255 ne', ne_eqb c 255 ne'') (simp append_assoc)

-- ---- one set after the other

pub lines_none : (bytes : List ℕ) (i : ℕ) {l : List ℕ} {at : ℕ} → i ≡ 0 → Appended (lines_of bytes i) l at l at
unfolding lines_of joined below
lines_none bytes i e = rw e (appended_none _ _)

-- one set more
pub lines_more : (bytes : List ℕ) (i first : ℕ) {l l' l'' : List ℕ} {at j k : ℕ} → first ≡ 2 + 3 * i
    → Appended (lines_of bytes i) l at l' j → Appended (line_from bytes first) l' j l'' k → Appended (lines_of bytes (i + 1)) l at l'' k
unfolding lines_of below
lines_more bytes i first e before next =
    rw (add-one, map-append, joined_one (map (λ j. line_from bytes (2 + 3 * j)) (below i)) (line_from bytes (2 + 3 * i)), ← e)
    (appended_more before next)

-- the bytes of the first sets, three by three: what is left after k of them
module _ (sheet : List ℕ) (count : ℕ) (h : 2 + 3 * count ≤ length sheet) where
  abbrev stretch : List ℕ
  stretch = take (2 + 3 * count - 2) (drop 2 sheet)

  stretch_length : length stretch ≡ 3 * count
  stretch_length = length-take-le (2 + 3 * count - 2) (drop 2 sheet) (omega (arith, length-drop 2 sheet)) ∙ omega arith

  stretch_at : (i : ℕ) → i < 3 * count → get_or stretch i 0 ≡ get_or sheet (2 + i) 0
  stretch_at i l = get_or-take (2 + 3 * count - 2) (drop 2 sheet) i 0 (omega arith) ∙ get_or-drop 2 sheet i 0

  module _ (k : ℕ) {rest : List ℕ} (left : rest ≡ drop (3 * k) stretch) where
    left_length : length rest ≡ 3 * count - 3 * k
    left_length = ap length left ∙ length-drop (3 * k) stretch ∙ omega (arith, stretch_length)

    -- none is left
    pub sets_end : k ≤ count → length rest < 3 → k ≡ count
    sets_end m l = omega (arith, left_length)

    -- the next one: its line, and what is left after it
    pub sets_turn : (set after : List ℕ) → rest ≡ set ++ after → length set ≡ 3
        → (k < count) × (after ≡ drop (3 * (k + 1)) stretch)
        × (bytes_line (get_or set 0 0) (get_or set 1 0) (get_or set 2 0) ≡ line_from sheet (2 + 3 * k))
    unfolding line_from
    sets_turn set after e l =
        (more, behind, rw (byte 0 (2 + 3 * k) (omega arith, omega arith), byte 1 (suc (2 + 3 * k)) (omega arith, omega arith), byte 2 (suc (suc (2 + 3 * k))) (omega arith, omega arith)))
      where
        more : k < count
        more = omega (arith, left_length, ap length e, length-append set after)

        behind : after ≡ drop (3 * (k + 1)) stretch
        behind = sym (drop_at set after 3 l) ∙ ap (drop 3) (sym e ∙ left) ∙ drop-drop 3 (3 * k) stretch ∙ ap (λ n. drop n stretch) (omega arith)

        byte : (i j : ℕ) → (i < 3) × (j ≡ 2 + (3 * k + i)) → get_or set i 0 ≡ get_or sheet j 0
        byte i j m =
            sym (get_or_append_left set after 0 i (omega (arith, m))) ∙ ap (λ xs. get_or xs i 0) (sym e ∙ left)
            ∙ get_or-drop (3 * k) stretch i 0 ∙ stretch_at (3 * k + i) (omega (arith, more, m)) ∙ ap (λ n. get_or sheet n 0) (sym m.1)

-- ---- the bus's line and the whole text, as they are appended

abbrev count_parts : ℕ → ℕ → List ℕ
count_parts bus count = ascii "B" ++ marked bus (code " ") ++ decimal count ++ ascii "\n"

count_line_lem : (bus count : ℕ) → count_line bus count ≡ count_parts bus count
unfolding count_line ascii
count_line_lem bus count = simp append_assoc

-- from numbers that are those of the bus and of its sets, however they are said
module _ (bus count b k : ℕ) (e : b ≡ bus) (f : k ≡ count) where
  pub count_parts_lem : count_line bus count ≡ count_parts b k
  count_parts_lem = rw (← e, ← f) (count_line_lem b k)

  pub text_parts : (i : ℕ) (bytes : List ℕ) {l l' l'' : List ℕ} {j end : ℕ} → i ≡ count
      → Appended (count_line b k) l 0 l' j → Appended (lines_of bytes i) l' j l'' end → Appended (text_of bus count bytes) l 0 l'' end
  unfolding text_of
  text_parts i bytes g head lines = rw (← e, ← f) (appended_more head (rw (g ∙ sym f) at lines))

-- ---- lengths

name_before_length : (c d : ℕ) → length (name_before c d) ≤ 5
unfolding name_before
name_before_length c d = marked_name_length c _

pub name_before_end : (c d : ℕ) {l l' : List ℕ} {i j : ℕ} → Appended (name_before c d) l i l' j → j ≤ i + 5
name_before_end c d a = omega (arith, a.end, name_before_length c d)

-- `BB20 BB20 BB20` and a line feed is the longest
line_length : (a b c : ℕ) → length (bytes_line a b c) ≤ 15
unfolding ascii
line_length a b c = go (dec_eq a 255) (dec_eq b 255) (dec_eq c 255)
  where
    two : length (name_before a b ++ name_before b c) ≤ 10
    two = omega (arith, length-append (name_before a b) (name_before b c), name_before_length a b, name_before_length b c)

    go : (a ≡ 255) ⊎ (a ≢ 255) → (b ≡ 255) ⊎ (b ≢ 255) → (c ≡ 255) ⊎ (c ≢ 255) → length (bytes_line a b c) ≤ 15
    go (inl e) q r = rw (line_none a b c e) (omega arith)
    go (inr p) (inl e) r = rw (line_one a b c p e) (omega (arith, name_before_length a b))
    go (inr p) (inr q) (inl e) = rw (line_two a b c p q e) (omega (arith, two))
    go (inr p) (inr q) (inr r) =
        rw (line_three a b c p q r)
        (omega (arith, length-append (name_before a b ++ name_before b c) (name_before c 255), two, name_before_length c 255))

pub lines_length : (bytes : List ℕ) (k : ℕ) → length (lines_of bytes k) ≤ 15 * k
unfolding lines_of line_from
lines_length bytes k = omega (arith, joined_length 15 (map f (below k)) each, length-map (below k) f, below_length k)
  where
    f : ℕ → List ℕ
    f i = line_from bytes (2 + 3 * i)

    each : (t : List ℕ) → t ∈ map f (below k) → length t ≤ 15
    each t m = let x = map_at f (below k) m in rw x.2 (line_length _ _ _)

count_length : (bus count : ℕ) → bus < 100 → count < 100000 → length (count_line bus count) ≤ 10
unfolding count_line ascii
count_length bus count h l =
    omega (
      arith,
      length-append (decimal bus) (ascii " " ++ (decimal count ++ ascii "\n")),
      length-append (decimal count) (ascii "\n"),
      decimal_length 1 bus h,
      decimal_length 4 count l,
    )

pub count_end : (bus count : ℕ) {l l' : List ℕ} {i j : ℕ} → Appended (count_line bus count) l i l' j → bus < 100 → count < 100000
    → j ≤ i + 10
count_end bus count a h l = omega (arith, a.end, count_length bus count h l)

pub text_length : (bus count : ℕ) (bytes : List ℕ) → bus < 100 → count < 100000 → length (text_of bus count bytes) ≤ 10 + 15 * count
unfolding text_of
text_length bus count bytes h l =
    omega (arith, length-append (count_line bus count) (lines_of bytes count), count_length bus count h l, lines_length bytes count)

-- ---- the text of a sheet is the model's

module _ (n : ℕ) (h : n ≤ largest) where
  -- no part's code says unused
  other_code : (p : Part) → InRing n p → part_code p ≢ 255
  unfolding part_code
  other_code (Generator k) r e = omega (arith, index_suc k r.0)
  other_code (GeneratorBreaker k) r e = omega (arith, index_suc k r.0)
  other_code (BusBreaker k) r e = omega (arith, index_suc k r.0)

  -- so that it gives the part's name
  named : (p : Part) → InRing n p → (eqb (part_code p) 255 ≡ false) × (name_of (part_code p) ≡ part_name p)
  named p m = (ne_eqb (part_code p) 255 (other_code p m), part_name_lem n h p m)

  set_line_lem : (S : List Part) → Few n S → bytes_line (get_or (set_bytes S) 0 0) (get_or (set_bytes S) 1 0) (get_or (set_bytes S) 2 0) ≡ set_line S
  unfolding set_bytes bytes_line used codes_line set_line
  set_line_lem [] f = refl
  set_line_lem (p ∷ []) f = let a = named p (f.1 p (Memᴰ.head refl)) in rw (a.0, a.1)
  set_line_lem (p ∷ q ∷ []) f =
      let a = named p (f.1 p (Memᴰ.head refl)) in
      let b = named q (f.1 q (Memᴰ.tail (Memᴰ.head refl))) in
      rw (a.0, b.0, a.1, b.1)
  set_line_lem (p ∷ q ∷ r ∷ []) f =
      let a = named p (f.1 p (Memᴰ.head refl)) in
      let b = named q (f.1 q (Memᴰ.tail (Memᴰ.head refl))) in
      let c = named r (f.1 r (Memᴰ.tail (Memᴰ.tail (Memᴰ.head refl)))) in
      rw (a.0, b.0, c.0, a.1, b.1, c.1)
  set_line_lem (p ∷ q ∷ r ∷ s ∷ S) f = absurd (omega (arith, f.0))

  module _ (sets : List (List Part)) (few : (S : List Part) → S ∈ sets → Few n S) (rest : List ℕ) where
    line_is : (i : ℕ) → i < length sets → line_from (cut_sheet sets ++ rest) (2 + 3 * i) ≡ set_line (get_or sets i [])
    unfolding line_from
    line_is i l =
        rw (
          sheet_byte sets rest i 0 (2 + 3 * i) l (omega arith) (omega arith),
          sheet_byte sets rest i 1 (suc (2 + 3 * i)) l (omega arith) (omega arith),
          sheet_byte sets rest i 2 (suc (suc (2 + 3 * i))) l (omega arith) (omega arith),
        )
        (set_line_lem (get_or sets i []) (few _ (at_in sets i [] l)))

    -- whatever stands behind the sheet
    pub cut_text_lem : (bus : ℕ) → text_of bus (length sets) (cut_sheet sets ++ rest) ≡ cut_text bus sets
    unfolding text_of lines_of cut_text
    cut_text_lem bus =
        ap (λ ts. count_line bus (length sets) ++ joined ts) (map_index (λ i. line_from (cut_sheet sets ++ rest) (2 + 3 * i)) set_line sets [] line_is)
