-- A line of the printed run made from the command sheet's bytes. Codes and commands are bytes, sizes are the sheet's first two.
use Rattle.std.specs.Prelude.{◌≡◌, get_or, take}
use Rattle.std.proofs.Math.Path.{refl}
use Rattle.std.proofs.Common.{◌∙◌, length-drop, length-take-le}
use mathlib.Core.List.{List, [], ◌∷◌, ◌++◌, map, map-append, append_assoc}
use Prim.Native.Nat.{ℕ, ◌+◌, ◌-◌, ◌*◌, ◌≤◌, ◌<◌}
use native.Mathlib.Omega.{arith}
use Rattle.std.proofs.Math.ListN.{length, drop, length-append, length-map}
use Rattle.std.proofs.Math.Seq.{take-append_seam, drop-append_seam}
use Rattle.model.specs.declared.Part.{Part}
use Rattle.model.specs.declared.BusChoice.{BusChoice}
use Rattle.model.specs.Lists.{below, ◌∈◌}
use Rattle.model.specs.Values.{part_code}
use Rattle.model.specs.Plant.{largest, InRing}
use Rattle.model.specs.Sheet.{sheet_of, written}
use Rattle.model.specs.Text.{ascii, decimal, spaced, bus_text, line, line_room}
use Rattle.model.specs.Laws.Lists.{below_length}
use Rattle.numbers.specs.Numbers.{decimal_length}
use Rattle.model.specs.Laws.Spaced.{behind_spaces, behind_spaced}
use Rattle.buses.specs.Buses.{AllNamed, buses_length}
use Rattle.operations.specs.Operations.{phase_of, opening_parts, closing_parts, phase_length}

-- ---- definitions

-- the bytes from one index to another
abbrev pub stretch : ℕ → ℕ → List ℕ → List ℕ
stretch from to bytes = take (to - from) (drop from bytes)

-- the size of the opening phase
abbrev pub opening_size : List ℕ → ℕ
opening_size bytes = get_or bytes 0 0

-- .. and of the closing phase
abbrev pub closing_size : List ℕ → ℕ
closing_size bytes = get_or bytes 1 0

-- a phase behind ` / `: k codes from one index on, and their commands from another
abbrev pub phase_at : List ℕ → ℕ → ℕ → ℕ → List ℕ
phase_at bytes k from from' = ascii " / " ++ phase_of (stretch from (from + k) bytes) (stretch from' (from' + k) bytes)

-- "its sizes first .., then two parallel arrays: the part codes of both waves, then the orders"
abbrev pub opening_text : List ℕ → List ℕ
opening_text bytes = let a = opening_size bytes in let b = closing_size bytes in phase_at bytes a 2 (2 + a + b)

-- .. and the closing phase
abbrev pub closing_text : List ℕ → List ℕ
closing_text bytes = let a = opening_size bytes in let b = closing_size bytes in phase_at bytes b (2 + a) (2 + a + b + a)

-- the line: its number, each bus, both phases
unfoldable pub sheet_line : ℕ → ℕ → List BusChoice → List ℕ → List ℕ
sheet_line i n cs bytes =
    decimal i ++ (ascii " " ++ (spaced (map (bus_text cs) (below n)) ++ (opening_text bytes ++ (closing_text bytes ++ ascii "\n"))))

-- the bytes begin with a sheet that has no more operations than the largest ring has parts
pub record SheetBytes (bytes : List ℕ) : Type 0 where
  pub whole : 2 + 2 * (opening_size bytes + closing_size bytes) ≤ length bytes
  pub few : opening_size bytes + closing_size bytes ≤ 3 * largest

-- ---- a sheet's line is the model's

-- what stands in a list between two others
between : (ps l rs bytes : List ℕ) (from k : ℕ) → bytes ≡ ps ++ (l ++ rs) → length ps ≡ from → length l ≡ k
    → stretch from (from + k) bytes ≡ l
between ps l rs bytes from k e f g =
    let d : from + k - from ≡ length l = omega arith in
    rw (d, e, ← f, drop-append_seam ps (l ++ rs)) (take-append_seam l rs)

module _ (xs ys : List Part) (buffer : List ℕ) where
  pub sheet_is : length xs + length ys ≤ 3 * largest → SheetBytes (written (sheet_of xs ys) buffer)
  unfolding written sheet_of
  sheet_is h = record { whole = simp (length-append, length-map) (omega arith); few = h }

  pub sheet_line_lem : (i n : ℕ) (cs : List BusChoice) → n ≤ largest → ((p : Part) → p ∈ xs → InRing n p) → ((p : Part) → p ∈ ys → InRing n p)
      → sheet_line i n cs (written (sheet_of xs ys) buffer) ≡ line i n cs xs ys
  unfolding sheet_line line written sheet_of
  sheet_line_lem i n cs h r s =
      let bytes : List ℕ = written (sheet_of xs ys) buffer in
      let rest : List ℕ = drop (length (sheet_of xs ys)) buffer in
      let a = length xs in
      let b = length ys in
      let c : List ℕ = map part_code xs in
      let c' : List ℕ = map part_code ys in
      let v : List ℕ = map (λ p. 0) xs in
      let v' : List ℕ = map (λ p. 1) ys in
      let e : bytes ≡ a ∷ b ∷ (c ++ (c' ++ (v ++ (v' ++ rest)))) = simp (map-append, append_assoc) in
      rw (
        between (a ∷ b ∷ []) c (c' ++ (v ++ (v' ++ rest))) bytes 2 a e refl (length-map xs _),
        between (a ∷ b ∷ c) c' (v ++ (v' ++ rest)) bytes (2 + a) b e (simp length-map (omega arith)) (length-map ys _),
        between (a ∷ b ∷ (c ++ c')) v (v' ++ rest) bytes (2 + a + b) a (e ∙ simp append_assoc)
            (simp (length-append, length-map) (omega arith)) (length-map xs _),
        between (a ∷ b ∷ (c ++ c' ++ v)) v' rest bytes (2 + a + b + a) b (e ∙ simp append_assoc)
            (simp (length-append, length-map) (omega arith)) (length-map ys _),
        opening_parts n h xs r,
        closing_parts n h ys s,
      ) (simp append_assoc)

-- a line as it is appended
pub line_parts : (i n : ℕ) (cs : List BusChoice) (bytes : List ℕ) → 0 < n
    → sheet_line i n cs bytes ≡ decimal i ++ behind_spaces (map (bus_text cs) (below n)) ++
    (opening_text bytes ++ closing_text bytes) ++ ascii "\n"
unfolding sheet_line
line_parts i n cs bytes h =
    let e : 0 < length (map (bus_text cs) (below n)) = omega (arith, length-map (below n) (bus_text cs), below_length n) in
    rw (← behind_spaced (map (bus_text cs) (below n)) e) (simp append_assoc)

-- ---- lengths

stretch_length : (from to : ℕ) (bytes : List ℕ) → to ≤ length bytes → length (stretch from to bytes) ≡ to - from
stretch_length from to bytes h = length-take-le (to - from) (drop from bytes) (omega (arith, length-drop from bytes))

-- a phase whose codes and commands lie within the bytes
within : (bytes : List ℕ) (k from from' : ℕ) → from + k ≤ length bytes → from' + k ≤ length bytes
    → length (phase_at bytes k from from') ≤ 4 + 6 * k
unfolding ascii
within bytes k from from' h h' =
    let c = stretch_length from (from + k) bytes h in
    let v = stretch_length from' (from' + k) bytes h' in
    omega (arith, c, phase_length (stretch from (from + k) bytes) (stretch from' (from' + k) bytes) (omega arith))

module _ (bytes : List ℕ) (s : SheetBytes bytes) where
  pub opening_length : length (opening_text bytes) ≤ 4 + 6 * opening_size bytes
  opening_length =
      within bytes (opening_size bytes) 2 (2 + opening_size bytes + closing_size bytes) (omega (arith, s.whole)) (omega (arith, s.whole))

  pub closing_length : length (closing_text bytes) ≤ 4 + 6 * closing_size bytes
  closing_length =
      within bytes (closing_size bytes) (2 + opening_size bytes) (2 + opening_size bytes + closing_size bytes + opening_size bytes)
      (omega (arith, s.whole)) (omega (arith, s.whole))

  pub line_length : (i n : ℕ) (cs : List BusChoice) → i < 10000 → 0 < n → n ≤ largest → AllNamed n cs
      → length (sheet_line i n cs bytes) ≤ line_room
  unfolding ascii
  line_length i n cs h p l c =
      let a = decimal i in
      let b = behind_spaces (map (bus_text cs) (below n)) in
      let o = opening_text bytes in
      let d = closing_text bytes in
      rw (line_parts i n cs bytes p)
      (omega (
        arith,
        length-append (a ++ b ++ (o ++ d)) (ascii "\n"),
        length-append (a ++ b) (o ++ d),
        length-append a b,
        length-append o d,
        decimal_length 3 i h,
        buses_length cs n l c,
        opening_length,
        closing_length,
        s.few,
      ))
