-- Operations performed in any order, and that the bytes of a sheet decode to its operations.
use Rattle.std.specs.Prelude.{◌≡◌, refl, Bool, true, false, not, ◌&&◌, ◌⊎◌, ℕ, suc, ◌+◌, ◌*◌, ◌≤◌, length, take, drop}
use Rattle.std.proofs.Common.{sym, ◌∙◌, ap, ap₂, inl, inr, arith, length-append, take_at, drop_at, le-leb}
use mathlib.Core.List.Memᴰ
use mathlib.Core.List.Permᴰ
use mathlib.Core.List.{
  List,
  [],
  ◌∷◌,
  ◌++◌,
  map,
  append_assoc,
  Permᴰ,
}
use Rattle.std.proofs.Math.Option.{some}
use Rattle.std.proofs.lemmas.List.{length-map}
use Rattle.std.proofs.lemmas.Bool.{not-true}
use Rattle.model.specs.declared.Part.{Part}
use Rattle.model.specs.Values.{part_code, same_part}
use Rattle.model.specs.Plant.{PartCommands, largest, parts, InRing}
use Rattle.model.specs.Sheet.{opening, sheet_of, written}
use Rattle.model.specs.Laws.Tests.{contra, dec, and_left, and_right, and_intro, not_of}
use Rattle.model.specs.Lists.{◌∈◌}
use Rattle.model.specs.Laws.Lists.{map_at, keep_at, keep_in}
use Rattle.model.specs.Laws.Parts.{parts_in, parts_at, same_eq, same_refl}
use Rattle.model.specs.Laws.Reports.{named_code}
use Rattle.demands.specs.Statements.Demand3.{
  PlantState,
  Operation,
  operation,
  perform,
  perform_all,
  command_named,
  with_operation,
  operations,
  phases_at,
  decode,
  AnyOrder,
}

-- ---- performing

-- operations change no health
pub perform_health : (os : List Operation) (P : PlantState) → (perform_all os P).health ≡ P.health
unfolding perform_all perform
perform_health [] P = refl
perform_health (o ∷ os) P = perform_health os (perform o P)

-- a part's last command after operations that all command c: c where one of them is on the part, and else as before
pub data Struck (c : Bool) (os : List Operation) (P : PlantState) (p : Part) : Type 0 where
  hit : operation c p ∈ os → (perform_all os P).last p ≡ c → Struck c os P p
  miss : (operation c p ∈ os → ⊥) → (perform_all os P).last p ≡ P.last p → Struck c os P p

pub struck : (c : Bool) (os : List Operation) (P : PlantState) (p : Part) → ((o : Operation) → o ∈ os → o.command ≡ c) → Struck c os P p
unfolding perform_all perform
struck c [] P p all = miss (λ m. Memᴰ.not-nil m) refl
struck c (o ∷ os) P p all = go (struck c os (perform o P) p (λ x m. all x (Memᴰ.tail m))) (dec (same_part p o.part))
  where
    is_c : o.command ≡ c
    is_c = all o (Memᴰ.head refl)

    go : Struck c os (perform o P) p → (same_part p o.part ≡ true) ⊎ (same_part p o.part ≡ false) → Struck c (o ∷ os) P p
    go (hit m e) s = hit (Memᴰ.tail m) e
    go (miss m e) (inl s) =
        let z : operation c p ≡ o = λ i. record { part = same_eq p o.part s i; command = sym is_c i } in
        hit (Memᴰ.head z) (e ∙ rw s is_c)
    go (miss m e) (inr s) = miss out (e ∙ rw s)
      where
        out : operation c p ∈ o ∷ os → ⊥
        out k = pick (Memᴰ.cases_cons k)
          where
            pick : (operation c p ≡ o) ⊎ (operation c p ∈ os) → ⊥
            pick (inl z) = contra (same_refl p) (rw (← ap (λ (x : Operation). x.part) z) at s)
            pick (inr z) = m z

-- ---- any order

pub any_order : {xs phase : List Operation} → AnyOrder xs phase → Permᴰ xs phase
any_order d = d

pub sheet_order : (phase : List Operation) → AnyOrder phase phase
sheet_order phase = Permᴰ.refl phase

pub perm_in : {A : Type 0} {x : A} {xs ys : List A} → Permᴰ xs ys → x ∈ xs → x ∈ ys
perm_in Permᴰ.nil m = m
perm_in {x = x} (Permᴰ.cons {a = a} {b = b} {l₁ = l₁} {l₂ = l₂} e d) m = go (λ k. perm_in d k) (Memᴰ.cases_cons m)
  where
    go : (x ∈ l₁ → x ∈ l₂) → (x ≡ a) ⊎ (x ∈ l₁) → x ∈ b ∷ l₂
    go r (inl p) = Memᴰ.head (p ∙ e)
    go r (inr p) = Memᴰ.tail (r p)
perm_in {x = x} (Permᴰ.swap {a = a} {b = b} {a' = a'} {b' = b'} {l = l} e f) m = go (Memᴰ.cases_cons m)
  where
    second : (x ≡ b) ⊎ (x ∈ l) → x ∈ a' ∷ b' ∷ l
    second (inl p) = Memᴰ.head (p ∙ f)
    second (inr p) = Memᴰ.tail (Memᴰ.tail p)

    go : (x ≡ a) ⊎ (x ∈ b ∷ l) → x ∈ a' ∷ b' ∷ l
    go (inl p) = Memᴰ.tail (Memᴰ.head (p ∙ e))
    go (inr p) = second (Memᴰ.cases_cons p)
perm_in (Permᴰ.trans d e) m = perm_in e (perm_in d m)

-- an operation that commands c on each of some parts
pub operation_at : (c : Bool) (ps : List Part) (o : Operation) → o ∈ map (operation c) ps → (o.command ≡ c) × (o.part ∈ ps)
operation_at c ps o m = let t = map_at (operation c) ps m in (rw t.2, rw t.2 t.1)

-- ---- the opening phase

pub opening_at : (n : ℕ) (C D : PartCommands) (p : Part) → p ∈ opening n C D → InRing n p × (C p ≡ true) × (D p ≡ false)
unfolding opening
opening_at n C D p m =
    let t = keep_at (λ q. C q && not (D q)) (parts n) m in
    (parts_at n p t.0, and_left (C p) _ t.1, not-true (D p) (and_right (C p) _ t.1))

pub opening_in : (n : ℕ) (C D : PartCommands) (p : Part) → InRing n p → C p ≡ true → D p ≡ false → p ∈ opening n C D
unfolding opening
opening_in n C D p r c d = keep_in (λ q. C q && not (D q)) (parts_in n p r) (and_intro (C p) _ c (not_of (D p) d))

-- ---- the bytes

-- all of a list are parts of the ring
abbrev pub AllInRing : ℕ → List Part → Type 0
AllInRing n ps = (p : Part) → p ∈ ps → InRing n p

-- the codes of parts, each beside the byte b that names command c
one_command : (n : ℕ) (b : ℕ) (c : Bool) → command_named b ≡ some c → n ≤ largest → (ps : List Part) → AllInRing n ps
    → operations n (map part_code ps) (map (λ p. b) ps) ≡ some (map (operation c) ps)
unfolding operations with_operation
one_command n b c e h [] all = refl
one_command n b c e h (p ∷ ps) all =
    rw (named_code n p h (all p (Memᴰ.head refl)), e, one_command n b c e h ps (λ q m. all q (Memᴰ.tail m)))

both_commands : (n : ℕ) → n ≤ largest → (xs ys : List Part) → AllInRing n xs → AllInRing n ys
    → operations n (map part_code (xs ++ ys)) (map (λ p. 0) xs ++ map (λ p. 1) ys) ≡ some
    (map (operation false) xs ++ map (operation true) ys)
unfolding operations with_operation command_named
both_commands n h [] ys ax ay = one_command n 1 true refl h ys ay
both_commands n h (p ∷ xs) ys ax ay =
    rw (named_code n p h (ax p (Memᴰ.head refl)), both_commands n h xs ys (λ q m. ax q (Memᴰ.tail m)) ay)

-- the sheet's two arrays
codes : List Part → List Part → List ℕ
codes xs ys = map part_code (xs ++ ys)

bytes : List Part → List Part → List ℕ
bytes xs ys = map (λ p. 0) xs ++ map (λ p. 1) ys

codes_length : (xs ys : List Part) → length (codes xs ys) ≡ length xs + length ys
unfolding codes
codes_length xs ys = length-map (xs ++ ys) part_code ∙ length-append xs ys

bytes_length : (xs ys : List Part) → length (bytes xs ys) ≡ length xs + length ys
unfolding bytes
bytes_length xs ys = length-append (map (λ p. 0) xs) (map (λ p. 1) ys) ∙ ap₂ ◌+◌ (length-map xs (λ p. 0)) (length-map ys (λ p. 1))

module _ (xs ys : List Part) (rest : List ℕ) where
  -- what stands behind the sizes
  take_codes : take (length xs + length ys) ((codes xs ys ++ bytes xs ys) ++ rest) ≡ codes xs ys
  take_codes = rw append_assoc (take_at (codes xs ys) (bytes xs ys ++ rest) (length xs + length ys) (codes_length xs ys))

  take_bytes : take (length xs + length ys) (drop (length xs + length ys) ((codes xs ys ++ bytes xs ys) ++ rest)) ≡ bytes xs ys
  take_bytes =
      rw (append_assoc, drop_at (codes xs ys) (bytes xs ys ++ rest) (length xs + length ys) (codes_length xs ys))
      (take_at (bytes xs ys) rest (length xs + length ys) (bytes_length xs ys))

  behind_length : length ((codes xs ys ++ bytes xs ys) ++ rest) ≡ (length xs + length ys) + (length xs + length ys) + length rest
  behind_length = simp (length-append) (omega (arith, (codes_length xs ys), (bytes_length xs ys)))

decode_behind : (n a b : ℕ) (l : List ℕ) → a + b + (a + b) ≤ length l
    → decode n (a ∷ b ∷ l) ≡ phases_at a (operations n (take (a + b) l) (take (a + b) (drop (a + b) l)))
unfolding decode
decode_behind n a b l h =
    let e : 2 + (a + b) ≡ suc (suc (a + b)) = omega arith in
    rw (le-leb (2 + 2 * (a + b)) (suc (suc (length l))) (omega arith), e)

phases_split : (xs ys : List Part)
    → phases_at (length xs) (some (map (operation false) xs ++ map (operation true) ys)) ≡ some
    (record { first = map (operation false) xs; second = map (operation true) ys })
unfolding phases_at
phases_split xs ys =
    let e : length (map (operation false) xs) ≡ length xs = length-map xs (operation false) in
    let opened = map (operation false) xs in
    let closed = map (operation true) ys in
    rw (take_at opened closed (length xs) e, drop_at opened closed (length xs) e)

-- the sheet's bytes, with anything behind them, decode to its operations
pub decode_sheet : (n : ℕ) → n ≤ largest → (xs ys : List Part) → AllInRing n xs → AllInRing n ys → (buffer : List ℕ)
    → decode n (written (sheet_of xs ys) buffer) ≡ some (record { first = map (operation false) xs; second = map (operation true) ys })
unfolding written sheet_of codes bytes
decode_sheet n h xs ys ax ay buffer =
    decode_behind n (length xs) (length ys) (codes xs ys ++ bytes xs ys ++ rest) (omega (arith, behind_length xs ys rest))
    ∙ rw (take_codes xs ys rest, take_bytes xs ys rest, both_commands n h xs ys ax ay) (phases_split xs ys)
  where
    rest : List ℕ
    rest = drop (length (sheet_of xs ys)) buffer
