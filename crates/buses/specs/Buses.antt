-- The texts of buses: what their appended parts make, and how long they are.
use Rattle.std.specs.Prelude.{◌≡◌, refl, ◌⊎◌, ℕ, suc, ◌+◌, ◌*◌, ◌≤◌, ◌<◌}
use Rattle.std.proofs.Common.{sym, ◌∙◌, inl, inr, add-one}
use Rattle.std.proofs.Math.Path.{ap}
use mathlib.Core.List.{List, [], ◌∷◌, ◌++◌, map, map-append, append_assoc}
use Prim.Native.Char.{code}
use native.Mathlib.Omega.{arith}
use Rattle.std.proofs.Math.ListN.{length, length-append, length-map}
use borrow.Author.Tests.{eq-eqb, ne_eqb}
use Rattle.model.specs.declared.Choice.{Choice}
use Rattle.model.specs.declared.Choice.TheVariants.{Dark, Own, High, Low}
use Rattle.model.specs.declared.BusChoice.{BusChoice}
use Rattle.model.specs.Lists.{below, ◌∈◌}
use Rattle.model.specs.Values.{choice_source, choice_letter, choice_at}
use Rattle.model.specs.Plant.{largest}
use Rattle.model.specs.Text.{ascii, decimal, choice_text, bus_text}
use Rattle.model.specs.Laws.Tests.{dec_eq}
use Rattle.model.specs.Laws.Choosing.{Inside}
use Rattle.model.specs.Laws.Lists.{map_at, below_lt, below_length}
use Rattle.numbers.specs.Numbers.{marked, decimal_length, marked_length}
use Rattle.model.specs.Laws.Spaced.{behind_spaces, behind_one, behind_length}

-- the text of bus k behind a space
abbrev pub bus_behind_space : ℕ → Choice → List ℕ
bus_behind_space k c = ascii " B" ++ (marked k (code "=") ++ choice_text c)

-- choice c is dark, or names a generator of the largest ring
abbrev pub Named : Choice → Type 0
Named c = Inside largest c

-- so are those of the first n buses
abbrev pub AllNamed : ℕ → List BusChoice → Type 0
AllNamed n cs = (b : ℕ) → b < n → Named (choice_at cs b)

pub named_most : {c : Choice} → Named c → choice_source c ≤ largest
named_most (inl e) = rw e (omega arith)
named_most (inr p) = p.1

-- only a dark choice has the letter `-`
dark_letter : (c : Choice) → choice_letter c ≡ code "-" → choice_source c ≡ 0
dark_letter Dark e = refl
dark_letter (Own g) e = absurd (omega arith)
dark_letter (High g) e = absurd (omega arith)
dark_letter (Low g) e = absurd (omega arith)

-- a choice with the letter l
module _ (c : Choice) {l : ℕ} (f : l ≡ choice_letter c) where
  pub choice_dark : l ≡ code "-" → choice_text c ≡ l ∷ []
  unfolding choice_text
  choice_dark h = rw (← f, eq-eqb (choice_source c) 0 (dark_letter c (sym f ∙ h)))

  pub choice_named : {g : ℕ} → g ≡ choice_source c → Named c → (l ≡ code "-" → ⊥) → choice_text c ≡ ascii "G" ++ marked g l
  unfolding choice_text
  choice_named e (inl p) h = absurd (h (f ∙ ap choice_letter p))
  choice_named {g} e (inr p) h = rw (← f, ← e, ne_eqb g 0 (omega arith))

pub choice_length : (c : Choice) → Named c → length (choice_text c) ≤ 4
unfolding ascii
choice_length c h = go (dec_eq (choice_letter c) (code "-"))
  where
    go : (choice_letter c ≡ code "-") ⊎ (choice_letter c ≡ code "-" → ⊥) → length (choice_text c) ≤ 4
    go (inl p) = rw (choice_dark c refl p) (omega arith)
    go (inr p) =
        rw (choice_named c refl refl h p)
        (omega (arith, marked_length (choice_source c) (choice_letter c) (omega (arith, named_most h))))

module _ (cs : List BusChoice) where
  -- one bus more
  pub buses_more : (b : ℕ)
      → behind_spaces (map (bus_text cs) (below (b + 1)))
      ≡ behind_spaces (map (bus_text cs) (below b)) ++ bus_behind_space (b + 1) (choice_at cs b)
  unfolding below bus_text ascii
  buses_more b =
      rw (add-one, map-append, append_assoc (decimal (suc b)) (code "=" ∷ []) (choice_text (choice_at cs b)))
      (behind_one (map (bus_text cs) (below b)) (bus_text cs b))

  -- ` B20=G20h` is the longest
  pub buses_length : (n : ℕ) → n ≤ largest → AllNamed n cs → length (behind_spaces (map (bus_text cs) (below n))) ≤ 9 * n
  unfolding bus_text ascii
  buses_length n h s = omega (arith, behind_length 8 (map (bus_text cs) (below n)) each, length-map (below n) (bus_text cs), below_length n)
    where
      each : (t : List ℕ) → t ∈ map (bus_text cs) (below n) → length t ≤ 8
      each t m =
          let x = map_at (bus_text cs) (below n) m in
          let b = x.0 in
          let l = below_lt n b x.1 in
          rw x.2
          (omega (
            arith,
            length-append (decimal (suc b)) (ascii "=" ++ choice_text (choice_at cs b)),
            decimal_length 1 (suc b)
                (omega arith),
            choice_length (choice_at cs b) (s b l),
          ))
