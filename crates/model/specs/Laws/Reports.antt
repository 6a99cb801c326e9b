-- Laws of files, codes, words and reports: what a file stands for; reading a code undoes writing it; a report is read or refused.
use Rattle.std.specs.Prelude.{◌≡◌, refl, cond, ◌⊎◌, ◌≢◌, List, [], ◌∷◌, ℕ, ◌+◌, ◌≤◌, ◌<◌, min, eqb, length, take, drop, Result, Ok, Err}
use Rattle.std.specs.Prelude as std
use Rattle.std.proofs.Common.{◌∙◌, sym, inl, inr, arith, eqb-true, eq-eqb, ne_eqb}
use Rattle.std.proofs.Math.Option.{Option, none, some}
use Rattle.model.specs.declared.Part.{Part}
use Rattle.model.specs.declared.Word.{Word}
use Rattle.model.specs.declared.Report.{Report}
use Rattle.model.specs.declared.Refusal.{Refusal}
use Rattle.model.specs.declared.Refusal.TheVariants.{PartOutside, WordOutside}
use Rattle.model.specs.Values.{part_code, refusal_number, refusal_of}
use Rattle.model.specs.Plant.{largest, parts, InRing}
use Rattle.model.specs.Reports.{stands_for, file_count, file_codes, file_words, part_named, word_named}
use Rattle.model.specs.Refusals.{first_met, report_conditions, report_of, report_answer}
use Rattle.model.specs.Laws.Tests.{dec_eq}
use Rattle.model.specs.Laws.Refusals.{number_of_refusal}
use Rattle.model.specs.Laws.Lists.{first_only, first_at}
use Rattle.model.specs.Laws.Parts.{parts_in, parts_at, code_only}

-- a file that has a byte stands for itself
pub stands_itself : (f : List ℕ) → 0 < length f → stands_for f ≡ f
stands_itself [] h = absurd (omega arith)
stands_itself (b ∷ bs) h = refl

-- "Each array is handed on as that stretch of the file": of what was read, also of no bytes
pub stretches_read : (f : List ℕ) → (file_codes f ≡ take (file_count f) (drop 3 f)) × (file_words f ≡ drop (3 + file_count f) f)
stretches_read [] = (refl, refl)
stretches_read (b ∷ bs) = (refl, refl)

in_least : (n : ℕ) (p : Part) → n ≤ largest → InRing n p → InRing (min n largest) p
in_least n p h r = (r.0, omega (arith, r.1))

-- a part's code names it
pub named_code : (n : ℕ) (p : Part) → n ≤ largest → InRing n p → part_named n (part_code p) ≡ some p
unfolding part_named
named_code n p h r =
    first_only (λ q. eqb (part_code q) (part_code p)) p (parts_in (min n largest) p (in_least n p h r))
    (eq-eqb (part_code p) (part_code p) refl)
    (λ q m e. code_only (min n largest) q p (omega arith) (parts_at (min n largest) q m) (in_least n p h r)
    (eqb-true (part_code q) (part_code p) e))

-- a code names a part of the ring that has it
pub code_named : (n c : ℕ) (p : Part) → part_named n c ≡ some p → InRing n p × (part_code p ≡ c)
unfolding part_named
code_named n c p e =
    let t = first_at (λ q. eqb (part_code q) c) (parts (min n largest)) p e in
    let r = parts_at (min n largest) p t.0 in
    ((r.0, omega (arith, r.1)), eqb-true (part_code p) c t.1)

-- a report that no condition meets is read, or there is a refusal
abbrev pub ReadOrRefused : ℕ → Result (std.Option Report) Refusal → Type 0
ReadOrRefused n a = ((r : Report) × (a ≡ Ok (std.Some r)) × (first_met (report_conditions n r) ≡ 0)) ⊎ ((r : Refusal) × (a ≡ Err r) × (refusal_number r ≢ 0))

-- a code and a word make one of the two
pub read_or_refused : (n c v : ℕ) → ReadOrRefused n (report_answer n c v)
unfolding report_answer report_of
read_or_refused n c v = go (part_named n c) (word_named v)
  where
    go : (o : Option Part) (u : Option Word) → ReadOrRefused n (report_of n o u)
    go none u = inr (PartOutside, refl, λ e. omega arith)
    go (some p) none = inr (WordOutside, refl, λ e. omega arith)
    go (some p) (some w) = last (dec_eq k 0)
      where
        r : Report
        r = record { part = p; word = w }

        k : ℕ
        k = first_met (report_conditions n r)

        last : (k ≡ 0) ⊎ (k ≢ 0) → ReadOrRefused n (cond (eqb k 0) (Ok (std.Some r)) (Err (refusal_of k)))
        last (inl e) = inl (r, rw (eq-eqb k 0 e), e)
        last (inr e) = inr (refusal_of k, rw (ne_eqb k 0 e), λ z. e (sym (number_of_refusal k) ∙ z))
