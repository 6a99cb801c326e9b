-- Reports: a report by the answers of its code and its word, and the i-th report of a file, counted from 0.
use Rattle.std.specs.Prelude.{◌≡◌, Bool, ◌&&◌, ◌⊎◌, List, [], ◌∷◌, eqb, length, Result, Ok, Err}
use Rattle.std.specs.Prelude as std
use Rattle.std.proofs.Math.Path.{refl}
use Rattle.std.proofs.Common.{sym, ◌∙◌, ap, inl, inr}
use Rattle.std.proofs.Math.Bool.{true, false, cond}
use Rattle.std.proofs.Math.Option.{Option, none, some}
use Prim.Native.Nat.{ℕ, ◌≤◌, ◌<◌}
use Rattle.std.proofs.Math.Dec.{ltb}
use Rattle.std.proofs.Math.ListN.{get_or}
use borrow.Author.Tests.{eqb-true, lt-ltb, le-ltb}
use Rattle.model.specs.declared.Part.{Part}
use Rattle.model.specs.declared.Word.{Word}
use Rattle.model.specs.declared.Report.{Report}
use Rattle.model.specs.declared.Refusal.{Refusal}
use Rattle.model.specs.Values.{part_code, word_number, refusal_of, numbered, report_values}
use Rattle.model.specs.Plant.{InRing}
use Rattle.model.specs.Reports.{part_named, word_named}
use Rattle.model.specs.Refusals.{
  first_met,
  not_of_ring,
  word_of_other_kind,
  report_conditions,
  report_of,
  report_answer,
  report_refusal,
}
use Rattle.model.specs.Answers.{part_answer, word_answer, report_at, report_values_at}
use Rattle.model.specs.Laws.Tests.{dec}
use Rattle.model.specs.Laws.Refusals.{number_of_refusal}
use Rattle.model.specs.Laws.Reports.{code_named}
use Rattle.codes.specs.Codes.{of_ring, code_reads}
use Rattle.words.specs.Words.{word_named_lem, number_names}

-- condition 6, of a part and a word
unfoldable pub word_conditions : Part → Word → List (ℕ × Bool)
word_conditions p w = (6, word_of_other_kind p (word_number w)) ∷ []

-- ---- one report, by the answers of its code and its word

module _ (n c v : ℕ) (a : Result Part Refusal) (code_is : a ≡ part_answer (part_named n c)) where
  pub code_refused : (k : Refusal) → a ≡ Err k → Err k ≡ report_answer n c v
  unfolding report_answer report_of part_answer
  code_refused k e = go (part_named n c) (sym e ∙ code_is)
    where
      go : (o : Option Part) → Err k ≡ part_answer o → Err k ≡ report_of n o (word_named v)
      go none q = cc
      go (some p) q = cc

  module _ (p : Part) (part_is : a ≡ Ok p) (b : Result Word Refusal) (word_is : b ≡ word_answer (word_named v)) where
    pub word_refused : (k : Refusal) → b ≡ Err k → Err k ≡ report_answer n c v
    unfolding report_answer report_of part_answer word_answer
    word_refused k e = go (part_named n c) (word_named v) (sym part_is ∙ code_is) (sym e ∙ word_is)
      where
        go : (o : Option Part) (u : Option Word) → Ok p ≡ part_answer o → Err k ≡ word_answer u
            → Err k ≡ report_of n o u
        go none u q s = cc
        go (some x) none q s = cc
        go (some x) (some w) q s = cc

    pub both_named : (w : Word) → b ≡ Ok w → report_of n (some p) (some w) ≡ report_answer n c v
    unfolding report_answer part_answer word_answer
    both_named w e = go (part_named n c) (word_named v) (sym part_is ∙ code_is) (sym e ∙ word_is)
      where
        go : (o : Option Part) (u : Option Word) → Ok p ≡ part_answer o → Ok w ≡ word_answer u
            → report_of n (some p) (some w) ≡ report_of n o u
        go none u q s = cc
        go (some x) none q s = cc
        go (some x) (some y) q s = cc

-- the values of a report that is read are the code and the word that it is read from
answer_values : (n c v : ℕ) → report_values (report_answer n c v) ≡ numbered (report_refusal n c v) (c ∷ v ∷ [])
unfolding report_answer report_refusal report_of numbered
answer_values n c v = go (part_named n c) (word_named v) refl refl
  where
    by_number : (k : ℕ) (r : Report) → part_code r.part ≡ c → word_number r.word ≡ v → (eqb k 0 ≡ true) ⊎ (eqb k 0 ≡ false)
        → report_values (cond (eqb k 0) (Ok (std.Some r)) (Err (refusal_of k)))
        ≡ numbered (report_values (cond (eqb k 0) (Ok (std.Some r)) (Err (refusal_of k)))).0 (c ∷ v ∷ [])
    by_number k r p q (inl e) = rw (e, p, q)
    by_number k r p q (inr e) =
        rw (e, number_of_refusal k, e)

    go : (o : Option Part) (u : Option Word) → part_named n c ≡ o → word_named v ≡ u
        → report_values (report_of n o u) ≡ numbered (report_values (report_of n o u)).0 (c ∷ v ∷ [])
    go none u p q = refl
    go (some x) none p q = refl
    go (some x) (some w) p q =
        by_number (first_met (report_conditions n (record { part = x; word = w }))) (record { part = x; word = w })
        (code_named n c x p).1 (word_named_lem v w q) (dec _)

-- ---- one reading of a report, by its part or by its code

-- the number of a report that a test picks
picked_number : (k : ℕ) (r : Report) → (eqb k 0 ≡ true) ⊎ (eqb k 0 ≡ false)
    → (report_values (cond (eqb k 0) (Ok (std.Some r)) (Err (refusal_of k)))).0 ≡ k
picked_number k r (inl e) = rw e (sym (eqb-true k 0 e))
picked_number k r (inr e) = rw e (number_of_refusal k)

-- a report's code and number are read as the part, if the ring has it, and the word
read_as : (n : ℕ) (p : Part) (w : Word) → InRing 32 p
    → report_refusal n (part_code p) (word_number w) ≡ (report_values (report_of n (of_ring n p) (some w))).0
unfolding report_refusal report_answer
read_as n p w h =
    ap (λ o. (report_values (report_of n o (word_named (word_number w)))).0) (code_reads n p h)
    ∙ ap (λ u. (report_values (report_of n (of_ring n p) u)).0) (number_names w)

-- so its refusal is that of the report itself, whatever n is
pub one_reading : (n : ℕ) (r : Report) → InRing 32 r.part
    → report_refusal n (part_code r.part) (word_number r.word) ≡ first_met (report_conditions n r)
unfolding of_ring report_of report_conditions first_met
one_reading n r h = read_as n r.part r.word h ∙ go (dec (not_of_ring n r.part))
  where
    go : (not_of_ring n r.part ≡ true) ⊎ (not_of_ring n r.part ≡ false)
        → (report_values (report_of n (of_ring n r.part) (some r.word))).0 ≡ first_met (report_conditions n r)
    go (inl e) = rw e
    go (inr e) = simp e (picked_number _ r (dec _))

-- ---- the i-th report of a file

module _ (n : ℕ) (cs vs : List ℕ) (i : ℕ) where
  pub report_gives : (r : Result (std.Option Report) Refusal) → r ≡ report_at n cs vs i → (r ≡ report_at n cs vs i) × (report_values r ≡ report_values_at n cs vs i)
  unfolding report_at report_values_at
  report_gives r e = (e, rw e (go (ltb i (length cs) && ltb i (length vs))))
    where
      c : ℕ
      c = get_or cs i 0

      v : ℕ
      v = get_or vs i 0

      go : (t : Bool) → report_values (cond t (report_answer n c v) (Ok std.None))
          ≡ cond t (numbered (report_refusal n c v) (c ∷ v ∷ [])) (0, [])
      go true = answer_values n c v
      go false = refl

  pub past_codes : length cs ≤ i → Ok std.None ≡ report_at n cs vs i
  unfolding report_at
  past_codes h = rw (le-ltb i (length cs))

  pub past_words : length vs ≤ i → Ok std.None ≡ report_at n cs vs i
  unfolding report_at
  past_words h = rw (le-ltb i (length vs)) (go (ltb i (length cs)))
    where
      go : (b : Bool) → Ok std.None ≡ cond (b && false) (report_answer n (get_or cs i 0) (get_or vs i 0)) (Ok std.None)
      go true = refl
      go false = refl

  pub within_both : i < length cs → i < length vs → report_answer n (get_or cs i 0) (get_or vs i 0) ≡ report_at n cs vs i
  unfolding report_at
  within_both p q = rw (lt-ltb i (length cs), lt-ltb i (length vs))
