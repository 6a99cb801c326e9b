-- Reports and answers in the bytes of a stored case (tests/make_vectors.py).
use Rattle.std.specs.Prelude.{◌≡◌, List, ℕ, ◌+◌, ◌*◌, ◌<◌, length, get_or, Ok}
use Rattle.std.proofs.Common.{sym, ap, arith, below_more}
use Rattle.model.specs.declared.Part.{Part}
use Rattle.model.specs.declared.Part.TheVariants.{Generator, GeneratorBreaker, BusBreaker}
use Rattle.model.specs.declared.Word.{Word}
use Rattle.model.specs.declared.Report.{Report}
use Rattle.model.specs.declared.Scan.{Scan}
use Rattle.model.specs.declared.Choice.TheVariants.{Dark}
use Rattle.model.specs.declared.BusChoice.{BusChoice}
use Rattle.model.specs.declared.RingState.{RingState}
use Rattle.model.specs.declared.StateAnswer.{StateAnswer}
use Rattle.model.specs.Values.{number, first_code, word_number, choice_source, choice_letter, Outcome, outcome_number}
use Rattle.model.specs.Plant.{largest}
use Rattle.model.specs.Reports.{word_named}
use Rattle.model.specs.Answers.{word_answer}
use Rattle.words.specs.Words.{number_names}
use Rattle.loads.specs.Loads.{state_at}

-- part p is of kind i (0 generators, 1 generator breakers, 2 bus breakers) and has the number k
pub record PartIn (i k : ℕ) (p : Part) : Type 0 where
  pub kind : first_code p ≡ 32 * i
  pub numbered : number p ≡ k

-- report r stands at an index: its part's kind and number, and its word
pub record ReportIn (case : List ℕ) (from : ℕ) (r : Report) : Type 0 where
  pub part : PartIn (get_or case from 0) (get_or case (from + 1) 0) r.part
  pub word : word_number r.word ≡ get_or case (from + 2) 0

-- a scan stands from an index on: its count, then its 64 places of three bytes, also those past the count
pub record ScanIn (case : List ℕ) (from : ℕ) (s : Scan) : Type 0 where
  pub count : s.count ≡ get_or case from 0
  pub full : length s.reports ≡ 64
  pub reports : (i : ℕ) → i < 64 → (d : Report) → ReportIn case (from + 1 + 3 * i) (get_or s.reports i d)

-- the choice of a bus has the letter l and the source g
pub record ChoiceIn (l g : ℕ) (bus : BusChoice) : Type 0 where
  pub letter : choice_letter bus.choice ≡ l
  pub source : choice_source bus.choice ≡ g

-- the choices of the first n buses stand from an index on, two bytes each
abbrev pub ChoicesIn : ℕ → List ℕ → ℕ → List BusChoice → Type 0
ChoicesIn n case from cs =
    (b : ℕ)
    → b < n → ChoiceIn (get_or case (from + 2 * b) 0) (get_or case (from + 2 * b + 1) 0) (get_or cs b (record { choice = Dark }))

-- an outcome's number and the record stand from an index on
pub record RecordIn (case : List ℕ) (from : ℕ) (outcome : Outcome) (state : RingState) : Type 0 where
  pub numbered : outcome_number outcome ≡ get_or case from 0
  pub recorded : state ≡ state_at case (get_or case (from + 1) 0) (from + 2)

-- an answer stands from an index on: the number of its outcome, the record and the choices of all twenty buses
pub record AnswerIn (case : List ℕ) (from : ℕ) (answer : StateAnswer) : Type 0 where
  pub record_in : RecordIn case from answer.outcome answer.state
  pub choices : ChoicesIn largest case (from + 675) answer.choices

-- ---- what a part's and a word's bytes say

module _ (i k : ℕ) (p : Part) (h : PartIn i k p) where
  pub part_generator : i ≡ 0 → Generator k ≡ p
  part_generator z = go p h.kind h.numbered
    where
      go : (p : Part) → first_code p ≡ 32 * i → number p ≡ k → Generator k ≡ p
      go (Generator j) e f = ap Generator (sym f)
      go (GeneratorBreaker j) e f = absurd (omega arith)
      go (BusBreaker j) e f = absurd (omega arith)

  pub part_generator_breaker : i ≡ 1 → GeneratorBreaker k ≡ p
  part_generator_breaker z = go p h.kind h.numbered
    where
      go : (p : Part) → first_code p ≡ 32 * i → number p ≡ k → GeneratorBreaker k ≡ p
      go (Generator j) e f = absurd (omega arith)
      go (GeneratorBreaker j) e f = ap GeneratorBreaker (sym f)
      go (BusBreaker j) e f = absurd (omega arith)

  pub part_bus_breaker : 1 < i → BusBreaker k ≡ p
  part_bus_breaker z = go p h.kind h.numbered
    where
      go : (p : Part) → first_code p ≡ 32 * i → number p ≡ k → BusBreaker k ≡ p
      go (Generator j) e f = absurd (omega arith)
      go (GeneratorBreaker j) e f = absurd (omega arith)
      go (BusBreaker j) e f = ap BusBreaker (sym f)

-- a word is what its number is read as
pub word_answer_lem : (v : ℕ) (w : Word) → word_number w ≡ v → word_answer (word_named v) ≡ Ok w
unfolding word_answer
word_answer_lem v w e = rw (← e, number_names w)

-- ---- what is compared place by place

-- one bus more
pub choices_more : (n : ℕ) (case : List ℕ) (from : ℕ) (cs : List BusChoice) → ChoicesIn n case from cs
    → ChoiceIn (get_or case (from + 2 * n) 0) (get_or case (from + 2 * n + 1) 0) (get_or cs n (record { choice = Dark }))
    → ChoicesIn (n + 1) case from cs
choices_more n case from cs =
    below_more (λ b. ChoiceIn (get_or case (from + 2 * b) 0) (get_or case (from + 2 * b + 1) 0) (get_or cs b (record { choice = Dark }))) n
