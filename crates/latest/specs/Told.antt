-- A ring that is told the reports of a file one after the other, and planned once, behind the last. Reports are counted from 0.
use Rattle.std.specs.Prelude.{◌≡◌, refl, List, [], ◌∷◌, ℕ, zero, suc, ◌+◌, ◌-◌, ◌≤◌, ◌<◌, length, take, drop, Option, None, Some, Result, Ok, Err}
use Rattle.std.proofs.Common.{sym, ◌∙◌, add-one, arith}
use Rattle.std.proofs.Math.Path.{ap}
use borrow.Author.Tests.{ne_eqb}
use Rattle.model.specs.declared.Commands.{Commands}
use Rattle.model.specs.declared.Ring.{Ring}
use Rattle.model.specs.declared.LatestAnswer.{LatestAnswer}
use Rattle.model.specs.declared.Report.{Report}
use Rattle.model.specs.declared.Refusal.{Refusal}
use Rattle.model.specs.declared.FileHead.{FileHead}
use Rattle.model.specs.Values.{refusal_of, outcome_of, outcome_number}
use Rattle.model.specs.Laws.Refusals.{refusal_named, refused_of}
use Rattle.model.specs.Plant.{smallest, largest}
use Rattle.model.specs.Choosing.{commands}
use Rattle.model.specs.Reports.{
  file_size,
  file_count,
  file_codes,
  file_words,
  health_of,
  command_places,
  blank_ring,
  told,
  planned,
  with_plan,
}
use Rattle.model.specs.Refusals.{file_refusal}
use Rattle.model.specs.Answers.{report_at, file_answer}
use Rattle.model.specs.Text.{told_answer, run_ring}
use Rattle.model.specs.CutText.{latest_ring}
use Rattle.files.specs.Served.{file_served, own_whole, answer_refused, answer_served, stretches, counted}

-- a blank ring of n told the first i reports of a file's part codes and words
unfoldable pub told_reports : ℕ → List ℕ → List ℕ → ℕ → Ring
told_reports n cs vs zero = blank_ring n
told_reports n cs vs (suc i) = let ring = told_reports n cs vs i in told_answer ring (report_at n cs vs i)

-- .. told all the reports of a file
abbrev pub told_file : List ℕ → Ring
told_file f = told_reports (file_size f) (file_codes f) (file_words f) (file_count f)

-- ---- one report after the other

-- m and j are the size and the index that the code passes on
module _ (n : ℕ) (cs vs : List ℕ) (i : ℕ) where
  pub told_none : (m : ℕ) {ring : Ring} → m ≡ n → i ≡ 0 → ring ≡ blank_ring m → ring ≡ told_reports n cs vs i
  unfolding told_reports
  told_none m g e is = rw (e, ← g) is

  pub told_more : (m j : ℕ) {ring next : Ring} {a : Result (Option Report) Refusal} → m ≡ n → j ≡ i
      → ring ≡ told_reports n cs vs i → a ≡ report_at m cs vs j → next ≡ told_answer ring a → next ≡ told_reports n cs vs (i + 1)
  unfolding told_reports
  told_more m j g h e f is = is ∙ rw (e, f, g, h, add-one)

  -- no report changes the size
  told_size : (told_reports n cs vs i).n ≡ n
  unfolding told_reports told_answer blank_ring told
  told_size = go i
    where
      one : (ring : Ring) (a : Result (Option Report) Refusal) → ring.n ≡ n → (told_answer ring a).n ≡ n
      one ring (Ok (Some r)) e = e
      one ring (Ok None) e = e
      one ring (Err r) e = e

      go : (j : ℕ) → (told_reports n cs vs j).n ≡ n
      go zero = refl
      go (suc j) = one (told_reports n cs vs j) (report_at n cs vs j) (go j)

-- ---- one plan

pub plan_stored : (ring : Ring) (n : ℕ) (c : Commands) → n ≡ ring.n → c ≡ command_places (commands n (health_of ring.health))
    → let next : Ring = record { n = ring.n; health = ring.health; commands = c } in next ≡ with_plan ring
unfolding with_plan planned
plan_stored ring n c g e = rw (e, g)

-- a plan before a report changes nothing behind the next: a report reads the size and the health, and a plan replaces the commands
plan_once : (ring : Ring) (a : Result (Option Report) Refusal) → with_plan (told_answer (with_plan ring) a) ≡ with_plan (told_answer ring a)
unfolding told_answer told with_plan planned
plan_once ring (Ok (Some r)) = refl
plan_once ring (Ok None) = refl
plan_once ring (Err r) = refl

-- so that one plan behind the first i reports gives the state of the run
run_state : (f : List ℕ) (i : ℕ) → with_plan (told_reports (file_size f) (file_codes f) (file_words f) i) ≡ with_plan (run_ring f i)
unfolding told_reports run_ring
run_state f zero = refl
run_state f (suc i) =
    let a = report_at (file_size f) (file_codes f) (file_words f) i in
    sym (plan_once _ a) ∙ ap (λ ring. with_plan (told_answer ring a)) (run_state f i)

-- ---- the answer

-- r is the file's answer
abbrev pub Answered : List ℕ → LatestAnswer → Type 0
Answered f r = (r.outcome ≡ outcome_of (file_refusal f)) × ((outcome_number r.outcome ≡ file_refusal f) × (r.ring ≡ latest_ring f))

module _ (f : List ℕ) where
  pub after_refused : (r : Refusal) (n : ℕ) (ring : Ring) → file_answer f ≡ Err r → n ≡ 0 → ring ≡ blank_ring n
      → Answered f (record { outcome = Err r; ring = ring })
  unfolding latest_ring
  after_refused r n ring e z is =
      let t = answer_refused f r e in
      let own : refusal_of (file_refusal f) ≡ r = rw (← t.1) (refusal_named r) in
      (sym (refused_of (file_refusal f) t.0 ∙ ap Err own), (t.1, rw (ne_eqb (file_refusal f) 0 t.0) (is ∙ ap blank_ring z)))

  -- a file by its head
  module _ (head : FileHead) (e : file_answer f ≡ Ok head) where
    abbrev pub n : ℕ
    n = head.n

    abbrev pub m : ℕ
    m = head.m

    -- of no bytes: it is both of its stretches
    pub told_empty : (ring : Ring) → length f ≡ 0 → ring ≡ told_reports n f f (length f) → ring ≡ told_file f
    told_empty ring h is = is ∙ rw (answer_served f head e).1 (go f h)
      where
        go : (g : List ℕ) → length g ≡ 0 → told_reports (file_size g) g g (length g) ≡ told_file g
        go [] l = refl
        go (b ∷ bs) l = absurd (omega arith)

    pub served_length : 0 < length f → length f ≡ 3 + m + m
    served_length h =
        let (z, a, b) = answer_served f head e in
        omega (arith, own_whole (file_served f z) h)

    -- the part codes and words are those of its two stretches
    pub told_stretches : (ring : Ring) → (let codes = take (3 + m - 3) (drop 3 f) in
        ring ≡ told_reports n codes (take (length f - (3 + m)) (drop (3 + m) f)) (length codes)) → ring ≡ told_file f
    told_stretches ring is =
        let (z, a, b) = answer_served f head e in
        let both = stretches f m (3 + m) b refl in
        is ∙ rw (both.0, both.1, (counted f (file_served f z).whole).0, a)

    module _ (ring : Ring) (is : ring ≡ told_file f) where
      pub after_size : (smallest ≤ ring.n) × (ring.n ≤ largest)
      after_size =
          let s = file_served f (answer_served f head e).0 in
          rw (is, told_size (file_size f) _ _ _) (s.big, s.small)

      pub after_served : (next : Ring) → next ≡ with_plan ring → Answered f (record { outcome = Ok tt; ring = next })
      unfolding outcome_of latest_ring
      after_served next p =
          let (z, a, b) = answer_served f head e in
          rw z (refl, (refl, p ∙ ap with_plan is ∙ run_state f (file_count f)))
