-- The part codes of the opening phase, collected kind by kind, and the number of parts of the closing phase.
use Rattle.std.specs.Prelude.{◌≡◌, refl, Bool, true, false, not, ◌&&◌, ℕ, ◌+◌, ◌≤◌, ◌<◌, length, get_or, set, take}
use Rattle.std.proofs.Common.{◌∙◌, ap, add-one, arith, length-append}
use Rattle.std.proofs.lemmas.List.{get_or-take, get_or_default, length-take-le}
use Rattle.std.proofs.lemmas.List.FromFn.{length-enumerate_from, get_or-enumerate_from}
use Rattle.std.proofs.lemmas.Slice.Zip.{length-zip, get_or-zip}
use Rattle.std.proofs.Math.Bool.{cond}
use Rattle.std.specs.Bool.{beq}
use Rattle.std.specs.Cmp.{booleans_Decides}
use Rattle.std.specs.List.{zip, enumerate_from}
use Rattle.std.specs.Cmp.Lexicographic.{pointwise, pointwise_decides}
use mathlib.Core.List.{List, [], ◌∷◌, ◌++◌, map, map-append, map-map, append_assoc, append-nil}
use Rattle.std.proofs.lemmas.List.{length-map}
use Rattle.model.specs.declared.Part.{Part}
use Rattle.model.specs.declared.Commands.{Commands}
use Rattle.model.specs.Lists.{below, keep, ◌∈◌}
use Rattle.model.specs.Values.{part_code}
use Rattle.model.specs.Plant.{generator, generator_breaker, bus_breaker, parts}
use Rattle.model.specs.Sheet.{opening}
use Rattle.model.specs.Reports.{commands_of}
use Rattle.model.specs.Laws.Tests.{contra, by_cond}
use Rattle.model.specs.Laws.Lists.{keep_append, keep_map, keep_none}
use Rattle.model.specs.Laws.Appended.{Appended, appended_none, appended_one, appended_more}

-- the codes of the opening phase
abbrev pub opening_codes : ℕ → Commands → Commands → List ℕ
opening_codes n old new = map part_code (opening n (commands_of old) (commands_of new))

-- the command at index i of a kind changes to off or open
abbrev pub opens : List Bool → List Bool → ℕ → Bool
opens old new i = get_or old i false && not (get_or new i false)

-- .. to on or closed
abbrev pub closes : List Bool → List Bool → ℕ → Bool
closes old new i = not (get_or old i false) && get_or new i false

-- the codes of the parts of a kind that pass a test, below index k; the kind's first code is base
unfoldable pub codes : (ℕ → Bool) → ℕ → ℕ → List ℕ
codes test base k = map (λ i. base + i) (keep test (below k))

-- ---- one command: it changes to on, to off, or not at all

pub turned_on : (was now : Bool) → not (beq was now) ≡ true → now ≡ true → (was && not now ≡ false) × (not was && now ≡ true)
turned_on true true d e = contra d refl
turned_on false true d e = (refl, refl)
turned_on was false d e = contra e refl

pub turned_off : (was now : Bool) → not (beq was now) ≡ true → now ≡ false → (was && not now ≡ true) × (not was && now ≡ false)
turned_off true false d e = (refl, refl)
turned_off false false d e = contra d refl
turned_off was true d e = contra refl e

pub kept : (was now : Bool) → not (beq was now) ≡ false → (was && not now ≡ false) × (not was && now ≡ false)
kept true true e = (refl, refl)
kept false false e = (refl, refl)
kept true false e = contra refl e
kept false true e = contra refl e

-- where the commands of a kind are the old ones, none opens or closes
pub unchanged : (old new : List Bool) → pointwise beq old new ≡ true → (i : ℕ) → (opens old new i ≡ false) × (closes old new i ≡ false)
unchanged old new e i = rw ((pointwise_decides booleans_Decides old new).0 e) (itself (get_or new i false))
  where
    itself : (b : Bool) → (b && not b ≡ false) × (not b && b ≡ false)
    itself true = (refl, refl)
    itself false = (refl, refl)

-- the commands of part k of a kind, as a walk over the first n of both arrays gives them
pub walked : (old new : List Bool) (n k i : ℕ) (was now : Bool) → n ≤ length old → n ≤ length new
    → k < length (enumerate_from 0 (zip (take n old) (take n new)))
    → (i, (was, now)) ≡ get_or (enumerate_from 0 (zip (take n old) (take n new))) k (i, (was, now))
    → (k < n) × (i ≡ k) × (was ≡ get_or old k false) × (now ≡ get_or new k false)
walked old new n k i was now p q h e =
    let l : length (take n old) ≡ n = length-take-le n old p in
    let m : length (take n new) ≡ n = length-take-le n new q in
    let pairs = zip (take n old) (take n new) in
    let b : k < n = omega (arith, h, length-enumerate_from 0 pairs, length-zip (take n old) (take n new), l, m) in
    let f = e ∙ get_or-enumerate_from 0 pairs k _ (rw length-enumerate_from at h) ∙ ap (λ x. (0 + k, x)) (get_or-zip (take n old) (take n new) k (was, now) (omega arith) (omega arith)) in
    (b, ap (λ x. x.0) f ∙ omega arith, ap (λ x. x.1.0) f ∙ get_or-take n old k was b ∙ get_or_default old k was false (omega arith), ap (λ x. x.1.1) f ∙ get_or-take n new k now b ∙ get_or_default new k now false (omega arith))

-- ---- one kind

pub codes_none : (test : ℕ → Bool) (base n : ℕ) {l : List ℕ} {c : ℕ} → ((i : ℕ) → i ∈ below n → test i ≡ false)
    → Appended (codes test base n) l c l c
unfolding codes
codes_none test base n h = rw (keep_none test (below n) h) (appended_none _ _)

-- one index more: its part is passed over, or its code appended
module _ (test : ℕ → Bool) (base i : ℕ) where
  more : codes test base (i + 1) ≡ codes test base i ++ cond (test i) ((base + i) ∷ []) []
  unfolding codes below keep
  more =
      rw (add-one, keep_append, map-append)
      (ap (λ l. codes test base i ++ l)
      (by_cond (λ l. map (λ j. base + j) l ≡ cond (test i) ((base + i) ∷ []) []) (test i) (λ e. rw e) (λ e. rw e)))

  module _ {l l' : List ℕ} {c j : ℕ} (a : Appended (codes test base i) l c l' j) where
    pub codes_miss : test i ≡ false → Appended (codes test base (i + 1)) l c l' j
    codes_miss e = rw (more, e, append-nil) a

    pub codes_hit : test i ≡ true → Appended (codes test base (i + 1)) l c (set l' j (base + i)) (j + 1)
    codes_hit e = appended_one (base + i) (rw (more, e)) refl a

-- ---- all kinds

pub codes_parts : (f : Part → Bool) (n : ℕ)
    → map part_code (keep f (parts n))
    ≡ codes (λ i. f (generator i)) 0 n ++ codes (λ i. f (generator_breaker i)) 32 n ++ codes (λ i. f (bus_breaker i)) 64 n
unfolding codes parts part_code
codes_parts f n = simp (keep_append, keep_map, map-append, map-map, append_assoc)

-- the codes of the three kinds one behind the other
pub appended_kinds : (f : Part → Bool) (n : ℕ) {l l' l'' l''' : List ℕ} {i j k m : ℕ}
    → Appended (codes (λ b. f (generator b)) 0 n) l i l' j → Appended (codes (λ b. f (generator_breaker b)) 32 n) l' j l'' k
    → Appended (codes (λ b. f (bus_breaker b)) 64 n) l'' k l''' m → Appended (map part_code (keep f (parts n))) l i l''' m
appended_kinds f n a b c = rw codes_parts (appended_more (appended_more a b) c)

-- ---- how many close

-- one index more: its part is passed over, or counted
module _ (test : ℕ → Bool) (i : ℕ) where
  counted_more : keep test (below (i + 1)) ≡ keep test (below i) ++ cond (test i) (i ∷ []) []
  unfolding below keep
  counted_more = rw (add-one, keep_append)

  module _ (c : ℕ) {k : ℕ} (e : k ≡ c + length (keep test (below i))) where
    pub count_miss : test i ≡ false → k ≡ c + length (keep test (below (i + 1)))
    count_miss t = rw (counted_more, t, append-nil) e

    pub count_hit : test i ≡ true → k + 1 ≡ c + length (keep test (below (i + 1)))
    count_hit t = rw (counted_more, t, length-append (keep test (below i)) (i ∷ [])) (omega arith)

-- where none passes the test, none is counted
pub count_none : (test : ℕ → Bool) (n c : ℕ) → ((i : ℕ) → i ∈ below n → test i ≡ false) → c ≡ c + length (keep test (below n))
count_none test n c h = rw (keep_none test (below n) h) (omega arith)

-- the three kinds together
pub counted_kinds : (f : Part → Bool) (n : ℕ) {i j k : ℕ} → i ≡ 0 + length (keep (λ b. f (generator b)) (below n))
    → j ≡ i + length (keep (λ b. f (generator_breaker b)) (below n)) → k ≡ j + length (keep (λ b. f (bus_breaker b)) (below n))
    → k ≡ length (keep f (parts n))
unfolding parts
counted_kinds f n a b c = simp (keep_append, keep_map, length-append, length-map) (omega arith)
