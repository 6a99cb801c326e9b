-- Codes listed one after the other, each only where it first comes: what is listed, and what is to be passed over after it.
use Rattle.std.specs.Prelude.{◌≡◌, refl, true, not, ◌&&◌, cond, ◌⊎◌, ℕ, zero, suc, ◌+◌, ◌≤◌, ◌<◌, length, take, drop}
use Rattle.std.proofs.Common.{sym, ◌∙◌, ap, inl, inr, arith, length-append, length-set, get_or-set_same, get_or-set_other}
use Rattle.std.proofs.Math.Bool.{Bool, false}
use mathlib.Core.List.Memᴰ
use mathlib.Core.List.{List, [], ◌∷◌, ◌++◌, map}
use Rattle.std.proofs.Math.ListN.{get_or, set}
use Rattle.std.proofs.Math.Seq.{length-take-le}
use Rattle.std.proofs.lemmas.List.{length-drop, get_or-take, get_or_append_left, get_or-append_right}
use borrow.Rule.Slice.PartMut.{mid_of, put_mid, post_of, same_len_mid}
use Rattle.model.specs.declared.Part.{Part}
use Rattle.model.specs.declared.Commands.{Commands}
use Rattle.model.specs.Reports.{commands_of}
use Rattle.model.specs.declared.Part.TheVariants.{Generator, GeneratorBreaker, BusBreaker}
use Rattle.model.specs.Lists.{keep, ◌∈◌}
use Rattle.model.specs.Values.{part_code, same_part}
use Rattle.model.specs.Plant.{PartCommands, largest, InRing}
use Rattle.model.specs.Sheet.{first_occurrences}
use Rattle.model.specs.Laws.Tests.{contra, dec}
use Rattle.model.specs.Laws.Lists.{keep_ext, keep_twice}
use Rattle.model.specs.Laws.Parts.{same_eq, same_refl, index_suc, code_only}
use Rattle.model.specs.Laws.Appended.{Appended, appended_none, appended_byte, appended_more}

-- l has true at each code to be passed over; .. and after code c
abbrev pub mark : List Bool → ℕ → List Bool
mark l c = cond (get_or l c false) l (set l c true)

-- .. and after the codes cs
unfoldable pub mark_all : List Bool → List ℕ → List Bool
mark_all l [] = l
mark_all l (c ∷ cs) = mark_all (mark l c) cs

-- the codes of cs that are listed: not passed over, each where it first comes
unfoldable pub fresh : List Bool → List ℕ → List ℕ
fresh l [] = []
fresh l (c ∷ cs) = let rest = fresh (mark l c) cs in cond (get_or l c false) rest (c ∷ rest)

-- the codes cs gone through: what was listed of them stands from place i to before j
pub record Listed (cs : List ℕ) (l : List Bool) (codes : List ℕ) (i : ℕ) (l' : List Bool) (codes' : List ℕ) (j : ℕ) : Type 0 where
  pub stored : Appended (fresh l cs) codes i codes' j
  pub marked : l' ≡ mark_all l cs

-- ---- one code

module _ (c : ℕ) (l : List Bool) (codes : List ℕ) (i : ℕ) where
  pub listed_past : get_or l c false ≡ true → Listed (c ∷ []) l codes i l codes i
  unfolding fresh mark_all
  listed_past e = record { stored = rw e (appended_none codes i); marked = rw e }

  pub listed_new : get_or l c false ≡ false → Listed (c ∷ []) l codes i (set l c true) (set codes i c) (i + 1)
  unfolding fresh mark_all
  listed_new e = record { stored = rw e (appended_byte c codes i); marked = rw e }

pub new_room : (c : ℕ) (l : List Bool) → get_or l c false ≡ false → length (fresh l (c ∷ [])) ≡ 1
unfolding fresh
new_room c l e = rw e

-- ---- more codes

pub fresh_append : (l : List Bool) (cs ds : List ℕ) → fresh l (cs ++ ds) ≡ fresh l cs ++ fresh (mark_all l cs) ds
unfolding fresh mark_all
fresh_append l [] ds = refl
fresh_append l (c ∷ cs) ds = go (fresh_append (mark l c) cs ds) (dec (get_or l c false))
  where
    go : fresh (mark l c) (cs ++ ds) ≡ fresh (mark l c) cs ++ fresh (mark_all (mark l c) cs) ds
        → (get_or l c false ≡ true) ⊎ (get_or l c false ≡ false)
        → fresh l (c ∷ (cs ++ ds)) ≡ fresh l (c ∷ cs) ++ fresh (mark_all l (c ∷ cs)) ds
    go r (inl e) = rw e (rw e at r)
    go r (inr e) = rw e (ap (λ xs. c ∷ xs) (rw e at r))

mark_append : (l : List Bool) (cs ds : List ℕ) → mark_all l (cs ++ ds) ≡ mark_all (mark_all l cs) ds
unfolding mark_all
mark_append l [] ds = refl
mark_append l (c ∷ cs) ds = mark_append (mark l c) cs ds

pub listed_none : (l : List Bool) (codes : List ℕ) (i : ℕ) → Listed [] l codes i l codes i
unfolding fresh mark_all
listed_none l codes i = record { stored = appended_none codes i; marked = refl }

module _ {cs ds : List ℕ} {l l' l'' : List Bool} {codes codes' codes'' : List ℕ} {i j k : ℕ} (a : Listed cs l codes i l' codes' j) where
  pub listed_more : Listed ds l' codes' j l'' codes'' k → Listed (cs ++ ds) l codes i l'' codes'' k
  listed_more b = record {
    stored = rw (fresh_append l cs ds) (appended_more a.stored (rw a.marked at b.stored));
    marked = b.marked ∙ rw a.marked (sym (mark_append l cs ds));
  }

-- room for the codes in front, and for those behind once these are listed
pub room_front : (i : ℕ) (l : List Bool) (cs ds : List ℕ) (most : ℕ) → i + length (fresh l (cs ++ ds)) ≤ most
    → i + length (fresh l cs) ≤ most
room_front i l cs ds most h =
    omega (arith, ap length (fresh_append l cs ds) ∙ length-append (fresh l cs) (fresh (mark_all l cs) ds))

pub room_behind : {cs : List ℕ} {l l' : List Bool} {codes codes' : List ℕ} {i j : ℕ} (ds : List ℕ) (most : ℕ)
    → Listed cs l codes i l' codes' j
    → i + length (fresh l (cs ++ ds)) ≤ most → j + length (fresh l' ds) ≤ most
room_behind {cs} {l} {l'} ds most a h =
    let e : length (fresh l (cs ++ ds)) ≡ length (fresh l cs) + length (fresh l' ds) =
    rw a.marked (ap length (fresh_append l cs ds) ∙ length-append (fresh l cs) (fresh (mark_all l cs) ds)) in
    omega (arith, a.stored.end)

-- ---- the codes of parts

-- l has, at the code of each part of a ring of i, what C commands
pub record HoldsTo (i : ℕ) (l : List Bool) (C : PartCommands) : Type 0 where
  pub places : length l ≡ 84
  pub at : (p : Part) → InRing i p → get_or l (part_code p) false ≡ C p

-- .. of the largest ring
abbrev pub Holds : List Bool → PartCommands → Type 0
Holds l C = HoldsTo largest l C

-- a part of a ring has a code below 84
pub code_below : (p : Part) → InRing largest p → part_code p < 84
unfolding part_code
code_below (Generator k) i = omega (arith, index_suc k i.0, i.1)
code_below (GeneratorBreaker k) i = omega (arith, index_suc k i.0, i.1)
code_below (BusBreaker k) i = omega (arith, index_suc k i.0, i.1)

-- ---- an array in which three parts of twenty are stored

-- twenty stored from place a on: the length, what stands there, and what stands before
module _ (a : ℕ) (l xs : List Bool) (h : a + 20 ≤ length l) (same : length xs ≡ length (mid_of a 20 l)) where
  put_length : length (put_mid a 20 l xs) ≡ length l
  put_length = same_len_mid a 20 l xs same

  twenty : length xs ≡ 20
  twenty = same ∙ length-take-le 20 (drop a l) (omega (arith, length-drop a l))

  put_there : (i : ℕ) → i < 20 → get_or (put_mid a 20 l xs) (a + i) false ≡ get_or xs i false
  put_there i m =
      let n : length (take a l) ≡ a = length-take-le a l (omega arith) in
      get_or-append_right (take a l) (xs ++ post_of a 20 l) a (a + i) false n (omega arith)
      ∙ ap (λ k. get_or (xs ++ post_of a 20 l) k false) (omega arith)
      ∙ get_or_append_left xs (post_of a 20 l) false i (omega (arith, twenty))

  put_before : (i : ℕ) → i < a → get_or (put_mid a 20 l xs) i false ≡ get_or l i false
  put_before i m =
      let n : length (take a l) ≡ a = length-take-le a l (omega arith) in
      get_or_append_left (take a l) (xs ++ post_of a 20 l) false i (omega (arith, n)) ∙ get_or-take a l i false m

-- the first twenty stored
abbrev one_stored : List Bool → List Bool → List Bool
one_stored l xs = xs ++ drop 20 l

module _ (l xs ys : List Bool) (sized : length l ≡ 84) (x : length xs ≡ 20) (y : length ys ≡ length (mid_of 32 20 (one_stored l xs))) where
  abbrev first : List Bool
  first = one_stored l xs

  abbrev second : List Bool
  second = put_mid 32 20 first ys

  first_length : length first ≡ 84
  first_length = omega (arith, length-append xs (drop 20 l), length-drop 20 l)

  second_length : length second ≡ 84
  second_length = put_length 32 first ys (omega (arith, first_length)) y ∙ first_length

  -- there is room for the third
  pub stored_bound : 84 ≤ length second
  stored_bound = omega (arith, second_length)

  pub holds_stored : (c : Commands) (zs : List Bool) → length zs ≡ length (mid_of 64 20 second) → xs ≡ c.generators → ys ≡ c.generator_breakers → zs ≡ c.bus_breakers
      → Holds (put_mid 64 20 second zs) (commands_of c)
  unfolding part_code commands_of
  holds_stored c zs z e f g = record { places = put_length 64 second zs stored_bound z ∙ second_length; at = at }
    where
      room : 32 + 20 ≤ length first
      room = omega (arith, first_length)

      at : (p : Part) → InRing largest p → get_or (put_mid 64 20 second zs) (part_code p) false ≡ commands_of c p
      at (Generator zero) r = absurd (omega (arith, r.0))
      at (Generator (suc k)) r =
          let here : part_code (Generator (suc k)) ≡ k = omega arith in
          rw here
          (put_before 64 second zs stored_bound z k (omega (arith, r.1)) ∙ put_before 32 first ys room y k (omega (arith, r.1))
          ∙ get_or_append_left xs (drop 20 l) false k (omega (arith, r.1, x)) ∙ ap (λ (v : List Bool). get_or v k false) e)
      at (GeneratorBreaker zero) r = absurd (omega (arith, r.0))
      at (GeneratorBreaker (suc k)) r =
          put_before 64 second zs stored_bound z (32 + k) (omega (arith, r.1)) ∙ put_there 32 first ys room y k (omega (arith, r.1))
          ∙ ap (λ (v : List Bool). get_or v k false) f
      at (BusBreaker zero) r = absurd (omega (arith, r.0))
      at (BusBreaker (suc k)) r = put_there 64 second zs stored_bound z k (omega (arith, r.1)) ∙ ap (λ (v : List Bool). get_or v k false) g

-- ---- what is listed of the codes of parts

-- the commands with part p on or closed
abbrev with : Part → PartCommands → PartCommands
with p C q = cond (same_part q p) true (C q)

marked_holds : {l : List Bool} {C : PartCommands} (p : Part) → InRing largest p → Holds l C → Holds (set l (part_code p) true) (with p C)
marked_holds {l} {C} p i h = record { places = length-set l (part_code p) true ∙ h.places; at = at }
  where
    at : (q : Part) → InRing largest q → get_or (set l (part_code p) true) (part_code q) false ≡ with p C q
    at q j = go (dec (same_part q p))
      where
        go : (same_part q p ≡ true) ⊎ (same_part q p ≡ false) → get_or (set l (part_code p) true) (part_code q) false ≡ with p C q
        go (inl e) =
            rw (e, same_eq q p e) (get_or-set_same l (part_code p) true false (omega (arith, code_below p i, h.places)))
        go (inr e) =
            rw e
            (get_or-set_other l (part_code p) (part_code q) true false
            (λ z. contra (rw (code_only largest q p (omega arith) j i z) (same_refl p)) e) ∙ h.at q j)

-- the codes listed are those of the first occurrences among the parts that are not commanded
pub fresh_occurrences : (ps : List Part) (l : List Bool) (C : PartCommands) → Holds l C → ((p : Part) → p ∈ ps → InRing largest p)
    → fresh l (map part_code ps) ≡ map part_code (keep (λ p. not (C p)) (first_occurrences ps))
unfolding fresh first_occurrences keep
fresh_occurrences [] l C h all = refl
fresh_occurrences (p ∷ ps) l C h all =
    go (dec (C p)) (λ l' D k. fresh_occurrences ps l' D k (λ q m. all q (Memᴰ.tail m)))
  where
    i : InRing largest p
    i = all p (Memᴰ.head refl)

    passes : (q : Part) → q ∈ first_occurrences ps → C p ≡ true → (t : Bool) → same_part q p ≡ t → not t && not (C q) ≡ not (C q)
    passes q m e true s = rw (same_eq q p s, e)
    passes q m e false s = refl

    excludes : (a b : Bool) → not a && not b ≡ not (cond a true b)
    excludes true b = refl
    excludes false b = refl

    go : (C p ≡ true) ⊎ (C p ≡ false)
        → ((l' : List Bool) (D : PartCommands) → Holds l' D
        → fresh l' (map part_code ps) ≡ map part_code (keep (λ q. not (D q)) (first_occurrences ps)))
        → fresh l (part_code p ∷ map part_code ps)
        ≡ map part_code (keep (λ q. not (C q)) (p ∷ keep (λ q. not (same_part q p)) (first_occurrences ps)))
    go (inl e) r =
        rw (h.at p i ∙ e, e, keep_twice (λ q. not (C q)) (λ q. not (same_part q p)) (first_occurrences ps))
        (r l C h ∙ ap (map part_code) (sym (keep_ext (λ q. not (same_part q p) && not (C q)) (λ q. not (C q)) (first_occurrences ps)
        (λ q m. passes q m e (same_part q p) refl))))
    go (inr e) r =
        rw (h.at p i ∙ e, e, keep_twice (λ q. not (C q)) (λ q. not (same_part q p)) (first_occurrences ps))
        (ap (λ xs. part_code p ∷ xs)
        (r (set l (part_code p) true) (with p C) (marked_holds p i h)
        ∙ ap (map part_code) (sym (keep_ext (λ q. not (same_part q p) && not (C q)) (λ q. not (with p C q)) (first_occurrences ps)
        (λ q m. excludes (same_part q p) (C q))))))
