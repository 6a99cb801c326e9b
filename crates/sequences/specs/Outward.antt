-- The codes of the buses' paths, outward from their generators, and the path that a choice names.
use Rattle.std.specs.Prelude.{◌≡◌, Bool, true, false, not, cond, ◌≢◌, eqb, length}
use Rattle.std.proofs.Math.Path.{refl, sym}
use Rattle.std.proofs.Common.{◌∙◌, ap, inl, inr, zero-add, add-zero, add-one, length-append, eqb-true}
use Rattle.std.specs.Bool.{beq}
use mathlib.Core.List.Memᴰ
use mathlib.Core.List.{List, [], ◌∷◌, ◌++◌, map, flat_map, map-append, map-map, append_assoc, append-nil}
use Rattle.std.proofs.Math.Option.{Option, none, some}
use Prim.Native.Nat.{ℕ, zero, suc, ◌+◌, ◌-◌, ◌≤◌, ◌<◌}
use Prim.Native.Char.{code}
use native.Mathlib.Omega.{arith}
use Rattle.std.proofs.lemmas.List.{length-map}
use Rattle.model.specs.declared.Part.{Part}
use Rattle.model.specs.declared.Choice.{Choice}
use Rattle.model.specs.declared.Choice.TheVariants.{Dark, Own, High, Low}
use Rattle.model.specs.declared.BusChoice.{BusChoice}
use Rattle.model.specs.Lists.{below, ◌∈◌}
use Rattle.model.specs.Values.{index, part_code, choice_source, choice_letter, choice_at}
use Rattle.model.specs.Plant.{PartHealth, PartCommands, largest, bus_breaker, InRing}
use Rattle.model.specs.Priority.{Path, path_bus_breakers, path_breakers, path_parts, high_rises, paths}
use Rattle.model.specs.Choosing.{permitted, choose, chosen, plan, choice_of, choices}
use Rattle.model.specs.Sheet.{parts_of, sequence, closing}
use Rattle.model.specs.Laws.Tests.{contra}
use Rattle.model.specs.Laws.Lists.{below_lt, flat_at, flat_below, none_some, first_at}
use Rattle.model.specs.Laws.Choosing.{choices_at, Inside, AllInside}
use Rattle.model.specs.Laws.Appended.{Appended, appended_none}
use Rattle.model.specs.Laws.Sheet.{closing_paths}
use Rattle.theory.specs.Proofs.Paths.{Ends, path_in_ring, path_to, tried_own, tried_at}
use Rattle.walks.specs.Walk.{outward, outward_path}
use Rattle.paths.specs.Search.{span_of}
use Rattle.sequences.specs.Marks.{mark_all, fresh, Listed, fresh_append, room_front, room_behind, Holds, fresh_occurrences}

-- the path to bus b that a choice names
abbrev pub named_path : ℕ → ℕ → Choice → Option Path
named_path n b Dark = none
named_path n b (Own g) = some (path_to b (index g) true)
named_path n b (High g) = some (path_to b (index g) (high_rises n (index g) b))
named_path n b (Low g) = some (path_to b (index g) (not (high_rises n (index g) b)))

-- the codes of bus breakers
abbrev pub breaker_codes : List ℕ → List ℕ
breaker_codes is = map (λ i. 64 + i) is

-- the codes of a bus's path
abbrev pub path_codes : ℕ → Option Path → List ℕ
path_codes n o = map part_code (parts_of n o)

-- each bus's path, as its choice names it
abbrev pub named_paths : ℕ → List BusChoice → ℕ → Option Path
named_paths n cs b = named_path n b (choice_at cs b)

-- the codes of the paths of the first k buses
unfoldable pub codes_to : ℕ → List BusChoice → ℕ → List ℕ
codes_to n cs k = map part_code (flat_map (λ b. parts_of n (named_paths n cs b)) (below k))

-- ---- the codes of a path

pub path_codes_lem : (n b g : ℕ) (r : Bool) → b < n → g < n
    → map part_code (path_parts n (path_to b g r)) ≡ g ∷ (32 + g) ∷ breaker_codes (outward n r g (span_of n (path_to b g r)).steps)
unfolding path_parts path_breakers part_code
path_codes_lem n b g r hb hg =
    rw (outward_path n (path_to b g r) (record { source = hg; bus = hb }), zero-add)
    (ap (λ l. g ∷ (32 + g) ∷ l) (map-map part_code bus_breaker (path_bus_breakers n (path_to b g r))))

-- ---- the generator that a choice names

-- a choice of generator k with a letter other than the dark one's
module _ (n k : ℕ) (c : Choice) (is : choice_source c ≡ k) (lit : choice_letter c ≢ code "-") where
  lit_inside : Inside n c → (0 < k) × (k ≤ n)
  lit_inside (inl e) = absurd (lit (rw e))
  lit_inside (inr i) = (omega (arith, i.0), omega (arith, i.1))

module _ (n k : ℕ) (c : Choice) (i : Inside n c) where
  pub own_inside : c ≡ Own k → (0 < k) × (k ≤ n)
  own_inside e = lit_inside n k c (rw e) (λ z. let y = rw e at z in absurd (omega arith)) i

  pub high_inside : c ≡ High k → (0 < k) × (k ≤ n)
  high_inside e = lit_inside n k c (rw e) (λ z. let y = rw e at z in absurd (omega arith)) i

  pub low_inside : c ≡ Low k → (0 < k) × (k ≤ n)
  low_inside e = lit_inside n k c (rw e) (λ z. let y = rw e at z in absurd (omega arith)) i

-- the index of a number, as code takes it
pub index_is : (k : ℕ) → k - 1 ≡ index k
index_is zero = omega arith
index_is (suc k) = omega arith

-- its path lies in the ring
pub named_ends : (n b : ℕ) (c : Choice) (w : Path) → Inside n c → b < n → some w ≡ named_path n b c → Ends n w
named_ends n b c w i hb e = go c refl e
  where
    is : {v : Path} → some w ≡ some v → Ends n v → Ends n w
    is {v} f h = let z : w ≡ v = cc in rw z h

    go : (d : Choice) → c ≡ d → some w ≡ named_path n b d → Ends n w
    go Dark d f = none_some refl (sym f)
    go (Own k) d f = is f (record { source = omega (arith, index_is k, own_inside n k c i d); bus = hb })
    go (High k) d f = is f (record { source = omega (arith, index_is k, high_inside n k c i d); bus = hb })
    go (Low k) d f = is f (record { source = omega (arith, index_is k, low_inside n k c i d); bus = hb })

-- ---- the choices of a plan

beq_same : (a b : Bool) → beq a b ≡ true → a ≡ b
beq_same true true e = refl
beq_same true false e = contra e refl
beq_same false true e = contra e refl
beq_same false false e = refl

beq_other : (a b : Bool) → beq a b ≡ false → a ≡ not b
beq_other true true e = contra refl e
beq_other true false e = refl
beq_other false true e = refl
beq_other false false e = contra refl e

module _ (n : ℕ) (H : PartHealth) (small : n ≤ largest) where
  -- a choice of the plan names the path that it was made for
  named_plan : (b : ℕ) → b < n → named_path n b (choice_at (choices n H) b) ≡ plan n H b
  unfolding choice_of plan choose
  named_plan b hb = rw (choices_at n H b (record { choice = Dark }) hb small) (go (plan n H b) refl)
    where
      path_is : (w : Path) (r : Bool) → w.bus ≡ b → w.rising ≡ r → path_to b w.source r ≡ w
      path_is w r e f = λ i. record { source = w.source; bus = sym e i; rising = sym f i }

      side : (w : Path) → w.bus ≡ b → (t : Bool) → beq w.rising (high_rises n w.source w.bus) ≡ t
          → named_path n b (cond t (High (suc w.source)) (Low (suc w.source))) ≡ some w
      side w e true s = ap some (path_is w (high_rises n w.source b) e (beq_same _ _ (rw e at s)))
      side w e false s = ap some (path_is w (not (high_rises n w.source b)) e (beq_other _ _ (rw e at s)))

      own : (w : Path) → w ∈ paths n b → w.bus ≡ b → (t : Bool) → eqb w.source w.bus ≡ t
          → named_path n b (cond t (Own (suc w.source))
          (cond (beq w.rising (high_rises n w.source w.bus)) (High (suc w.source)) (Low (suc w.source)))) ≡ some w
      own w m e true s = ap some (path_is w true e (tried_own n b w m (eqb-true w.source w.bus s ∙ e)))
      own w m e false s = side w e _ refl

      go : (o : Option Path) → plan n H b ≡ o → named_path n b (choice_of n o) ≡ o
      go none e = refl
      go (some w) e =
          let f = first_at (permitted n H (chosen n H b)) (paths n b) w e in
          own w f.0 (tried_at n b w hb f.0).1 _ refl

  -- so the closing phase of its choices is that of its paths
  pub closing_named : (C : PartCommands) → closing n C (named_paths n (choices n H)) ≡ closing n C (plan n H)
  closing_named C = closing_paths n C (named_paths n (choices n H)) (plan n H) named_plan

-- ---- bus by bus

module _ (n : ℕ) (cs : List BusChoice) where
  pub codes_none : codes_to n cs 0 ≡ []
  unfolding codes_to below flat_map
  codes_none = refl

  pub codes_more : (b : ℕ) → codes_to n cs (b + 1) ≡ codes_to n cs b ++ path_codes n (named_paths n cs b)
  unfolding codes_to
  codes_more b = rw (add-one b, flat_below (λ k. parts_of n (named_paths n cs k)) b, map-append)

  -- the codes of the first buses come first
  codes_front : (k j : ℕ) → (rest : List ℕ) × (codes_to n cs (k + j) ≡ codes_to n cs k ++ rest)
  codes_front k zero = ([], rw (add-zero k) (sym (append-nil (codes_to n cs k))))
  codes_front k (suc j) =
      let t = codes_front k j in
      let more = path_codes n (named_paths n cs (k + j)) in
      let e : k + suc j ≡ k + j + 1 = omega arith in
      (t.0 ++ more, rw (e, codes_more (k + j), t.1) (append_assoc (codes_to n cs k) t.0 more))

  pub front : (k : ℕ) → k ≤ n → (rest : List ℕ) × (codes_to n cs n ≡ codes_to n cs k ++ rest)
  front k h =
      let t = codes_front k (n - k) in
      let e : k + (n - k) ≡ n = omega arith in
      (t.0, rw e at t.1)

no_more : {A : Type 0} (xs ys : List A) → length (xs ++ ys) ≡ length xs → xs ++ ys ≡ xs
no_more xs [] e = append-nil xs
no_more xs (y ∷ ys) e = absurd (omega (arith, length-append xs (y ∷ ys)))

-- the codes of the first b buses are gone through, from the commands C on
module _ (n : ℕ) (small : n ≤ largest) (C : PartCommands) (cs : List BusChoice) (names : AllInside n cs) (count : ℕ)
    (counted : count ≡ length (closing n C (named_paths n cs))) (fits : count ≤ 60) (l : List Bool) (holds : Holds l C) (b end : ℕ) (inside : b ≤ n)
    (codes codes' : List ℕ) (l' : List Bool) (listed : Listed (codes_to n cs b) l codes 0 l' codes' end) where
  in_ring : (k : ℕ) (o : Option Path) → named_paths n cs k ≡ o → k < n → (p : Part) → p ∈ parts_of n o → InRing largest p
  unfolding parts_of
  in_ring k none e h p m = absurd (Memᴰ.not-nil m)
  in_ring k (some w) e h p m =
      let r = path_in_ring n w (named_ends n k (choice_at cs k) w (names k h) h (sym e)) p m in (r.0, omega (arith, r.1))

  -- what is listed of all of them is the closing phase
  all_are : fresh l (codes_to n cs n) ≡ map part_code (closing n C (named_paths n cs))
  unfolding codes_to closing sequence
  all_are =
      fresh_occurrences (flat_map (λ k. parts_of n (named_paths n cs k)) (below n)) l C holds (λ p m.
      let t = flat_at (λ k. parts_of n (named_paths n cs k)) (below n) m in
      in_ring t.0 _ refl (below_lt n t.0 t.1) p t.2)

  all_length : length (fresh l (codes_to n cs n)) ≡ count
  all_length = ap length all_are ∙ length-map (closing n C (named_paths n cs)) part_code ∙ sym counted

  -- there is room for the next bus's
  pub next_room : b < n → end + length (fresh l' (path_codes n (named_paths n cs b))) ≤ 60
  next_room h =
      let t = front n cs (b + 1) (omega arith) in
      let all : 0 + length (fresh l (codes_to n cs n)) ≤ 60 = omega (arith, all_length) in
      room_behind _ 60 listed (rw (codes_more n cs b) at (room_front 0 l (codes_to n cs (b + 1)) t.0 60 (rw t.1 at all)))

  -- .. and they are the closing phase if they are as many
  pub full : end ≡ count → Appended (map part_code (closing n C (named_paths n cs))) codes 0 codes' count
  full e =
      let t = front n cs b inside in
      let f : fresh l (codes_to n cs n) ≡ fresh l (codes_to n cs b) ++ fresh (mark_all l (codes_to n cs b)) t.0 =
      ap (fresh l) t.1 ∙ fresh_append l (codes_to n cs b) t.0 in
      let same : fresh l (codes_to n cs n) ≡ fresh l (codes_to n cs b) =
      f ∙ no_more (fresh l (codes_to n cs b)) _ (omega (arith, ap length f, all_length, listed.stored.end)) in
      rw (← all_are, same, ← e) listed.stored

  pub done : b ≡ n → Appended (map part_code (closing n C (named_paths n cs))) codes 0 codes' count
  done e = full (omega (arith, listed.stored.end, ap (λ k. length (fresh l (codes_to n cs k))) e ∙ all_length))

-- a phase of no parts
pub nothing_listed : (ps : List Part) (codes : List ℕ) (count : ℕ) → count ≡ length ps → count ≡ 0 → Appended (map part_code ps) codes 0 codes count
nothing_listed [] codes count e z = rw z (appended_none codes 0)
nothing_listed (p ∷ ps) codes count e z = absurd (omega arith)
