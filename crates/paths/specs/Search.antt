-- The search over the sources of a bus and their paths: what a path is asked, and what is left to try.
-- Buses, generators and breakers are indices from 0; an owner is a generator's number, from 1, or 0.
use Rattle.std.specs.Prelude.{Option as Answer, Some, None}
use Rattle.std.specs.Prelude.{◌≡◌, refl, Bool, true, false, not, ◌&&◌, ◌⊎◌, ◌≢◌, drop}
use Rattle.std.proofs.Common.{sym, ◌∙◌, inl, inr, arith, drop_of_length-le, drop-cons, eq-eqb, ne_eqb, le-leb}
use Rattle.std.proofs.Math.Bool.{and-false}
use mathlib.Core.List.{List, [], ◌∷◌, ◌++◌, flat_map}
use Rattle.std.proofs.Math.Option.{Option, none, some}
use Prim.Native.Nat.{ℕ, zero, suc, ◌+◌, ◌-◌, ◌≤◌, ◌<◌}
use Rattle.std.proofs.Math.Numerals.{add-one}
use Rattle.std.proofs.Math.ListN.{get_or, length, length-map}
use Rattle.std.proofs.lemmas.Bool.{lt-leb}
use Rattle.model.specs.Lists.{first, ◌∈◌}
use Rattle.model.specs.Plant.{up}
use Rattle.model.specs.Priority.{Path, sources, source_row, high_rises, paths_from, paths}
use Rattle.model.specs.Laws.Tests.{contra, and_left, and_right, and_intro, dec, dec_eq, dec_lt}
use Rattle.model.specs.Laws.Lists.{at_in, map_within, first_past}
use Rattle.theory.specs.Proofs.Geometry.{up_lt}
use Rattle.theory.specs.Theorems.Priorities.{sources_length}
use Rattle.theory.specs.Proofs.Paths.{lower, upper, Ends, lower_lt, upper_lt, sources_at, from_at, path_to}
use Rattle.paths.specs.declared.Span.{Span}
use Rattle.paths.specs.declared.Path.{Path as Found}
use Rattle.walks.specs.Arrays.{at}
use Rattle.walks.specs.Walk.{free, clear_at}
use Rattle.paths.specs.Owner.{path_steps, clear_path, ends_in}

-- the span of a path
abbrev pub span_of : ℕ → Path → Span
span_of n w = record { from = lower w; steps = path_steps n w }

-- what a search asks of a path, by its arrays
unfoldable pub passes_by : ℕ → List Bool → List ℕ → List ℕ → Path → Bool
passes_by n usable breakers owners w = get_or usable w.source false && clear_path n (at breakers) (at owners) w

-- what it asks of a generator first: it may feed, and both end buses of its paths are free
abbrev pub candidate_by : List Bool → List ℕ → ℕ → ℕ → Bool
candidate_by usable owners b g = get_or usable g false && (free (get_or owners b 0) (suc g) && free (get_or owners g 0) (suc g))

-- the path to bus b that an answer names
abbrev pub path_found : ℕ → Answer Found → Option Path
path_found b None = none
path_found b (Some w) = some (path_to b w.source w.rising)

-- both paths of generator g to bus b, the high one first; an own path is both
abbrev pub both_paths : ℕ → ℕ → ℕ → List Path
both_paths n b g = path_to b g (high_rises n g b) ∷ path_to b g (not (high_rises n g b)) ∷ []

-- the one tried at index i, where the high one rises or not
abbrev pub tried : ℕ → ℕ → Bool → ℕ → Path
tried b g high i = path_to b g (get_or (high ∷ not high ∷ []) i false)

-- the paths of the sources from place r on
abbrev pub paths_after : ℕ → ℕ → ℕ → List Path
paths_after n b r = flat_map (paths_from n b) (drop r (sources n b))

-- .. and before them those of the source at place r, but for the first i
abbrev pub paths_left : ℕ → ℕ → ℕ → ℕ → List Path
paths_left n b r i = drop i (both_paths n b (get_or (sources n b) r 0)) ++ paths_after n b (r + 1)

-- a path's span begins in the ring and has fewer breakers than the ring
pub span_lt : (n b g : ℕ) (r : Bool) → b < n → g < n → ((span_of n (path_to b g r)).from < n) × ((span_of n (path_to b g r)).steps < n)
span_lt n b g r hb hg =
    let w = path_to b g r in
    let h : Ends n w = record { source = hg; bus = hb } in
    (lower_lt h, up_lt n (lower w) (upper w) (lower_lt h) (upper_lt h))

-- ---- a path's direction, by cases of the numbers: however the code words its test

pub high_by : (n g b : ℕ) (t : Bool) → (up n g b ≤ up n b g → t ≡ false → ⊥) → (up n b g < up n g b → t ≡ true → ⊥) → t ≡ high_rises n g b
unfolding high_rises
high_by n g b t p q = go (dec_lt (up n b g) (up n g b)) (dec t)
  where
    go : (up n b g < up n g b) ⊎ (up n g b ≤ up n b g) → (t ≡ true) ⊎ (t ≡ false) → t ≡ high_rises n g b
    go (inl l) (inl e) = absurd (q l e)
    go (inl l) (inr e) = rw (lt-leb (up n g b) (up n b g) l) e
    go (inr l) (inl e) = rw (le-leb (up n g b) (up n b g) l) e
    go (inr l) (inr e) = absurd (p l e)

-- ---- one turn

-- a path that passes is a candidate's
pub passes_candidate : (n : ℕ) (usable : List Bool) (breakers owners : List ℕ) (w : Path) → Ends n w
    → passes_by n usable breakers owners w ≡ true
    → candidate_by usable owners w.bus w.source ≡ true
unfolding passes_by
passes_candidate n usable breakers owners w h p =
    let u = get_or usable w.source false in
    let c = clear_at n (at breakers) (at owners) (suc w.source) (upper w) (upper_lt h) (path_steps n w) (lower w) (lower_lt h) refl
    (and_right u _ p) in
    and_intro u _ (and_left u _ p)
    (and_intro (free (get_or owners w.bus 0) (suc w.source)) _ (c.buses w.bus (ends_in h).1) (c.buses w.source (ends_in h).0))

-- .. so that none of another generator passes
candidate_paths : (n : ℕ) (usable : List Bool) (breakers owners : List ℕ) (b g : ℕ) → b < n → g < n → candidate_by usable owners b g ≡ false
    → (w : Path) → w ∈ paths_from n b g → passes_by n usable breakers owners w ≡ false
candidate_paths n usable breakers owners b g hb hg out w m = go (dec (passes_by n usable breakers owners w))
  where
    ends : (w.source ≡ g) × (w.bus ≡ b)
    ends = from_at n b g w m

    go : (passes_by n usable breakers owners w ≡ true) ⊎ (passes_by n usable breakers owners w ≡ false)
        → passes_by n usable breakers owners w ≡ false
    go (inl e) =
        contra (passes_candidate n usable breakers owners w (record { source = rw ends.0 hg; bus = rw ends.1 hb }) e)
        (rw (ends.0, ends.1) out)
    go (inr e) = e

-- an own path passes whichever way it is tried: it has no breakers
own_both : (n : ℕ) (usable : List Bool) (breakers owners : List ℕ) (b : ℕ)
    → passes_by n usable breakers owners (path_to b b true) ≡ passes_by n usable breakers owners (path_to b b false)
unfolding passes_by
own_both n usable breakers owners b = refl

own_high : (n b : ℕ) → high_rises n b b ≡ true
unfolding high_rises
own_high n b = le-leb (up n b b) (up n b b) (omega arith)

-- so a search of the paths of a generator is one of both
search_both : (n : ℕ) (usable : List Bool) (breakers owners : List ℕ) (b g : ℕ) (rest : List Path)
    → first (passes_by n usable breakers owners) (paths_from n b g ++ rest) ≡ first (passes_by n usable breakers owners) (both_paths n b g ++ rest)
unfolding paths_from first
search_both n usable breakers owners b g rest = go (dec_eq g b) (dec (P (path_to b b true)))
  where
    P : Path → Bool
    P = passes_by n usable breakers owners

    go : (g ≡ b) ⊎ (g ≢ b) → (P (path_to b b true) ≡ true) ⊎ (P (path_to b b true) ≡ false)
        → first P (paths_from n b g ++ rest) ≡ first P (both_paths n b g ++ rest)
    go (inl e) (inl t) = rw (e, eq-eqb b b refl, own_high n b, t)
    go (inl e) (inr t) = rw (e, eq-eqb b b refl, own_high n b, t, ← own_both n usable breakers owners b, t)
    go (inr e) t = rw (ne_eqb g b e)

-- ---- the row of a bus

module _ {n b r : ℕ} {row : List ℕ} (hb : b < n) (hr : r < n) (is : row ≡ source_row n b) where
  within : r < length (sources n b)
  within = rw (sources_length n b hb) hr

  number : get_or row r 0 ≡ suc (get_or (sources n b) r 0)
  unfolding source_row
  number = rw is (map_within suc (sources n b) r 0 0 within)

  -- place r is there
  pub place_there : r < length row
  unfolding source_row
  place_there = rw (is, length-map (sources n b) suc) within

  -- .. holds a number
  pub place_number : 1 ≤ get_or row r 0
  place_number = omega (arith, number)

  -- .. which is that of the source there
  pub place_source : get_or row r 0 - 1 ≡ get_or (sources n b) r 0
  place_source = omega (arith, number)

  -- .. a generator of the ring
  pub place_inside : get_or row r 0 - 1 < n
  place_inside = omega (arith, number, sources_at n b _ hb (at_in (sources n b) r 0 within))

-- ---- what the search has left

-- nothing is found yet, and the whole search is the search of the paths ws
pub record Left (n : ℕ) (usable : List Bool) (breakers owners : List ℕ) (b : ℕ) (f : Answer Found) (ws : List Path) : Type 0 where
  pub nothing : f ≡ None
  pub left : first (passes_by n usable breakers owners) (paths n b) ≡ first (passes_by n usable breakers owners) ws

module _ {n : ℕ} {usable : List Bool} {breakers owners : List ℕ} {b : ℕ} {f : Answer Found} where
  -- the next generator: both of its paths are left
  pub left_source : (r : ℕ) → b < n → r < n → Left n usable breakers owners b f (paths_after n b r)
      → Left n usable breakers owners b f (paths_left n b r 0)
  unfolding flat_map
  left_source r hb hr l = record {
    nothing = l.nothing;
    left = l.left
        ∙ rw (drop-cons (sources n b) r 0 (rw (sources_length n b hb) hr), add-one r)
        (search_both n usable breakers owners b (get_or (sources n b) r 0) (paths_after n b (suc r)));
  }

  -- it is no candidate: none of them passes
  pub left_out : (r : ℕ) {g : ℕ} {k : Bool} → b < n → r < n → g < n → g ≡ get_or (sources n b) r 0
      → k ≡ candidate_by usable owners b g → k ≡ false
      → Left n usable breakers owners b f (paths_after n b r) → Left n usable breakers owners b f (paths_after n b (r + 1))
  unfolding flat_map
  left_out r {g} hb hr hg e c z l = record {
    nothing = l.nothing;
    left = l.left
        ∙ rw (drop-cons (sources n b) r 0 (rw (sources_length n b hb) hr), add-one r)
        (first_past (passes_by n usable breakers owners) (paths_from n b (get_or (sources n b) r 0)) (paths_after n b (suc r))
        (candidate_paths n usable breakers owners b (get_or (sources n b) r 0) hb (rw (← e) hg) (rw (← e) (sym c ∙ z))));
  }

  -- the path tried, of a candidate, passes as the walk along it says
  module _ (r i : ℕ) {g : ℕ} {high t : Bool} (few : i < 2) (e : g ≡ get_or (sources n b) r 0) (h : high ≡ high_rises n g b)
      (way : t ≡ clear_path n (at breakers) (at owners) (tried b g high i))
      (l : Left n usable breakers owners b f (paths_left n b r i)) where
    next_left : paths_left n b r i ≡ tried b g high i ∷ paths_left n b r (i + 1)
    next_left = rw (← e, h) (go i few)
      where
        go : (j : ℕ) → j < 2 → drop j (both_paths n b g) ++ paths_after n b (r + 1)
            ≡ tried b g (high_rises n g b) j ∷ drop (j + 1) (both_paths n b g) ++ paths_after n b (r + 1)
        go zero k = refl
        go (suc zero) k = refl
        go (suc (suc j)) k = absurd (omega arith)

    pub left_miss : t ≡ false → Left n usable breakers owners b f (paths_left n b r (i + 1))
    unfolding first passes_by
    left_miss z = record {
      nothing = l.nothing;
      left = l.left ∙ rw (next_left, ← way, z, and-false (get_or usable g false));
    }

    pub left_hit : {k : Bool} → k ≡ candidate_by usable owners b g → k ≡ true → t ≡ true
        → some (tried b g high i) ≡ first (passes_by n usable breakers owners) (paths n b)
    unfolding first passes_by
    left_hit c y z = sym (l.left ∙ rw (next_left, and_left (get_or usable g false) _ (sym c ∙ y), ← way, z))

  -- it has no path more
  pub left_next : (r i : ℕ) → 2 ≤ i → Left n usable breakers owners b f (paths_left n b r i)
      → Left n usable breakers owners b f (paths_after n b (r + 1))
  left_next r i h l = record {
    nothing = l.nothing;
    left = l.left ∙ rw (drop_of_length-le (both_paths n b (get_or (sources n b) r 0)) {i = i} h);
  }

  -- there is no generator more
  pub left_none : (r : ℕ) → b < n → n ≤ r → Left n usable breakers owners b f (paths_after n b r)
      → path_found b f ≡ first (passes_by n usable breakers owners) (paths n b)
  unfolding first flat_map
  left_none r hb h l =
      let z : length (sources n b) ≤ r = omega (arith, sources_length n b hb) in
      rw l.nothing (sym (l.left ∙ rw (drop_of_length-le (sources n b) z)))

-- before the first turn
pub left_start : (n : ℕ) (usable : List Bool) (breakers owners : List ℕ) (b : ℕ)
    → Left n usable breakers owners b None (paths_after n b 0)
unfolding paths
left_start n usable breakers owners b = record { nothing = refl; left = refl }
