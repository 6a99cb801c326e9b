-- The table of source priorities: where each row begins, and that it is its bus's. Buses are indices from 0.
use Rattle.std.specs.Prelude.{◌≡◌, refl, Bool, true, false, ◌&&◌, cond, ◌⊎◌, ℕ, zero, suc, ◌+◌, ◌-◌, ◌*◌, ◌/◌, ◌≤◌, ◌<◌, leb, eqb, get_or, take, drop}
use Rattle.std.proofs.Common.{sym, ◌∙◌, ap, inl, inr, arith, suc-mul, length-append, take_at, drop_at, get_or-take, get_or-drop}
use mathlib.Core.List.{List, [], ◌∷◌, ◌++◌, flat_map, append_assoc, append-nil}
use Rattle.std.proofs.Math.ListN.{length}
use Rattle.std.proofs.lemmas.List.{length-map}
use borrow.Author.Tests.{le-leb, leb-true, eqb-true}
use Rattle.model.specs.Lists.{below, keep, all_of}
use Rattle.model.specs.Priority.{others, sources, source_row, source_page, pages_below, source_table}
use Rattle.model.specs.Laws.Tests.{and_left, and_right, dec, dec_lt}
use Rattle.model.specs.Laws.Lists.{below_in, map_within, flat_below, all_at, keep_in}
use Rattle.theory.specs.Theorems.Priorities.{sources_length}

-- where the row of bus b begins: behind the smaller rings, and behind the rows of the buses before it
unfoldable pub row_start : ℕ → ℕ → ℕ
row_start n b = length (pages_below n) + b * n

-- "2,865 entries"
pub table_length : length source_table ≡ 2865
unfolding source_table pages_below source_page source_row sources others keep below flat_map
table_length = refl

-- a row has an entry for each generator
pub row_length : (n b : ℕ) → b < n → length (source_row n b) ≡ n
unfolding source_row
row_length n b h = length-map (sources n b) suc ∙ sources_length n b h

-- the lists of the numbers below k one behind the other, parted at one of them
abbrev Parted : {A : Type 0} → (ℕ → List A) → ℕ → ℕ → Type 0
Parted {A} f k b = (rest : List A) × (flat_map f (below k) ≡ flat_map f (below b) ++ (f b ++ rest))

parted : {A : Type 0} (f : ℕ → List A) (k b : ℕ) → b < k → Parted f k b
parted f zero b h = absurd (omega arith)
parted f (suc k) b h = go (parted f k b) (dec_lt b k)
  where
    go : (b < k → Parted f k b) → (b < k) ⊎ (k ≤ b) → Parted f (suc k) b
    go earlier (inl l) =
        let t = earlier l in (
          t.0 ++ f k,
          rw (flat_below f k, t.1, append_assoc (flat_map f (below b)) (f b ++ t.0) (f k), append_assoc (f b) t.0 (f k)),
        )
    go earlier (inr l) = let e : b ≡ k = omega arith in ([], rw (e, flat_below f k, append-nil (f k)))

-- the rows of the first k buses
rows_length : (n k : ℕ) → k ≤ n → length (flat_map (source_row n) (below k)) ≡ k * n
unfolding flat_map below
rows_length n zero h = omega arith
rows_length n (suc k) h =
    ap length (flat_below (source_row n) k) ∙ length-append (flat_map (source_row n) (below k)) (source_row n k)
    ∙ omega (arith, rows_length n k (omega arith), row_length n k h, suc-mul k n)

-- the page of a size, and nothing for what is no size
page : ℕ → List ℕ
page n = cond (leb 3 n) (source_page n) []

pages_flat : (xs : List ℕ) → flat_map source_page (keep (leb 3) xs) ≡ flat_map page xs
unfolding flat_map keep page
pages_flat [] = refl
pages_flat (x ∷ xs) = go (pages_flat xs) (dec (leb 3 x))
  where
    go : flat_map source_page (keep (leb 3) xs) ≡ flat_map page xs → (leb 3 x ≡ true) ⊎ (leb 3 x ≡ false)
        → flat_map source_page (keep (leb 3) (x ∷ xs)) ≡ flat_map page (x ∷ xs)
    go r (inl e) = rw (e, r)
    go r (inr e) = rw (e, r)

-- the table parted at a row
table_parted : (n b : ℕ) → 3 ≤ n → n ≤ 20 → b < n
    → (front rest : List ℕ) × (length front ≡ row_start n b) × (source_table ≡ front ++ (source_row n b ++ rest))
unfolding source_table pages_below source_page page row_start
table_parted n b h k hb =
    let t = parted page 21 n (omega arith) in
    let u = parted (source_row n) n b hb in
    let before = flat_map page (below n) in
    let rows = flat_map (source_row n) (below b) in (
      before ++ rows,
      u.0 ++ t.0,
      length-append before rows ∙ omega (arith, rows_length n b (omega arith), ap length (pages_flat (below n))),
      pages_flat (below 21) ∙ t.1
          ∙ rw (
            le-leb 3 n h,
            u.1,
            append_assoc rows (source_row n b ++ u.0) t.0,
            append_assoc (source_row n b) u.0 t.0,
            append_assoc before rows (source_row n b ++ (u.0 ++ t.0)),
          ),
    )

-- ---- where the rows of a size begin

-- the squares of the numbers below n together
abbrev pub squares_below : ℕ → ℕ
squares_below n = (n - 1) * n * (2 * n - 1) / 6

-- before the rows of size n stand all squares below its own but 1 and 4, and no product on the way is large
starts_behind : ℕ → Bool
starts_behind n =
    eqb (squares_below n) (length (pages_below n) + 5) && (leb ((n - 1) * n) 380 && leb ((n - 1) * n * (2 * n - 1)) 14820)

every_size : all_of starts_behind (keep (leb 3) (below 21)) ≡ true
unfolding starts_behind all_of pages_below source_page source_row sources others keep below flat_map
every_size = refl

module _ (n : ℕ) (h : 3 ≤ n) (k : n ≤ 20) where
  starts : starts_behind n ≡ true
  starts = all_at starts_behind (keep (leb 3) (below 21)) every_size n (keep_in (leb 3) (below_in 21 n (omega arith)) (le-leb 3 n h))

  pub squares_before : squares_below n ≡ length (pages_below n) + 5
  unfolding starts_behind
  squares_before =
      let z = length (pages_below n) + 5 in eqb-true (squares_below n) z (and_left (eqb (squares_below n) z) _ starts)

  pub squares_small : ((n - 1) * n ≤ 380) × ((n - 1) * n * (2 * n - 1) ≤ 14820)
  unfolding starts_behind
  squares_small =
      let t = and_right (eqb (squares_below n) (length (pages_below n) + 5)) _ starts in (
        leb-true ((n - 1) * n) 380 (and_left (leb ((n - 1) * n) 380) _ t),
        leb-true ((n - 1) * n * (2 * n - 1)) 14820 (and_right (leb ((n - 1) * n) 380) _ t),
      )

-- ---- the rows

-- the row of each bus of each ring, from where it begins, is the rule's
pub row_at : (n b : ℕ) → 3 ≤ n → n ≤ 20 → b < n → take n (drop (row_start n b) source_table) ≡ source_row n b
row_at n b h k hb =
    let t = table_parted n b h k hb in
    rw (t.3, drop_at t.0 (source_row n b ++ t.1) (row_start n b) t.2) (take_at (source_row n b) t.1 n (row_length n b hb))

-- .. and ends within the table
pub row_inside : (n b : ℕ) → 3 ≤ n → n ≤ 20 → b < n → row_start n b + n ≤ 2865
row_inside n b h k hb =
    let t = table_parted n b h k hb in
    omega (
      arith,
      table_length,
      ap length t.3,
      length-append t.0 (source_row n b ++ t.1),
      length-append (source_row n b) t.1,
      row_length n b hb,
      t.2,
    )

-- "The table and the rule of document 01 must agree at every entry": place r of the row of bus b holds the number of its source there
pub every_entry : (n b r : ℕ) → 3 ≤ n → n ≤ 20 → b < n → r < n → get_or source_table (row_start n b + r) 0 ≡ suc (get_or (sources n b) r 0)
unfolding source_row
every_entry n b r h k hb hr =
    sym (get_or-drop (row_start n b) source_table r 0) ∙ sym (get_or-take n (drop (row_start n b) source_table) r 0 hr)
    ∙ ap (λ xs. get_or xs r 0) (row_at n b h k hb) ∙ map_within suc (sources n b) r 0 0 (rw (sources_length n b hb) hr)
