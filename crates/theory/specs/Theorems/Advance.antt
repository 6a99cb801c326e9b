-- Document 02, Note 4: "Site crews follow the strokes on the lamps and want to see current advance." When an operation of the closing phase
-- comes, in the sheet's order, all that stands before its part on a chosen path is commanded on or closed already.
use Rattle.std.specs.Prelude.{◌≡◌, refl, Bool, true, false, not, ◌⊎◌, ℕ, ◌<◌}
use Rattle.std.proofs.Common.{◌∙◌, ap}
use Rattle.std.proofs.Math.Logic.{inl, inr}
use mathlib.Core.List.Memᴰ
use mathlib.Core.List.{List, [], ◌∷◌, ◌++◌, flat_map}
use Rattle.std.proofs.Math.Option.{Option, none, some}
use Rattle.model.specs.declared.Part.{Part}
use Rattle.model.specs.Lists.{below, keep, ◌∈◌}
use Rattle.model.specs.Values.{same_part}
use Rattle.model.specs.Plant.{PartHealth, PartCommands}
use Rattle.model.specs.Priority.{Path}
use Rattle.model.specs.Choosing.{plan}
use Rattle.model.specs.Sheet.{first_occurrences, parts_of, sequence, closing}
use Rattle.std.proofs.lemmas.Bool.{not-false}
use Rattle.model.specs.Laws.Tests.{never, dec}
use Rattle.model.specs.Laws.Lists.{all_cons, below_lt}
use Rattle.model.specs.Laws.Parts.{same_eq}
use Rattle.theory.specs.Statements.Outward.{Behind, Follows}

-- ---- lists up to an element

module _ {A : Type 0} where
  never_nil : {X : Type 0} (x : A) (xs ys : List A) → [] ≡ xs ++ (x ∷ ys) → X
  never_nil x [] ys e = let z : [] ≡ x ∷ ys = e in never cc
  never_nil x (w ∷ xs) ys e = let z : [] ≡ w ∷ (xs ++ (x ∷ ys)) = e in never cc

  at_front : {P : A → Type 0} {x : A} (z : A) (zs : List A) → z ≡ x → Behind P x (z ∷ zs)
  at_front z zs e = record { front = []; back = zs; is = rw e; before = λ y m. absurd (Memᴰ.not-nil m) }

  -- an element more in front
  one_before : {P Q : A → Type 0} {x : A} {zs : List A} (z : A) → Behind P x zs → Q z → ((y : A) → P y → Q y) → Behind Q x (z ∷ zs)
  one_before {Q = Q} z b q f = record {
    front = z ∷ b.front;
    back = b.back;
    is = ap (λ l. z ∷ l) b.is;
    before = all_cons Q q (λ y m. f y (b.before y m));
  }

-- an element that was kept: all before it was kept too, or did not pass
module _ {A : Type 0} (f : A → Bool) (x : A) (ys : List A) where
  kept_behind : (zs xs : List A) → keep f zs ≡ xs ++ (x ∷ ys) → Behind (λ z. (f z ≡ false) ⊎ (z ∈ xs)) x zs
  unfolding keep
  kept_behind [] xs e = never_nil x xs ys e
  kept_behind (z ∷ zs) xs e = go (dec (f z)) (λ us d. kept_behind zs us d)
    where
      go : (f z ≡ true) ⊎ (f z ≡ false)
          → ((us : List A) → keep f zs ≡ us ++ (x ∷ ys) → Behind (λ y. (f y ≡ false) ⊎ (y ∈ us)) x zs)
          → Behind (λ y. (f y ≡ false) ⊎ (y ∈ xs)) x (z ∷ zs)
      go (inl t) r = pick xs (rw t at e)
        where
          pick : (us : List A) → z ∷ keep f zs ≡ us ++ (x ∷ ys) → Behind (λ y. (f y ≡ false) ⊎ (y ∈ us)) x (z ∷ zs)
          pick [] d = let h : z ≡ x = cc in at_front z zs h
          pick (w ∷ us) d =
              let q : z ∷ keep f zs ≡ w ∷ (us ++ (x ∷ ys)) = d in
              let h : z ≡ w = cc in
              let d' : keep f zs ≡ us ++ (x ∷ ys) = cc in
              one_before z (r us d') (inr (Memᴰ.head h)) later
            where
              later : (y : A) → (f y ≡ false) ⊎ (y ∈ us) → (f y ≡ false) ⊎ (y ∈ w ∷ us)
              later y (inl c) = inl c
              later y (inr m) = inr (Memᴰ.tail m)
      go (inr t) r = one_before z (r xs (rw t at e)) (inl t) (λ y c. c)

-- a part where it first comes: all before it has come
comes_behind : (p : Part) (qs xs ys : List Part) → first_occurrences qs ≡ xs ++ (p ∷ ys) → Behind (λ q. q ∈ xs) p qs
unfolding first_occurrences
comes_behind p [] xs ys e = never_nil p xs ys e
comes_behind p (q ∷ qs) [] ys e =
    let d : q ∷ keep (λ r. not (same_part r q)) (first_occurrences qs) ≡ p ∷ ys = e in
    let h : q ≡ p = cc in
    at_front q qs h
comes_behind p (q ∷ qs) (w ∷ xs) ys e =
    let d : q ∷ keep (λ r. not (same_part r q)) (first_occurrences qs) ≡ w ∷ (xs ++ (p ∷ ys)) = e in
    let h : q ≡ w = cc in
    let d' : keep (λ r. not (same_part r q)) (first_occurrences qs) ≡ xs ++ (p ∷ ys) = cc in
    let k = kept_behind (λ r. not (same_part r q)) p ys (first_occurrences qs) xs d' in
    one_before q (comes_behind p qs k.front k.back k.is) (Memᴰ.head h) (λ r m. come r h (k.before r m))
  where
    come : (r : Part) → q ≡ w → (not (same_part r q) ≡ false) ⊎ (r ∈ xs) → r ∈ w ∷ xs
    come r h (inl c) = Memᴰ.head (same_eq r q (not-false (same_part r q) c) ∙ h)
    come r h (inr m) = Memᴰ.tail m

-- ---- lists one behind the other

-- x stands in the first of two lists, or in the second behind elements that stand before it in the whole
module _ {A : Type 0} (x : A) (ys : List A) where
  append_behind : (l m xs : List A) → l ++ m ≡ xs ++ (x ∷ ys)
      → Behind (λ y. y ∈ xs) x l ⊎ ((zs : List A) × (m ≡ zs ++ (x ∷ ys)) × ((y : A) → y ∈ zs → y ∈ xs))
  append_behind [] m xs e = inr (xs, e, λ y k. k)
  append_behind (z ∷ l) m [] e =
      let d : z ∷ (l ++ m) ≡ x ∷ ys = e in
      let h : z ≡ x = cc in
      inl (at_front z l h)
  append_behind (z ∷ l) m (w ∷ xs) e =
      let d : z ∷ (l ++ m) ≡ w ∷ (xs ++ (x ∷ ys)) = e in
      let h : z ≡ w = cc in
      let d' : l ++ m ≡ xs ++ (x ∷ ys) = cc in
      go h (append_behind l m xs d')
    where
      go : z ≡ w → Behind (λ y. y ∈ xs) x l ⊎ ((zs : List A) × (m ≡ zs ++ (x ∷ ys)) × ((y : A) → y ∈ zs → y ∈ xs))
          → Behind (λ y. y ∈ w ∷ xs) x (z ∷ l) ⊎ ((zs : List A) × (m ≡ zs ++ (x ∷ ys)) × ((y : A) → y ∈ zs → y ∈ w ∷ xs))
      go h (inl b) = inl (one_before z b (Memᴰ.head h) (λ y k. Memᴰ.tail k))
      go h (inr t) = inr (t.0, t.1, λ y k. Memᴰ.tail (t.2 y k))

  -- .. and of several
  flat_behind : {B : Type 0} (f : B → List A) (bs : List B) (xs : List A) → flat_map f bs ≡ xs ++ (x ∷ ys)
      → (b : B) × (b ∈ bs) × Behind (λ y. y ∈ xs) x (f b)
  unfolding flat_map
  flat_behind f [] xs e = never_nil x xs ys e
  flat_behind {B} f (b ∷ bs) xs e = go (append_behind (f b) (flat_map f bs) xs e) (λ zs d. flat_behind f bs zs d)
    where
      weaker : {zs l : List A} → ((y : A) → y ∈ zs → y ∈ xs) → Behind (λ y. y ∈ zs) x l → Behind (λ y. y ∈ xs) x l
      weaker s k = record { front = k.front; back = k.back; is = k.is; before = λ y m. s y (k.before y m) }

      go : Behind (λ y. y ∈ xs) x (f b) ⊎ ((zs : List A) × (flat_map f bs ≡ zs ++ (x ∷ ys)) × ((y : A) → y ∈ zs → y ∈ xs))
          → ((zs : List A) → flat_map f bs ≡ zs ++ (x ∷ ys) → (c : B) × (c ∈ bs) × Behind (λ y. y ∈ zs) x (f c))
          → (c : B) × (c ∈ b ∷ bs) × Behind (λ y. y ∈ xs) x (f c)
      go (inl k) r = (b, Memᴰ.head refl, k)
      go (inr t) r = let u = r t.0 t.1 in (u.0, Memᴰ.tail u.1, weaker t.2 u.2)

-- ---- the closing phase

-- part p of the closing phase, with the parts xs before it
pub advances : (n : ℕ) (H : PartHealth) (old : PartCommands) (xs ys : List Part) (p : Part) → closing n old (plan n H) ≡ xs ++ (p ∷ ys)
    → Follows n H old xs p
unfolding closing sequence parts_of
advances n H old xs ys p e =
    let each : ℕ → List Part = λ b. parts_of n (plan n H b) in
    let k = kept_behind (λ q. not (old q)) p ys (first_occurrences (flat_map each (below n))) xs e in
    let c = comes_behind p (flat_map each (below n)) k.front k.back k.is in
    let t = flat_behind p c.back each (below n) c.front c.is in
    go t.0 (below_lt n t.0 t.1) (plan n H t.0) refl
    (record {
      front = t.2.front;
      back = t.2.back;
      is = t.2.is;
      before = λ q m. stands q (k.before q (c.before q (t.2.before q m)));
    })
  where
    stands : (q : Part) → (not (old q) ≡ false) ⊎ (q ∈ xs) → (old q ≡ true) ⊎ (q ∈ xs)
    stands q (inl c) = inl (not-false (old q) c)
    stands q (inr m) = inr m

    go : (b : ℕ) → b < n → (o : Option Path) → plan n H b ≡ o → Behind (λ q. (old q ≡ true) ⊎ (q ∈ xs)) p (parts_of n o)
        → Follows n H old xs p
    go b l none f k = never_nil p k.front k.back k.is
    go b l (some w) f k = (b, w, l, f, k)
