-- Laws of lists without repeats. Two such lists of parts that have the same members are one in another order.
use Rattle.std.specs.Prelude.{◌≡◌, refl, Bool, true, false, not, ◌⊎◌, ◌↔◌, ℕ, suc, length}
use Rattle.std.proofs.Common.{◌∙◌, ap, inl, inr, arith}
use mathlib.Core.List.Memᴰ
use mathlib.Core.List.Permᴰ
use mathlib.Core.List.{
  List,
  [],
  ◌∷◌,
  Permᴰ,
}
use Rattle.std.proofs.lemmas.Bool.{not-true}
use Rattle.model.specs.declared.Part.{Part}
use Rattle.model.specs.Lists.{keep, ◌∈◌, RisingBy, empty, more, Distinct, nothing, one_more}
use Rattle.model.specs.Values.{same_part}
use Rattle.model.specs.Laws.Tests.{contra, dec, not_of}
use Rattle.model.specs.Laws.Lists.{keep_at, keep_in, keep_all}
use Rattle.model.specs.Laws.Parts.{same_eq, same_refl}

pub keep_distinct : {A : Type 0} (f : A → Bool) {xs : List A} → Distinct xs → Distinct (keep f xs)
unfolding keep
keep_distinct f nothing = nothing
keep_distinct {A} f (one_more {x = x} {xs = xs} out once) = go (keep_distinct f once) (dec (f x))
  where
    go : Distinct (keep f xs) → (f x ≡ true) ⊎ (f x ≡ false) → Distinct (keep f (x ∷ xs))
    go r (inl e) = rw e (one_more (λ m. out (keep_at f xs m).0) r)
    go r (inr e) = rw e r

pub rising_distinct : {A : Type 0} {g : A → ℕ} {xs : List A} → RisingBy g xs → Distinct xs
rising_distinct empty = nothing
rising_distinct {g = g} (more {x = x} {xs = xs} l r) = one_more (λ (m : x ∈ xs). absurd (omega (arith, l x m))) (rising_distinct r)

-- ---- parts

-- all but one part
abbrev without : Part → List Part → List Part
without p ps = keep (λ q. not (same_part q p)) ps

without_out : (p : Part) (ps : List Part) → p ∈ without p ps → ⊥
without_out p ps m = contra (same_refl p) (not-true (same_part p p) (keep_at (λ q. not (same_part q p)) ps m).1)

differs : {p q : Part} → (q ≡ p → ⊥) → not (same_part q p) ≡ true
differs {p} {q} f = go (dec (same_part q p))
  where
    go : (same_part q p ≡ true) ⊎ (same_part q p ≡ false) → not (same_part q p) ≡ true
    go (inl e) = absurd (f (same_eq q p e))
    go (inr e) = not_of (same_part q p) e

-- a member taken to the front
to_front : (p : Part) {ps : List Part} → Distinct ps → p ∈ ps → Permᴰ ps (p ∷ without p ps)
unfolding keep
to_front p nothing m = absurd (Memᴰ.not-nil m)
to_front p (one_more {x = x} {xs = xs} out once) m = go (to_front p once) (Memᴰ.cases_cons m) (dec (same_part x p))
  where
    rest : (x ≡ p) → without p xs ≡ xs
    rest e = keep_all (λ q. not (same_part q p)) xs (λ q k. differs (λ d. out (rw (← e) at (rw d at k))))

    go : (p ∈ xs → Permᴰ xs (p ∷ without p xs)) → (p ≡ x) ⊎ (p ∈ xs) → (same_part x p ≡ true) ⊎ (same_part x p ≡ false)
        → Permᴰ (x ∷ xs) (p ∷ without p (x ∷ xs))
    go r k (inl s) = let e = same_eq x p s in rw (s, rest e) (Permᴰ.cons e (Permᴰ.refl xs))
    go r (inl e) (inr s) = contra (rw e (same_refl x)) s
    go r (inr k) (inr s) = rw s (Permᴰ.trans (Permᴰ.cons refl (r k)) (Permᴰ.swap refl refl))

pub distinct_perm : {ps qs : List Part} → Distinct ps → Distinct qs → ((r : Part) → r ∈ ps ↔ r ∈ qs) → Permᴰ ps qs
distinct_perm {qs = []} nothing _ same = Permᴰ.nil
distinct_perm {qs = q ∷ qs} nothing _ same = absurd (Memᴰ.not-nil ((same q).1 (Memᴰ.head refl)))
distinct_perm {qs = qs} (one_more {x = p} {xs = ps} out once) two same =
    Permᴰ.trans
    (Permᴰ.cons refl (distinct_perm once (keep_distinct (λ q. not (same_part q p)) two) (λ r. (to r, from r))))
    (Permᴰ.symm (to_front p two ((same p).0 (Memᴰ.head refl))))
  where
    to : (r : Part) → r ∈ ps → r ∈ without p qs
    to r m = keep_in (λ q. not (same_part q p)) ((same r).0 (Memᴰ.tail m)) (differs (λ e. out (rw e at m)))

    from : (r : Part) → r ∈ without p qs → r ∈ ps
    from r m = go (Memᴰ.cases_cons ((same r).1 (keep_at (λ q. not (same_part q p)) qs m).0))
      where
        go : (r ≡ p) ⊎ (r ∈ ps) → r ∈ ps
        go (inl e) = absurd (without_out p qs (rw e at m))
        go (inr k) = k

-- .. and as long
pub perm_length : {A : Type 0} {xs ys : List A} → Permᴰ xs ys → length xs ≡ length ys
perm_length Permᴰ.nil = refl
perm_length (Permᴰ.cons e d) = ap suc (perm_length d)
perm_length (Permᴰ.swap e f) = refl
perm_length (Permᴰ.trans d e) = perm_length d ∙ perm_length e
