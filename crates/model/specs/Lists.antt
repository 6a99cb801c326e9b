-- Lists searched by tests, their members and their order: what the definitions of document 01 are written with.
use Rattle.std.specs.Prelude.{Bool, true, false, ◌&&◌, ◌||◌, cond, ℕ, zero, suc, ◌+◌, ◌<◌}
use mathlib.Core.List.{List, [], ◌∷◌, ◌++◌, Memᴰ}
use Rattle.std.proofs.Math.Option.{Option, none, some}

-- the numbers below n, rising
unfoldable pub below : ℕ → List ℕ
below zero = []
below (suc n) = below n ++ (n ∷ [])

-- the elements that pass a test
unfoldable pub keep : {A : Type 0} → (A → Bool) → List A → List A
keep f [] = []
keep f (x ∷ xs) = let r = keep f xs in cond (f x) (x ∷ r) r

-- the first element that passes a test
unfoldable pub first : {A : Type 0} → (A → Bool) → List A → Option A
first f [] = none
first f (x ∷ xs) = let r = first f xs in cond (f x) (some x) r

-- some element passes a test
unfoldable pub any_of : {A : Type 0} → (A → Bool) → List A → Bool
any_of f [] = false
any_of f (x ∷ xs) = let r = any_of f xs in f x || r

-- every element passes a test
unfoldable pub all_of : {A : Type 0} → (A → Bool) → List A → Bool
all_of f [] = true
all_of f (x ∷ xs) = let r = all_of f xs in f x && r

-- the numbers of a list together
unfoldable pub sum : List ℕ → ℕ
sum [] = 0
sum (x ∷ xs) = x + sum xs

-- nothing was found
abbrev pub is_none : {A : Type 0} → Option A → Bool
is_none none = true
is_none (some x) = false

-- x is a member of xs
abbrev pub ◌∈◌ : {A : Type 0} → A → List A → Type 0
x ∈ xs = Memᴰ x xs

infix 4 ◌∈◌
-- a list whose elements rise by a measure, so that none stands twice
pub data RisingBy {A : Type 0} (g : A → ℕ) : List A → Type 0 where
  empty : RisingBy g []
  more : {x : A} {xs : List A} → ((y : A) → y ∈ xs → g x < g y) → RisingBy g xs → RisingBy g (x ∷ xs)

-- a list without repeats
pub data Distinct {A : Type 0} : List A → Type 0 where
  nothing : Distinct []
  one_more : {x : A} {xs : List A} → (x ∈ xs → ⊥) → Distinct xs → Distinct (x ∷ xs)
