-- Document 01, "Ways and their ranks". Buses, generators and breakers are indices from 0. A way is a path here.
use Rattle.std.specs.Prelude.{Bool, true, not, cond, ℕ, zero, suc, leb, eqb}
use mathlib.Core.List.{List, [], ◌∷◌, ◌++◌, map, flat_map, reverse}
use Rattle.model.specs.declared.Part.{Part}
use Rattle.model.specs.Lists.{below, keep}
use Rattle.model.specs.Plant.{generator, generator_breaker, bus_breaker, up, arc}

-- the generators G3 .. Gn
unfoldable pub others : ℕ → List ℕ
others n = keep (leb 2) (below n)

-- "B1 tries G1, G2, .. Gn. B2 tries G2, G1, G3, .. Gn.
-- Bk with k from 3 tries G2, G1, then the others upward without Gk, and Gk last.": the sources of bus b, by priority
unfoldable pub sources : ℕ → ℕ → List ℕ
sources n zero = below n
sources n (suc zero) = 1 ∷ 0 ∷ others n
sources n (suc (suc k)) = 1 ∷ 0 ∷ (keep (λ g. not (eqb g (suc (suc k)))) (others n) ++ (suc (suc k) ∷ []))

-- "a row a bus" (document 02, Note 6): the row of bus b, the numbers of its sources
unfoldable pub source_row : ℕ → ℕ → List ℕ
source_row n b = map suc (sources n b)

-- the rows of a ring of n buses, in number order
unfoldable pub source_page : ℕ → List ℕ
source_page n = flat_map (source_row n) (below n)

-- ".. one behind the other": the rows of the sizes from 3 that are below m
unfoldable pub pages_below : ℕ → List ℕ
pages_below m = flat_map source_page (keep (leb 3) (below m))

-- "one constant table, sizes 3 to 20 one behind the other, a row a bus, 2,865 entries": what the rule makes of it
unfoldable pub source_table : List ℕ
source_table = pages_below 21

-- a path from a generator to a bus, through rising bus numbers or falling ones
pub record Path : Type 0 where
  pub source : ℕ
  pub bus : ℕ
  pub rising : Bool

-- "the bus breakers from its own bus to the bus fed, and none beyond", from the generator's bus outward
unfoldable pub path_bus_breakers : ℕ → Path → List ℕ
path_bus_breakers n p =
    cond p.rising (arc n p.source (up n p.source p.bus)) (reverse (arc n p.bus (up n p.bus p.source)))

-- "its generator breaker and the bus breakers ..": the breakers of a path, outward
unfoldable pub path_breakers : ℕ → Path → List Part
path_breakers n p = generator_breaker p.source ∷ map bus_breaker (path_bus_breakers n p)

-- "A way must now give its parts as a sequence: generator, generator breaker, then bus breakers from the generator's bus outward." (document
-- 02, Note 4)
unfoldable pub path_parts : ℕ → Path → List Part
path_parts n p = generator p.source ∷ path_breakers n p

-- "The shorter is high, the other low. Of two equally long the one through rising bus numbers (B1 after Bn) is high":
-- the high path from g to b rises
unfoldable pub high_rises : ℕ → ℕ → ℕ → Bool
high_rises n g b = leb (up n g b) (up n b g)

-- "The shorter is high"
abbrev pub high_path : ℕ → ℕ → ℕ → Path
high_path n b g = record { source = g; bus = b; rising = high_rises n g b }

-- "the other low"
abbrev pub low_path : ℕ → ℕ → ℕ → Path
low_path n b g = record { source = g; bus = b; rising = not (high_rises n g b) }

-- "From Gk, bus Bk has one way, its own: GBk alone."
abbrev pub own_path : ℕ → Path
own_path b = record { source = b; bus = b; rising = true }

-- "From another generator there are two ways round the ring"
unfoldable pub paths_from : ℕ → ℕ → ℕ → List Path
paths_from n b g = cond (eqb g b) (own_path b ∷ []) (high_path n b g ∷ low_path n b g ∷ [])

-- "A bus tries both ways of a generator before the next generator.": the paths of bus b in the order tried
unfoldable pub paths : ℕ → ℕ → List Path
paths n b = flat_map (paths_from n b) (sources n b)
