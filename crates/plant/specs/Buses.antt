-- The answers of the buses, taken one by one.
use Rattle.std.specs.Prelude.{◌≡◌, cond, List, ℕ, ◌+◌, ltb, set}
use Rattle.std.proofs.Common.{arith, le-ltb}
use Rattle.model.specs.declared.Feed.{Feed}
use Rattle.model.specs.declared.Feed.TheVariants.{Dark}
use Rattle.model.specs.declared.BusFeed.{BusFeed}
use Rattle.model.specs.Reports.{places}
use Rattle.model.specs.Laws.Tests.{below_other, below_last}
use Rattle.model.specs.Laws.Parts.{places_ext, places_set}

-- no bus is fed
abbrev pub dark_buses : List BusFeed
dark_buses = places (λ b. record { feed = Dark })

-- the answer f of a bus among the first k; any other is dark
abbrev pub feed_below : (ℕ → Feed) → ℕ → ℕ → BusFeed
feed_below f k b = record { feed = cond (ltb b k) (f b) Dark }

-- the answers f of the first k buses; all others are dark
unfoldable pub feeds_below : (ℕ → Feed) → ℕ → List BusFeed
feeds_below f k = places (feed_below f k)

module _ (f : ℕ → Feed) where
  pub buses_none : dark_buses ≡ feeds_below f 0
  unfolding feeds_below
  buses_none = places_ext _ _ (λ b l. rw (le-ltb b 0 (omega arith)))

  pub buses_more : (k : ℕ) → set (feeds_below f k) k (record { feed = f k }) ≡ feeds_below f (k + 1)
  unfolding feeds_below
  buses_more k =
      rw (below_last (f k) Dark k) at (places_set (feed_below f k) (feed_below f (k + 1)) k (λ b ne. rw (below_other (f b) Dark b k ne)))
