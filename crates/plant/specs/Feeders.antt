-- The generators that feed a bus, taken one by one.
use Rattle.std.specs.Prelude.{◌≡◌, Bool, ℕ, suc, ◌+◌, ◌≤◌}
use Rattle.std.proofs.Math.Path.{refl}
use Rattle.std.proofs.Common.{◌∙◌, ap, le_antisymm}
use Rattle.std.proofs.Math.Bool.{true, false, cond}
use mathlib.Core.List.{List, [], ◌∷◌, ◌++◌, append-nil}
use Rattle.std.proofs.Math.Numerals.{add-one}
use Rattle.model.specs.declared.Feed.{Feed}
use Rattle.model.specs.declared.Feed.TheVariants.{Dark, Fed, Clash}
use Rattle.model.specs.Lists.{below, keep}
use Rattle.model.specs.Plant.{PartHealth, PartCommands, feeds, feeders, feed_by, bus_feed}
use Rattle.model.specs.Laws.Lists.{keep_append}

-- the answer of a bus fed by the first g generators, those of them that pass a test
unfoldable pub feed_among : (ℕ → Bool) → ℕ → Feed
feed_among f g = feed_by (keep f (below g))

-- the answer of a bus with one feeding generator more, numbered higher than those before
unfoldable pub with_feeder : Feed → ℕ → Feed
with_feeder Dark g = Fed g
with_feeder (Fed a) g = Clash a g
with_feeder (Clash a b) g = Clash a b

feed_snoc : (gs : List ℕ) (g : ℕ) → feed_by (gs ++ (g ∷ [])) ≡ with_feeder (feed_by gs) (suc g)
unfolding feed_by with_feeder
feed_snoc [] g = refl
feed_snoc (a ∷ []) g = refl
feed_snoc (a ∷ b ∷ gs) g = refl

module _ (f : ℕ → Bool) where
  pub feed_none : Dark ≡ feed_among f 0
  unfolding feed_among feed_by keep below
  feed_none = refl

  pub feed_more : (g : ℕ) → feed_among f (g + 1) ≡ cond (f g) (with_feeder (feed_among f g) (g + 1)) (feed_among f g)
  unfolding feed_among keep below
  feed_more g = rw add-one (ap feed_by (keep_append f (below g) (g ∷ [])) ∙ go (f g))
    where
      go : (t : Bool) → feed_by (keep f (below g) ++ cond t (g ∷ []) [])
          ≡ cond t (with_feeder (feed_by (keep f (below g))) (suc g)) (feed_by (keep f (below g)))
      go true = feed_snoc (keep f (below g)) g
      go false = rw append-nil

-- all generators of the ring are passed
pub feed_done : (n : ℕ) (H : PartHealth) (C : PartCommands) (b g : ℕ) → g ≤ n → n ≤ g → feed_among (feeds n H C b) g ≡ bus_feed n H C b
unfolding feed_among bus_feed feeders
feed_done n H C b g p q = ap (feed_among (feeds n H C b)) (le_antisymm p q)
