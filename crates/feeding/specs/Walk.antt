-- A walk along a rising arc: it ends at the first open bus breaker, or at the bus it leads to.
use Rattle.std.specs.Prelude.{◌≡◌, Bool, true, false, ◌≢◌, ℕ, ◌<◌}
use Rattle.model.specs.Lists.{all_of}
use Rattle.model.specs.Plant.{next, up, arc}
use Rattle.theory.specs.Proofs.Geometry.{up_refl, up_next}

-- from bus a to bus b
module _ (C : ℕ → Bool) (n a b : ℕ) (ha : a < n) where
  pub walk_stop : b < n → a ≢ b → C a ≡ false → all_of C (arc n a (up n a b)) ≡ false
  unfolding arc all_of
  walk_stop hb ne e = rw (up_next n a b ha hb ne, e)

  pub walk_on : b < n → a ≢ b → C a ≡ true → all_of C (arc n a (up n a b)) ≡ all_of C (arc n (next n a) (up n (next n a) b))
  unfolding arc all_of
  walk_on hb ne e = rw (up_next n a b ha hb ne, e)

  pub walk_end : a ≡ b → all_of C (arc n a (up n a b)) ≡ true
  unfolding arc all_of
  walk_end e = rw (← e, up_refl n a ha)
