-- The bus breakers that an iterator over a walk has left.
use Rattle.std.specs.Prelude.{ℕ, List, ◌<◌, ◌≤◌}
use Rattle.walks.specs.declared.Outward.{Outward}
use Rattle.walks.specs.Walk.{outward}

-- the bus reached is one of the ring's
abbrev pub OnRing : Outward → Type 0
OnRing w = (w.bus < w.n) × (w.n ≤ 20)

-- those ahead of it
abbrev pub breakers_left : Outward → List ℕ
breakers_left w = outward w.n w.rising w.bus w.left
