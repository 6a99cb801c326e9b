-- The conditions of refusal 9.
use Rattle.std.specs.Prelude.{◌≡◌, Bool, false, ◌⊎◌, List, ℕ, ◌≤◌, ◌<◌}
use Rattle.std.proofs.Math.Path.{sym}
use Rattle.std.proofs.Common.{◌∙◌, inl, inr, lt-ltb, le-ltb}
use Rattle.std.proofs.Math.Bool.{true, or-false}
use Rattle.model.specs.declared.Ring.{Ring}
use Rattle.model.specs.declared.RingState.{RingState}
use Rattle.model.specs.declared.Load.{Load}
use Rattle.model.specs.declared.BusChoice.{BusChoice}
use Rattle.model.specs.declared.Commands.{Commands}
use Rattle.model.specs.Lists.{any_of}
use Rattle.model.specs.Plant.{PartHealth, PartCommands, largest, parts}
use Rattle.model.specs.Choosing.{commands}
use Rattle.model.specs.Reports.{health_of, commands_of, command_places, called_for}
use Rattle.model.specs.Refusals.{size_outside, health_outside, active_above, locked_above, unplanned, bad_ring}
use Rattle.model.specs.Bookings.{most_live, live_bookings, live_twice, booking_outside, other_figures, bad_load}
use Rattle.model.specs.States.{bad_record}
use Rattle.model.specs.Laws.Tests.{dec, dec_lt}
use Rattle.model.specs.Laws.Lists.{any_ext}
use Rattle.model.specs.Laws.Parts.{parts_at, command_places_lem}
use Rattle.standing.specs.Standing.{any_differ}

-- the commands planned, held in arrays
pub differ_planned : (n : ℕ) (H : PartHealth) (C : PartCommands) (D : Commands) → D ≡ command_places (commands n H)
    → any_differ C (commands_of D) ≡ unplanned n H C
unfolding any_differ unplanned
differ_planned n H C D e = rw e (any_ext _ _ (parts largest) (λ p m. rw (command_places_lem (commands n H) p (parts_at largest p m))))

-- the five conditions of the ring, in turn, and then those of the load
module _ (state : RingState) where
  abbrev ring : Ring
  ring = state.ring

  abbrev H : PartHealth
  H = health_of ring.health

  abbrev C : PartCommands
  C = commands_of ring.commands

  pub bad_size : size_outside ring.n ≡ true → true ≡ bad_record state
  unfolding bad_record bad_ring any_of
  bad_size a = rw a

  pub bad_health : size_outside ring.n ≡ false → health_outside H (parts largest) ≡ true → true ≡ bad_record state
  unfolding bad_record bad_ring any_of
  bad_health a b = rw (a, b)

  pub bad_above : size_outside ring.n ≡ false → health_outside H (parts largest) ≡ false → active_above ring.n H C ≡ true
      → true ≡ bad_record state
  unfolding bad_record bad_ring any_of
  bad_above a b c = rw (a, b, c)

  pub bad_lock : size_outside ring.n ≡ false → health_outside H (parts largest) ≡ false → active_above ring.n H C ≡ false
      → locked_above ring.n H ≡ true
      → true ≡ bad_record state
  unfolding bad_record bad_ring any_of
  bad_lock a b c d = rw (a, b, c, d)

  pub bad_commands : size_outside ring.n ≡ false → health_outside H (parts largest) ≡ false → active_above ring.n H C ≡ false
      → locked_above ring.n H ≡ false
      → unplanned ring.n H C ≡ true
      → true ≡ bad_record state
  unfolding bad_record bad_ring any_of
  bad_commands a b c d e = rw (a, b, c, d, e)

  pub load_decides : size_outside ring.n ≡ false → health_outside H (parts largest) ≡ false → active_above ring.n H C ≡ false
      → locked_above ring.n H ≡ false
      → unplanned ring.n H C ≡ false
      → (cs : List BusChoice)
      → cs ≡ called_for ring
      → (r : Bool)
      → r ≡ bad_load ring.n cs state.load
      → r ≡ bad_record state
  unfolding bad_record bad_ring any_of
  load_decides a b c d e cs f r g = rw (a, b, c, d, e, ← f) g

-- the four conditions of a load, in turn: the answer r, however the code words its tests
module _ (n : ℕ) (cs : List BusChoice) (l : Load) where
  abbrev twice : Bool
  twice = live_twice (live_bookings l)

  abbrev outside : Bool
  outside = any_of (booking_outside n) (live_bookings l)

  pub load_bad : (l.live ≤ most_live → twice ≡ false → outside ≡ false → ⊥) → true ≡ bad_load n cs l
  unfolding bad_load any_of
  load_bad h = go (dec_lt most_live l.live) (dec twice) (dec outside)
    where
      go : (most_live < l.live) ⊎ (l.live ≤ most_live) → (twice ≡ true) ⊎ (twice ≡ false) → (outside ≡ true) ⊎ (outside ≡ false)
          → true ≡ bad_load n cs l
      go (inl a) b c = rw (lt-ltb most_live l.live a)
      go (inr a) (inl b) c = rw (le-ltb most_live l.live a, b)
      go (inr a) (inr b) (inl c) = rw (le-ltb most_live l.live a, b, c)
      go (inr a) (inr b) (inr c) = absurd (h a b c)

  pub figures_decide : l.live ≤ most_live → twice ≡ false → outside ≡ false → (r : Bool) → r ≡ other_figures cs l → r ≡ bad_load n cs l
  unfolding bad_load any_of
  figures_decide a b c r e = rw (le-ltb most_live l.live a, b, c) (e ∙ sym (or-false (other_figures cs l)))
