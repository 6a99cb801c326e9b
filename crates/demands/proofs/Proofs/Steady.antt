-- What a transition of the ring does: its choices and phases are document 01's, its operations bring the new commands about,
-- and the ring that it gives meets none of document 01's conditions of refusal 9.
use Rattle.std.specs.Prelude.{◌≡◌, refl, Bool, true, ◌&&◌, ◌||◌, ◌⊎◌}
use Rattle.std.proofs.Common.{sym, ◌∙◌, ap, inl, inr, arith}
use Rattle.std.proofs.Math.Bool.{false, not}
use Rattle.std.specs.Bool.{beq}
use mathlib.Core.List.Memᴰ
use mathlib.Core.List.Permᴰ
use mathlib.Core.List.{List, ◌++◌, map, Permᴰ}
use Rattle.std.proofs.Math.Option.{some}
use Prim.Native.Nat.{ℕ, suc, ◌≤◌, ◌<◌}
use Rattle.std.proofs.Math.Dec.{ltb}
use borrow.Author.Tests.{le-ltb, lt-ltb}
use Rattle.model.specs.declared.Part.{Part}
use Rattle.model.specs.declared.Part.TheVariants.{Generator, GeneratorBreaker, BusBreaker}
use Rattle.model.specs.declared.Ring.{Ring}
use Rattle.model.specs.declared.RingState.{RingState}
use Rattle.model.specs.Lists.{below, any_of, ◌∈◌}
use Rattle.model.specs.Values.{number}
use Rattle.model.specs.Plant.{PartHealth, PartCommands, smallest, largest, parts, fit, health_of_kind, InRing}
use Rattle.model.specs.Choosing.{plan, commands, choices}
use Rattle.model.specs.Sheet.{opening, closing, sheet, written}
use Rattle.model.specs.Reports.{health_of, commands_of, planned, called_for, with_plan}
use Rattle.model.specs.Refusals.{size_outside, health_outside, active_above, locked_above, unplanned, bad_ring, next_sheet}
use Rattle.model.specs.States.{StateReply, reckoned, served_state, served_by}
use Rattle.model.specs.Laws.Tests.{contra, dec, dec_lt}
use Rattle.model.specs.Laws.Lists.{any_false, below_lt, map_in}
use Rattle.model.specs.Laws.Parts.{parts_at, command_places_lem}
use Rattle.theory.specs.Theorems.Locality.{Agree, SameHealth, choices_ext, commands_ext, commanded_in_ring}
use Rattle.theory.proofs.Theorems.Closing.{closing_at, closing_in, sheet_ext}
use Rattle.theory.specs.Theorems.Interruption.{Fewer}
use Rattle.demands.specs.Statements.Demand3.{
  PlantState,
  Operation,
  operation,
  perform_all,
  Phases,
  decode,
  Performed,
  performed,
  History,
  World,
  switched,
}
use Rattle.demands.proofs.Proofs.Operations.{
  perform_health,
  Struck,
  hit,
  miss,
  struck,
  perm_in,
  operation_at,
  opening_at,
  opening_in,
  any_order,
  decode_sheet,
}

-- ---- operations of the two phases, in any order

-- the operations of a phase that commands c on the parts ps, or some of them
abbrev pub SomeOf : Bool → List Part → List Operation → Type 0
SomeOf c ps os = (o : Operation) → o ∈ os → (o.command ≡ c) × (o.part ∈ ps)

module _ (c : Bool) (ps : List Part) where
  pub some_of_prefix : (done rest : List Operation) → Permᴰ (done ++ rest) (map (operation c) ps) → SomeOf c ps done
  some_of_prefix done rest d o m = operation_at c ps o (perm_in d (Memᴰ.append_left rest m))

  pub some_of_perm : {os : List Operation} → Permᴰ os (map (operation c) ps) → SomeOf c ps os
  some_of_perm d o m = operation_at c ps o (perm_in d m)

  all_of_perm : {os : List Operation} → Permᴰ os (map (operation c) ps) → (p : Part) → p ∈ ps → operation c p ∈ os
  all_of_perm d p m = perm_in (Permᴰ.symm d) (map_in (operation c) m)

module _ (n : ℕ) (P : PlantState) (H : PartHealth) where
  -- the new commands
  abbrev N : PartCommands
  N = commands n H

  -- the parts of the two phases
  abbrev opens : List Part
  opens = opening n P.last N

  abbrev closes : List Part
  closes = closing n P.last (plan n H)

  -- some operations of the first phase: no more is on or closed than was
  pub first_fewer : (os : List Operation) → SomeOf false opens os → Fewer n (perform_all os P).last P.last
  first_fewer os all p r e = go (struck false os P p (λ o m. (all o m).0))
    where
      go : Struck false os P p → P.last p ≡ true
      go (hit m z) = contra e z
      go (miss m z) = sym z ∙ e

  -- all of them: no more is on or closed than is to be
  pub first_done : (os : List Operation) → Permᴰ os (map (operation false) opens) → Fewer n (perform_all os P).last N
  first_done os d p r e = go (struck false os P p (λ o m. (some_of_perm false opens d o m).0)) (dec (N p))
    where
      go : Struck false os P p → (N p ≡ true) ⊎ (N p ≡ false) → N p ≡ true
      go s (inl q) = q
      go (hit m z) (inr q) = contra e z
      go (miss m z) (inr q) = absurd (m (all_of_perm false opens d p (opening_in n P.last N p r (sym z ∙ e) q)))

  -- then some of the second phase: still no more than is to be
  pub second_fewer : (Q : PlantState) (os : List Operation) → Fewer n Q.last N → SomeOf true closes os
      → Fewer n (perform_all os Q).last N
  second_fewer Q os f all p r e = go (struck true os Q p (λ o m. (all o m).0))
    where
      go : Struck true os Q p → N p ≡ true
      go (hit m z) = (closing_at n H P.last p (all (operation true p) m).1).2
      go (miss m z) = f p r (sym z ∙ e)

  -- after both phases the new commands stand
  pub both_done : (xs ys : List Operation) → Permᴰ xs (map (operation false) opens) → Permᴰ ys (map (operation true) closes)
      → Agree n (perform_all ys (perform_all xs P)).last N
  both_done xs ys dx dy p r = go (dec ((perform_all ys (perform_all xs P)).last p)) (dec (N p))
    where
      most : (perform_all ys (perform_all xs P)).last p ≡ true → N p ≡ true
      most = second_fewer (perform_all xs P) ys (first_done xs dx) (some_of_perm true closes dy) p r

      least : N p ≡ true → (perform_all ys (perform_all xs P)).last p ≡ true
      least e =
          last (struck true ys (perform_all xs P) p (λ o m. (some_of_perm true closes dy o m).0))
          (struck false xs P p (λ o m. (some_of_perm false opens dx o m).0)) (dec (P.last p))
        where
          last : Struck true ys (perform_all xs P) p → Struck false xs P p → (P.last p ≡ true) ⊎ (P.last p ≡ false)
              → (perform_all ys (perform_all xs P)).last p ≡ true
          last (hit m z) s o = z
          last (miss m z) s (inr o) = absurd (m (all_of_perm true closes dy p (closing_in n H P.last p o e)))
          last (miss m z) (hit k y) (inl o) =
              contra e (opening_at n P.last N p (some_of_perm false opens dx (operation false p) k).1).2
          last (miss m z) (miss k y) (inl o) = z ∙ y ∙ o

      go : ((perform_all ys (perform_all xs P)).last p ≡ true) ⊎ ((perform_all ys (perform_all xs P)).last p ≡ false)
          → (N p ≡ true) ⊎ (N p ≡ false)
          → (perform_all ys (perform_all xs P)).last p ≡ N p
      go (inl s) q = s ∙ sym (most s)
      go (inr s) (inr q) = s ∙ sym q
      go (inr s) (inl q) = contra (least q) s

-- ---- a transition

-- a ring of n, told its reports, and a plant whose parts have its health, its locks and its commands
pub record Ready (n : ℕ) (ring : Ring) (P : PlantState) : Type 0 where
  pub size : ring.n ≡ n
  pub health : SameHealth n (health_of ring.health) P.health
  pub standing : Agree n (commands_of ring.commands) P.last

-- document 01's phases for a plant
unfoldable pub phases_of : ℕ → PlantState → Phases
phases_of n P = record {
  first = map (operation false) (opening n P.last (commands n P.health));
  second = map (operation true) (closing n P.last (plan n P.health));
}

-- a reply that is document 01's for a plant: what both demands say of a served call comes from it
pub record Replied (n : ℕ) (P : PlantState) (reply : StateReply) : Type 0 where
  pub chosen : reply.answer.choices ≡ choices n P.health
  pub decoded : decode n reply.buffer ≡ some (phases_of n P)

module _ {n : ℕ} {ring : Ring} {P : PlantState} (small : n ≤ largest) (ready : Ready n ring P) where
  abbrev T : PartHealth
  T = health_of ring.health

  pub sheet_is : next_sheet ring ≡ sheet n P.last P.health
  unfolding next_sheet
  sheet_is = rw ready.size (sheet_ext n (commands_of ring.commands) P.last T P.health ready.standing ready.health)

  pub served_decodes : (buffer : List ℕ) → decode n (written (next_sheet ring) buffer) ≡ some (phases_of n P)
  unfolding phases_of sheet
  served_decodes buffer = rw sheet_is
      (decode_sheet n small (opening n P.last (commands n P.health)) (closing n P.last (plan n P.health))
      (λ p m. (opening_at n P.last (commands n P.health) p m).0)
      (λ p m. (closing_at n P.health P.last p m).0) buffer)

  pub served_choices : called_for ring ≡ choices n P.health
  served_choices = rw ready.size (choices_ext n T P.health ready.health)

-- the reply's choices and phases are document 01's for the plant
pub served_replied : {n : ℕ} (state : RingState) {P : PlantState} → n ≤ largest → Ready n state.ring P → (buffer : List ℕ)
    → Replied n P (served_by state buffer)
unfolding served_state
served_replied state small ready buffer = record { chosen = served_choices small ready; decoded = served_decodes small ready buffer }

-- ---- what stands between calls

pub record Steady (n : ℕ) (W : World) : Type 0 where
  pub size : W.state.ring.n ≡ n
  pub health : SameHealth n (health_of W.state.ring.health) W.plant.health
  pub standing : Agree n (commands_of W.state.ring.commands) W.plant.last
  pub above : (p : Part) → InRing largest p → n < number p
      → ((health_of W.state.ring.health).health p ≡ 0) × (commands_of W.state.ring.commands p ≡ false)
  pub unlocked_above : (g : ℕ) → g < largest → n ≤ g → (health_of W.state.ring.health).locked g ≡ false
  pub kinds : (p : Part) → InRing n p → health_of_kind p (W.plant.health.health p) ≡ true
  pub planned : Agree n W.plant.last (commands n W.plant.health)
  pub shown : W.shown ≡ choices n W.plant.health

-- a part above n is not commanded on or closed
pub not_commanded : (n : ℕ) (H : PartHealth) (p : Part) → n < number p → commands n H p ≡ false
not_commanded n H p l = go (dec (commands n H p))
  where
    go : (commands n H p ≡ true) ⊎ (commands n H p ≡ false) → commands n H p ≡ false
    go (inl e) = absurd (omega (arith, (commanded_in_ring n H p e).1))
    go (inr e) = e

-- after a transition all is steady
pub transition_steady : {n : ℕ} (state : RingState) {P Q : PlantState} (h : History) → n ≤ largest → Ready n state.ring P
    → ((p : Part) → InRing n p → health_of_kind p ((health_of state.ring.health).health p) ≡ true)
    → ((p : Part) → InRing largest p → n < number p → (health_of state.ring.health).health p ≡ 0)
    → ((g : ℕ) → g < largest → n ≤ g → (health_of state.ring.health).locked g ≡ false)
    → Performed (phases_of n P) P Q
    → Steady n (switched Q (served_state state) h)
unfolding served_state reckoned with_plan planned phases_of
transition_steady {n} state {P} h small ready kinds above unlocked (performed {xs = xs} {ys = ys} ax ay) = record {
  size = ready.size;
  health =
      record {
        health = λ p r. ready.health.health p r ∙ kept p;
        locked = λ g l. ready.health.locked g l ∙ ap (λ (K : PartHealth). K.locked g) (sym same_health);
      };
  standing = λ p r. command_places_lem (planned state.ring) p (wide p r) ∙ new p ∙ sym (both_done n P P.health xs ys dx dy p r);
  above = λ p r l. (above p r l, command_places_lem (planned state.ring) p r ∙ new p ∙ not_commanded n P.health p l);
  unlocked_above = unlocked;
  kinds = λ p r. rw (← ready.health.health p r ∙ kept p) (kinds p r);
  planned = λ p r. both_done n P P.health xs ys dx dy p r ∙ ap (λ K. commands n K p) (sym same_health);
  shown = served_choices small ready ∙ ap (choices n) (sym same_health);
}
  where
    dx : Permᴰ xs (map (operation false) (opening n P.last (commands n P.health)))
    dx = any_order ax

    dy : Permᴰ ys (map (operation true) (closing n P.last (plan n P.health)))
    dy = any_order ay

    same_health : (perform_all ys (perform_all xs P)).health ≡ P.health
    same_health = perform_health ys (perform_all xs P) ∙ perform_health xs P

    kept : (p : Part) → P.health.health p ≡ (perform_all ys (perform_all xs P)).health.health p
    kept p = ap (λ (K : PartHealth). K.health p) (sym same_health)

    wide : (p : Part) → InRing n p → InRing largest p
    wide p r = (r.0, omega (arith, r.1))

    new : (p : Part) → planned state.ring p ≡ commands n P.health p
    new p = rw ready.size (commands_ext n (health_of state.ring.health) P.health ready.health p)

-- ---- a steady record meets none of document 01's conditions of refusal 9

pub fit_of_kind : (p : Part) → health_of_kind p 0 ≡ true
unfolding health_of_kind
fit_of_kind (Generator k) = refl
fit_of_kind (GeneratorBreaker k) = refl
fit_of_kind (BusBreaker k) = refl

beq_refl : (b : Bool) → not (beq b b) ≡ false
beq_refl true = refl
beq_refl false = refl

module _ {n : ℕ} {W : World} (s : Steady n W) where
  abbrev H : PartHealth
  H = health_of W.state.ring.health

  abbrev C : PartCommands
  C = commands_of W.state.ring.commands

  -- a part that a record has a place for is of the ring or above it
  in_or_above : (p : Part) → p ∈ parts largest → InRing n p ⊎ (InRing largest p × (n < number p))
  in_or_above p m = let r = parts_at largest p m in go r (dec_lt n (number p))
    where
      go : InRing largest p → (n < number p) ⊎ (number p ≤ n) → InRing n p ⊎ (InRing largest p × (n < number p))
      go r (inl l) = inr (r, l)
      go r (inr l) = inl (r.0, l)

  health_inside : health_outside H (parts largest) ≡ false
  unfolding health_outside
  health_inside = any_false (λ p. not (health_of_kind p (H.health p))) (parts largest) (λ p m. go p (in_or_above p m))
    where
      go : (p : Part) → InRing n p ⊎ (InRing largest p × (n < number p)) → not (health_of_kind p (H.health p)) ≡ false
      go p (inl r) = rw (s.health.health p r, s.kinds p r)
      go p (inr r) = rw ((s.above p r.0 r.1).0, fit_of_kind p)

  quiet_above : active_above n H C ≡ false
  unfolding active_above
  quiet_above = any_false (λ p. ltb n (number p) && (not (fit (H.health p)) || C p)) (parts largest) (λ p m. go p (in_or_above p m))
    where
      go : (p : Part) → InRing n p ⊎ (InRing largest p × (n < number p)) → ltb n (number p) && (not (fit (H.health p)) || C p) ≡ false
      go p (inl r) = rw (le-ltb n (number p) r.1)
      go p (inr r) = rw ((s.above p r.0 r.1).0, (s.above p r.0 r.1).1, lt-ltb n (number p) r.1)

  unlocked : locked_above n H ≡ false
  unfolding locked_above
  unlocked = any_false (λ g. ltb n (suc g) && H.locked g) (below largest) (λ g m. go g (below_lt largest g m) (dec_lt n (suc g)))
    where
      go : (g : ℕ) → g < largest → (n < suc g) ⊎ (suc g ≤ n) → ltb n (suc g) && H.locked g ≡ false
      go g l (inl m) = rw (lt-ltb n (suc g) m) (s.unlocked_above g l (omega arith))
      go g l (inr m) = rw (le-ltb n (suc g) m)

  all_planned : unplanned n H C ≡ false
  unfolding unplanned
  all_planned =
      any_false (λ p. not (beq (C p) (commands n H p))) (parts largest) (λ p m. same (C p) (commands n H p) (go p (in_or_above p m)))
    where
      same : (a b : Bool) → a ≡ b → not (beq a b) ≡ false
      same a b e = rw e (beq_refl b)

      go : (p : Part) → InRing n p ⊎ (InRing largest p × (n < number p)) → C p ≡ commands n H p
      go p (inl r) = s.standing p r ∙ s.planned p r ∙ sym (commands_ext n H W.plant.health s.health p)
      go p (inr r) = (s.above p r.0 r.1).1 ∙ sym (not_commanded n H p r.1)

  pub steady_ring : smallest ≤ n → n ≤ largest → bad_ring W.state.ring ≡ false
  unfolding bad_ring size_outside any_of
  steady_ring big small = rw (s.size, le-ltb n smallest big, le-ltb largest n small, health_inside, quiet_above, unlocked, all_planned)
