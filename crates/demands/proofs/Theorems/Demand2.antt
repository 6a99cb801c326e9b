-- Demand 2 holds of the controller of the definitions.
use Rattle.std.specs.Prelude.{◌≡◌, refl, Bool, true, false, ◌&&◌, cond, ◌⊎◌, ◌↔◌, List, [], ◌∷◌, map, ℕ, zero, suc, ◌≤◌}
use Rattle.std.proofs.Common.{sym, ◌∙◌, ap, inl, inr}
use Rattle.std.proofs.Math.Bool.{not}
use mathlib.Core.List.Memᴰ
use Rattle.std.proofs.Math.Option.{Option, some}
use Rattle.model.specs.declared.Part.{Part}
use Rattle.model.specs.declared.Choice.TheVariants.{Dark}
use Rattle.model.specs.Lists.{first, ◌∈◌, RisingBy}
use Rattle.model.specs.Values.{part_code}
use Rattle.model.specs.Plant.{PartHealth, PartCommands, largest, InRing}
use Rattle.model.specs.Priority.{Path, paths}
use Rattle.model.specs.Choosing.{permitted, choose, chosen, plan, commands}
use Rattle.model.specs.Sheet.{opening, closing}
use Rattle.model.specs.States.{StateReply}
use Rattle.model.specs.Laws.Tests.{contra, dec}
use Rattle.model.specs.Laws.Lists.{all_cons, map_in, rising_keep, rising_map}
use Rattle.model.specs.Laws.Choosing.{choices_at}
use Rattle.model.specs.Laws.Parts.{parts_rise}
use Rattle.theory.specs.Proofs.Choosing.{on_in}
use Rattle.theory.specs.Theorems.Feeds.{commanded_at}
use Rattle.theory.proofs.Theorems.Closing.{closing_at, closing_in}
use Rattle.demands.specs.Statements.Demand3.{PlantState, Operation, operation, is_served, Performed, performed}
use Rattle.demands.proofs.Proofs.Operations.{any_order, operation_at, opening_at, opening_in}
use Rattle.demands.proofs.Proofs.Steady.{phases_of, Replied, both_done}
use Rattle.demands.proofs.Proofs.Answering.{start_answered, start_fine}
use Rattle.demands.specs.Controller.{controller}
use Rattle.demands.proofs.Theorems.Demand3.{start_replied, call_replied, call_answered}
use Rattle.demands.specs.Statements.Demand2.{FirstPermitted, found, not_found, earlier, Needed, ToOpen, ToClose, Serves, Demand2}

-- ---- the first permitted path

pub first_permitted : (n : ℕ) (H : PartHealth) (ws tried : List Path) → FirstPermitted n H ws tried (first (permitted n H ws) tried)
unfolding first
first_permitted n H ws [] = not_found (λ v m. absurd (Memᴰ.not-nil m))
first_permitted n H ws (x ∷ xs) = go (first (permitted n H ws) xs) (first_permitted n H ws xs) (dec (permitted n H ws x))
  where
    go : (o : Option Path) → FirstPermitted n H ws xs o → (permitted n H ws x ≡ true) ⊎ (permitted n H ws x ≡ false)
        → FirstPermitted n H ws (x ∷ xs) (cond (permitted n H ws x) (some x) o)
    go o f (inl p) = rw p (found [] x xs refl p (λ v m. absurd (Memᴰ.not-nil m)))
    go o (found front w back e q r) (inr p) =
        rw p (found (x ∷ front) w back (ap (λ l. x ∷ l) e) q (all_cons (λ v. permitted n H ws v ≡ false) p r))
    go o (not_found r) (inr p) = rw p (not_found (all_cons (λ v. permitted n H ws v ≡ false) p r))

pub earlier_chosen : (n : ℕ) (H : PartHealth) (k : ℕ) → earlier (plan n H) k ≡ chosen n H k
unfolding earlier chosen plan
earlier_chosen n H zero = refl
earlier_chosen n H (suc k) = rw (earlier_chosen n H k)

pub needed_commanded : (n : ℕ) (H : PartHealth) (p : Part) → Needed n (plan n H) p ↔ (commands n H p ≡ true)
unfolding commands
needed_commanded n H p = (
  λ t. on_in n p (rw (earlier_chosen n H n) at t.1) t.2,
  λ e. let t = commanded_at n H p e in (t.0, rw (earlier_chosen n H n) t.1, t.2),
)

-- ---- the operations of both phases, as propositions

-- an operation is its part and its command
is_operation : (c : Bool) (o : Operation) → o.command ≡ c → o ≡ operation c o.part
is_operation c o e = λ i. record { part = o.part; command = e i }

module _ (n : ℕ) (P : PlantState) where
  abbrev H : PartHealth
  H = P.health

  abbrev L : PartCommands
  L = P.last

  abbrev N : PartCommands
  N = commands n H

  free : (p : Part) → N p ≡ false → Needed n (plan n H) p → ⊥
  free p e t = contra ((needed_commanded n H p).0 t) e

  idle : (p : Part) → (Needed n (plan n H) p → ⊥) → N p ≡ false
  idle p f = go (dec (N p))
    where
      go : (N p ≡ true) ⊎ (N p ≡ false) → N p ≡ false
      go (inl e) = absurd (f ((needed_commanded n H p).1 e))
      go (inr e) = e

  pub opens_exactly : (o : Operation) → o ∈ map (operation false) (opening n L N) ↔ ToOpen n P (plan n H) o
  opens_exactly o = (
    λ m. let t =
        operation_at false (opening n L N) o m in let u = opening_at n L N o.part t.1 in (t.0, u.0, u.1, free o.part u.2),
    λ t. Memᴰ.cast (is_operation false o t.0)
        (map_in (operation false) (opening_in n L N o.part t.1 t.2 (idle o.part t.3))),
  )

  pub closes_exactly : (o : Operation) → o ∈ map (operation true) (closing n L (plan n H)) ↔ ToClose n P (plan n H) o
  closes_exactly o = (
    λ m. let t =
        operation_at true (closing n L (plan n H)) o m in let u =
        closing_at n H L o.part t.1 in (t.0, u.0, u.1, (needed_commanded n H o.part).1 u.2),
    λ t. Memᴰ.cast (is_operation true o t.0)
        (map_in (operation true) (closing_in n H L o.part t.2 ((needed_commanded n H o.part).0 t.3))),
  )

  pub opens_rise : n ≤ largest → RisingBy (λ (o : Operation). part_code o.part) (map (operation false) (opening n L N))
  unfolding opening
  opens_rise small =
      rising_map (λ (o : Operation). part_code o.part) (operation false) (rising_keep (λ p. L p && not (N p)) (parts_rise n small))

-- ---- what a served call's answer is

serves : {n : ℕ} {P : PlantState} {reply : StateReply} → n ≤ largest → Replied n P reply → Serves n P reply
unfolding plan choose phases_of
serves {n} {P} small a = record {
  path = plan n P.health;
  named = λ b hb. rw a.chosen (choices_at n P.health b (record { choice = Dark }) hb small);
  first_permitted = λ b hb. rw (earlier_chosen n P.health b) (first_permitted n P.health (chosen n P.health b) (paths n b));
  phases = phases_of n P;
  decodes = a.decoded;
  opens = λ o m. (opens_exactly n P o).0 m;
  all_open = λ o t. (opens_exactly n P o).1 t;
  closes = λ o m. (closes_exactly n P o).0 m;
  all_close = λ o t. (closes_exactly n P o).1 t;
  opens_rising = opens_rise n P small;
  second_is = refl;
  brings_about = about;
}
  where
    about : (Q : PlantState) → Performed (phases_of n P) P Q → (p : Part) → InRing n p → Q.last p ≡ true ↔ Needed n (plan n P.health) p
    about Q (performed {xs = xs} {ys = ys} dx dy) p i =
        let e = both_done n P P.health xs ys (any_order dx) (any_order dy) p i in
        (λ t. (needed_commanded n P.health p).1 (sym e ∙ t), λ t. e ∙ (needed_commanded n P.health p).0 t)

pub demand2 : Demand2 controller
demand2 = record {
  start_answered = start_answered;
  start_serves = λ n buffer begun. serves (small n buffer begun) (start_replied n buffer begun);
  call_answered = λ n buffer begun call h. call_answered n buffer begun call h;
  call_serves = λ n buffer begun call h e. serves (small n buffer begun) (call_replied n buffer begun call h e);
}
  where
    small : (n : ℕ) (buffer : List ℕ) → is_served (controller.start n buffer) ≡ true → n ≤ largest
    small n buffer begun = (start_fine n buffer begun).small
