-- A value stored at a number of an array, and the health and the locks after a word.
use Rattle.std.specs.Prelude.{◌≡◌, refl, Bool, true, false, ◌⊎◌, ◌≢◌, List, [], ◌∷◌, ℕ, zero, suc, ◌-◌, ◌≤◌, ◌<◌, eqb, length, set}
use Rattle.std.proofs.Math.Path.{sym, ap}
use Rattle.std.proofs.Common.{◌∙◌, inl, inr, arith, length-set, get_or-set_same, get_or-set_other}
use Rattle.std.proofs.Math.Bool.{cond}
use Rattle.std.proofs.Math.ListN.{get_or}
use borrow.Author.Tests.{eq-eqb, ne_eqb}
use Rattle.model.specs.declared.Part.{Part}
use Rattle.model.specs.declared.Part.TheVariants.{Generator, GeneratorBreaker, BusBreaker}
use Rattle.model.specs.declared.Word.{Word}
use Rattle.model.specs.declared.Word.TheVariants.{Fit, StuckOff, StuckOpen, StuckClosed, Lock, Unlock}
use Rattle.model.specs.declared.Report.{Report}
use Rattle.model.specs.declared.Health.{Health}
use Rattle.model.specs.Values.{number, same_part, word_number}
use Rattle.model.specs.Plant.{PartHealth, largest, generator}
use Rattle.model.specs.Reports.{places, health_of, health_places, health_by, lock_by, reported}
use Rattle.model.specs.Laws.Tests.{dec_eq}
use Rattle.model.specs.Laws.Parts.{is_places, places_of, health_held, Sized, array_of, with_array}

-- what an array holds at each index once a value is stored at a number, from 1
unfoldable pub with_value : {A : Type 0} → A → List A → ℕ → A → ℕ → A
with_value d l k v i = cond (eqb (suc i) k) v (get_or l i d)

module _ {A : Type 0} (d : A) (l : List A) (v : A) (full : length l ≡ largest) where
  -- a number of no place changes nothing
  pub no_place : (k : ℕ) → (0 < k → k ≤ largest → ⊥) → l ≡ places (with_value d l k v)
  unfolding with_value
  no_place k h = is_places (with_value d l k v) l d full (λ i b. sym (rw (ne_eqb (suc i) k (λ e. h (omega arith) (omega arith)))))

  -- a store at the place of a number
  pub at_place : (k i : ℕ) → suc i ≡ k → set l i v ≡ places (with_value d l k v)
  unfolding with_value
  at_place k j e = is_places (with_value d l k v) (set l j v) d (length-set l j v ∙ full) (λ i b. at i b (dec_eq i j))
    where
      at : (i : ℕ) → i < largest → (i ≡ j) ⊎ (i ≢ j) → get_or (set l j v) i d ≡ with_value d l k v i
      at i b (inl f) = rw (f, eq-eqb (suc j) k e) (get_or-set_same l j v d (omega arith))
      at i b (inr f) = rw (ne_eqb (suc i) k (λ z. f (omega arith))) (get_or-set_other l j i v d f)

-- an array once a value is stored at a number, from 1; at a number of no place nothing is
unfoldable pub stored : {A : Type 0} → List A → ℕ → A → List A
stored l zero v = l
stored l (suc i) v = set l i v

pub stored_at : {A : Type 0} (l : List A) (k : ℕ) (v : A) → 1 ≤ k → set l (k - 1) v ≡ stored l k v
unfolding stored
stored_at l zero v h = absurd (omega arith)
stored_at l (suc i) v h = let e : suc i - 1 ≡ i = omega arith in rw e

set_beyond : {A : Type 0} (l : List A) (i : ℕ) (v : A) → (i < length l → ⊥) → set l i v ≡ l
set_beyond [] i v h = refl
set_beyond (x ∷ xs) zero v h = absurd (h (omega arith))
set_beyond (x ∷ xs) (suc i) v h = ap (λ r. x ∷ r) (set_beyond xs i v (λ b. h (omega arith)))

pub stored_nowhere : {A : Type 0} (l : List A) (k : ℕ) (v : A) → (1 ≤ k → k ≤ length l → ⊥) → l ≡ stored l k v
unfolding stored
stored_nowhere l zero v h = refl
stored_nowhere l (suc i) v h = sym (set_beyond l i v (λ b. h (omega arith) (omega arith)))

-- .. it holds the value at its index
pub stored_places : {A : Type 0} (d : A) (l : List A) (k : ℕ) (v : A) → length l ≡ largest → stored l k v ≡ places (with_value d l k v)
unfolding stored
stored_places d l zero v full = no_place d l v full zero (λ a b. absurd (omega arith))
stored_places d l (suc i) v full = at_place d l v full (suc i) i refl

-- ---- "Neither lock nor health alters the other" (document 02, Note 7)

-- a part has another health, and each its lock
unfoldable pub with_health : PartHealth → Part → ℕ → PartHealth
with_health H p v = record { health = λ q. cond (same_part q p) v (H.health q); locked = H.locked }

-- a generator has another lock, and each part its health; a breaker has no lock
unfoldable pub with_lock : PartHealth → Part → Bool → PartHealth
with_lock H p v = record { health = H.health; locked = λ g. cond (same_part (generator g) p) v (H.locked g) }

module _ (h : Health) (sized : Sized h) (p : Part) where
  kept : (a : List ℕ) → length a ≡ largest → places (λ i. get_or a i 0) ≡ a
  kept a s = sym (places_of a 0 s)

  locks_kept : places (λ i. get_or h.locked i false) ≡ h.locked
  locks_kept = sym (places_of h.locked false sized.locked)

  -- the health's arrays once a value is stored at the part
  pub health_stored : (v : ℕ) (l : List ℕ) → l ≡ places (with_value 0 (array_of h p) (number p) v)
      → with_array h p l ≡ health_places (with_health (health_of h) p v)
  unfolding with_value with_health health_places health_of same_part
  health_stored v l q = rw q (go p)
    where
      go : (p : Part) → with_array h p (places (with_value 0 (array_of h p) (number p) v)) ≡ health_places (with_health (health_of h) p v)
      go (Generator k) =
          rw (kept h.generator_breakers sized.generator_breakers_lem, kept h.bus_breakers sized.bus_breakers_lem, locks_kept)
      go (GeneratorBreaker k) = rw (kept h.generators sized.generators, kept h.bus_breakers sized.bus_breakers_lem, locks_kept)
      go (BusBreaker k) =
          rw (kept h.generators sized.generators, kept h.generator_breakers sized.generator_breakers_lem, locks_kept)

-- the health with other locks
abbrev pub with_locks : Health → List Bool → Health
with_locks h l =
    record { generators = h.generators; generator_breakers = h.generator_breakers; bus_breakers = h.bus_breakers; locked = l }

module _ (h : Health) (sized : Sized h) where
  -- the locks once one is stored at a generator
  pub lock_stored : (p : Part) (k : ℕ) → p ≡ Generator k → (v : Bool) (l : List Bool) → l ≡ places (with_value false h.locked k v)
      → with_locks h l ≡ health_places (with_lock (health_of h) p v)
  unfolding with_value with_lock health_places health_of same_part
  lock_stored p k e v l q =
      rw (e, q)
      (rw (
        kept h sized p h.generators sized.generators,
        kept h sized p h.generator_breakers sized.generator_breakers_lem,
        kept h sized p h.bus_breakers sized.bus_breakers_lem,
      ))

  -- a breaker's lock is no generator's
  pub lock_of_breaker : (p : Part) (k : ℕ) (v : Bool) → (p ≡ GeneratorBreaker k) ⊎ (p ≡ BusBreaker k)
      → h ≡ health_places (with_lock (health_of h) p v)
  unfolding with_lock health_places health_of same_part
  lock_of_breaker p k v (inl e) = rw e (health_held h sized)
  lock_of_breaker p k v (inr e) = rw e (health_held h sized)

  pub lock_of_other : (p : Part) (v : Bool) → ((k : ℕ) → p ≡ Generator k → ⊥) → h ≡ health_places (with_lock (health_of h) p v)
  lock_of_other (Generator k) v ne = absurd (ne k refl)
  lock_of_other (GeneratorBreaker k) v ne = lock_of_breaker (GeneratorBreaker k) k v (inl refl)
  lock_of_other (BusBreaker k) v ne = lock_of_breaker (BusBreaker k) k v (inr refl)

-- ---- the health and the locks after a report

either : {A : Type 0} (t : Bool) (x : A) → x ≡ cond t x x
either true x = refl
either false x = refl

pub first_four : (t : ℕ) → (t ≡ 0) ⊎ ((t ≡ 1) ⊎ ((t ≡ 2) ⊎ (t ≡ 3))) → t < 4
first_four t (inl e) = omega arith
first_four t (inr (inl e)) = omega arith
first_four t (inr (inr (inl e))) = omega arith
first_four t (inr (inr (inr e))) = omega arith

module _ (H : PartHealth) (r : Report) where
  same_health : (p : Part) → H.health p ≡ cond (same_part p r.part) (H.health p) (H.health p)
  same_health p = either (same_part p r.part) (H.health p)

  same_lock : (g : ℕ) → H.locked g ≡ cond (same_part (generator g) r.part) (H.locked g) (H.locked g)
  same_lock g = either (same_part (generator g) r.part) (H.locked g)

  -- a word about the lock
  pub lock_told : (w : Word) (v : Bool) → r.word ≡ w → ((x : ℕ) → health_by w x ≡ x) → ((l : Bool) → lock_by w l ≡ v)
      → (h : Health)
      → h ≡ health_places (with_lock H r.part v)
      → h ≡ health_places (reported H r)
  unfolding with_lock reported
  lock_told w v e keeps locks h f =
      f
      ∙ ap health_places (rw e (λ i. record {
        health = λ p. (same_health p ∙ ap (λ x. cond (same_part p r.part) x (H.health p)) (sym (keeps (H.health p)))) i;
        locked = λ g. cond (same_part (generator g) r.part) (sym (locks (H.locked g)) i) (H.locked g);
      }))

  -- a word about the health: one of the first four
  pub health_told : (r.word ≡ Lock → ⊥) → (r.word ≡ Unlock → ⊥) → (v : ℕ) → v ≡ word_number r.word
      → (h : Health)
      → h ≡ health_places (with_health H r.part v)
      → h ≡ health_places (reported H r)
  unfolding with_health reported
  health_told lock unlock v e h f = f ∙ ap health_places (rw e (go r.word lock unlock))
    where
      go : (w : Word) → (w ≡ Lock → ⊥) → (w ≡ Unlock → ⊥)
          → with_health H r.part (word_number w) ≡ reported H (record { part = r.part; word = w })
      go Fit l u = λ i. record { health = (with_health H r.part 0).health; locked = λ g. same_lock g i }
      go StuckOff l u = λ i. record { health = (with_health H r.part 1).health; locked = λ g. same_lock g i }
      go StuckOpen l u = λ i. record { health = (with_health H r.part 2).health; locked = λ g. same_lock g i }
      go StuckClosed l u = λ i. record { health = (with_health H r.part 3).health; locked = λ g. same_lock g i }
      go Lock l u = absurd (l refl)
      go Unlock l u = absurd (u refl)
