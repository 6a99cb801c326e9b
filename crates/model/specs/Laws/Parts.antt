-- Laws of parts, their codes, and the arrays that hold a value for each.
use Rattle.std.specs.Prelude.{◌≡◌, refl, Bool, true, false, cond, ◌⊎◌, ◌≢◌, List, ◌++◌, map, ℕ, zero, suc, ◌+◌, ◌*◌, ◌≤◌, ◌<◌, eqb, ltb, length, get_or, set, replicate}
use Rattle.std.proofs.Common.{sym, ◌∙◌, ap, inl, inr, arith, length-set, length-append, ext_get_or, get_or-set_same, get_or-set_other, eqb-true, eq-eqb, ne_eqb, lt-ltb, le-ltb}
use mathlib.Core.List.Memᴰ
use Rattle.std.proofs.Math.ListN.{length-map}
use Rattle.std.proofs.lemmas.List.{length-replicate, get_or-replicate}
use Rattle.model.specs.declared.Part.{Part}
use Rattle.model.specs.declared.Part.TheVariants.{Generator, GeneratorBreaker, BusBreaker}
use Rattle.model.specs.declared.Health.{Health}
use Rattle.model.specs.Lists.{below, any_of, ◌∈◌, RisingBy}
use Rattle.model.specs.Values.{number, index, first_code, part_code, same_part}
use Rattle.model.specs.Plant.{PartHealth, PartCommands, largest, generator, generator_breaker, bus_breaker, parts, InRing}
use Rattle.model.specs.Reports.{at_number, places, health_of, commands_of, health_places, command_places}
use Rattle.model.specs.Laws.Tests.{and_intro, dec_eq, contra, below_other, below_last}
use Rattle.model.specs.Laws.Lists.{
  any_in,
  any_false,
  below_in,
  below_lt,
  below_length,
  map_below_at,
  map_in,
  map_at,
  rising_append,
  rising_map,
  rising_mono,
  rising_below,
}

-- ---- one part

pub same_eq : (p q : Part) → same_part p q ≡ true → p ≡ q
unfolding same_part
same_eq (Generator a) (Generator b) e = ap Generator (eqb-true a b e)
same_eq (Generator a) (GeneratorBreaker b) e = contra e refl
same_eq (Generator a) (BusBreaker b) e = contra e refl
same_eq (GeneratorBreaker a) (Generator b) e = contra e refl
same_eq (GeneratorBreaker a) (GeneratorBreaker b) e = ap GeneratorBreaker (eqb-true a b e)
same_eq (GeneratorBreaker a) (BusBreaker b) e = contra e refl
same_eq (BusBreaker a) (Generator b) e = contra e refl
same_eq (BusBreaker a) (GeneratorBreaker b) e = contra e refl
same_eq (BusBreaker a) (BusBreaker b) e = ap BusBreaker (eqb-true a b e)

pub same_refl : (p : Part) → same_part p p ≡ true
unfolding same_part
same_refl p = and_intro (eqb (first_code p) (first_code p)) _ (eq-eqb (first_code p) (first_code p) refl) (eq-eqb (number p) (number p) refl)

-- no part is of two kinds
pub other_kind : {A : Type 0} {p q : Part} → p ≡ q → eqb (first_code p) (first_code q) ≡ false → A
other_kind {p = p} {q} e f = contra (eq-eqb (first_code p) (first_code q) (ap first_code e)) f

-- ---- the parts of a ring

-- the part at an index below n is one
pub at_index : (n i : ℕ) → i < n → (0 < suc i) × (suc i ≤ n)
at_index n i h = (omega arith, h)

-- one kind of part at each index below n, by its number
kind_in : (kind : ℕ → Part) (n k : ℕ) → 0 < k → k ≤ n → kind k ∈ map (λ i. kind (suc i)) (below n)
kind_in kind n zero l h = absurd (omega arith)
kind_in kind n (suc i) l h = map_in (λ j. kind (suc j)) (below_in n i (omega arith))

pub parts_in : (n : ℕ) (p : Part) → InRing n p → p ∈ parts n
unfolding parts
parts_in n (Generator k) h =
    Memᴰ.append_left (map generator_breaker (below n) ++ map bus_breaker (below n)) (kind_in Generator n k h.0 h.1)
parts_in n (GeneratorBreaker k) h =
    Memᴰ.append_right (map generator (below n)) (Memᴰ.append_left (map bus_breaker (below n)) (kind_in GeneratorBreaker n k h.0 h.1))
parts_in n (BusBreaker k) h =
    Memᴰ.append_right (map generator (below n)) (Memᴰ.append_right (map generator_breaker (below n)) (kind_in BusBreaker n k h.0 h.1))

kind_at : (kind : ℕ → Part) → ((k : ℕ) → number (kind k) ≡ k) → (n : ℕ) (p : Part) → p ∈ map (λ i. kind (suc i)) (below n) → InRing n p
kind_at kind e n p m =
    let t = map_at (λ i. kind (suc i)) (below n) m in
    let z : number p ≡ suc t.0 = ap number t.2 ∙ e (suc t.0) in
    let l = below_lt n t.0 t.1 in
    (omega arith, omega arith)

pub parts_at : (n : ℕ) (p : Part) → p ∈ parts n → InRing n p
unfolding parts
parts_at n p m = go (Memᴰ.append_cases (map generator (below n)) m)
  where
    breakers : (p ∈ map generator_breaker (below n)) ⊎ (p ∈ map bus_breaker (below n)) → InRing n p
    breakers (inl x) = kind_at GeneratorBreaker (λ k. refl) n p x
    breakers (inr x) = kind_at BusBreaker (λ k. refl) n p x

    go : (p ∈ map generator (below n)) ⊎ (p ∈ map generator_breaker (below n) ++ map bus_breaker (below n)) → InRing n p
    go (inl x) = kind_at Generator (λ k. refl) n p x
    go (inr x) = breakers (Memᴰ.append_cases (map generator_breaker (below n)) x)

-- what holds of every part of a ring of i, and of the three parts at place i, holds of every part of a ring of i + 1
pub ring_more : (P : Part → Type 0) (i : ℕ) → ((p : Part) → InRing i p → P p) → P (generator i) → P (generator_breaker i) → P (bus_breaker i)
    → (p : Part)
    → InRing (i + 1) p → P p
ring_more P i h a b c = go
  where
    kind : (part : ℕ → Part) → P (part (suc i)) → (k : ℕ) → (k ≤ i → P (part k)) → k ≤ i + 1 → (k ≡ suc i) ⊎ (k ≢ suc i) → P (part k)
    kind part here k before l (inl e) = rw e here
    kind part here k before l (inr e) = before (omega arith)

    go : (p : Part) → InRing (i + 1) p → P p
    go (Generator k) m = kind Generator a k (λ l. h (Generator k) (m.0, l)) m.1 (dec_eq k (suc i))
    go (GeneratorBreaker k) m = kind GeneratorBreaker b k (λ l. h (GeneratorBreaker k) (m.0, l)) m.1 (dec_eq k (suc i))
    go (BusBreaker k) m = kind BusBreaker c k (λ l. h (BusBreaker k) (m.0, l)) m.1 (dec_eq k (suc i))

-- a test that some part passes, and one that none does
module _ (f : Part → Bool) (n : ℕ) where
  pub some_part : (p : Part) → InRing n p → f p ≡ true → any_of f (parts n) ≡ true
  some_part p m e = any_in f (parts_in n p m) e

  pub no_part : ((p : Part) → InRing n p → f p ≡ false) → any_of f (parts n) ≡ false
  no_part h = any_false f (parts n) (λ p m. h p (parts_at n p m))

pub parts_length : (n : ℕ) → length (parts n) ≡ 3 * n
unfolding parts
parts_length n = simp (length-append, length-map, below_length) (omega arith)

-- ---- codes

-- a number is the one after its index
pub index_suc : (k : ℕ) → 0 < k → suc (index k) ≡ k
index_suc zero h = absurd (omega arith)
index_suc (suc k) h = refl

-- no two parts of a ring share a code
pub code_only : (n : ℕ) (p q : Part) → n ≤ largest → InRing n p → InRing n q → part_code p ≡ part_code q → p ≡ q
unfolding part_code
code_only n (Generator a) (Generator b) h i j e = ap Generator (omega (arith, index_suc a i.0, index_suc b j.0))
code_only n (Generator a) (GeneratorBreaker b) h i j e = absurd (omega (arith, index_suc a i.0, index_suc b j.0))
code_only n (Generator a) (BusBreaker b) h i j e = absurd (omega (arith, index_suc a i.0, index_suc b j.0))
code_only n (GeneratorBreaker a) (Generator b) h i j e = absurd (omega (arith, index_suc a i.0, index_suc b j.0))
code_only n (GeneratorBreaker a) (GeneratorBreaker b) h i j e = ap GeneratorBreaker (omega (arith, index_suc a i.0, index_suc b j.0))
code_only n (GeneratorBreaker a) (BusBreaker b) h i j e = absurd (omega (arith, index_suc a i.0, index_suc b j.0))
code_only n (BusBreaker a) (Generator b) h i j e = absurd (omega (arith, index_suc a i.0, index_suc b j.0))
code_only n (BusBreaker a) (GeneratorBreaker b) h i j e = absurd (omega (arith, index_suc a i.0, index_suc b j.0))
code_only n (BusBreaker a) (BusBreaker b) h i j e = ap BusBreaker (omega (arith, index_suc a i.0, index_suc b j.0))

-- the parts of a ring stand in rising code
pub parts_rise : (n : ℕ) → n ≤ largest → RisingBy part_code (parts n)
unfolding parts part_code
parts_rise n h =
    rising_append (each Generator (λ i j l. omega arith))
    (rising_append (each GeneratorBreaker (λ i j l. omega arith)) (each BusBreaker (λ i j l. omega arith))
    (λ x y m k. apart GeneratorBreaker BusBreaker x y m k (λ i j l. omega arith)))
    (λ x y m k. beyond x y m (Memᴰ.append_cases (map generator_breaker (below n)) k))
  where
    each : (kind : ℕ → Part) → ((i j : ℕ) → i < j → part_code (kind (suc i)) < part_code (kind (suc j)))
        → RisingBy part_code (map (λ i. kind (suc i)) (below n))
    each kind f = rising_map part_code (λ i. kind (suc i)) (rising_mono f (rising_below n))

    apart : (a b : ℕ → Part) (x y : Part) → x ∈ map (λ i. a (suc i)) (below n) → y ∈ map (λ i. b (suc i)) (below n)
        → ((i j : ℕ) → i < largest → part_code (a (suc i)) < part_code (b (suc j))) → part_code x < part_code y
    apart a b x y m k f =
        let s = map_at (λ i. a (suc i)) (below n) m in
        let t = map_at (λ i. b (suc i)) (below n) k in
        rw (s.2, t.2) (f s.0 t.0 (omega (arith, below_lt n s.0 s.1)))

    beyond : (x y : Part) → x ∈ map generator (below n) → (y ∈ map generator_breaker (below n)) ⊎ (y ∈ map bus_breaker (below n))
        → part_code x < part_code y
    beyond x y m (inl k) = apart Generator GeneratorBreaker x y m k (λ i j l. omega arith)
    beyond x y m (inr k) = apart Generator BusBreaker x y m k (λ i j l. omega arith)

-- ---- arrays of 20 places

module _ {A : Type 0} (f : ℕ → A) where
  pub places_length : length (places f) ≡ largest
  unfolding places
  places_length = length-map (below largest) f ∙ below_length largest

  pub places_at : (i : ℕ) (d : A) → i < largest → get_or (places f) i d ≡ f i
  unfolding places
  places_at i d h = map_below_at f largest i d h

  -- an array that holds f at each place
  pub is_places : (l : List A) (d : A) → length l ≡ largest → ((i : ℕ) → i < largest → get_or l i d ≡ f i) → l ≡ places f
  is_places l d e h =
      ext_get_or d l (places f) (e ∙ sym places_length) (λ i b. h i (omega (arith, e)) ∙ sym (places_at i d (omega (arith, e))))

pub places_ext : {A : Type 0} (f g : ℕ → A) → ((i : ℕ) → i < largest → f i ≡ g i) → places f ≡ places g
places_ext f g h = is_places g (places f) (f 0) (places_length f) (λ i l. places_at f i (f 0) l ∙ h i l)

-- a store at place k makes the array that holds g of one that holds g at every other place
pub places_set : {A : Type 0} (f g : ℕ → A) (k : ℕ) → ((i : ℕ) → i ≢ k → f i ≡ g i) → set (places f) k (g k) ≡ places g
places_set f g k h =
    is_places g (set (places f) k (g k)) (g k) (length-set (places f) k (g k) ∙ places_length f) (λ i l. at i l (dec_eq i k))
  where
    at : (i : ℕ) → i < largest → (i ≡ k) ⊎ (i ≢ k) → get_or (set (places f) k (g k)) i (g k) ≡ g i
    at i l (inl e) = rw e (get_or-set_same (places f) k (g k) (g k) (omega (arith, places_length f)))
    at i l (inr e) = get_or-set_other (places f) k i (g k) (g k) e ∙ places_at f i (g k) l ∙ h i e

-- a store into an array that holds f
pub set_places : {A : Type 0} (f : ℕ → A) (x : A) (k : ℕ) → set (places f) k x ≡ places (λ i. cond (eqb i k) x (f i))
set_places {A} f x k =
    let e : g k ≡ x = rw (eq-eqb k k refl) in
    rw e at (places_set f g k (λ i d. sym (rw (ne_eqb i k d))))
  where
    g : ℕ → A
    g i = cond (eqb i k) x (f i)

-- an array that is filled place by place: f below place i, and d from there on
module _ {A : Type 0} (d : A) (f : ℕ → A) where
  abbrev pub filled_to : ℕ → List A
  filled_to i = places (λ j. cond (ltb j i) (f j) d)

  pub filled_none : replicate largest d ≡ filled_to 0
  filled_none =
      is_places _ (replicate largest d) d (length-replicate largest d)
      (λ j h. get_or-replicate largest j d d h ∙ sym (rw (le-ltb j 0 (omega arith))))

  pub filled_more : (i : ℕ) → set (filled_to i) i (f i) ≡ filled_to (i + 1)
  filled_more i = rw (below_last (f i) d i) at (places_set _ (λ j. cond (ltb j (i + 1)) (f j) d) i (λ j ne. below_other (f j) d j i ne))

  pub filled_all : filled_to largest ≡ places f
  filled_all = places_ext _ f (λ j h. rw (lt-ltb j largest h))

-- an array of 20 places holds what stands at each
pub places_of : {A : Type 0} (l : List A) (d : A) → length l ≡ largest → l ≡ places (λ i. get_or l i d)
places_of l d e = is_places (λ i. get_or l i d) l d e (λ i h. refl)

-- what stands at a number of the array
at_places : {A : Type 0} (f : ℕ → A) (d : A) (k : ℕ) → 0 < k → k ≤ largest → (g : ℕ → A) → ((i : ℕ) → g (suc i) ≡ f i)
    → at_number d (places f) k ≡ g k
at_places f d zero l h g e = absurd (omega arith)
at_places f d (suc i) l h g e = places_at f i d (omega arith) ∙ sym (e i)

-- the arrays hold what they were made of
pub health_places_lem : (H : PartHealth) (p : Part) → InRing largest p → (health_of (health_places H)).health p ≡ H.health p
unfolding health_of health_places
health_places_lem H (Generator k) h = at_places (λ i. H.health (generator i)) 0 k h.0 h.1 (λ j. H.health (Generator j)) (λ i. refl)
health_places_lem H (GeneratorBreaker k) h =
    at_places (λ i. H.health (generator_breaker i)) 0 k h.0 h.1 (λ j. H.health (GeneratorBreaker j)) (λ i. refl)
health_places_lem H (BusBreaker k) h = at_places (λ i. H.health (bus_breaker i)) 0 k h.0 h.1 (λ j. H.health (BusBreaker j)) (λ i. refl)

pub lock_places : (H : PartHealth) (g : ℕ) → g < largest → (health_of (health_places H)).locked g ≡ H.locked g
unfolding health_of health_places
lock_places H g h = places_at H.locked g false h

pub command_places_lem : (C : PartCommands) (p : Part) → InRing largest p → commands_of (command_places C) p ≡ C p
unfolding commands_of command_places
command_places_lem C (Generator k) h = at_places (λ i. C (generator i)) false k h.0 h.1 (λ j. C (Generator j)) (λ i. refl)
command_places_lem C (GeneratorBreaker k) h =
    at_places (λ i. C (generator_breaker i)) false k h.0 h.1 (λ j. C (GeneratorBreaker j)) (λ i. refl)
command_places_lem C (BusBreaker k) h = at_places (λ i. C (bus_breaker i)) false k h.0 h.1 (λ j. C (BusBreaker j)) (λ i. refl)

-- the arrays of a health have 20 places
pub record Sized (h : Health) : Type 0 where
  pub generators : length h.generators ≡ largest
  pub generator_breakers_lem : length h.generator_breakers ≡ largest
  pub bus_breakers_lem : length h.bus_breakers ≡ largest
  pub locked : length h.locked ≡ largest

-- the arrays are what they hold
pub health_held : (h : Health) → Sized h → h ≡ health_places (health_of h)
unfolding health_places health_of
health_held h s = λ i. record {
  generators = places_of h.generators 0 s.generators i;
  generator_breakers = places_of h.generator_breakers 0 s.generator_breakers_lem i;
  bus_breakers = places_of h.bus_breakers 0 s.bus_breakers_lem i;
  locked = places_of h.locked false s.locked i;
}

pub places_held : (H : PartHealth) → health_places (health_of (health_places H)) ≡ health_places H
unfolding health_places
places_held H =
    sym (health_held (health_places H)
    (record { generators = places_length _; generator_breakers_lem = places_length _; bus_breakers_lem = places_length _; locked = places_length _ }))

-- ---- one part of a health's arrays

-- the array of a part's kind
abbrev pub array_of : Health → Part → List ℕ
array_of h (Generator k) = h.generators
array_of h (GeneratorBreaker k) = h.generator_breakers
array_of h (BusBreaker k) = h.bus_breakers

-- the health with another array for a part's kind
abbrev pub with_array : Health → Part → List ℕ → Health
with_array h (Generator k) l =
    record { generators = l; generator_breakers = h.generator_breakers; bus_breakers = h.bus_breakers; locked = h.locked }
with_array h (GeneratorBreaker k) l =
    record { generators = h.generators; generator_breakers = l; bus_breakers = h.bus_breakers; locked = h.locked }
with_array h (BusBreaker k) l =
    record { generators = h.generators; generator_breakers = h.generator_breakers; bus_breakers = l; locked = h.locked }
