-- Connected buses: closed bus breakers lead from one bus to another exactly when one of the two arcs between them is closed.
use Rattle.std.specs.Prelude.{◌≡◌, refl, Bool, true, ◌||◌, ◌≢◌, ◌⊎◌, ◌↔◌, ℕ, zero, suc, ◌<◌}
use Rattle.std.proofs.Common.{sym, ◌∙◌, ap₂, inl, inr, arith}
use Rattle.model.specs.Lists.{all_of}
use Rattle.model.specs.Plant.{next, up, arc, Leads, stay, rise, fall, connected}
use Rattle.model.specs.Laws.Tests.{or_cases, or_left, or_right, dec_eq}
use Rattle.model.specs.Laws.Lists.{all_at, all_of_lem, all_ext}
use Rattle.theory.specs.Proofs.Geometry.{up_refl, up_zero, up_next, up_next_right, up_inj, next_lt, arc_at, arc_in}

-- every breaker of the rising arc from a to b is in C
abbrev pub Arc : ℕ → (ℕ → Bool) → ℕ → ℕ → Type 0
Arc n C a b = (i : ℕ) → i < n → up n a i < up n a b → C i ≡ true

-- every breaker of C below n is in D
abbrev pub Within : ℕ → (ℕ → Bool) → (ℕ → Bool) → Type 0
Within n C D = (i : ℕ) → i < n → C i ≡ true → D i ≡ true

pub leads_mono : {n : ℕ} {C D : ℕ → Bool} {a b : ℕ} → Within n C D → Leads n C a b → Leads n D a b
leads_mono f stay = stay
leads_mono f (rise {a = a} h c e r) = rise h (f a h c) e (leads_mono f r)
leads_mono f (fall {a = a} h c e r) = fall h (f a h c) e (leads_mono f r)

pub leads_trans : {n : ℕ} {C : ℕ → Bool} {a b c : ℕ} → Leads n C a b → Leads n C b c → Leads n C a c
leads_trans stay s = s
leads_trans (rise h c e r) s = rise h c e (leads_trans r s)
leads_trans (fall h c e r) s = fall h c e (leads_trans r s)

pub leads_sym : {n : ℕ} {C : ℕ → Bool} {a b : ℕ} → Leads n C a b → Leads n C b a
leads_sym stay = stay
leads_sym (rise h c e r) = leads_trans (leads_sym r) (fall h c e stay)
leads_sym (fall h c e r) = leads_trans (leads_sym r) (rise h c e stay)

module _ (n : ℕ) (C : ℕ → Bool) where
  pub closed_arc : (a b : ℕ) → a < n → all_of C (arc n a (up n a b)) ≡ true → Arc n C a b
  closed_arc a b ha e i h l = all_at C (arc n a (up n a b)) e i (arc_in n a (up n a b) i ha h l)

  pub arc_closed : (a b : ℕ) → a < n → Arc n C a b → all_of C (arc n a (up n a b)) ≡ true
  arc_closed a b ha f = all_of_lem C (arc n a (up n a b)) (λ i m. let t = arc_at n a (up n a b) i ha m in f i t.0 t.1)

  -- an arc that has no step, or one step, or begins one step earlier or later
  arc_none : (a : ℕ) → a < n → Arc n C a a
  arc_none a ha i h l = absurd (omega (arith, up_refl n a ha))

  arc_one : (a : ℕ) → a < n → C a ≡ true → a ≢ next n a → Arc n C a (next n a)
  arc_one a ha c ne i h l =
      let z : i ≡ a = up_inj n a i a ha h ha
      (omega (arith, up_refl n a ha, up_next n a (next n a) ha (next_lt n a ha) ne, up_refl n (next n a) (next_lt n a ha))) in
      rw z c

  pub arc_longer : (a b : ℕ) → a < n → b < n → C a ≡ true → a ≢ b → Arc n C (next n a) b → Arc n C a b
  arc_longer a b ha hb c ne f i h l = go (dec_eq a i)
    where
      go : (a ≡ i) ⊎ (a ≢ i) → C i ≡ true
      go (inl z) = rw (← z) c
      go (inr z) = f i h (omega (arith, up_next n a i ha h z, up_next n a b ha hb ne))

  arc_shorter : (a b : ℕ) → a < n → b < n → C a ≡ true → a ≢ b → Arc n C a b → Arc n C (next n a) b
  arc_shorter a b ha hb c ne f i h l = go (dec_eq a i)
    where
      go : (a ≡ i) ⊎ (a ≢ i) → C i ≡ true
      go (inl z) = rw (← z) c
      go (inr z) = f i h (omega (arith, up_next n a i ha h z, up_next n a b ha hb ne))

  -- a closed arc, of m breakers, leads from end to end
  arc_leads' : (m a b : ℕ) → a < n → b < n → up n a b ≡ m → Arc n C a b → Leads n C a b
  arc_leads' zero a b ha hb e f = rw (up_zero n a b ha hb e) stay
  arc_leads' (suc m) a b ha hb e f =
      let z = up_refl n a ha in
      let ne : a ≢ b = λ p. omega (arith, rw (← p) at e) in
      let c : C a ≡ true = f a ha (omega arith) in
      rise ha c refl (arc_leads' m (next n a) b (next_lt n a ha) hb (omega (arith, up_next n a b ha hb ne)) (arc_shorter a b ha hb c ne f))

  pub arc_leads : (a b : ℕ) → a < n → b < n → Arc n C a b → Leads n C a b
  arc_leads a b ha hb f = arc_leads' (up n a b) a b ha hb refl f

  -- one closed breaker more, up from a or down to a, at either end of an arc
  rise_arc : (a c : ℕ) → a < n → c < n → C a ≡ true → Arc n C (next n a) c ⊎ Arc n C c (next n a) → Arc n C a c ⊎ Arc n C c a
  rise_arc a c ha hc k s = go s (dec_eq a c) (dec_eq (next n a) c)
    where
      go : Arc n C (next n a) c ⊎ Arc n C c (next n a) → (a ≡ c) ⊎ (a ≢ c) → (next n a ≡ c) ⊎ (next n a ≢ c) → Arc n C a c ⊎ Arc n C c a
      go s (inl p) q = inl (rw p (arc_none c hc))
      go (inl f) (inr p) q = inl (arc_longer a c ha hc k p f)
      go (inr f) (inr p) (inl q) = inl (rw q at (arc_one a ha k (rw q p)))
      go (inr f) (inr p) (inr q) = inr (λ i h l. f i h (omega (arith, up_next_right n c a hc ha q)))

  fall_arc : (a c : ℕ) → a < n → c < n → C a ≡ true → Arc n C a c ⊎ Arc n C c a → Arc n C (next n a) c ⊎ Arc n C c (next n a)
  fall_arc a c ha hc k s = go s (dec_eq a c) (dec_eq (next n a) c)
    where
      go : Arc n C a c ⊎ Arc n C c a → (a ≡ c) ⊎ (a ≢ c) → (next n a ≡ c) ⊎ (next n a ≢ c) → Arc n C (next n a) c ⊎ Arc n C c (next n a)
      go s p (inl q) = inl (rw q (arc_none c hc))
      go (inl f) (inl p) (inr q) = inr (rw (← p) (arc_one a ha k (λ z. q (sym z ∙ p))))
      go (inl f) (inr p) (inr q) = inl (arc_shorter a c ha hc k p f)
      go (inr f) p (inr q) = inr (λ i h l. at_end_lem i h l (dec_eq i a))
        where
          at_end_lem : (i : ℕ) → i < n → up n c i < up n c (next n a) → (i ≡ a) ⊎ (i ≢ a) → C i ≡ true
          at_end_lem i h l (inl z) = rw z k
          at_end_lem i h l (inr z) =
              let u : up n c i ≢ up n c a = λ e. z (up_inj n c i a hc h ha e) in
              f i h (omega (arith, up_next_right n c a hc ha q))

-- where closed breakers lead from a to b, one of the two arcs is closed
pub leads_arcs : {n : ℕ} {C : ℕ → Bool} {a b : ℕ} → b < n → Leads n C a b → Arc n C a b ⊎ Arc n C b a
leads_arcs {n} {C} {b = b} hb stay = inl (arc_none n C b hb)
leads_arcs {n} {C} hb (rise {a = a} {c = c} l k e r) = rise_arc n C a c l hb k (rw e at (leads_arcs hb r))
leads_arcs {n} {C} hb (fall {a = a} {c = c} l k e r) = rw e (fall_arc n C a c l hb k (leads_arcs hb r))

pub connected_leads : {n : ℕ} {C : ℕ → Bool} {a b : ℕ} → a < n → b < n → connected n C a b ≡ true → Leads n C a b
unfolding connected
connected_leads {n} {C} {a} {b} ha hb e = go (or_cases (all_of C (arc n a (up n a b))) _ e)
  where
    go : (all_of C (arc n a (up n a b)) ≡ true) ⊎ (all_of C (arc n b (up n b a)) ≡ true) → Leads n C a b
    go (inl f) = arc_leads n C a b ha hb (closed_arc n C a b ha f)
    go (inr f) = leads_sym (arc_leads n C b a hb ha (closed_arc n C b a hb f))

pub leads_connected : {n : ℕ} {C : ℕ → Bool} {a b : ℕ} → a < n → b < n → Leads n C a b → connected n C a b ≡ true
unfolding connected
leads_connected {n} {C} {a} {b} ha hb r = go (leads_arcs hb r)
  where
    go : Arc n C a b ⊎ Arc n C b a → connected n C a b ≡ true
    go (inl f) = or_left (all_of C (arc n a (up n a b))) _ (arc_closed n C a b ha f)
    go (inr f) = or_right (all_of C (arc n a (up n a b))) _ (arc_closed n C b a hb f)

-- the test says what the paper says: closed bus breakers lead from one to the other
pub connected_exactly : (n : ℕ) (C : ℕ → Bool) (a b : ℕ) → a < n → b < n → connected n C a b ≡ true ↔ Leads n C a b
connected_exactly n C a b ha hb = (connected_leads ha hb, leads_connected ha hb)

-- only the breakers below n matter
pub connected_ext : (n : ℕ) (C D : ℕ → Bool) (a b : ℕ) → a < n → b < n → ((i : ℕ) → i < n → C i ≡ D i)
    → connected n C a b ≡ connected n D a b
unfolding connected
connected_ext n C D a b ha hb e = ap₂ ◌||◌ (along a b ha) (along b a hb)
  where
    along : (x y : ℕ) → x < n → all_of C (arc n x (up n x y)) ≡ all_of D (arc n x (up n x y))
    along x y hx = all_ext C D (arc n x (up n x y)) (λ i m. e i (arc_at n x (up n x y) i hx m).0)

-- C leads from x to a bus of X
abbrev pub Near : (n : ℕ) (C : ℕ → Bool) (X : ℕ → Type 0) → ℕ → Type 0
Near n C X x = (v : ℕ) × X v × Leads n C x v

-- Split: D adds to C breakers whose ends are all in X; it leads where C does, and between buses that C leads to X
module _ (n : ℕ) (C D : ℕ → Bool) (X : ℕ → Type 0) (adds : (i : ℕ) → i < n → D i ≡ true → (C i ≡ true) ⊎ (X i × X (next n i))) where
  pub leads_split : {x y : ℕ} → Leads n D x y → Leads n C x y ⊎ (Near n C X x × Near n C X y)
  leads_split stay = inl stay
  leads_split (rise {a = a} {b = b} {c = c} l k e r) = go (leads_split r) (adds a l k)
    where
      go : Leads n C b c ⊎ (Near n C X b × Near n C X c) → (C a ≡ true) ⊎ (X a × X (next n a))
          → Leads n C a c ⊎ (Near n C X a × Near n C X c)
      go (inl q) (inl z) = inl (rise l z e q)
      go (inr q) (inl z) = inr ((q.0.0, q.0.1, rise l z e q.0.2), q.1)
      go (inl q) (inr z) = inr ((a, z.0, stay), (next n a, z.1, leads_sym (rw e at q)))
      go (inr q) (inr z) = inr ((a, z.0, stay), q.1)
  leads_split (fall {a = a} {b = b} {c = c} l k e r) = go (leads_split r) (adds a l k)
    where
      go : Leads n C a c ⊎ (Near n C X a × Near n C X c) → (C a ≡ true) ⊎ (X a × X (next n a))
          → Leads n C b c ⊎ (Near n C X b × Near n C X c)
      go (inl q) (inl z) = inl (fall l z e q)
      go (inr q) (inl z) = inr ((q.0.0, q.0.1, fall l z e q.0.2), q.1)
      go (inl q) (inr z) = inr ((next n a, z.1, rw e stay), (a, z.0, leads_sym q))
      go (inr q) (inr z) = inr ((next n a, z.1, rw e stay), q.1)
