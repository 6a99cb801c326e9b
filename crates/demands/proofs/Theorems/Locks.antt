-- Document 02, Note 7. Of every controller that meets demand 3 and every list of calls: no locked generator runs at any interruption, none is
-- ordered on, and each stands ordered off when the orders have ended. Neither lock nor health alters the other: of every plant, and so of the
-- record of every such controller.
use Rattle.std.specs.Prelude.{◌≡◌, refl, Bool, true, false, ◌&&◌, cond, ◌⊎◌, List, [], ◌∷◌, map, ℕ, ◌<◌}
use Rattle.std.proofs.Common.{sym, ◌∙◌, ap, inl, inr}
use mathlib.Core.List.Memᴰ
use Rattle.std.proofs.Math.Option.{some}
use Rattle.model.specs.declared.Part.{Part}
use Rattle.model.specs.declared.Word.{Word}
use Rattle.model.specs.declared.Word.TheVariants.{Fit, StuckOff, StuckOpen, StuckClosed, Lock, Unlock}
use Rattle.model.specs.declared.Report.{Report}
use Rattle.model.specs.Lists.{◌∈◌}
use Rattle.model.specs.Values.{same_part}
use Rattle.model.specs.Plant.{PartHealth, generator, fit, fit_generator, feeds, InRing}
use Rattle.model.specs.Choosing.{plan, commands}
use Rattle.model.specs.Sheet.{opening, closing}
use Rattle.model.specs.Reports.{health_of}
use Rattle.model.specs.Laws.Tests.{contra, dec}
use Rattle.model.specs.Laws.Lists.{map_at}
use Rattle.model.specs.Laws.Parts.{at_index, same_eq}
use Rattle.theory.proofs.Theorems.Closing.{closing_at}
use Rattle.theory.specs.Theorems.Interruption.{on_fit}
use Rattle.demands.specs.Statements.Demand3.{
  Controller,
  PlantState,
  effect,
  lock_effect,
  after_word,
  after_words,
  operation,
  Phases,
  decode,
  Call,
  Calls,
  ◌then◌,
  whole,
  reply_to,
  words,
  is_served,
  World,
  switched,
  Performed,
  Ended,
  Interrupted,
  served,
  RecordGiven,
  AsChosen,
  Demand3,
}
use Rattle.demands.specs.Statements.Locks.{
  NoneOrderedOn,
  NeverStarts,
  AboutLock,
  lock,
  unlock,
  AboutHealth,
  fit as word_fit,
  stuck_off,
  stuck_open,
  stuck_closed,
  Only,
  Apart,
}
use Rattle.demands.proofs.Proofs.Standing.{same_phases}
use Rattle.demands.proofs.Theorems.Returns.{judged_after, ended_planned}

-- ---- a locked generator

-- .. is not fit, whatever its health
locked_unfit : (H : PartHealth) (g : ℕ) → H.locked g ≡ true → fit_generator H g ≡ false
locked_unfit H g e = rw e (go (fit (H.health (generator g))))
  where
    go : (b : Bool) → b && false ≡ false
    go true = refl
    go false = refl

-- .. and no plan commands it on
locked_off : (n : ℕ) (H : PartHealth) (g : ℕ) → H.locked g ≡ true → commands n H (generator g) ≡ false
locked_off n H g e = go (dec (commands n H (generator g)))
  where
    go : (commands n H (generator g) ≡ true) ⊎ (commands n H (generator g) ≡ false) → commands n H (generator g) ≡ false
    go (inl c) = contra (on_fit n H g c) (locked_unfit H g e)
    go (inr c) = c

-- no wave for a plant orders it on
none_ordered : (n : ℕ) (P : PlantState) (ph : Phases)
    → ph.first ≡ map (operation false) (opening n P.last (commands n P.health))
    → ph.second ≡ map (operation true) (closing n P.last (plan n P.health))
    → NoneOrderedOn P ph
none_ordered n P ph first second g e m = go (Memᴰ.append_cases ph.first m)
  where
    on_is : {p : Part} → operation true (generator g) ≡ operation false p → true ≡ false
    on_is q = λ i. (q i).command

    go : (operation true (generator g) ∈ ph.first) ⊎ (operation true (generator g) ∈ ph.second) → ⊥
    go (inl k) =
        let t = map_at (operation false) (opening n P.last (commands n P.health)) (rw first at k) in
        contra refl (on_is t.2)
    go (inr k) =
        let t = map_at (operation true) (closing n P.last (plan n P.health)) (rw second at k) in
        let part : generator g ≡ t.0 = λ i. (t.2 i).part in
        contra (rw (← part) at (closing_at n P.health P.last t.0 t.1).2) (locked_off n P.health g e)

pub never_starts : {c : Controller} → Demand3 c → (n : ℕ) (buffer : List ℕ) → is_served (c.start n buffer) ≡ true → (calls : Calls)
    → NeverStarts c n buffer calls
never_starts {c} meets n buffer begun calls = record {
  not_running = λ {P} i g e. rw (locked_unfit P.health g e);
  not_ordered = λ {W = W} call {ph} b h s d. ordered W call ph d ((meets.holds n buffer begun calls).chosen call b h s);
  ordered_off =
      λ {W = W} b h g hg e.
      ended_planned meets n buffer begun h (generator g) (at_index n g hg) ∙ locked_off n W.plant.health g e;
}
  where
    ordered : (W : World) (call : Call) (ph : Phases) → decode n (reply_to c W.state call).buffer ≡ some ph
        → AsChosen n (after_words (words call) W.plant) (reply_to c W.state call)
        → NoneOrderedOn (after_words (words call) W.plant) ph
    ordered W call ph d a =
        let same : a.phases ≡ ph = same_phases a.decodes d in
        none_ordered n (after_words (words call) W.plant) ph (rw same at a.first_is) (rw same at a.second_is)

-- so it feeds no bus: wherever anyone halts the orders, at an excepted moment too
pub locked_feeds_none : {c : Controller} → Demand3 c → (n : ℕ) (buffer : List ℕ) → is_served (c.start n buffer) ≡ true → (calls : Calls)
    → {P : PlantState} {e : Bool} → Interrupted c n buffer calls P e → (b g : ℕ) → P.health.locked g ≡ true
    → feeds n P.health P.last b g ≡ false
unfolding feeds
locked_feeds_none meets n buffer begun calls i b g e = rw ((never_starts meets n buffer begun calls).not_running i g e)

-- ---- neither lock nor health alters the other

-- every word is about the one or about the other
pub about_one : (w : Word) → AboutHealth w ⊎ AboutLock w
about_one Fit = inl word_fit
about_one StuckOff = inl stuck_off
about_one StuckOpen = inl stuck_open
about_one StuckClosed = inl stuck_closed
about_one Lock = inr lock
about_one Unlock = inr unlock

health_word : {w : Word} → AboutHealth w → (l : Bool) → lock_effect w l ≡ l
health_word word_fit l = refl
health_word stuck_off l = refl
health_word stuck_open l = refl
health_word stuck_closed l = refl

lock_word : {w : Word} → AboutLock w → (h : ℕ) → effect w h ≡ h
lock_word lock h = refl
lock_word unlock h = refl

-- a word that is not for a part, or leaves what it has
left : {A : Type 0} (p : Part) (r : Report) (x y : A) → (p ≡ r.part → y ≡ x) → cond (same_part p r.part) y x ≡ x
left p r x y f = go (dec (same_part p r.part))
  where
    go : (same_part p r.part ≡ true) ⊎ (same_part p r.part ≡ false) → cond (same_part p r.part) y x ≡ x
    go (inl e) = rw e (f (same_eq p r.part e))
    go (inr e) = rw e

lock_stays : (rs : List Report) (P : PlantState) (g : ℕ) → Only AboutHealth (generator g) rs
    → (after_words rs P).health.locked g ≡ P.health.locked g
unfolding after_words after_word
lock_stays [] P g only = refl
lock_stays (r ∷ rs) P g only =
    lock_stays rs (after_word r P) g (λ q m. only q (Memᴰ.tail m))
    ∙ left (generator g) r (P.health.locked g) (lock_effect r.word (P.health.locked g))
    (λ e. health_word (only r (Memᴰ.head refl) e) (P.health.locked g))

health_stays : (rs : List Report) (P : PlantState) (p : Part) → Only AboutLock p rs → (after_words rs P).health.health p ≡ P.health.health p
unfolding after_words after_word
health_stays [] P p only = refl
health_stays (r ∷ rs) P p only =
    health_stays rs (after_word r P) p (λ q m. only q (Memᴰ.tail m))
    ∙ left p r (P.health.health p) (effect r.word (P.health.health p))
    (λ e. lock_word (only r (Memᴰ.head refl) e) (P.health.health p))

pub apart : (P : PlantState) → Apart P
apart P = record { lock_remains = λ rs. lock_stays rs P; health_remains = λ rs. health_stays rs P }

-- .. and so of the record, in every list: a served call leaves what its words are not about as the record had it
module _ {c : Controller} (meets : Demand3 c) (n : ℕ) (buffer : List ℕ) (begun : is_served (c.start n buffer) ≡ true) {before : Calls} {W : World}
    (call : Call) {ph : Phases} {Q : PlantState} (h : Ended c n buffer before W) (s : is_served (reply_to c W.state call) ≡ true)
    (d : decode n (reply_to c W.state call).buffer ≡ some ph) (q : Performed ph (after_words (words call) W.plant) Q) where
  -- what the record gives before the call, and after it
  first : RecordGiven n W
  first = (meets.holds n buffer begun before).given whole h

  after : RecordGiven n (switched Q (reply_to c W.state call).answer W.history)
  after = (meets.holds n buffer begun (before then call)).given whole (served call h s d q)

  -- "a replaced set that is locked remains locked"
  pub record_lock_remains : (g : ℕ) → g < n → Only AboutHealth (generator g) (words call)
      → (health_of (reply_to c W.state call).answer.state.ring.health).locked g ≡ (health_of W.state.ring.health).locked g
  record_lock_remains g hg only =
      after.locked g hg
      ∙ ap (λ (H : PartHealth). H.locked g) (judged_after q)
      ∙ (apart W.plant).lock_remains (words call) g only
      ∙ sym (first.locked g hg)

  -- a locked set that fails and is unlocked stays off
  pub record_health_remains : (p : Part) → InRing n p → Only AboutLock p (words call)
      → (health_of (reply_to c W.state call).answer.state.ring.health).health p ≡ (health_of W.state.ring.health).health p
  record_health_remains p i only =
      after.health p i
      ∙ ap (λ (H : PartHealth). H.health p) (judged_after q)
      ∙ (apart W.plant).health_remains (words call) p only
      ∙ sym (first.health p i)
