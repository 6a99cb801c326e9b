-- Demand 3 holds of the controller whose answers are the definitions that the contracts of start, step, scan, book and cancel cite.
use Rattle.std.specs.Prelude.{◌≡◌, refl, Bool, true, cond, ◌≢◌, ◌⊎◌, ℕ, suc, ◌≤◌, ◌<◌}
use Rattle.std.proofs.Math.Path.{sym, ap}
use Rattle.std.proofs.Common.{◌∙◌, inl, inr, arith}
use Rattle.std.proofs.Math.Bool.{false}
use mathlib.Core.List.{List, [], ◌∷◌, ◌++◌, map, append-nil, Permᴰ}
use Rattle.std.proofs.Math.Option.{Option, none, some}
use Rattle.std.proofs.Math.Dec.{eqb}
use Rattle.std.proofs.Math.ListN.{get_or, get_or-eq_default}
use borrow.Author.Tests.{ne_eqb}
use Rattle.model.specs.declared.Part.{Part}
use Rattle.model.specs.declared.Word.{Word}
use Rattle.model.specs.declared.Word.TheVariants.{Fit, StuckOff, StuckOpen, StuckClosed, Lock, Unlock}
use Rattle.model.specs.declared.Report.{Report}
use Rattle.model.specs.declared.Booking.{Booking}
use Rattle.model.specs.declared.Choice.TheVariants as choice
use Rattle.model.specs.declared.Feed.TheVariants as feed
use Rattle.model.specs.Lists.{any_of, ◌∈◌}
use Rattle.model.specs.Values.{index, same_part, choice_source}
use Rattle.model.specs.Plant.{PartHealth, PartCommands, smallest, largest, generator_breaker, bus_breaker, stuck_closed, bus_feed, Reaches}
use Rattle.model.specs.Priority.{Path}
use Rattle.model.specs.Choosing.{commands, choice_of, plan}
use Rattle.model.specs.Sheet.{opening, closing}
use Rattle.model.specs.Reports.{places, blank_ring}
use Rattle.model.specs.Bookings.{total_watts, booking_source, watts_of}
use Rattle.model.specs.States.{StateReply, unloaded, told_state, state_start}
use Rattle.model.specs.Laws.Tests.{contra, dec, dec_lt, or_none}
use Rattle.model.specs.Laws.Lists.{keep_ext, keep_none}
use Rattle.model.specs.Laws.Choosing.{choice_source_lem, choice_dark, choices_at, Inside}
use Rattle.model.specs.Laws.Parts.{index_suc, places_length, places_at}
use Rattle.theory.specs.Proofs.Choosing.{choices_inside}
use Rattle.theory.specs.Theorems.Completeness.{de_energized_exactly}
use Rattle.theory.specs.Theorems.Feeds.{Single, no_clash, energized_fed, de_energized_fed, reaches_usable, usable_reaches}
use Rattle.theory.specs.Theorems.Interruption.{Fewer, NoneStuckClosed, opening_single, closing_single}
use Rattle.theory.specs.Theorems.Locality.{feed_ext}
use Rattle.demands.specs.Statements.Demand3.{
  PlantState,
  fresh_plant,
  effect,
  after_word,
  after_words,
  Operation,
  operation,
  perform_all,
  Phases,
  decode,
  Call,
  Calls,
  nothing,
  ◌then◌,
  ◌also◌,
  reply_to,
  answer_to,
  words,
  is_served,
  is_booked,
  World,
  performed,
  Ended,
  started,
  served,
  refused,
  booked,
  not_booked,
  Moment,
  in_first,
  in_second,
  is_stuck_closed,
  is_empty,
  excepted,
  Interrupted,
  in_start,
  between,
  in_call,
  shown_at,
  BusShown,
  RecordGiven,
  feed_of,
  fed_by,
  fed_by_none,
  LoadGiven,
  AsChosen,
  lent,
  Meets,
  Answered,
  Holds,
  Demand3,
}
use Rattle.demands.proofs.Proofs.Operations.{perform_health, any_order, sheet_order}
use Rattle.demands.proofs.Proofs.Steady.{
  phases_of,
  Replied,
  Steady,
  served_replied,
  some_of_prefix,
  first_fewer,
  first_done,
  second_fewer,
}
use Rattle.demands.specs.Controller.{controller}
use Rattle.demands.proofs.Proofs.Answering as answering
use Rattle.demands.proofs.Proofs.Answering.{start_served, start_fine, start_answered, start_ready, call_ready, call_served}
use Rattle.demands.proofs.Proofs.Loads.{live_count, figures_sum}
use Rattle.demands.proofs.Proofs.Standing.{same_phases, Stands, stands_good, booking_answered, ended_stands}

-- ---- what is shown

module _ {n : ℕ} {W : World} (small : n ≤ largest) (s : Steady n W) (b : ℕ) (hb : b < n) where
  abbrev K : PartHealth
  K = W.plant.health

  shown_is : shown_at W b ≡ choice_of n (plan n K b)
  shown_is = rw s.shown (choices_at n K b (record { choice = choice.Dark }) hb small)

  fed_is : bus_feed n K W.plant.last b ≡ bus_feed n K (commands n K) b
  fed_is = feed_ext n K K W.plant.last (commands n K) (record { health = λ p i. refl; locked = λ g l. refl }) s.planned b hb

  none_dark : plan n K b ≡ none → choice_of n (plan n K b) ≡ choice.Dark
  unfolding choice_of
  none_dark e = rw e

  bus_shown : BusShown n W b
  bus_shown = record {
    dark_unreached = λ e g c. unreached e g c;
    unreached_dark = λ f. shown_is ∙ none_dark ((de_energized_exactly n K b hb).1 (λ g r hg u. f g (usable_reaches r hg hb u)));
    energized = λ ne. fed_is ∙ energized (plan n K b) refl ne;
    de_energized = λ e. fed_is ∙ de_energized_fed n K b hb (choice_dark n (plan n K b) (sym shown_is ∙ e));
  }
    where
      unreached : shown_at W b ≡ choice.Dark → (g : ℕ) → Reaches n K b g → ⊥
      unreached e g c =
          let t = reaches_usable hb c in
          (de_energized_exactly n K b hb).0 (choice_dark n (plan n K b) (sym shown_is ∙ e)) g t.0 c.inside t.1

      energized : (o : Option Path) → plan n K b ≡ o → shown_at W b ≢ choice.Dark
          → bus_feed n K (commands n K) b ≡ feed.Fed (choice_source (shown_at W b))
      energized none e ne = absurd (ne (shown_is ∙ none_dark e))
      energized (some w) e ne = rw (shown_is, e, choice_source_lem n w) (energized_fed n K b w hb e)

-- the record gives the plant's health, locks and commands
as_given : {n : ℕ} {W : World} → Steady n W → RecordGiven n W
as_given s = record {
  size = s.size;
  health = s.health.health;
  locked = s.health.locked;
  standing = s.standing;
  health_above = λ p i l. (s.above p i l).0;
  locked_above_lem = s.unlocked_above;
  commands_above = λ p i l. (s.above p i l).1;
}

-- ---- what the record gives of bookings

module _ {n : ℕ} {W : World} (small : n ≤ largest) (s : Stands n W) where
  -- a live booking's bus is one of the ring
  on_ring : (b : Booking) → b ∈ W.history.live → index b.bus < n
  on_ring b m =
      let k = s.loaded.bookable b m in
      omega (arith, index_suc b.bus (omega (arith, k.low)), k.high)

  -- what is shown there is dark, or names a generator of the ring
  inside : (b : Booking) → b ∈ W.history.live → Inside n (shown_at W (index b.bus))
  inside b m = rw s.steady.shown (choices_inside n W.plant.health small (index b.bus) (on_ring b m))

  -- .. and it is what the plant says
  fed_dark : (b : Booking) → b ∈ W.history.live → shown_at W (index b.bus) ≡ choice.Dark → feed_of n W.plant b ≡ feed.Dark
  fed_dark b m e = (bus_shown small s.steady (index b.bus) (on_ring b m)).de_energized e

  fed_lit : (b : Booking) → b ∈ W.history.live → 0 < booking_source W.shown b
      → feed_of n W.plant b ≡ feed.Fed (booking_source W.shown b)
  fed_lit b m l =
      (bus_shown small s.steady (index b.bus) (on_ring b m)).energized (λ e. omega (arith, ap choice_source e))

  -- a generator feeds it by the plant where it does by what is shown
  fed_shown : (g : ℕ) (b : Booking) → b ∈ W.history.live
      → eqb (booking_source W.shown b) (suc g) ≡ fed_by (suc g) (feed_of n W.plant b)
  fed_shown g b m = go (inside b m)
    where
      go : Inside n (shown_at W (index b.bus)) → eqb (booking_source W.shown b) (suc g) ≡ fed_by (suc g) (feed_of n W.plant b)
      go (inl e) = rw (fed_dark b m e, e) (ne_eqb 0 (suc g) (λ z. omega arith))
      go (inr i) = rw (fed_lit b m i.0) refl

  -- no generator does where it is dark
  unfed_shown : (b : Booking) → b ∈ W.history.live → eqb (booking_source W.shown b) 0 ≡ fed_by_none (feed_of n W.plant b)
  unfed_shown b m = go (inside b m)
    where
      go : Inside n (shown_at W (index b.bus)) → eqb (booking_source W.shown b) 0 ≡ fed_by_none (feed_of n W.plant b)
      go (inl e) = rw (fed_dark b m e, e) refl
      go (inr i) = rw (fed_lit b m i.0) (ne_eqb (booking_source W.shown b) 0 (λ z. omega (arith, i.0)))

  -- a figure of the record
  figure : (g : ℕ) → g < largest → get_or W.state.load.watts g 0 ≡ watts_of W.shown W.history.live (suc g)
  figure g h = rw s.loaded.watts (places_at (λ k. watts_of W.shown W.history.live (suc k)) g 0 h)

  -- a generator above n feeds no bus
  none_above : (g : ℕ) → n ≤ g → watts_of W.shown W.history.live (suc g) ≡ 0
  unfolding watts_of total_watts
  none_above g h =
      ap total_watts (keep_none (λ b. eqb (booking_source W.shown b) (suc g)) W.history.live (λ b m. other b (inside b m)))
    where
      other : (b : Booking) → Inside n (shown_at W (index b.bus)) → eqb (booking_source W.shown b) (suc g) ≡ false
      other b (inl e) = rw e (ne_eqb 0 (suc g) (λ z. omega arith))
      other b (inr i) = ne_eqb (booking_source W.shown b) (suc g) (λ z. omega (arith, i.1))

  load_given : LoadGiven n W
  unfolding watts_of
  load_given = record {
    bookings = s.loaded.live;
    live = sym (live_count s.loaded);
    watts = λ g h. figure g (omega arith)
        ∙ ap total_watts (keep_ext (λ b. eqb (booking_source W.shown b) (suc g)) (λ b. fed_by (suc g) (feed_of n W.plant b)) W.history.live (fed_shown g));
    watts_above_lem = λ g h. above g h (dec_lt g largest);
    dark_watts_lem = s.loaded.dark
        ∙ ap total_watts (keep_ext (λ b. eqb (booking_source W.shown b) 0) (λ b. fed_by_none (feed_of n W.plant b)) W.history.live unfed_shown);
    sums = rw (s.loaded.watts, s.loaded.dark)
        (omega (arith, figures_sum W.shown W.history.live (λ b m. at_most b (inside b m)), s.loaded.balance));
  }
    where
      above : (g : ℕ) → n ≤ g → (g < largest) ⊎ (largest ≤ g) → get_or W.state.load.watts g 0 ≡ 0
      above g h (inl l) = figure g l ∙ none_above g h
      above g h (inr l) = rw s.loaded.watts
          (get_or-eq_default (places (λ k. watts_of W.shown W.history.live (suc k))) 0
          (omega (arith, places_length (λ k. watts_of W.shown W.history.live (suc k)))))

      at_most : (b : Booking) → Inside n (shown_at W (index b.bus)) → booking_source W.shown b ≤ largest
      at_most b (inl e) = rw e (omega arith)
      at_most b (inr i) = omega (arith, i.1)

-- a reply that is document 01's has its choices and its phases
as_chosen : {n : ℕ} {P : PlantState} {reply : StateReply} → Replied n P reply → AsChosen n P reply
unfolding phases_of
as_chosen {n} {P} a = record {
  choices_are = a.chosen;
  phases = phases_of n P;
  decodes = a.decoded;
  first_is = refl;
  second_is = refl;
}

-- ---- interruptions

-- words that stick no breaker closed
pub words_last : (rs : List Report) (P : PlantState) → (after_words rs P).last ≡ P.last
unfolding after_words after_word
words_last [] P = refl
words_last (r ∷ rs) P = words_last rs (after_word r P)

pub not_closed : (w : Word) (h : ℕ) → is_stuck_closed w ≡ false → stuck_closed (effect w h) ≡ true → stuck_closed h ≡ true
not_closed Fit h e c = contra c refl
not_closed StuckOff h e c = contra c refl
not_closed StuckOpen h e c = contra c refl
not_closed StuckClosed h e c = contra refl e
not_closed Lock h e c = c
not_closed Unlock h e c = c

word_none : (r : Report) (P : PlantState) (p : Part) → is_stuck_closed r.word ≡ false → stuck_closed ((after_word r P).health.health p) ≡ true
    → stuck_closed (P.health.health p) ≡ true
unfolding after_word
word_none r P p e = go (same_part p r.part)
  where
    go : (t : Bool) → stuck_closed (cond t (effect r.word (P.health.health p)) (P.health.health p)) ≡ true
        → stuck_closed (P.health.health p) ≡ true
    go true c = not_closed r.word (P.health.health p) e c
    go false c = c

words_none : (rs : List Report) (P : PlantState) (p : Part) → any_of (λ r. is_stuck_closed r.word) rs ≡ false
    → stuck_closed ((after_words rs P).health.health p) ≡ true
    → stuck_closed (P.health.health p) ≡ true
unfolding after_words any_of
words_none [] P p e c = c
words_none (r ∷ rs) P p e c =
    let t = or_none (is_stuck_closed r.word) (any_of (λ q. is_stuck_closed q.word) rs) e in
    word_none r P p t.0 (words_none rs (after_word r P) p t.1 c)

-- a moment that is not excepted: no word has stuck a breaker closed, or the first phase is done
data Unless (rs : List Report) (rest : List Operation) : Type 0 where
  no_word_3 : any_of (λ r. is_stuck_closed r.word) rs ≡ false → Unless rs rest
  all_opened : is_empty rest ≡ true → Unless rs rest

unless : (rs : List Report) (rest : List Operation) → excepted rs rest ≡ false → Unless rs rest
unfolding excepted
unless rs rest e = go (dec (any_of (λ r. is_stuck_closed r.word) rs)) (dec (is_empty rest))
  where
    go : (any_of (λ r. is_stuck_closed r.word) rs ≡ true) ⊎ (any_of (λ r. is_stuck_closed r.word) rs ≡ false)
        → (is_empty rest ≡ true) ⊎ (is_empty rest ≡ false)
        → Unless rs rest
    go (inr p) q = no_word_3 p
    go (inl p) (inl q) = all_opened q
    go (inl p) (inr q) = contra (rw (p, q)) e

empty_is : {A : Type 0} (l : List A) → is_empty l ≡ true → l ≡ []
empty_is [] e = refl
empty_is (x ∷ xs) e = contra e refl

-- the plant P₀ before a call, with no more than its plan's commands; P after the call's words
module _ (n : ℕ) (P₀ : PlantState) (rs : List Report) (stands : Fewer n P₀.last (commands n P₀.health)) where
  abbrev P : PlantState
  P = after_words rs P₀

  abbrev N : PartCommands
  N = commands n P.health

  -- some operations of the first phase are performed
  in_first_single : (done rest : List Operation) → Permᴰ (done ++ rest) (map (operation false) (opening n P.last N))
      → Unless rs rest
      → (b : ℕ) → b < n → Single n (perform_all done P).health (perform_all done P).last b
  in_first_single done rest d (no_word_3 e) b hb =
      rw (perform_health done P)
      (opening_single n P₀.health P.health (perform_all done P).last none_closed
      (λ p i c. stands p i (rw words_last at (first_fewer n P P.health done (some_of_prefix false (opening n P.last N) done rest d) p i c)))
      b hb)
    where
      none_closed : NoneStuckClosed n P₀.health P.health
      none_closed = record {
        breaker = λ g hg c. words_none rs P₀ (generator_breaker g) e c;
        line = λ i hi c. words_none rs P₀ (bus_breaker i) e c;
      }
  in_first_single done rest d (all_opened e) b hb =
      rw (perform_health done P)
      (closing_single n P.health (perform_all done P).last (first_done n P P.health done (rw (empty_is rest e, append-nil) at d)) b hb)

  -- all of the first, and some of the second
  in_second_single : (xs done rest : List Operation) → Permᴰ xs (map (operation false) (opening n P.last N))
      → Permᴰ (done ++ rest) (map (operation true) (closing n P.last (plan n P.health)))
      → (b : ℕ) → b < n → Single n (perform_all done (perform_all xs P)).health (perform_all done (perform_all xs P)).last b
  in_second_single xs done rest dx dy b hb =
      rw (perform_health done (perform_all xs P) ∙ perform_health xs P)
      (closing_single n P.health (perform_all done (perform_all xs P)).last
      (second_fewer n P P.health (perform_all xs P) done (first_done n P P.health xs dx)
      (some_of_prefix true (closing n P.last (plan n P.health)) done rest dy)) b hb)

  moment_single : {rest : List Operation} {Q : PlantState} → Moment (phases_of n P) P rest Q → Unless rs rest → (b : ℕ) → b < n
      → Single n Q.health Q.last b
  unfolding phases_of
  moment_single (in_first done {rest = rest} d) u b hb = in_first_single done rest (any_order d) u b hb
  moment_single (in_second xs done rest dx dy) u b hb = in_second_single xs done rest (any_order dx) (any_order dy) b hb

-- ---- demand 3

module _ (n : ℕ) (buffer : List ℕ) (begun : is_served (state_start n buffer) ≡ true) where
  big : smallest ≤ n
  big = (start_fine n buffer begun).big

  small : n ≤ largest
  small = (start_fine n buffer begun).small

  pub start_replied : Replied n fresh_plant (state_start n buffer)
  unfolding unloaded
  start_replied = rw (start_served n buffer begun) (served_replied (unloaded (blank_ring n)) small (start_ready n small) buffer)

  stands : {calls : Calls} {W : World} → Ended controller n buffer calls W → Stands n W
  stands h = ended_stands big small h

  steady : {calls : Calls} {W : World} → Ended controller n buffer calls W → Steady n W
  steady h = (stands h).steady

  pub call_replied : {before : Calls} {W : World} (call : Call) → Ended controller n buffer before W
      → is_served (reply_to controller W.state call) ≡ true
      → Replied n (after_words (words call) W.plant) (reply_to controller W.state call)
  call_replied {W = W} call h e =
      rw (call_served W.state call e)
      (served_replied (told_state W.state (words call)) small (call_ready small (steady h) call) (lent call))

  ends : (calls : Calls) → (W : World) × Ended controller n buffer calls W
  ends nothing = (_, started begun start_replied.decoded (performed (sheet_order _) (sheet_order _)))
  ends (calls then call) = go (ends calls)
    where
      go : (W : World) × Ended controller n buffer calls W → (W : World) × Ended controller n buffer (calls then call) W
      go t = by (dec (is_served (reply_to controller t.0.state call)))
        where
          by : (is_served (reply_to controller t.0.state call) ≡ true) ⊎ (is_served (reply_to controller t.0.state call) ≡ false)
              → (W : World) × Ended controller n buffer (calls then call) W
          by (inl e) = (_, served call t.1 e (call_replied call t.1 e).decoded (performed (sheet_order _) (sheet_order _)))
          by (inr e) = (_, refused call t.1 e)
  ends (calls also call) = go (ends calls)
    where
      go : (W : World) × Ended controller n buffer calls W → (W : World) × Ended controller n buffer (calls also call) W
      go t = by (dec (is_booked (answer_to controller t.0.state call)))
        where
          by : (is_booked (answer_to controller t.0.state call) ≡ true) ⊎ (is_booked (answer_to controller t.0.state call) ≡ false)
              → (W : World) × Ended controller n buffer (calls also call) W
          by (inl e) = (_, booked call t.1 e)
          by (inr e) = (_, not_booked call t.1 e)

  -- what stands between calls is planned
  as_planned : {calls : Calls} {W : World} → Ended controller n buffer calls W → Fewer n W.plant.last (commands n W.plant.health)
  as_planned h p i c = sym ((steady h).planned p i) ∙ c

  -- a moment of a call that was told the words rs, in a plant P₀ that was as planned
  call_free : (P₀ : PlantState) {P : PlantState} (rs : List Report) (reply : StateReply) {ph : Phases} {rest : List Operation}
      → Fewer n P₀.last (commands n P₀.health)
      → Replied n (after_words rs P₀) reply → decode n reply.buffer ≡ some ph → Moment ph (after_words rs P₀) rest P
      → excepted rs rest ≡ false
      → (b : ℕ) → b < n → Single n P.health P.last b
  call_free P₀ rs reply {rest = rest} stands replied d m u b hb =
      moment_single n P₀ rs stands (rw (same_phases d replied.decoded) at m) (unless rs rest u) b hb

  pub call_answered : {before : Calls} {W : World} (call : Call) → Ended controller n buffer before W
      → Answered (Meets n W.plant call) W.state (lent call) (reply_to controller W.state call)
  call_answered call h = answering.call_answered small (steady h) (stands_good big small (stands h)) call

  in_call_free : (W : World) {before : Calls} {P : PlantState} (call : Call) {ph : Phases} {rest : List Operation}
      → Ended controller n buffer before W
      → is_served (reply_to controller W.state call) ≡ true → decode n (reply_to controller W.state call).buffer ≡ some ph
      → Moment ph (after_words (words call) W.plant) rest P → excepted (words call) rest ≡ false → (b : ℕ) → b < n
      → Single n P.health P.last b
  in_call_free W call h e d m u =
      call_free W.plant (words call) (reply_to controller W.state call) (as_planned h) (call_replied call h e) d m u

  clash_free : {calls : Calls} {P : PlantState} {t : Bool} → Interrupted controller n buffer calls P t → t ≡ false → (b : ℕ) → b < n
      → Single n P.health P.last b
  unfolding after_words
  clash_free (in_start e d m) u = call_free fresh_plant [] (state_start n buffer) (λ p i c. contra c refl) start_replied d m u
  clash_free (between {W = W} i h) u = closing_single n W.plant.health W.plant.last (as_planned h)
  clash_free (in_call {W = W} call i h e d m) u = in_call_free W call h e d m u

  holds : (calls : Calls) → Holds controller n buffer calls
  holds calls = record {
    ends = ends calls;
    shown = λ i h b hb. bus_shown small (steady h) b hb;
    given = λ i h. as_given (steady h);
    load_given = λ i h. load_given small (stands h);
    start_chosen = as_chosen start_replied;
    chosen = λ call i h e. as_chosen (call_replied call h e);
    no_clash = λ {P} m b g h hb. no_clash n P.health P.last b (clash_free m refl b hb) g h;
    answered = λ call i h. call_answered call h;
    booking_answered = λ call i h. booking_answered big small (stands h) call;
  }

pub demand3 : Demand3 controller
demand3 = record { start_answered = start_answered; holds = holds }
