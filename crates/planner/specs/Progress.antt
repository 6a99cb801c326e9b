-- What is kept from bus to bus while they are served, and the laws that serving a bus keeps it.
-- Buses, generators and breakers are indices from 0; an owner is a generator's number, from 1, or 0.
use Rattle.std.specs.Prelude.{Option as Answer, Some, None}
use Rattle.std.specs.Prelude.{◌≡◌, Bool, ◌||◌, ◌⊎◌, ltb, eqb, set, replicate}
use Rattle.std.proofs.Math.Path.{refl, sym}
use Rattle.std.proofs.Common.{◌∙◌, ap, inl, inr, arith, add-one, lt-ltb, le-ltb, eqb-true, eq-eqb}
use Rattle.std.proofs.Math.Bool.{true, false, cond}
use mathlib.Core.List.{List, [], ◌∷◌}
use Rattle.std.proofs.Math.Option.{Option, none, some}
use Prim.Native.Nat.{ℕ, suc, ◌+◌, ◌≤◌, ◌<◌}
use Rattle.std.proofs.lemmas.List.{length-replicate, get_or-replicate}
use Rattle.model.specs.declared.Part.{Part}
use Rattle.model.specs.declared.Choice.{Choice}
use Rattle.model.specs.declared.Choice.TheVariants.{Dark}
use Rattle.model.specs.declared.BusChoice.{BusChoice}
use Rattle.model.specs.declared.Health.{Health}
use Rattle.model.specs.declared.Commands.{Commands}
use Rattle.model.specs.Lists.{first, any_of, ◌∈◌}
use Rattle.model.specs.Values.{same_part}
use Rattle.model.specs.Plant.{PartHealth, largest, generator, generator_breaker, bus_breaker}
use Rattle.model.specs.Priority.{Path, path_bus_breakers, path_parts, paths}
use Rattle.model.specs.Choosing.{on_paths, counted_closed, permitted, choose, add_path, chosen, plan, commands, choice_of, choices}
use Rattle.model.specs.Reports.{places, health_of, command_places}
use Rattle.model.specs.Laws.Tests.{iff, dec, dec_lt, below_other, below_last}
use Rattle.model.specs.Laws.Lists.{any_at, any_in, first_at, first_ext}
use Rattle.model.specs.Laws.Parts.{same_eq, same_refl, places_at, places_ext, places_set, set_places, is_places}
use Rattle.theory.specs.Theorems.Connected.{connected_ext}
use Rattle.theory.specs.Proofs.Paths.{
  Ends,
  path_at,
  source_on,
  breaker_on,
  line_on,
  generator_on,
  generator_breaker_on,
  bus_breaker_on,
  path_to,
  tried_at,
}
use Rattle.theory.specs.Proofs.Choosing.{safe_chosen, chosen_ends}
use Rattle.paths.specs.declared.Span.{Span}
use Rattle.paths.specs.declared.Path.{Path as Found}
use Rattle.sources.specs.Sources.{may_feed}
use Rattle.walks.specs.Arrays.{at, set_all, set_all_places, both}
use Rattle.walks.specs.Walk.{outward, outward_path, closed_by, reach, reach_at, reach_connected}
use Rattle.paths.specs.Search.{span_of, passes_by, path_found}
use Rattle.paths.specs.Owner.{owner, path_steps, passes, ends_in, owner_more, walk_choice}

-- the owner of each bus, and the commands that the paths chosen so far call for
pub record Progress : Type 0 where
  pub owners : List ℕ
  pub commands : Commands

-- the same in the arrays that code keeps: the owners, the generators, with which their breakers go, and the bus breakers
abbrev pub kept : List ℕ → List Bool → List Bool → Progress
kept o gs l = record { owners = o; commands = record { generators = gs; generator_breakers = gs; bus_breakers = l } }

-- after the first b buses
unfoldable pub served : ℕ → PartHealth → ℕ → Progress
served n H b =
    record {
      owners = places (λ v. cond (ltb v n) (owner n H (chosen n H b) v) 0);
      commands = command_places (on_paths n (chosen n H b));
    }

-- the health of each bus breaker
abbrev pub breakers_of : PartHealth → ℕ → ℕ
breakers_of H i = H.health (bus_breaker i)

-- the commands with a generator and its breaker on, and these bus breakers
abbrev pub commands_with : Progress → ℕ → List Bool → Commands
commands_with s g l =
    record {
      generators = set s.commands.generators g true;
      generator_breakers = set s.commands.generator_breakers g true;
      bus_breakers = l;
    }

-- the bus breakers of path w, outward
abbrev pub path_line : ℕ → Path → List ℕ
path_line n w = outward n w.rising w.source (path_steps n w)

-- the progress with path w taken, by the health of each bus breaker
unfoldable pub taken : ℕ → (ℕ → ℕ) → Progress → Path → Progress
taken n B s w =
    let l = set_all true (path_line n w) s.commands.bus_breakers in
    let g = suc w.source in
    record {
      owners =
          set_all g (reach n (closed_by B l) false w.bus n)
          (set_all g (reach n (closed_by B l) true w.bus n) s.owners);
      commands = commands_with s w.source l;
    }

-- the same from what code finds on the way: the path's generator's number, its span, the breakers and the owners
pub taken_by : (n : ℕ) (B : ℕ → ℕ) (o₀ : List ℕ) (gs l₀ : List Bool) (w : Path) (g : ℕ) (p : Span) (l : List Bool) (o o' : List ℕ)
    → g ≡ suc w.source → p ≡ span_of n w → l ≡ set_all true (outward n w.rising w.source p.steps) l₀
    → o ≡ set_all g (reach n (closed_by B l) true w.bus n) o₀
    → o' ≡ set_all g (reach n (closed_by B l) false w.bus n) o
    → kept o' (set gs w.source true) l ≡ taken n B (kept o₀ gs l₀) w
unfolding taken
taken_by n B o₀ gs l₀ w g p l o o' eg ep el eo eo' = rw (eo', eo, el, ep, eg)

-- the choices of the first b buses
unfoldable pub choices_to : ℕ → PartHealth → ℕ → List BusChoice
choices_to n H b = places (λ v. record { choice = cond (ltb v b) (choice_of n (plan n H v)) Dark })

-- ---- the parts of one path more

-- a part of one kind on the path, by a test of its index
on_more : (n : ℕ) (ws : List Path) (w : Path) (p : Part) (t : Bool) → (t ≡ true → p ∈ path_parts n w) → (p ∈ path_parts n w → t ≡ true)
    → cond t true (on_paths n ws p) ≡ on_paths n (w ∷ ws) p
unfolding on_paths any_of
on_more n ws w p t f g =
    either t (on_paths n ws p)
    ∙ ap (λ x. x || on_paths n ws p) (iff t (any_of (same_part p) (path_parts n w)) (λ e. any_in (same_part p) (f e) (same_refl p))
    (λ e. g (member e)))
  where
    either : (a c : Bool) → cond a true c ≡ a || c
    either true c = refl
    either false c = refl

    member : any_of (same_part p) (path_parts n w) ≡ true → p ∈ path_parts n w
    member e = let s = any_at (same_part p) (path_parts n w) e in rw (same_eq p s.0 s.2) s.1

-- parts of one kind that go with the path's generator
module _ (n : ℕ) (ws : List Path) (w : Path) (part : ℕ → Part) (on : part w.source ∈ path_parts n w)
    (only : (v : ℕ) → part v ∈ path_parts n w → v ≡ w.source) where
  source_set : set (places (λ v. on_paths n ws (part v))) w.source true ≡ places (λ v. on_paths n (w ∷ ws) (part v))
  source_set =
      set_places (λ v. on_paths n ws (part v)) true w.source
      ∙ places_ext _ _ (λ v l. on_more n ws w (part v) (eqb v w.source) (λ e. rw (eqb-true v w.source e) on)
      (λ m. eq-eqb v w.source (only v m)))

bus_breaker_more : (n : ℕ) (ws : List Path) (w : Path) (v : ℕ) → Ends n w
    → cond (any_of (eqb v) (path_line n w)) true (on_paths n ws (bus_breaker v)) ≡ on_paths n (w ∷ ws) (bus_breaker v)
bus_breaker_more n ws w v h = on_more n ws w (bus_breaker v) (any_of (eqb v) (path_line n w)) to from
  where
    to : any_of (eqb v) (path_line n w) ≡ true → bus_breaker v ∈ path_parts n w
    to e =
        let t = any_at (eqb v) (path_bus_breakers n w) (rw (outward_path n w h) at e) in
        rw (eqb-true v t.0 t.2) (line_on n w t.1)

    from : bus_breaker v ∈ path_parts n w → any_of (eqb v) (path_line n w) ≡ true
    from m =
        any_in (eqb v) (rw (outward_path n w h) (bus_breaker_on n w v m)) (eq-eqb v v refl)

-- ---- serving a bus

module _ (n : ℕ) (H : PartHealth) (b : ℕ) (hb : b < n) where
  chosen_next : (o : Option Path) → plan n H b ≡ o → chosen n H (b + 1) ≡ add_path o (chosen n H b)
  unfolding plan chosen
  chosen_next o e = rw (add-one b, e)

  -- the first path that passes by the owners is the plan's
  pub served_choice : (O : ℕ → ℕ) → ((v : ℕ) → v < n → O v ≡ owner n H (chosen n H b) v) → plan n H b ≡ first (passes n H O) (paths n b)
  unfolding plan
  served_choice O is = walk_choice n H (chosen n H b) O b hb (safe_chosen n H b (omega arith)) is

  -- no path
  pub served_dark : plan n H b ≡ none → served n H b ≡ served n H (b + 1)
  unfolding served add_path
  served_dark e = rw (chosen_next none e)

  -- path w
  module _ (w : Path) (hn : n ≤ largest) (e : plan n H b ≡ some w) where
    ends : Ends n w × (w.bus ≡ b)
    unfolding plan
    ends = chosen_ends n H (chosen n H b) b w hb e

    lines : set_all true (path_line n w) (served n H b).commands.bus_breakers ≡ places (λ i. on_paths n (w ∷ chosen n H b) (bus_breaker i))
    unfolding served command_places
    lines =
        set_all_places (λ i. on_paths n (chosen n H b) (bus_breaker i)) true (path_line n w)
        (λ i m. omega (arith, (path_at i ends.0 (rw (outward_path n w ends.0) at m)).0))
        ∙ places_ext _ _ (λ v l. bus_breaker_more n (chosen n H b) w v ends.0)

    commanded : (l : List Bool) → l ≡ places (λ i. on_paths n (w ∷ chosen n H b) (bus_breaker i))
        → commands_with (served n H b) w.source l ≡ command_places (on_paths n (w ∷ chosen n H b))
    unfolding served command_places
    commanded l e =
        rw (
          e,
          source_set n (chosen n H b) w generator (source_on n w) (generator_on n w),
          source_set n (chosen n H b) w generator_breaker (breaker_on n w) (generator_breaker_on n w),
        )

    -- where the walks from the path's bus go by the breakers l, which count the path
    module _ (l : List Bool) (is : l ≡ places (λ i. on_paths n (w ∷ chosen n H b) (bus_breaker i))) where
      abbrev counted : ℕ → Bool
      counted = closed_by (breakers_of H) l

      counted_is : (i : ℕ) → i < n → counted i ≡ counted_closed n H (w ∷ chosen n H b) i
      unfolding counted_closed
      counted_is i hi = rw (is, places_at (λ j. on_paths n (w ∷ chosen n H b) (bus_breaker j)) i false (omega arith))

      bus_lt : w.bus < n
      bus_lt = ends.0.bus

      not_reached : (r : Bool) (v : ℕ) → n ≤ v → any_of (eqb v) (reach n counted r w.bus n) ≡ false
      not_reached r v hv = go (dec (any_of (eqb v) (reach n counted r w.bus n)))
        where
          go : (any_of (eqb v) (reach n counted r w.bus n) ≡ true) ⊎ (any_of (eqb v) (reach n counted r w.bus n) ≡ false)
              → any_of (eqb v) (reach n counted r w.bus n) ≡ false
          go (inl q) =
              let t = any_at (eqb v) (reach n counted r w.bus n) q in
              absurd (omega (arith, eqb-true v t.0 t.2, (reach_at n counted r n w.bus t.0 bus_lt t.1).0))
          go (inr q) = q

      owns :
          let g = suc w.source in
          set_all g (reach n counted false w.bus n) (set_all g (reach n counted true w.bus n) (served n H b).owners)
          ≡ places (λ v. cond (ltb v n) (owner n H (w ∷ chosen n H b) v) 0)
      unfolding served choose plan
      owns =
          rw (
            set_all_places old g (reach n counted true w.bus n) (inside true),
            set_all_places (λ v. cond (rises v) g (old v)) g (reach n counted false w.bus n) (inside false),
          )
          (places_ext _ _ (λ v h. each v (dec_lt v n)))
        where
          g : ℕ
          g = suc w.source

          old : ℕ → ℕ
          old v = cond (ltb v n) (owner n H (chosen n H b) v) 0

          rises : ℕ → Bool
          rises v = any_of (eqb v) (reach n counted true w.bus n)

          inside : (r : Bool) (i : ℕ) → i ∈ reach n counted r w.bus n → i < largest
          inside r i m = omega (arith, (reach_at n counted r n w.bus i bus_lt m).0)

          each : (v : ℕ) → (v < n) ⊎ (n ≤ v)
              → cond (any_of (eqb v) (reach n counted false w.bus n)) g (cond (rises v) g (old v))
              ≡ cond (ltb v n) (owner n H (w ∷ chosen n H b) v) 0
          each v (inl hv) =
              rw (lt-ltb v n hv)
              (both g g (rises v) (any_of (eqb v) (reach n counted false w.bus n)) (owner n H (chosen n H b) v)
              ∙ rw (
                reach_connected n counted w.bus v bus_lt hv,
                connected_ext n counted (counted_closed n H (w ∷ chosen n H b)) w.bus v bus_lt hv counted_is,
              )
              (sym (owner_more (safe_chosen n H b (omega arith)) ends.0
              (first_at (permitted n H (chosen n H b)) (paths n b) w e).1 w.bus v (ends_in ends.0).1 hv)))
          each v (inr hv) = rw (not_reached true v hv, not_reached false v hv, le-ltb v n hv)

    pub served_path : taken n (breakers_of H) (served n H b) w ≡ served n H (b + 1)
    unfolding taken add_path served
    served_path =
        let l = set_all true (path_line n w) (served n H b).commands.bus_breakers in
        rw (chosen_next (some w) e, ← commanded l lines, ← owns l lines)

-- by the arrays of a search and its answer f
module _ (n : ℕ) (h : Health) (b : ℕ) (usable : List Bool) (s : Progress) (f : Answer Found) (hb : b < n) (hn : n ≤ largest)
    (may : usable ≡ places (may_feed (health_of h))) (is : s ≡ served n (health_of h) b)
    (finds : path_found b f ≡ first (passes_by n usable h.bus_breakers s.owners) (paths n b)) where
  found_plan : plan n (health_of h) b ≡ path_found b f
  unfolding served passes passes_by health_of
  found_plan =
      served_choice n (health_of h) b hb owners (λ v hv. places_at held v 0 (omega arith) ∙ rw (lt-ltb v n hv))
      ∙ first_ext (passes n (health_of h) owners)
      (passes_by n (places (may_feed (health_of h))) h.bus_breakers (served n (health_of h) b).owners) (paths n b)
      (λ w m. rw (places_at (may_feed (health_of h)) w.source false (omega (arith, (tried_at n b w hb m).0))))
      ∙ sym (rw (may, is) at finds)
    where
      held : ℕ → ℕ
      held v = cond (ltb v n) (owner n (health_of h) (chosen n (health_of h) b) v) 0

      owners : ℕ → ℕ
      owners = at (served n (health_of h) b).owners

  pub serve_dark : f ≡ None → (Dark ≡ choice_of n (plan n (health_of h) b)) × (s ≡ served n (health_of h) (b + 1))
  unfolding choice_of
  serve_dark e =
      let p = rw e at found_plan in
      (rw p, is ∙ served_dark n (health_of h) b hb p)

  module _ (v : Found) (e : f ≡ Some v) where
    pub serve_source : v.source < n
    unfolding plan
    serve_source = (chosen_ends n (health_of h) (chosen n (health_of h) b) b (path_to b v.source v.rising) hb (rw e at found_plan)).0.source

    pub serve_path : {t : Progress} {c : Choice} → t ≡ taken n (at h.bus_breakers) s (path_to b v.source v.rising) → c ≡ choice_of n (some (path_to b v.source v.rising))
        → (c ≡ choice_of n (plan n (health_of h) b)) × (t ≡ served n (health_of h) (b + 1))
    unfolding health_of
    serve_path d q =
        let p = rw e at found_plan in
        (q ∙ sym (ap (choice_of n) p), rw (d, is) (served_path n (health_of h) b hb (path_to b v.source v.rising) hn p))

-- ---- before the first bus and after the last

blank : {A : Type 0} (f : ℕ → A) (d : A) → ((v : ℕ) → v < largest → f v ≡ d) → replicate largest d ≡ places f
blank f d h = is_places f (replicate largest d) d (length-replicate largest d) (λ v l. get_or-replicate largest v d d l ∙ sym (h v l))

same : {A : Type 0} (t : Bool) (x : A) → cond t x x ≡ x
same true x = refl
same false x = refl

module _ (n : ℕ) (H : PartHealth) where
  -- no bus is served: the arrays that code begins with
  pub served_none : kept (replicate largest 0) (replicate largest false) (replicate largest false) ≡ served n H 0
  unfolding served chosen owner on_paths first any_of command_places
  served_none =
      rw (blank (λ v. cond (ltb v n) (owner n H [] v) 0) 0 (λ v l. same (ltb v n) 0), blank (λ p. false) false (λ v l. refl))

  pub choices_none : replicate largest (record { choice = Dark }) ≡ choices_to n H 0
  unfolding choices_to
  choices_none = blank _ _ (λ v l. rw (le-ltb v 0 (omega arith)))

  pub choices_more : (b : ℕ) → set (choices_to n H b) b (record { choice = choice_of n (plan n H b) }) ≡ choices_to n H (b + 1)
  unfolding choices_to
  choices_more b =
      rw (below_last (choice_of n (plan n H b)) Dark b)
      at (places_set (chosen_to b) (chosen_to (b + 1)) b (λ v ne. rw (below_other (choice_of n (plan n H v)) Dark v b ne)))
    where
      chosen_to : ℕ → ℕ → BusChoice
      chosen_to k v = record { choice = cond (ltb v k) (choice_of n (plan n H v)) Dark }

  pub choices_all : choices_to n H n ≡ choices n H
  unfolding choices_to choices places
  choices_all = refl

  pub commands_all : (served n H n).commands ≡ command_places (commands n H)
  unfolding served commands
  commands_all = refl
