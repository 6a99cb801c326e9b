-- `records::bad_record` meets its contract: the five conditions of refusal 9 on a ring, in turn, then those on its load.
use mathlib.Core.Path.{◌≡◌, sym, ◌∙◌}
use mathlib.Core.Bool.{false}
use Rattle.model.specs.Plant.{largest, parts}
use Rattle.model.specs.Choosing.{commands}
use Rattle.model.specs.Reports.{health_of, commands_of, command_places, called_for}
use Rattle.model.specs.Refusals.{size_outside, health_outside, active_above, unplanned}
use Rattle.model.specs.Laws.Refusals.{size_bounds}
use Rattle.theory.specs.Proofs.Choosing.{choices_inside}
use Rattle.components.specs.Tests.{is_true, is_false, outcomes}
use Rattle.records.specs.Records.{differ_planned, bad_size, bad_health, bad_above, bad_lock, bad_commands, load_decides}
use Rattle.records.proofs.bad_record.Goals as goal
use Rattle.records.proofs.bad_record.Goals.{After-differ, After-plan-planned, Else-active_above, Else-health_outside, Else-size_outside}

-- what a passed check says
inside : (c : Else-size_outside) → size_outside c.args.state.ring.n ≡ false
inside c = sym c.size_outside.ensures ∙ c.if-size_outside.false

of_kind : (c : Else-health_outside)
    → health_outside (health_of c.args.state.ring.health) (parts largest) ≡ false
of_kind c = sym c.health_outside.ensures ∙ c.if-health_outside.false

quiet : (c : Else-active_above)
    → (active_above c.args.state.ring.n (health_of c.args.state.ring.health) (commands_of c.args.state.ring.commands) ≡ false)
quiet c = sym c.active_above.ensures ∙ c.if-active_above.false

-- the commands and the choices planned are those that the health and the locks call for
planned-commands : (c : After-differ)
    → (c.plan-planned.result.commands ≡ command_places (commands c.args.state.ring.n (health_of c.args.state.ring.health)))
planned-commands c = cc

planned-choices : (c : After-plan-planned)
    → c.plan-planned.result.choices
    ≡ called_for c.args.state.ring
planned-choices c = cc

-- the standing commands are compared with those planned
compared : (c : After-differ)
    → (c.differ.result ≡ unplanned c.args.state.ring.n (health_of c.args.state.ring.health) (commands_of c.args.state.ring.commands))
compared c = c.differ.ensures ∙ differ_planned _ _ _ _ (planned-commands c)

pub returns-then-size_outside : goal.returns-then-size_outside
returns-then-size_outside c = bad_size _ (sym c.size_outside.ensures ∙ c.if-size_outside.true)

pub returns-then-health_outside : goal.returns-then-health_outside
returns-then-health_outside c = bad_health _ (inside (goal.at.returns-then-health_outside c).Else-size_outside) (sym c.health_outside.ensures ∙ c.if-health_outside.true)

pub returns-then-active_above : goal.returns-then-active_above
returns-then-active_above c =
    bad_above _ (inside (goal.at.returns-then-active_above c).Else-size_outside) (of_kind (goal.at.returns-then-active_above c).Else-health_outside) (sym c.active_above.ensures ∙ c.if-active_above.true)

pub returns-then-locked_above : goal.returns-then-locked_above
returns-then-locked_above c =
    bad_lock _ (inside (goal.at.returns-then-locked_above c).Else-size_outside) (of_kind (goal.at.returns-then-locked_above c).Else-health_outside) (quiet (goal.at.returns-then-locked_above c).Else-active_above) (is_true _ (λ u. search outcomes))

pub plan-planned-requires : goal.plan-planned-requires
plan-planned-requires c = size_bounds _ (inside (goal.at.plan-planned-requires c).Else-size_outside)

pub returns-then-differ : goal.returns-then-differ
returns-then-differ c =
    bad_commands _ (inside (goal.at.returns-then-differ c).Else-size_outside) (of_kind (goal.at.returns-then-differ c).Else-health_outside) (quiet (goal.at.returns-then-differ c).Else-active_above) (is_false _ (λ e. search outcomes)) (sym (compared (goal.at.returns-then-differ c).After-differ) ∙ c.if-differ.true)

-- the choices are those of the ring
pub bad_load-requires : goal.bad_load-requires
bad_load-requires c =
    let small = (size_bounds _ (inside (goal.at.bad_load-requires c).Else-size_outside)).1 in
    (small, rw (planned-choices (goal.at.bad_load-requires c).After-plan-planned) (choices_inside _ _ small))

pub returns : goal.returns
returns c =
    load_decides _ (inside (goal.at.returns c).Else-size_outside) (of_kind (goal.at.returns c).Else-health_outside) (quiet (goal.at.returns c).Else-active_above) (is_false _ (λ e. search outcomes)) (sym (compared (goal.at.returns c).After-differ) ∙ c.if-differ.false)
    c.plan-planned.result.choices (planned-choices (goal.at.returns c).After-plan-planned) _ (search outcomes)
