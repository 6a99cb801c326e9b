-- `cutsets::list` meets its contract: refused by 9, by 10, or as the inner call answers.
use mathlib.Core.Path.{◌≡◌, sym, ◌∙◌}
use mathlib.Core.Bool.{false}
use native.Mathlib.Omega.{arith}
use Rattle.model.specs.Refusals.{bus_outside}
use Rattle.model.specs.States.{bad_record}
use Rattle.model.specs.Laws.Refusals.{good_size, bus_inside}
use Rattle.model.specs.Laws.Bookings.{good_state}
use Rattle.cutsets.specs.Sheet.{bad, outside, answered, bus_index}
use Rattle.cutsets.proofs.list.Goals as goal
use Rattle.cutsets.proofs.list.Goals.{Else-bad_record, Else-bus_outside}

-- what a passed check says
good : (c : Else-bad_record) → bad_record c.args.state ≡ false
good c = sym c.bad_record.ensures ∙ c.if-bad_record.false

inside : (c : Else-bus_outside)
    → (bus_outside c.args.state.ring.n c.args.bus ≡ false)
inside c = sym c.bus_outside.ensures ∙ c.if-bus_outside.false

pub returns-then-bad_record : goal.returns-then-bad_record
returns-then-bad_record c =
    let w = bad _ c.args.bus c.args.buffer.now (sym c.bad_record.ensures ∙ c.if-bad_record.true) in
    rw (c.refused.ensures c.args.buffer.now) (record { answer = w.0; bytes = w.1.0; number = w.1.1 })

pub returns-then-bus_outside : goal.returns-then-bus_outside
returns-then-bus_outside c =
    let w =
    outside _ _ c.args.buffer.now (good (goal.at.returns-then-bus_outside c).Else-bad_record)
    (sym c.bus_outside.ensures ∙ c.if-bus_outside.true) in
    rw (c.refused-then-bus_outside.ensures c.args.buffer.now) (record { answer = w.0; bytes = w.1.0; number = w.1.1 })

pub overflow_sub-b : goal.overflow_sub-b
overflow_sub-b c = (bus_inside _ _ (inside (goal.at.overflow_sub-b c).Else-bus_outside)).0

pub listed-requires : goal.listed-requires
listed-requires c =
    let t = bus_inside _ _ (inside (goal.at.listed-requires c).Else-bus_outside) in
    (omega (arith, t.0, t.1), (good_size _ (good_state _ (good (goal.at.listed-requires c).Else-bad_record)).ring_good).1)

pub returns : goal.returns
returns c =
    let h = inside (goal.at.returns c).Else-bus_outside in
    let w =
    answered _ _ c.args.buffer.now _ _ _ (good (goal.at.returns c).Else-bad_record) h (bus_index _ (bus_inside _ _ h).0)
    (c.listed.ensures.answer, c.listed.ensures.bytes) in
    record { answer = w.0; bytes = w.1.0; number = w.1.1 }
