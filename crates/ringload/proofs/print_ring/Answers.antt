-- Safe: the text of the refusal fits, and a ring that is started has at most 20 buses.
use Rattle.std.proofs.Common.{rules, sym, ◌∙◌, length-take-le, arith}
use Rattle.model.specs.Laws.Appended.{stored_fits}
use Rattle.model.specs.Laws.Refusals.{size_bounds}
use Rattle.ringload.proofs.print_ring.Goals as goal

pub slice_bounds-write_all-end : goal.slice_bounds-write_all-end
slice_bounds-write_all-end g c =
    let t = c.refused_text-length.ensures in
    stored_fits (record { bytes = t.bytes; sized = t.end })

pub slice_bounds-write_all-end-then-size_outside :
    goal.slice_bounds-write_all-end-then-size_outside
slice_bounds-write_all-end-then-size_outside g c =
    let t = c.refused_text-length.ensures in
    sym (length-take-le _ _ (stored_fits (record { bytes = t.bytes; sized = t.end })))

-- n is a ring's
pub print_answer-requires : goal.print_answer-requires
print_answer-requires g c =
    (omega (arith, (size_bounds _ (sym c.size_outside.ensures ∙ c.if-size_outside.false)).1), search rules)

pub print_calls-requires : goal.print_calls-requires
print_calls-requires g c =
    (omega (arith, (size_bounds _ (sym c.size_outside.ensures ∙ c.if-size_outside.false)).1), search rules)
