-- `list_breakers`: whatever lists the rest of the way lists, with what is listed, the whole of it.
use Rattle.std.proofs.Common.{[], ◌∷◌, arith}
use Rattle.walks.specs.Walk.{outward_lt}
use Rattle.sequences.specs.Marks.{listed_none, listed_more, room_front, room_behind}
use Rattle.sequences.proofs.Listing.list_breakers.Goals as goal

pub loop-i-init : goal.loop-i-init
loop-i-init c =
    rw (c.into_iter-i-iterator.ensures.into_iter_gives, c.new-i-items.ensures.ahead) (λ t a. a, c.requires.room)

pub overflow_add-i : goal.overflow_add-i
overflow_add-i c =
    let s = c.loop-i.i-iterator in
    omega (arith, outward_lt s.n s.rising s.bus s.left c.loop-i.iterator.0.0 c.in-Some.ensures.steps, c.loop-i.iterator.0.1)

pub list_part-requires : goal.list_part-requires
list_part-requires c =
    let s = c.loop-i.i-iterator in
    let room = rw c.in-Some.ensures.steps at c.loop-i.invariant.1 in
    let l = outward_lt s.n s.rising s.bus s.left c.loop-i.iterator.0.0 c.in-Some.ensures.steps in
    record { named = omega (arith, l, c.loop-i.iterator.0.1); room = room_front _ _ (_ ∷ []) _ 60 room }

pub loop-i-preserved : goal.loop-i-preserved
loop-i-preserved c = (
  λ t rest. c.loop-i.invariant.0 t (rw c.in-Some.ensures.steps (listed_more c.list_part.ensures rest)),
  room_behind _ 60 c.list_part.ensures (rw c.in-Some.ensures.steps at c.loop-i.invariant.1),
)

pub returns : goal.returns
returns c = c.loop-i.invariant.0 _ (rw c.in-None.ensures.steps.0 (listed_none _ _ _))
