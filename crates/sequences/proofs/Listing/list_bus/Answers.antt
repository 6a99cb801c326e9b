-- `list_bus`: the parts of the path that the bus's choice names, or none.
use Rattle.model.specs.Sheet.{parts_of}
use Rattle.sequences.specs.Marks.{listed_none}
use Rattle.sequences.specs.Outward.{named_ends}
use Rattle.sequences.proofs.Listing.list_bus.Goals as goal

pub list_path-requires-clause-room : goal.list_path-requires-clause-room
unfolding parts_of
list_path-requires-clause-room c =
    let is = rw c.in-Some.is at c.named.ensures in
    let l = (named_ends c.args.n c.args.b c.args.choice _ c.requires.ring.2 c.requires.ring.0 is).source in rw (← is) at c.requires.room

pub returns-in_default : goal.returns-in_default
unfolding parts_of
returns-in_default c =
    let is = rw c.in_default.is at c.named.ensures in
    rw (← is) (listed_none _ _ _)

pub returns-in-Some : goal.returns-in-Some
unfolding parts_of
returns-in-Some c =
    let is = rw c.in-Some.is at c.named.ensures in
    rw (← is) c.list_path.ensures
