-- `listing::bus_text` meets its contract: the text of the sheet, or none where the list is refused.
use mathlib.Core.Path.{◌≡◌}
use native.Mathlib.Omega.{arith}
use Rattle.model.specs.States.{unloaded}
use Rattle.model.specs.CutSets.{cut_sets_reply}
use Rattle.listing.specs.Buses.{unloaded_reply, served_room, text_served, text_refused}
use Rattle.listing.proofs.bus_text.Goals as goal
use Rattle.listing.proofs.bus_text.Goals.{After-list-answer}

-- the list of a ring without bookings
listed : (c : After-list-answer)
    → ((c.list-answer.result ≡ (cut_sets_reply (unloaded c.args.ring) c.args.bus c.args.sheet.now).answer)
    × (c.list-answer.new.buffer ≡ (cut_sets_reply (unloaded c.args.ring) c.args.bus c.args.sheet.now).buffer))
listed c = unloaded_reply _ _ _ _ c.no_load-load.ensures c.list-answer.ensures.answer c.list-answer.ensures.bytes

pub text-requires : goal.text-requires
text-requires c =
    let t = served_room _ _ _ c.requires.sheet (listed (goal.at.text-requires c).After-list-answer).0 (listed (goal.at.text-requires c).After-list-answer).1 c.in-Ok.is in
    (t.0, t.1, omega (arith, t.2, c.list-answer.auto), omega (arith, t.3, c.requires.room))

pub returns-in-Ok : goal.returns-in-Ok
returns-in-Ok c =
    let t = text_served _ _ _ c.requires.sheet (listed (goal.at.returns-in-Ok c).After-list-answer).0 (listed (goal.at.returns-in-Ok c).After-list-answer).1 c.in-Ok.is c.requires.room
    c.text.ensures in
    record { bytes = t.0; end = t.1.0; within = t.1.1; sheet = (listed (goal.at.returns-in-Ok c).After-list-answer).1 }

pub returns-in-Err : goal.returns-in-Err
returns-in-Err c =
    let t = text_refused _ _ _ c.requires.sheet (listed (goal.at.returns-in-Err c).After-list-answer).0 (listed (goal.at.returns-in-Err c).After-list-answer).1 _ c.in-Err.is in
    record { bytes = t.0; end = t.1.0; within = t.1.1; sheet = (listed (goal.at.returns-in-Err c).After-list-answer).1 }
