-- `list_path`: its generator, its generator breaker and its bus breakers follow one another.
use mathlib.Core.List.{[], ◌∷◌}
use Prim.Native.Nat.{◌+◌, ◌≤◌}
use native.Mathlib.Omega.{arith}
use lib.ListN.{length}
use Rattle.walks.specs.Walk.{outward}
use Rattle.paths.specs.Search.{span_of}
use Rattle.theory.specs.Proofs.Paths.{path_to}
use Rattle.sequences.specs.Marks.{fresh, listed_more, room_front, room_behind}
use Rattle.sequences.specs.Outward.{breaker_codes, path_codes_lem}
use Rattle.sequences.proofs.Listing.list_path.Goals as goal
use Rattle.sequences.proofs.Listing.list_path.Goals.{Start}

-- there is room for the codes of the whole path
whole : (c : Start)
    → (let rest = breaker_codes (outward c.args.n c.args.path.rising c.args.path.source (span_of c.args.n (path_to c.args.b c.args.path.source c.args.path.rising)).steps) in
    c.args.self.now.end + length (fresh c.args.self.now.passed (c.args.path.source ∷ (32 + c.args.path.source) ∷ rest)) ≤ 60)
whole c = rw (path_codes_lem c.args.n c.args.b c.args.path.source c.args.path.rising c.requires.ring.0 c.requires.ring.1) at c.requires.room

pub list_part-requires-clause-named : goal.list_part-requires-clause-named
list_part-requires-clause-named c = omega (arith, c.requires)

pub list_part-requires-clause-room : goal.list_part-requires-clause-room
list_part-requires-clause-room c = room_front _ _ (_ ∷ []) _ 60 (whole (goal.at.list_part-requires-clause-room c).Start)

pub list_part-requires-2-clause-named : goal.list_part-requires-2-clause-named
list_part-requires-2-clause-named c = omega (arith, c.requires)

pub list_part-requires-2-clause-room : goal.list_part-requires-2-clause-room
list_part-requires-2-clause-room c = room_front _ _ (_ ∷ []) _ 60 (room_behind _ 60 c.list_part.ensures (whole (goal.at.list_part-requires-2-clause-room c).Start))

pub list_breakers-requires-clause-room : goal.list_breakers-requires-clause-room
list_breakers-requires-clause-room c = rw c.span_of-span.ensures (room_behind _ 60 c.list_part-2.ensures (room_behind _ 60 c.list_part.ensures (whole (goal.at.list_breakers-requires-clause-room c).Start)))

pub returns : goal.returns
returns c =
    rw (path_codes_lem c.args.n c.args.b c.args.path.source c.args.path.rising c.requires.ring.0 c.requires.ring.1)
    (listed_more c.list_part.ensures (listed_more c.list_part-2.ensures (rw c.span_of-span.ensures at c.list_breakers.ensures)))
