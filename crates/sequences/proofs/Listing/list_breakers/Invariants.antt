-- `list_breakers`: whatever lists the rest of the way lists, with what is listed, the whole of it.
use Rattle.sequences.specs.declared.Listing.{Listing}
use Rattle.walks.specs.Walk.{outward}
use Rattle.walks.specs.Breakers.{breakers_left}
use Rattle.sequences.specs.Listing.{ListedIn, HasRoom}
use Rattle.sequences.specs.Outward.{breaker_codes}
use Rattle.sequences.proofs.Listing.list_breakers.Given as goal

abbrev pub invariant-loop-i : goal.invariant-loop-i
invariant-loop-i l =
    ((t : Listing) → ListedIn (breaker_codes (breakers_left l.i-iterator)) l.self t
    → ListedIn (breaker_codes (outward l.n l.rising l.g l.steps)) l.initial.self t)
    × HasRoom (breaker_codes (breakers_left l.i-iterator)) l.self
