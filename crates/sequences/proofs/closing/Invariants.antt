-- `closing`: after b turns the codes of the first b buses' paths are gone through.
use Prim.Native.Nat.{◌≤◌}
use Rattle.sequences.specs.Listing.{ListedIn}
use Rattle.sequences.specs.Outward.{codes_to}
use Rattle.sequences.proofs.closing.Given as goal

abbrev pub invariant-loop-b : goal.invariant-loop-b
invariant-loop-b l = ListedIn (codes_to l.n l.choices l.b) l.initial.listing l.listing × (l.b ≤ l.n)
