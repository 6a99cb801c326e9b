-- `closing`: after b turns the codes of the first b buses' paths are gone through.
use native.Mathlib.Omega.{arith}
use borrow.Author.Rules.{rules}
use Rattle.model.specs.Sheet.{closing as closing_phase}
use Rattle.model.specs.Reports.{commands_of}
use Rattle.sequences.specs.Marks.{listed_none, listed_more}
use Rattle.sequences.specs.Outward.{named_paths, codes_none, codes_more, next_room, full, done, nothing_listed}
use Rattle.sequences.proofs.closing.Goals as goal
use Rattle.sequences.proofs.closing.Goals.{else-loop-b-test, then-loop-b-test+then-listing-count}

pub returns-then-count-eq0 : goal.returns-then-count-eq0
returns-then-count-eq0 c =
    nothing_listed (closing_phase c.args.n (commands_of c.args.old) (named_paths c.args.n c.args.choices)) _ _ c.requires.counted c.if-count-eq0.true

pub loop-b-init : goal.loop-b-init
loop-b-init c = (rw codes_none (listed_none _ _ _), omega arith)

pub list_bus-requires-clause-ring : goal.list_bus-requires-clause-ring
list_bus-requires-clause-ring c = (c.loop-b-test.true, c.requires.size, c.requires.named _ c.loop-b-test.true)

pub list_bus-requires-clause-room : goal.list_bus-requires-clause-room
list_bus-requires-clause-room c = next_room c.args.n c.requires.size (commands_of c.args.old) _ c.requires.named _ c.requires.counted c.requires.fits _
    c.commanded.ensures _ _ c.loop-b.invariant.1 _ _ _ c.loop-b.invariant.0 c.loop-b-test.true

pub loop-b-preserved : goal.loop-b-preserved
loop-b-preserved c =
    (rw codes_more (listed_more c.loop-b.invariant.0 c.list_bus.ensures), search rules)

pub returns : goal.returns
returns c =
    elim c.loop-b-test.branch [
      | else-loop-b-test w ↦ done c.args.n c.requires.size (commands_of c.args.old) _ c.requires.named _ c.requires.counted c.requires.fits _
          c.commanded.ensures _ _ c.loop-b.invariant.1 _ _ _ c.loop-b.invariant.0 (omega (arith, w.loop-b-test.false))
      | then-loop-b-test+then-listing-count w ↦ full c.args.n c.requires.size (commands_of c.args.old) _ c.requires.named _ c.requires.counted
          c.requires.fits _ c.commanded.ensures _ _ c.loop-b.invariant.1 _ _ _ c.loop-b.invariant.0 w.if-listing-count.true
    ]
