-- `sources::usable_generators` meets its contract. The loop's invariant: each place passed says whether its generator may feed.
use Rattle.model.specs.Laws.Tests.{auto}
use mathlib.Core.Path.{◌∙◌}
use mathlib.Core.Bool.{false}
use native.Mathlib.Nat.{le_antisymm}
use Rattle.model.specs.Reports.{health_of}
use Rattle.model.specs.Laws.Parts.{filled_none, filled_more, filled_all}
use Rattle.sources.specs.Sources.{may_feed}
use Rattle.sources.proofs.usable_generators.Goals as goal

pub loop-g-init : goal.loop-g-init
loop-g-init c = (filled_none false _, search auto)

pub loop-g-preserved : goal.loop-g-preserved
loop-g-preserved c = (rw (c.loop-g.invariant.0, c.may_feed.ensures) (filled_more false _ c.loop-g.g), search auto)

pub returns : goal.returns
unfolding may_feed health_of
returns c = rw (le_antisymm c.loop-g.invariant.1 c.loop-g-test.false) at c.loop-g.invariant.0 ∙ filled_all false _
