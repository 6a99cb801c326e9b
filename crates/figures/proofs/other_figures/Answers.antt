-- `figures::other_figures` meets its contract: one of the two comparisons tells them apart.
use Rattle.std.proofs.Common.{◌≡◌, ◌∙◌, sym, rules, not, ◌||◌, eqb}
use Rattle.model.specs.Bookings.{other_figures}
use Rattle.figures.specs.Comparing.{compared_whole}
use Rattle.figures.proofs.other_figures.Goals as goal
use Rattle.figures.proofs.other_figures.Goals.{After-ne}

both : (c : After-ne) → other_figures c.args.choices c.args.load ≡ c.ne.result || not (eqb c.args.load.dark_watts c.with_figures-theirs.result.dark_watts)
both c = rw c.ne.ensures (compared_whole c.args.choices c.args.load c.with_figures-theirs.result c.with_figures-theirs.ensures (search rules))

pub returns-then-ne : goal.returns-then-ne
returns-then-ne c = c.if-ne.true ∙ sym (both (goal.at.returns-then-ne c).After-ne ∙ rw c.if-ne.true)

pub returns-else-ne : goal.returns-else-ne
returns-else-ne c = sym (both (goal.at.returns-else-ne c).After-ne ∙ rw c.if-ne.false)
