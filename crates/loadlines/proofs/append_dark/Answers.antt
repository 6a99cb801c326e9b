-- `append_dark`: the word and the watts, then a line feed.
use mathlib.Core.Path.{◌∙◌}
use native.Mathlib.Omega.{arith}
use lib.ListN.{length-set}
use Rattle.model.specs.Text.{ascii}
use Rattle.model.specs.Laws.Appended.{appended_one, appended_more}
use Rattle.loadlines.specs.Figures.{dark_is}
use Rattle.loadlines.proofs.append_dark.Goals as goal

pub shape_of-out : goal.shape_of-out
shape_of-out c = simp length-set (c.append_whole-end.auto.out ∙ c.append-figure.auto.out)

pub returns-clause-text : goal.returns-clause-text
unfolding ascii
returns-clause-text c = appended_one _ (dark_is _ _ (omega arith)) (omega arith) (appended_more c.append-figure.ensures c.append_whole-end.ensures.text)

pub returns-clause-within : goal.returns-clause-within
unfolding ascii
returns-clause-within c = omega (arith, c.append-figure.ensures.end, c.append_whole-end.ensures.within)
