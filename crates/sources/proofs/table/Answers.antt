-- `sources::table` meets its contract: the one computed test of all entries, "shown in one go for all sizes".
use mathlib.Core.Path.{refl}
use mathlib.Core.List.{flat_map}
use Rattle.model.specs.Lists.{below, keep}
use Rattle.model.specs.Priority.{others, sources, source_row, source_page, pages_below, source_table}
use Rattle.sources.proofs.table.Goals as goal

pub returns : goal.returns
unfolding source_table pages_below source_page source_row sources others keep below flat_map
returns c = refl
