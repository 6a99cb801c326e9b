-- The settled positions of document 01 are the definitions': one theorem over their table.
use Rattle.std.specs.Prelude.{◌≡◌, refl}
use mathlib.Core.List.{map, flat_map}
use Rattle.model.specs.Lists.{below, keep, first, any_of, all_of}
use Rattle.model.specs.Values.{same_part}
use Rattle.model.specs.Plant.{next, up, arc, connected}
use Rattle.model.specs.Priority.{others, sources, path_bus_breakers, path_breakers, path_parts, high_rises, paths_from, paths}
use Rattle.model.specs.Choosing.{on_paths, usable, counted_closed, isolated, permitted, choose, add_path, chosen, plan, choice_of, choices}
use Rattle.model.specs.Reports.{reported}
use Rattle.theory.specs.Statements.Settled.{health_after, Position, starred, found}

-- document 01, "Settled positions", the starred dozen
pub settled : map found starred ≡ map (λ (p : Position). p.expected) starred
unfolding starred found health_after reported choices choice_of plan chosen add_path choose permitted isolated counted_closed usable on_paths
    paths
    paths_from high_rises path_parts path_breakers path_bus_breakers sources others flat_map connected arc up next same_part all_of any_of first keep below
settled = refl
