-- Document 02, Note 8: the recipe at chosen rates, and 15 at the edges of what it lets by, each table in one go.
use Rattle.std.specs.Prelude.{◌≡◌, refl, Bool}
use mathlib.Core.List.{map, flat_map}
use Rattle.std.specs.Float.Ieee.{of_bits, to_bits, of_int, add, mul, div, lt, le}
use Rattle.model.specs.declared.Rate.{Rate}
use Rattle.model.specs.Lists.{below, keep, first, any_of, all_of}
use Rattle.model.specs.Values.{part_code, same_part}
use Rattle.model.specs.Plant.{parts, next, up, arc, connected}
use Rattle.model.specs.Priority.{others, sources, path_bus_breakers, path_breakers, path_parts, high_rises, paths_from, paths}
use Rattle.model.specs.Choosing.{on_paths, usable, counted_closed, isolated, permitted, choose, add_path, chosen, plan}
use Rattle.model.specs.Reports.{reported, places}
use Rattle.model.specs.CutSets.{can_fail, further_faults, with_faults, darkens, subsets, proper_subsets, minimal, of_size, sizes_below, cut_sets}
use Rattle.model.specs.Exposure.{rate_of, chance_of, set_product, product_sum, greater_of, largest_product, exposure_of, rate_outside}
use Rattle.theory.specs.Statements.Settled.{health_after}
use Rattle.theory.specs.Statements.Recipe.{Reckoned, by_kind, counted, reckonings, figures_of, edges}

pub recipe_reckoned : map figures_of reckonings ≡ map (λ (x : Reckoned). x.expected) reckonings
unfolding reckonings figures_of by_kind counted health_after below keep first any_of all_of part_code same_part parts next up arc connected
    others sources path_bus_breakers path_breakers path_parts high_rises paths_from paths flat_map
    on_paths usable counted_closed isolated permitted choose add_path chosen plan
    can_fail further_faults reported with_faults darkens subsets proper_subsets minimal of_size sizes_below cut_sets
    rate_of chance_of set_product product_sum greater_of largest_product exposure_of places
    of_bits to_bits of_int add mul div lt
recipe_reckoned = refl

pub edges_kept : map (λ (x : Rate × Bool). rate_outside x.0) edges ≡ map (λ (x : Rate × Bool). x.1) edges
unfolding edges rate_outside of_bits lt le
edges_kept = refl
