-- What a bus tries (document 01, "Ways and their ranks"). Buses and generators are indices from 0.
use Rattle.std.specs.Prelude.{◌≡◌, ◌↔◌, ℕ, suc, ◌*◌, ◌<◌, length}
use Rattle.model.specs.Lists.{◌∈◌, Distinct}
use Rattle.model.specs.Priority.{sources, paths}

-- what bus b tries: every generator once, and every path once, one from its own generator and two from each other
pub record Priorities (n b : ℕ) : Type 0 where
  pub every_source : (g : ℕ) → g ∈ sources n b ↔ (g < n)
  pub source_once : Distinct (sources n b)
  pub path_count : suc (length (paths n b)) ≡ 2 * n
  pub path_once : Distinct (paths n b)
