-- What code keeps from bus to bus, as the laws of `Progress` have it.
use Rattle.planner.specs.declared.progress.Progress.{Progress as Arrays}
use Rattle.planner.specs.Progress.{Progress, kept}

abbrev pub kept_in : Arrays → Progress
kept_in p = kept p.owners p.generators p.closed
