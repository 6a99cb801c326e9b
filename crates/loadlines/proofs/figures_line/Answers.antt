-- `figures_line`: every generator's watts, then those on dark buses.
use Prim.Native.Nat.{◌≤◌}
use native.Mathlib.Omega.{arith}
use lib.ListN.{length}
use Rattle.model.specs.LoadText.{figures_line}
use Rattle.model.specs.Laws.Appended.{Appended, appended_all}
use Rattle.loadlines.specs.Figures.{line_parts}
use Rattle.loadlines.proofs.figures_line.Goals as goal
use Rattle.loadlines.proofs.figures_line.Goals.{After-append_dark}

-- the whole text, which fits
stored : (c : After-append_dark)
    → Appended (figures_line c.args.n c.args.load) c.args.out.now 0 c.append_dark.new.out
    c.append_dark.result
stored c = line_parts _ _ _ _ (omega arith) (omega arith) c.append_generators-dark.ensures.text c.append_dark.ensures.text

within : (c : After-append_dark) → c.append_dark.result ≤ length c.args.out.now
within c = omega (arith, c.append_generators-dark.ensures.within, c.append_dark.ensures.within, c.requires)

pub returns : goal.returns
returns c = let whole = appended_all (stored (goal.at.returns c).After-append_dark) (omega (arith, (stored (goal.at.returns c).After-append_dark).end, within (goal.at.returns c).After-append_dark)) in record { bytes = whole.0; end = whole.1 }
