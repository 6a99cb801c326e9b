-- `answers::scan_at` meets its contract: the places and the count.
use mathlib.Core.Path.{sym}
use Rattle.answers.proofs.scan_at.Goals as goal

pub returns : goal.returns
returns c s h =
    let places = c.reports_at.ensures s h in
    let counted = sym h.count in
    λ i. record { reports = places i; count = counted i }
