-- `answers::reports_at` meets its contract: each call gives the report of its index.
use Rattle.std.proofs.Common.{rules}
use Rattle.model.specs.declared.Part.TheVariants.{Generator}
use Rattle.model.specs.declared.Word.TheVariants.{Fit}
use Rattle.cases.specs.Items.{list_made}
use Rattle.answers.proofs.reports_at.Goals as goal

pub returns : goal.returns
returns c s h =
    list_made _ _ _ (record { part = Generator 0; word = Fit }) s.reports h.full
    (λ i x q l k. search (rules, k.met, h.reports i l))
    _ c.from_fn.ensures.items
