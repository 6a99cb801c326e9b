-- `answers::report_at` meets its contract.
use Rattle.answers.proofs.report_at.Goals as goal

pub returns : goal.returns
returns c x h =
    let part = c.part_of.ensures x.part h.part in
    let word = c.word_of.ensures x.word h.word in
    λ i. record { part = part i; word = word i }
