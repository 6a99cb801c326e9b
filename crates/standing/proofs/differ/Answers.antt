-- `standing::differ` meets its contract, kind by kind.
use Rattle.std.proofs.Common.{◌∙◌, rules, sym}
use Rattle.standing.specs.Standing.{differ_kinds}
use Rattle.standing.proofs.differ.Goals as goal

pub returns : goal.returns
returns c =
    c.ne.ensures
    ∙ sym (differ_kinds c.args.standing c.args.planned
    (record { generators = search rules; generator_breakers_lem = search rules; bus_breakers_lem = search rules })
    (record { generators = search rules; generator_breakers_lem = search rules; bus_breakers_lem = search rules }))
