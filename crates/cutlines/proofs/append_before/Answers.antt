-- `append_before`: the next code says which byte follows the name.
use native.Mathlib.Omega.{arith}
use Rattle.model.specs.Laws.Tests.{facts}
use Rattle.cutlines.specs.Sets.{before_unused, before_part}
use Rattle.cutlines.proofs.append_before.Goals as goal

pub returns-then-next-eq255 : goal.returns-then-next-eq255
returns-then-next-eq255 c =
    rw (before_unused c.args.code c.args.next (omega (arith, facts))) c.append_part.ensures

pub returns : goal.returns
returns c =
    rw (before_part c.args.code c.args.next (λ e. omega (arith, facts))) c.append_part-2.ensures
