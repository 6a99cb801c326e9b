-- `sources::may_feed` meets its contract.
use Rattle.model.specs.Laws.Tests.{facts}
use native.Mathlib.Omega.{arith}
use Rattle.sources.specs.Sources.{fed_by, unfed_by}
use Rattle.sources.proofs.may_feed.Goals as goal

pub returns-then-fit_generator : goal.returns-then-fit_generator
returns-then-fit_generator c =
    fed_by c.args.generator c.args.locked c.args.breaker c.fit_generator.ensures c.if-fit_generator.true (λ e z. omega (arith, facts))
    (λ e z. omega (arith, facts))

pub returns : goal.returns
returns c = unfed_by c.args.generator c.args.locked c.args.breaker c.fit_generator.ensures c.if-fit_generator.false
