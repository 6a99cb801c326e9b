-- `partsets::byte_of` meets its contract: the part's code, or 255.
use borrow.Author.Rules.{rules}
use mathlib.Core.Path.{◌∙◌}
use Rattle.partsets.specs.Sets.{byte_used, byte_unused}
use Rattle.partsets.proofs.byte_of.Goals as goal

pub code_at-requires : goal.code_at-requires
code_at-requires c = (c.requires.2.inside c.args.i c.if-i-set.true, c.requires.1)

pub returns-then-i-set : goal.returns-then-i-set
returns-then-i-set c =
    c.code_at.ensures
    ∙ byte_used c.args.n c.args.set (search rules) c.requires.2.few c.args.i c.requires.0 c.if-i-set.true

pub returns : goal.returns
returns c =
    byte_unused c.args.n c.args.set (search rules) c.requires.2.few c.args.i c.requires.0 c.if-i-set.false
