-- `answers::same_choice` meets its contract: the letter and the source are those of the choice.
use borrow.Author.Tests.{eqb-true}
use Rattle.answers.proofs.same_choice.Goals as goal

pub returns-then-letter-eq45 : goal.returns-then-letter-eq45
returns-then-letter-eq45 c e = record { letter = cc; source = cc (eqb-true c.args.source 0 e) }

pub returns-else-letter-eq45 : goal.returns-else-letter-eq45
returns-else-letter-eq45 c e = absurd (c.if-letter-eq45.false (eqb-true _ _ e))

pub returns-then-letter-eq111 : goal.returns-then-letter-eq111
returns-then-letter-eq111 c e =
    record { letter = cc; source = cc (eqb-true c.in-Own.g c.args.source e) }

pub returns-else-letter-eq111 : goal.returns-else-letter-eq111
returns-else-letter-eq111 c e = absurd (c.if-letter-eq111.false (eqb-true _ _ e))

pub returns-then-letter-eq104 : goal.returns-then-letter-eq104
returns-then-letter-eq104 c e =
    record { letter = cc; source = cc (eqb-true c.in-High.g c.args.source e) }

pub returns-else-letter-eq104 : goal.returns-else-letter-eq104
returns-else-letter-eq104 c e = absurd (c.if-letter-eq104.false (eqb-true _ _ e))

pub returns-then-letter-eq108 : goal.returns-then-letter-eq108
returns-then-letter-eq108 c e =
    record { letter = cc; source = cc (eqb-true c.in-Low.g c.args.source e) }

pub returns-else-letter-eq108 : goal.returns-else-letter-eq108
returns-else-letter-eq108 c e = absurd (c.if-letter-eq108.false (eqb-true _ _ e))
