-- `append_set`: the parts before the first unused byte follow one another.
use native.Mathlib.Omega.{arith}
use Rattle.model.specs.Text.{ascii}
use Rattle.model.specs.Laws.Tests.{facts}
use Rattle.model.specs.Laws.Appended.{appended_more}
use Rattle.cutlines.specs.Sets.{line_none, line_one, line_two, line_three, name_before_end}
use Rattle.cutlines.proofs.append_set.Goals as goal

pub returns-then-a-eq255 : goal.returns-then-a-eq255
unfolding ascii
returns-then-a-eq255 c =
    rw (line_none c.args.a c.args.b c.args.c (omega (arith, facts))) c.append.ensures

pub returns-then-b-eq255 : goal.returns-then-b-eq255
returns-then-b-eq255 c =
    rw (line_one c.args.a c.args.b c.args.c (λ e. omega (arith, facts)) (omega (arith, facts))) c.append_before-second.ensures

pub append_before-third-requires : goal.append_before-third-requires
append_before-third-requires c =
    omega (arith, c.append_before-second, name_before_end _ _ c.append_before-second.ensures, c.requires)

pub returns-then-c-eq255 : goal.returns-then-c-eq255
returns-then-c-eq255 c =
    rw (line_two c.args.a c.args.b c.args.c (λ z. omega (arith, facts)) (λ z. omega (arith, facts)) (omega (arith, facts)))
    (appended_more c.append_before-second.ensures c.append_before-third.ensures)

pub append_before-requires : goal.append_before-requires
append_before-requires c =
    omega (
      arith,
      c.append_before-second,
      c.append_before-third,
      name_before_end _ _ c.append_before-second.ensures,
      name_before_end _ _ c.append_before-third.ensures,
      c.requires,
    )

pub returns : goal.returns
returns c =
    rw (line_three c.args.a c.args.b c.args.c (λ z. omega (arith, facts)) (λ z. omega (arith, facts)) (λ z. omega (arith, facts)))
    (appended_more (appended_more c.append_before-second.ensures c.append_before-third.ensures) c.append_before.ensures)
