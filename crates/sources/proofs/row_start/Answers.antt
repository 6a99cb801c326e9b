-- `sources::row_start` meets its contract: what it adds and multiplies is small, and the squares are those of the smaller rings.
use Rattle.model.specs.Laws.Tests.{auto}
use Prim.Native.Nat.{◌+◌, ◌≤◌}
use native.Mathlib.Omega.{arith}
use Rattle.sources.specs.Table.{row_start, squares_before, squares_small, row_inside}
use Rattle.sources.proofs.row_start.Goals as goal
use Rattle.sources.proofs.row_start.Goals.{Start}

-- the row ends within the table
inside : (c : Start) → row_start c.args.n c.args.b + c.args.n ≤ 2865
inside c = row_inside c.args.n c.args.b (search auto) (search auto) (search auto)

pub overflow_mul-squares : goal.overflow_mul-squares
overflow_mul-squares c = omega (arith, (squares_small c.args.n (search auto) (search auto)).0)

pub overflow_mul-squares-3 : goal.overflow_mul-squares-3
overflow_mul-squares-3 c = omega (arith, (squares_small c.args.n (search auto) (search auto)).1)

pub overflow_sub-result : goal.overflow_sub-result
overflow_sub-result c = omega (arith, squares_before c.args.n (search auto) (search auto))

pub overflow_mul-result : goal.overflow_mul-result
unfolding row_start
overflow_mul-result c = omega (arith, inside (goal.at.overflow_mul-result c).Start)

pub overflow_add-result : goal.overflow_add-result
unfolding row_start
overflow_add-result c = omega (arith, inside (goal.at.overflow_add-result c).Start, squares_before c.args.n (search auto) (search auto))

pub returns-clause-start : goal.returns-clause-start
unfolding row_start
returns-clause-start c =
    let q = squares_before c.args.n (search auto) (search auto) in omega (arith, q)

pub returns-clause-inside : goal.returns-clause-inside
unfolding row_start
returns-clause-inside c =
    let q = squares_before c.args.n (search auto) (search auto) in omega (arith, q, inside (goal.at.returns-clause-inside c).Start)
