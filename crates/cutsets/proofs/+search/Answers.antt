-- `cutsets::search` meets its contract. The measure: parts left plus faults left.
use Rattle.std.specs.Prelude.{◌≡◌, ◌-◌, ◌<◌, length}
use native.Mathlib.Omega.{arith}
use borrow.Author.Rules.{rules}
use Rattle.model.specs.Reports.{health_of}
use Rattle.cutsets.specs.Search.{most_one, more_found, ends_none, ends_one, ends_parts, ends_hopeless, ends_passed, ends_both}
use Rattle.cutsets.specs.Search.{taken_on, passed_on, room_taken, room_passed, room_both}
use Rattle.cutsets.proofs.+search.Goals as goal

pub put-requires : goal.put-requires
put-requires t c =
    let g = c.requires.0 in
    (g.size, g.held, omega (arith, c.requires.1, most_one c.args.parts c.args.faults c.if-faults-eq0.true))

pub returns-then-is_minimal : goal.returns-then-is_minimal
returns-then-is_minimal t c =
    let a = c.args in
    ends_one a.n (health_of a.health) a.b a.set a.p a.parts a.faults a.buffer.now a.k
    c.if-faults-eq0.true c.is_minimal.ensures c.if-is_minimal.true c.put.ensures (omega arith) (omega arith)

pub returns-then-faults-eq0 : goal.returns-then-faults-eq0
returns-then-faults-eq0 t c =
    let a = c.args in
    ends_none a.n (health_of a.health) a.b a.set a.p a.parts a.faults a.buffer.now a.k
    c.if-faults-eq0.true c.is_minimal.ensures c.if-is_minimal.false

pub returns-then-parts-eq0 : goal.returns-then-parts-eq0
returns-then-parts-eq0 t c =
    let a = c.args in
    ends_parts a.n (health_of a.health) a.b a.set a.p a.parts a.faults a.buffer.now a.k
    c.if-faults-eq0.false c.if-parts-eq0.true c.requires.0.rest

pub returns-then-hopeless : goal.returns-then-hopeless
returns-then-hopeless t c =
    let a = c.args in
    ends_hopeless a.n (health_of a.health) a.b a.set a.p a.parts a.faults a.buffer.now a.k
    (c.hopeless.ensures c.if-hopeless.true)

pub search-taken-requires : goal.search-taken-requires
search-taken-requires t c =
    let a = c.args in
    let z = c.if-faults-eq0.false in
    let y = c.if-parts-eq0.false in
    let full : length a.set.places ≡ 3 = search rules in (
      omega (arith, c.decreases, z, y),
      (
        taken_on c.requires.0 _ full z y c.with_place-more.ensures (omega arith) (omega arith) (omega arith),
        room_taken a.parts a.faults a.k _ z y c.requires.1 (omega arith) (omega arith),
      ),
    )

pub search-requires : goal.search-requires
search-requires t c =
    let a = c.args in
    let z = c.if-faults-eq0.false in
    let y = c.if-parts-eq0.false in
    let g = c.requires.0 in
    let f = c.search-taken in (
      omega (arith, c.decreases, y),
      (
        passed_on g y (omega arith) (omega arith),
        omega (
          arith,
          f.auto.buffer,
          room_both a.parts a.faults a.k _ z y c.requires.1 {m' = a.parts - 1}
              (more_found (a.parts - 1) f.ensures (omega (arith, g.rest))) (omega arith) (omega arith),
        ),
      ),
    )

pub returns-then-matters : goal.returns-then-matters
returns-then-matters t c =
    let a = c.args in
    let z = c.if-faults-eq0.false in
    let full : length a.set.places ≡ 3 = search rules in
    let few : a.set.count < 3 = omega (arith, c.requires.0.spend, z) in
    ends_both a.n (health_of a.health) a.b a.set a.p a.parts a.faults a.buffer.now a.k
    full few z c.if-parts-eq0.false c.requires.0.rest (c.matters.ensures.fails c.if-matters.true) c.with_place-more.ensures
    c.search-taken.ensures c.search.ensures (omega arith) (omega arith) (omega arith) (omega arith)

pub search-requires-2 : goal.search-requires-2
search-requires-2 t c =
    let a = c.args in
    let y = c.if-parts-eq0.false in (
      omega (arith, c.decreases, y),
      (
        passed_on c.requires.0 y (omega arith) (omega arith),
        room_passed a.parts a.faults a.k _ c.if-faults-eq0.false y c.requires.1 (omega arith),
      ),
    )

pub returns : goal.returns
returns t c =
    let a = c.args in
    ends_passed a.n (health_of a.health) a.b a.set a.p a.parts a.faults a.buffer.now a.k c.requires.0.bus
    c.if-faults-eq0.false c.if-parts-eq0.false c.requires.0.rest (c.matters.ensures.idle c.if-matters.false)
    c.search-2.ensures (omega arith)
