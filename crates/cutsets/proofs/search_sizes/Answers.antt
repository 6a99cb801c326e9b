-- `cutsets::search_sizes` meets its contract. The loop's invariant: the sets of fewer parts are stored.
use mathlib.Core.Path.{◌≡◌, refl}
use Prim.Native.Nat.{◌<◌}
use native.Mathlib.Omega.{arith}
use Rattle.model.specs.Reports.{health_of}
use Rattle.cutsets.specs.Sizes.{listed_start, listed_more, listed_all, most_end, room_size, more_listed, searching_size}
use Rattle.cutsets.proofs.search_sizes.Goals as goal

pub loop-faults-init : goal.loop-faults-init
loop-faults-init c = (listed_start _ _ _ _, refl, omega arith, omega arith)

pub search-k-requires : goal.search-k-requires
search-k-requires c =
    let t : c.loop-faults.faults < 4 = omega (arith, c.loop-faults-test.true) in (
      searching_size c.args.n c.args.b _ c.loop-faults.faults c.requires.0 c.requires.1 t c.empty-none.ensures,
      room_size c.args.n c.loop-faults.faults c.loop-faults.k _ c.requires.1 t c.loop-faults.invariant.2 (omega (arith, c.requires.2, c.loop-faults.invariant.1)),
    )

pub loop-faults-preserved : goal.loop-faults-preserved
loop-faults-preserved c =
    let t : c.loop-faults.faults < 4 = omega (arith, c.loop-faults-test.true) in (
      listed_more c.args.n (health_of c.args.health) c.args.b _ c.loop-faults.faults c.loop-faults.k c.search-k.result _ _ _ c.empty-none.ensures
          c.loop-faults.invariant.0 c.search-k.ensures,
      omega (arith, c.search-k.auto, c.loop-faults.invariant.1),
      more_listed c.args.n (health_of c.args.health) c.args.b _ c.loop-faults.faults c.loop-faults.k c.search-k.result _ _ c.requires.1 t c.loop-faults.invariant.2
          c.search-k.ensures,
      omega arith,
    )

pub shape_of-buffer : goal.shape_of-buffer
shape_of-buffer c = c.loop-faults.invariant.1

pub returns-clause-stored : goal.returns-clause-stored
returns-clause-stored c =
    let e : c.loop-faults.faults ≡ 4 = omega (arith, c.loop-faults.invariant.3, c.loop-faults-test.false) in rw (listed_all c.args.n (health_of c.args.health) c.args.b) at (rw e at c.loop-faults.invariant.0)

pub returns-clause-few : goal.returns-clause-few
returns-clause-few c =
    let e : c.loop-faults.faults ≡ 4 = omega (arith, c.loop-faults.invariant.3, c.loop-faults-test.false) in most_end c.loop-faults.faults c.loop-faults.k e c.loop-faults.invariant.2
