-- The figures of a load compared with those made anew.
use Rattle.std.specs.Prelude.{◌≡◌, not, ◌||◌, ℕ, suc, ◌<◌, eqb, length, get_or, List}
use Rattle.std.proofs.Math.Path.{sym}
use Rattle.std.specs.Cmp.Lexicographic.{pointwise}
use Rattle.model.specs.declared.Load.{Load}
use Rattle.model.specs.declared.BusChoice.{BusChoice}
use Rattle.model.specs.Lists.{below}
use Rattle.model.specs.Plant.{largest}
use Rattle.model.specs.Bookings.{live_bookings, watts_of, with_figures, other_figures}
use Rattle.model.specs.Laws.Lists.{any_ext, below_lt}
use Rattle.model.specs.Laws.Parts.{places_at, places_length}
use Rattle.components.specs.Searches.{any_differs}

module _ (cs : List BusChoice) (l theirs : Load) (is : theirs ≡ with_figures cs l) where
  -- the watts made anew
  theirs_at : (g : ℕ) → g < largest → watts_of cs (live_bookings l) (suc g) ≡ get_or theirs.watts g 0
  unfolding with_figures
  theirs_at g h = rw is (sym (places_at (λ r. watts_of cs (live_bookings l) (suc r)) g 0 h))

  theirs_full : length theirs.watts ≡ largest
  unfolding with_figures
  theirs_full = rw is (places_length _)

  theirs_dark : theirs.dark_watts ≡ watts_of cs (live_bookings l) 0
  unfolding with_figures
  theirs_dark = rw is

  -- figures other than theirs, as the code compares them
  pub compared_whole : length l.watts ≡ largest
      → other_figures cs l ≡ not (pointwise eqb l.watts theirs.watts) || not (eqb l.dark_watts theirs.dark_watts)
  unfolding other_figures
  compared_whole full =
      rw (
        theirs_dark,
        ← any_differs eqb 0 l.watts theirs.watts largest full theirs_full,
        any_ext (λ g. not (eqb (get_or l.watts g 0) (watts_of cs (live_bookings l) (suc g))))
            (λ g. not (eqb (get_or l.watts g 0) (get_or theirs.watts g 0)))
            (below largest)
            (λ g m. rw (theirs_at g (below_lt largest g m))),
      )
