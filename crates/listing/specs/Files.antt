-- The text of a whole file is that of its buses in turn: no list of a served file is refused.
use Rattle.std.specs.Prelude.{◌≡◌, false, List, map, ℕ, suc, ◌≤◌, ◌<◌, length}
use Rattle.std.proofs.Math.Path.{sym, ap}
use Rattle.std.proofs.Common.{◌∙◌, arith, le-ltb}
use Rattle.model.specs.declared.Ring.{Ring}
use Rattle.model.specs.Lists.{below}
use Rattle.model.specs.Reports.{file_size, file_count, health_of, with_plan}
use Rattle.model.specs.Refusals.{first_met, too_short, bad_ring, bus_outside, file_refusal}
use Rattle.model.specs.Text.{joined}
use Rattle.model.specs.States.{unloaded}
use Rattle.model.specs.CutSets.{cut_sheet, ring_cut_sets, cut_sets_refusal}
use Rattle.model.specs.CutText.{cut_text, sheet_room, bus_cut_text, latest_ring, printed_cut_sets}
use Rattle.model.specs.Laws.Lists.{below_lt, map_ext}
use Rattle.model.specs.Laws.Refusals.{good_size}
use Rattle.model.specs.Laws.Bookings.{unloaded_bad}
use Rattle.model.specs.Laws.CutSets.{cut_sheet_length}
use Rattle.cutsets.specs.Sizes.{cut_sets_few}
use Rattle.cursor.specs.Run.{ring_good}

-- a good ring and a bus of it: the list is not refused, and the text is the bus's
pub bus_text : (ring : Ring) (b : ℕ) → bad_ring ring ≡ false → b < ring.n
    → bus_cut_text ring (suc b) ≡ cut_text (suc b) (ring_cut_sets ring (suc b))
unfolding bus_cut_text cut_sets_refusal unloaded first_met bus_outside too_short ring_cut_sets
bus_text ring b good inside =
    let few = cut_sets_few ring.n (health_of ring.health) b (good_size ring good).1 in
    let fits : length (cut_sheet (ring_cut_sets ring (suc b))) ≤ sheet_room = omega (arith, cut_sheet_length (ring_cut_sets ring (suc b)), few) in
    rw (
      unloaded_bad ring,
      good,
      le-ltb (suc b) 1 (omega arith),
      le-ltb ring.n (suc b) inside,
      le-ltb sheet_room (length (cut_sheet (ring_cut_sets ring (suc b)))) fits,
    )

module _ (f : List ℕ) (served : file_refusal f ≡ 0) where
  -- the ring after the last report is good and has the file's size
  pub latest_good : ((latest_ring f).n ≡ file_size f) × (bad_ring (latest_ring f) ≡ false)
  unfolding latest_ring with_plan
  latest_good = rw served (ring_good f served (file_count f) (omega arith))

  -- its buses in turn
  pub printed_buses : printed_cut_sets f ≡ joined (map (λ b. bus_cut_text (latest_ring f) (suc b)) (below (latest_ring f).n))
  unfolding printed_cut_sets
  printed_buses =
      rw served
      (ap joined
      (map_ext (λ b. cut_text (suc b) (ring_cut_sets (latest_ring f) (suc b))) (λ b. bus_cut_text (latest_ring f) (suc b)) (below (file_size f))
      (λ b m. sym (bus_text (latest_ring f) b latest_good.1 (omega (arith, latest_good.0, below_lt (file_size f) b m))))))
      ∙ ap (λ k. joined (map (λ b. bus_cut_text (latest_ring f) (suc b)) (below k))) (sym latest_good.0)
