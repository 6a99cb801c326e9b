-- The text of the minimal cut sets of every bus after a fault file's last report, as a list of bytes. A line feed ends every line.
use Rattle.std.specs.Prelude.{cond, List, [], ◌∷◌, ◌++◌, map, ℕ, suc, ◌+◌, ◌*◌, eqb, length}
use Rattle.model.specs.declared.Part.{Part}
use Rattle.model.specs.declared.Ring.{Ring}
use Rattle.model.specs.Lists.{below}
use Rattle.model.specs.Reports.{file_size, file_count, blank_ring, with_plan}
use Rattle.model.specs.Refusals.{file_refusal}
use Rattle.model.specs.Text.{ascii, decimal, spaced, joined, part_name, refused_text, run_ring}
use Rattle.model.specs.States.{unloaded}
use Rattle.model.specs.CutSets.{ring_cut_sets, cut_sets_refusal}

-- a set's line, as `G1 GB2 BB3`; a lone `-` is the empty set
unfoldable pub set_line : List Part → List ℕ
set_line [] = ascii "-\n"
set_line (p ∷ S) = spaced (map part_name (p ∷ S)) ++ ascii "\n"

-- a bus's line, as `B3 10`: its number, from 1, and how many sets it has
unfoldable pub count_line : ℕ → ℕ → List ℕ
count_line bus count = ascii "B" ++ (decimal bus ++ (ascii " " ++ (decimal count ++ ascii "\n")))

-- a bus's line, then a line a set
unfoldable pub cut_text : ℕ → List (List Part) → List ℕ
cut_text bus sets = count_line bus (length sets) ++ joined (map set_line sets)

-- room for the sheet of any bus: its count, and three bytes for each set of at most three of sixty parts
abbrev pub sheet_room : ℕ
sheet_room = 2 + 3 * 36051

-- room for the text of any bus: its line, as `B20 36051`, and a line a set, as `BB18 BB19 BB20`
abbrev pub text_room : ℕ
text_room = 10 + 15 * 36051

-- the text of a bus of a ring without bookings; none where its list is refused
unfoldable pub bus_cut_text : Ring → ℕ → List ℕ
bus_cut_text ring bus = cond (eqb (cut_sets_refusal (unloaded ring) bus sheet_room) 0) (cut_text bus (ring_cut_sets ring bus)) []

-- the ring after a file's last report; that of a refused start where the file is refused
unfoldable pub latest_ring : List ℕ → Ring
latest_ring f = cond (eqb (file_refusal f) 0) (with_plan (run_ring f (file_count f))) (blank_ring 0)

-- the printed cut sets of a fault file: every bus in turn, or the refusal as the printed run has it
unfoldable pub printed_cut_sets : List ℕ → List ℕ
printed_cut_sets f =
    cond (eqb (file_refusal f) 0) (joined (map (λ b. cut_text (suc b) (ring_cut_sets (latest_ring f) (suc b))) (below (file_size f))))
    (refused_text (file_refusal f))
