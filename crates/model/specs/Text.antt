-- Document 01, "The printed run": the program's text as a list of bytes. A line feed ends every line.
use Rattle.std.specs.Prelude.{◌≡◌, cond, List, [], ◌∷◌, ◌++◌, map, ℕ, zero, suc, ◌+◌, ◌*◌, ◌/◌, ◌%◌, ◌<◌, ltb, eqb, length, drop, Option, None, Some, Result, Ok, Err}
use Prim.Native.String.{String, [] as end, ◌∷◌ as ◌then◌}
use Prim.Native.Char.{code}
use Rattle.model.specs.declared.Part.{Part}
use Rattle.model.specs.declared.Part.TheVariants.{Generator, GeneratorBreaker, BusBreaker}
use Rattle.model.specs.declared.Ring.{Ring}
use Rattle.model.specs.declared.Choice.{Choice}
use Rattle.model.specs.declared.BusChoice.{BusChoice}
use Rattle.model.specs.declared.Report.{Report}
use Rattle.model.specs.declared.Refusal.{Refusal}
use Rattle.model.specs.declared.RunCursor.{RunCursor}
use Rattle.model.specs.Lists.{below}
use Rattle.model.specs.Values.{number, choice_source, choice_letter, choice_at}
use Rattle.model.specs.Plant.{largest}
use Rattle.model.specs.Choosing.{plan, commands, choices}
use Rattle.model.specs.Sheet.{opening, closing}
use Rattle.model.specs.Reports.{file_size, file_count, file_codes, file_words, health_of, commands_of, blank_ring, told, with_plan}
use Rattle.model.specs.Refusals.{file_refusal}
use Rattle.model.specs.Answers.{report_at}

-- the bytes of a quoted text
unfoldable pub ascii : String → List ℕ
ascii end = []
ascii (c then s) = code c ∷ ascii s

-- "Numbers here are decimal.": with at most d digits
unfoldable pub digits : ℕ → ℕ → List ℕ
digits zero k = []
digits (suc d) k = let front = digits d (k / 10) in cond (ltb k 10) ((code "0" + k) ∷ []) (front ++ ((code "0" + k % 10) ∷ []))

-- "Numbers here are decimal."
unfoldable pub decimal : ℕ → List ℕ
decimal k = digits (suc k) k

-- texts with a space between each two
unfoldable pub spaced : List (List ℕ) → List ℕ
spaced [] = []
spaced (t ∷ []) = t
spaced (t ∷ u ∷ ts) = t ++ (code " " ∷ spaced (u ∷ ts))

-- a kind's name, as in `G1+ GB1+ BB2+`
unfoldable pub kind_name : Part → List ℕ
kind_name (Generator k) = ascii "G"
kind_name (GeneratorBreaker k) = ascii "GB"
kind_name (BusBreaker k) = ascii "BB"

-- a part's name: `G1`, `GB1`, `BB1`
abbrev pub part_name : Part → List ℕ
part_name p = kind_name p ++ decimal (number p)

-- "its source and way (`o` own, `h` high, `l` low; `-` alone when dark ..)"
unfoldable pub choice_text : Choice → List ℕ
choice_text c = cond (eqb (choice_source c) 0) (choice_letter c ∷ []) (ascii "G" ++ (decimal (choice_source c) ++ (choice_letter c ∷ [])))

-- "each bus with its source and way": bus b, as `B3=-`
unfoldable pub bus_text : List BusChoice → ℕ → List ℕ
bus_text cs b = ascii "B" ++ (decimal (suc b) ++ (ascii "=" ++ choice_text (choice_at cs b)))

-- "`+` is on or closed, a trailing `-` off or open, a lone `-` an empty wave."
unfoldable pub phase_text : String → List Part → List ℕ
phase_text sign [] = ascii "-"
phase_text sign (p ∷ ps) = spaced (map (λ q. part_name q ++ ascii sign) (p ∷ ps))

-- "a line per report: its number; each bus ..; the first wave; the second."
unfoldable pub line : ℕ → ℕ → List BusChoice → List Part → List Part → List ℕ
line i n cs xs ys =
    decimal i ++ (ascii " " ++ (spaced (map (bus_text cs) (below n))
    ++ (ascii " / " ++ (phase_text "-" xs ++ (ascii " / " ++ (phase_text "+" ys ++ ascii "\n"))))))

-- line i, of a ring that was told its reports
unfoldable pub transition_line : ℕ → Ring → List ℕ
transition_line i ring =
    let n = ring.n in
    let H = health_of ring.health in
    let old = commands_of ring.commands in
    line i n (choices n H) (opening n old (commands n H)) (closing n old (plan n H))

-- "a header"
unfoldable pub header : ℕ → ℕ → List ℕ
header n m = ascii "ring " ++ (decimal n ++ (ascii " reports " ++ (decimal m ++ ascii "\n")))

-- "For a refused file it prints only `refused` and the number"
unfoldable pub refused_text : ℕ → List ℕ
refused_text k = ascii "refused " ++ (decimal k ++ ascii "\n")

-- a ring that was told the report of an answer, if it is one
unfoldable pub told_answer : Ring → Result (Option Report) Refusal → Ring
told_answer ring (Ok (Some r)) = told ring r
told_answer ring (Ok None) = ring
told_answer ring (Err r) = ring

-- "line 0 for the start, and a line per report": the ring of line i, started and told the first i reports, the last one before its plan
unfoldable pub run_ring : List ℕ → ℕ → Ring
run_ring f zero = blank_ring (file_size f)
run_ring f (suc i) =
    let ring = run_ring f i in
    told_answer (with_plan ring) (report_at (file_size f) (file_codes f) (file_words f) i)

-- "Otherwise a header, line 0 for the start, and a line per report"
unfoldable pub served_lines : List ℕ → List (List ℕ)
served_lines f = header (file_size f) (file_count f) ∷ map (λ i. transition_line i (run_ring f i)) (below (suc (file_count f)))

-- "For a refused file it prints only `refused` and the number"
unfoldable pub refused_lines : ℕ → List (List ℕ)
refused_lines k = refused_text k ∷ []

-- the lines of a file's run
unfoldable pub run_lines : List ℕ → List (List ℕ)
run_lines f = cond (eqb (file_refusal f) 0) (served_lines f) (refused_lines (file_refusal f))

-- texts one after the other
unfoldable pub joined : List (List ℕ) → List ℕ
joined [] = []
joined (t ∷ ts) = t ++ joined ts

-- the printed run of a fault file
unfoldable pub printed_run : List ℕ → List ℕ
printed_run f = joined (run_lines f)

-- ---- the run in pieces

-- what is left of the run behind its first k lines: all of it behind none
unfoldable pub run_left : List ℕ → ℕ → List ℕ
run_left f k = joined (drop k (run_lines f))

-- the ring behind the first k lines: none before line 0, which is the second; then that after the plan of the line before
unfoldable pub ring_at : List ℕ → ℕ → Ring
ring_at f zero = blank_ring 0
ring_at f (suc zero) = blank_ring 0
ring_at f (suc (suc i)) = with_plan (run_ring f i)

-- the cursor behind the first k lines
unfoldable pub cursor_at : List ℕ → ℕ → RunCursor
cursor_at f k = record { place = k; ring = ring_at f k }

-- a cursor of the run of a file, of which something is left
pub record Within (f : List ℕ) (c : RunCursor) : Type 0 where
  pub cursor : c ≡ cursor_at f c.place
  pub more : c.place < length (run_lines f)

-- room for any line: 4 digits of its number; 9 bytes a bus, as ` B20=G20h`; two phases, 2 bytes each, and at least 2 if it is empty;
-- 6 bytes an operation, as ` BB20+`; a line feed
abbrev pub line_room : ℕ
line_room = 4 + 9 * largest + 2 * 4 + 6 * (3 * largest) + 1

-- no file that is served is longer: "m above 4096", "file length other than 3 + 2m"
abbrev pub longest_file : ℕ
longest_file = 3 + 2 * 4096

-- as much of a file as decides its run: a longer file is refused by its first 3 bytes or by 4, and one byte more tells that it is longer
abbrev pub read_size : ℕ
read_size = longest_file + 1
