-- Document 02, Note 4: what holds of every closing phase; those of the table are the definitions', and so are the printed run of document 01
-- with Note 4's line 0, and that of a file of no bytes.
use Rattle.std.specs.Prelude.{◌≡◌, refl, ℕ, ◌≤◌}
use mathlib.Core.List.{[], map, flat_map}
use Rattle.model.specs.Lists.{below, keep, first, any_of, all_of}
use Rattle.model.specs.Values.{part_code, same_part}
use Rattle.model.specs.Plant.{PartHealth, PartCommands, largest, parts, next, up, arc, connected}
use Rattle.model.specs.Priority.{others, sources, path_bus_breakers, path_breakers, path_parts, high_rises, paths_from, paths}
use Rattle.model.specs.Choosing.{
  on_paths,
  usable,
  counted_closed,
  isolated,
  permitted,
  choose,
  add_path,
  chosen,
  plan,
  commands,
  choice_of,
  choices,
}
use Rattle.model.specs.Sheet.{opening, first_occurrences, parts_of, sequence, closing}
use Rattle.model.specs.Reports.{
  part_named,
  word_named,
  reported,
  places,
  health_of,
  commands_of,
  health_places,
  command_places,
  blank_ring,
  told,
  planned,
  with_plan,
}
use Rattle.model.specs.Refusals.{
  first_met,
  size_outside,
  not_of_ring,
  word_of_other_kind,
  report_conditions,
  report_of,
  report_answer,
  report_refusal,
  reports_refusal,
  file_refusal,
}
use Rattle.model.specs.Answers.{report_at}
use Rattle.model.specs.Text.{
  ascii,
  digits,
  decimal,
  spaced,
  kind_name,
  choice_text,
  bus_text,
  phase_text,
  line,
  transition_line,
  header,
  told_answer,
  run_ring,
  served_lines,
  run_lines,
  joined,
  printed_run,
}
use Rattle.theory.specs.Statements.Settled.{health_after}
use Rattle.theory.specs.Statements.Outward.{Outward, ClosingPhase, closing_phases, closes, example_file, example_run}
use Rattle.theory.specs.Statements.EmptyFile.{empty_run}
use Rattle.theory.proofs.Theorems.Closing.{closing_same, closing_once, sheet_fits}
use Rattle.theory.specs.Theorems.Advance.{advances}

-- every closing phase goes outward
pub outward : (n : ℕ) (H : PartHealth) (old : PartCommands) → n ≤ largest → Outward n H old
outward n H old small = record {
  same_parts = closing_same n H old small;
  once = closing_once n H old;
  fits = sheet_fits n H old small;
  advances = advances n H old;
}

-- the table
pub closing_phases_lem : map closes closing_phases ≡ map (λ (w : ClosingPhase). w.expected) closing_phases
unfolding closing_phases closes closing sequence parts_of first_occurrences commands health_after reported plan chosen add_path choose permitted
    isolated counted_closed usable on_paths paths paths_from high_rises path_parts path_breakers path_bus_breakers sources others flat_map connected
    arc up next same_part all_of any_of first keep below
closing_phases_lem = refl

-- "Input `3 1 0 65 2` prints, whole", with line 0 of Note 4; and what a file of no bytes prints
pub example_runs : (printed_run example_file ≡ ascii example_run) × (printed_run [] ≡ ascii empty_run)
unfolding example_file example_run empty_run printed_run joined run_lines served_lines run_ring told_answer header transition_line line phase_text bus_text
    choice_text kind_name spaced decimal digits ascii report_at file_refusal reports_refusal report_refusal report_answer report_of
    report_conditions word_of_other_kind not_of_ring size_outside first_met with_plan planned told blank_ring command_places health_places commands_of
    health_of places reported word_named part_named closing sequence parts_of first_occurrences opening choices choice_of commands plan chosen
    add_path choose permitted isolated counted_closed usable on_paths paths paths_from high_rises path_parts path_breakers path_bus_breakers sources
    others flat_map connected arc up next parts part_code same_part all_of any_of first keep below
example_runs = (refl, refl)
