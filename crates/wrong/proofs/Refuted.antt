-- No wrong controller meets the demands: of each, the claim that it fails and the calls that show it. Every claim of demands 2 and 3
-- has its wrong controller, those about bookings in the crate `wrong_bookings`.
use Rattle.std.specs.Prelude.{◌≡◌, refl, Bool, true, false, not, ◌&&◌, ℕ, take, replicate}
use mathlib.Core.List.Memᴰ
use mathlib.Core.List.Permᴰ
use mathlib.Core.List.{List, [], ◌∷◌, ◌++◌, flat_map}
use Rattle.std.proofs.Common.{arith}
use Rattle.model.specs.declared.Part.TheVariants.{Generator, GeneratorBreaker, BusBreaker}
use Rattle.model.specs.declared.Word.TheVariants.{StuckOff, Fit, StuckOpen, Lock, Unlock}
use Rattle.model.specs.declared.Report.{Report}
use Rattle.model.specs.declared.Scan.{Scan}
use Rattle.model.specs.declared.Refusal.TheVariants.{PartOutside}
use Rattle.model.specs.declared.Feed.TheVariants as feed
use Rattle.model.specs.Lists.{below, keep, first, any_of, all_of, ◌∈◌, sum}
use Rattle.model.specs.Values.{same_part, part_code, refusal_of}
use Rattle.model.specs.Plant.{parts, bus_feed, health_of_kind, next, up, arc, connected, feeds, feeders, feed_by}
use Rattle.model.specs.Priority.{sources, path_bus_breakers, path_parts, paths, others, path_breakers, high_rises, paths_from}
use Rattle.model.specs.Choosing.{
  on_paths,
  permitted,
  add_path,
  plan,
  commands,
  choice_of,
  choices,
  usable,
  counted_closed,
  isolated,
  choose,
  chosen,
}
use Rattle.model.specs.Sheet.{opening, first_occurrences, parts_of, sequence, closing, sheet_of, sheet, written}
use Rattle.model.specs.Reports.{
  reported,
  places,
  health_of,
  commands_of,
  command_places,
  blank_ring,
  planned,
  with_plan,
  told,
  part_named,
  health_places,
}
use Rattle.model.specs.Refusals.{
  first_met,
  size_outside,
  health_outside,
  active_above,
  locked_above,
  unplanned,
  bad_ring,
  count_above,
  too_short,
  next_sheet,
  report_conditions,
  sheet_refusal,
  start_refusal,
  step_refusal,
  not_of_ring,
  word_of_other_kind,
}
use Rattle.model.specs.Answers.{all_dark}
use Rattle.model.specs.Scans.{told_all, first_refusal, scan_refusal}
use Rattle.model.specs.Bookings.{with_figures, bad_load, no_load, total_watts, watts_of, live_twice, booking_outside, other_figures}
use Rattle.model.specs.States.{
  unloaded,
  told_state,
  reckoned,
  bad_record,
  state_refusal,
  served_state,
  state_start,
  state_step,
  state_scan,
  refused_state,
}
use Rattle.model.specs.Laws.Tests.{contra}
use Rattle.model.specs.Laws.Refusals.{served_refused}
use Rattle.demands.specs.Statements.Demand3.{
  PlantState,
  decode,
  step,
  scan,
  Calls,
  nothing,
  ◌then◌,
  whole,
  in_first,
  in_call,
  excepted,
  Interrupted,
  StartMeets,
  too_small,
  too_large,
  too_short_lem,
  Demand3,
  after_word,
  after_words,
  perform,
  perform_all,
  command_named,
  with_operation,
  operations,
  phases_at,
  word_refusal,
}
use Rattle.demands.specs.Statements.Demand2.{earlier, Demand2}
use Rattle.demands.specs.Statements.Locks.{NeverStarts}
use Rattle.demands.specs.Controller.{controller}
use Rattle.demands.proofs.Proofs.Answering.{full_room, call_number}
use Rattle.demands.proofs.Refuting.Claims as claim
use Rattle.demands.proofs.Refuting.Claims.{
  Claim3,
  fails3,
  fails2,
  extra_open,
  extra_close,
  has_operation,
  other_outcome,
  rises,
  digest,
  ring_sum,
  bookings_digest,
  load_digest,
  state_sum,
  choice_number,
  choices_sum,
  operation_number,
  operations_digest,
  is_dark,
  feed_number,
  is_clash,
  on_world,
  on_phases,
  due,
  refused_in_vain,
  not_refused,
  record_changed,
  buffer_changed,
  choices_lit,
  behind_changed,
  length_changed,
  dark_though_reached,
  lit_though_unreached,
  lit_by_another,
  dark_though_fed,
  other_health,
  other_lock,
  other_command,
  unfit_above,
  on_above,
  any_clash,
  other_choice,
  new_commands,
  other_first,
  other_second,
  clash_in_first,
  clash_in_second,
  start_of,
  first_reply,
  start_due,
  at_call,
  at_served,
  at_phases,
  at_start,
  at_end,
  at_last,
  at_either,
}
use Rattle.demands.proofs.Refuting.Facts.{report, generator1_off, breaker1_closed, breaker2_open, breaker2_fit}
use Rattle.demands.proofs.Refuting.Runs.{run_ended, ordered, both_phases, world_after, after_call, run}
use Rattle.designs.specs.Designs.{
  parts_by,
  design_commands,
  design_sheet,
  design_choices,
  design_reckoned,
  design_served,
  design_bad,
  design_start,
  design_step,
  design_scan,
  design_controller,
  right_order,
  right,
}
use Rattle.designs.specs.Spoilt.{
  start_spoilt,
  step_spoilt,
  scan_spoilt,
  when_refused,
  when_served,
  of_ring,
  with_state,
  with_ring,
  with_choices,
  with_buffer,
  start_refusing,
  start_serving,
  step_refusing,
  step_serving,
  scan_refusing,
  scan_serving,
  mended_ring,
  idle_ring,
}
use Rattle.designs.specs.Instances.{
  generator2_off,
  generator3_off,
  generator4_off,
  starting,
  calling,
  calls_of,
  handed,
  after,
  scan_of,
  counted_as,
  two_faults,
  scanning,
  halted,
  reversed,
}
use Rattle.designs.specs.Rows.{Row3, row, refuted3, Row2, row2, refuted2}
use Rattle.designs.proofs.Rows.{none_of_3, none_of_2}
use Rattle.wrong.specs.Designs.{
  chosen_by,
  trying,
  planning_for,
  writing,
  walking,
  ordering,
  all_buses_dark,
  gives_up,
  empty_phases,
  repeats_start,
  one_plan,
  miscounts,
  closings_first,
  one_wave,
  waves_exchanged,
  stuck_closed_open,
  breaker_behind,
  high_first,
  closes_by_code,
  closes_inward,
  lists_twice,
  lists_standing,
  buses_backwards,
  locks_unread,
}
use Rattle.wrong.specs.Controllers.{
  sheet_with,
  start_writes,
  joining,
  step_writes,
  first_byte,
  last_byte,
  one_more,
  larger_ring,
  fault_above,
  command_above,
  fit_choices,
  no_choices,
  refuses_twenty,
  refuses_starts,
  refuses_reports,
  serves_starts,
  serves_reports,
  scan_writes,
  scan_telling,
  scan_serving_by,
  last_of,
  backwards,
  before_last,
  good_front,
  takes_last_word,
  sends_last_sheet,
  takes_words_backwards,
  reads_past_count,
  serves_before_bad,
  serves_scans,
  refuses64,
  refuses_by_last,
  asks_first_step,
  return_of,
  refuses_returns,
  refuses_returns_in_scans,
  keeps_off,
  keeps_off_in_scans,
  passes_returned,
  leaves_orders,
  unlocked_ring,
  lock_above,
  is_lock,
  is_unlock,
  telling_instead,
  forgets_locks,
  locks_for_good,
  unlock_mends,
  replaced_unlocked,
  refuses_locks,
  passes_locks_in_scans,
}

-- ---- the calls that show it

-- G1 stuck open, a word that no generator has
abbrev generator1_open : Report
generator1_open = report (Generator 1) StuckOpen

-- G1 fit again, and G3
abbrev generator1_fit : Report
generator1_fit = report (Generator 1) Fit

abbrev generator3_fit : Report
generator3_fit = report (Generator 3) Fit

-- G2 fit again; BB1 stuck open
abbrev generator2_fit : Report
generator2_fit = report (Generator 2) Fit

abbrev breaker1_open : Report
breaker1_open = report (BusBreaker 1) StuckOpen

-- BB1 stuck off, a word that no breaker has
abbrev breaker1_off : Report
breaker1_off = report (BusBreaker 1) StuckOff

-- ---- demand 3: a wrong controller, the claim that it fails, and where

-- the designs of document 01's "Contract and proof" and "Classroom errors to shut out"
unfoldable pub wrong_designs : List Row3
wrong_designs =
    row (design_controller all_buses_dark) claim.dark_exactly (after [] generator1_off)
    ∷ row (design_controller gives_up) claim.dark_exactly (after [] generator1_off)
    ∷ row (design_controller empty_phases) claim.energized (after [] generator1_off)
    ∷ row (design_controller repeats_start) claim.energized (after (generator4_off ∷ []) generator1_off)
    ∷ row (design_controller one_plan) claim.choices_are (after [] breaker2_open)
    ∷ row (design_controller miscounts) claim.start_second (starting 3 full_room)
    ∷ row (design_controller one_wave) claim.clash_in_first_lem (halted 1 (after (breaker2_open ∷ []) breaker2_fit))
    ∷ row (design_controller waves_exchanged) claim.clash_in_first_lem (halted 1 (after (breaker2_open ∷ []) breaker2_fit))
    ∷ row (design_controller stuck_closed_open) claim.clash_between (after [] breaker1_closed)
    ∷ row (design_controller breaker_behind) claim.clash_in_start_second (halted 6 (starting 3 full_room))
    ∷ row (design_controller high_first) claim.start_chosen (starting 5 full_room)
    ∷ []

-- starts that are refused in vain, or not refused; what a refused start alters; what a served one does
unfoldable pub wrong_starts : List Row3
wrong_starts =
    row refuses_starts claim.start_only (starting 3 full_room)
    ∷ row serves_starts claim.start_always (starting 2 full_room)
    ∷ row serves_starts claim.start_always (starting 3 (replicate 11 0))
    ∷ row (start_refusing (with_ring (λ ring. blank_ring 3))) claim.start_record_kept (starting 2 full_room)
    ∷ row (start_refusing (with_buffer first_byte)) claim.start_buffer_kept (starting 2 full_room)
    ∷ row (start_refusing fit_choices) claim.start_choices_dark (starting 2 full_room)
    ∷ row (start_serving (with_buffer last_byte)) claim.start_behind_kept (starting 3 full_room)
    ∷ row (start_serving (with_buffer one_more)) claim.start_length_kept (starting 3 full_room)
    ∷ row (start_serving no_choices) claim.start_chosen (starting 3 full_room)
    ∷ row (start_writes 5 0 ((0, 1) ∷ (32, 1) ∷ (1, 1) ∷ (33, 1) ∷ (65, 1) ∷ [])) claim.start_first (starting 3 full_room)
    ∷ row (start_writes 0 5 ((65, 1) ∷ (32, 1) ∷ (1, 1) ∷ (33, 1) ∷ (0, 1) ∷ [])) claim.start_second (starting 3 full_room)
    ∷ row (start_writes 0 1 ((99, 1) ∷ [])) claim.ends (starting 3 full_room)
    ∷ row (start_writes 7 0 joining) claim.clash_in_start_first (halted 6 (starting 3 full_room))
    ∷ row (start_writes 0 7 joining) claim.clash_in_start_second (halted 6 (starting 3 full_room))
    ∷ []

-- steps that are refused in vain, or not refused; what a refused step alters, and a served one behind its sheet
unfoldable pub wrong_refusals : List Row3
wrong_refusals =
    row refuses_reports claim.only (after [] generator1_off)
    ∷ row serves_reports claim.always (after [] generator4_off)
    ∷ row serves_reports claim.always (after [] breaker1_off)
    ∷ row serves_reports claim.always (after [] generator1_open)
    ∷ row serves_reports claim.always (handed [] breaker2_open (replicate 5 0))
    ∷ row (step_refusing (with_ring idle_ring)) claim.record_kept (after [] generator4_off)
    ∷ row (step_refusing (with_buffer first_byte)) claim.buffer_kept (after [] generator4_off)
    ∷ row (step_refusing fit_choices) claim.choices_dark (after [] generator4_off)
    ∷ row (step_serving (with_buffer last_byte)) claim.behind_kept (after [] breaker2_open)
    ∷ row (step_serving (with_buffer one_more)) claim.length_kept (after [] breaker2_open)
    ∷ []

-- served steps: what they show, the record that they give, their phases
unfoldable pub wrong_steps : List Row3
wrong_steps =
    row (step_serving no_choices) claim.choices_are (after [] breaker2_open)
    ∷ row (step_writes 1 1 ((65, 0) ∷ (66, 2) ∷ [])) claim.decodes (after [] breaker2_open)
    ∷ row (step_writes 1 1 ((99, 0) ∷ (66, 1) ∷ [])) claim.decodes (after [] breaker2_open)
    ∷ row (step_serving (with_buffer (take 5))) claim.decodes (after [] breaker2_open)
    ∷ row (step_writes 0 1 ((99, 1) ∷ [])) claim.ends_after (after [] breaker2_open)
    ∷ row (step_writes 0 1 ((66, 1) ∷ [])) claim.first_is (after [] breaker2_open)
    ∷ row (step_writes 1 0 ((65, 0) ∷ [])) claim.second_is (after [] breaker2_open)
    ∷ row (step_serving no_choices) claim.dark_exactly (after [] breaker2_open)
    ∷ row (step_serving fit_choices) claim.lit_exactly (after (generator2_off ∷ generator1_off ∷ []) generator3_off)
    ∷ row (step_serving fit_choices) claim.energized (after [] generator1_off)
    ∷ row (step_serving no_choices) claim.de_energized (after [] breaker2_open)
    ∷ row (step_serving (with_ring larger_ring)) claim.size (after [] breaker2_open)
    ∷ row (step_serving (with_ring mended_ring)) claim.health (after [] breaker2_open)
    ∷ row (step_serving (with_ring idle_ring)) claim.standing (after [] breaker2_open)
    ∷ row (step_serving (with_ring fault_above)) claim.health_above (after [] breaker2_open)
    ∷ row (step_serving (with_ring command_above)) claim.commands_above (after [] breaker2_open)
    ∷ []

-- interruptions: inside the first phase alone, inside the second alone, when the orders have ended; and what another order of the
-- same operations does, at an interruption and in the end
unfoldable pub wrong_moments : List Row3
wrong_moments =
    row (step_writes 3 1 ((65, 0) ∷ (64, 1) ∷ (64, 0) ∷ (66, 1) ∷ [])) claim.clash_in_first_lem (halted 2 (after [] breaker2_open))
    ∷ row (step_writes 1 3 ((65, 0) ∷ (66, 1) ∷ (64, 1) ∷ (64, 0) ∷ [])) claim.clash_in_second_lem (halted 2 (after [] breaker2_open))
    ∷ row (step_writes 1 2 ((65, 0) ∷ (66, 1) ∷ (64, 1) ∷ [])) claim.clash_between (after [] breaker2_open)
    ∷ row (step_writes 2 2 ((32, 0) ∷ (64, 1) ∷ (64, 0) ∷ (32, 1) ∷ [])) claim.clash_in_first_lem (halted 1 (reversed (after [] breaker2_open)))
    ∷ row (step_writes 2 2 ((32, 0) ∷ (64, 1) ∷ (64, 0) ∷ (32, 1) ∷ [])) claim.clash_in_second_lem (halted 1 (reversed (after [] breaker2_open)))
    ∷ row (step_writes 2 1 ((65, 1) ∷ (65, 0) ∷ (66, 1) ∷ [])) claim.standing (reversed (after [] breaker2_open))
    ∷ row (step_writes 1 2 ((65, 0) ∷ (66, 0) ∷ (66, 1) ∷ [])) claim.standing (reversed (after [] breaker2_open))
    ∷ []

-- BB2 stuck open and fit again in one scan
abbrev returned : Scan
returned = scan_of (breaker2_open ∷ breaker2_fit ∷ [])

-- scans that are refused in vain, or not refused, or by another number; what a refused scan alters, and a served one behind its sheet
unfoldable pub wrong_scan_refusals : List Row3
wrong_scan_refusals =
    row serves_scans claim.always (scanning (counted_as 65 (scan_of [])))
    ∷ row serves_scans claim.always (scanning (scan_of (breaker2_open ∷ generator4_off ∷ [])))
    ∷ row serves_scans claim.always (scanning (scan_of (breaker2_open ∷ breaker1_off ∷ breaker2_fit ∷ [])))
    ∷ row serves_scans claim.always (calling nothing (scan (scan_of (breaker2_open ∷ [])) (replicate 5 0)))
    ∷ row serves_scans claim.always (calling nothing (scan (scan_of []) (replicate 1 0)))
    ∷ row serves_before_bad claim.always (scanning (scan_of (breaker2_open ∷ generator4_off ∷ [])))
    ∷ row refuses64 claim.only (scanning (scan_of (replicate 64 breaker2_open)))
    ∷ row refuses_by_last claim.always (scanning (scan_of (breaker1_off ∷ generator4_off ∷ [])))
    ∷ row refuses_by_last claim.only (scanning (scan_of (breaker1_off ∷ generator4_off ∷ [])))
    ∷ row asks_first_step claim.only (calling nothing (scan returned (replicate 2 0)))
    ∷ row (scan_refusing (with_ring idle_ring)) claim.record_kept (scanning (scan_of (generator4_off ∷ [])))
    ∷ row (scan_refusing (with_buffer first_byte)) claim.buffer_kept (scanning (scan_of (generator4_off ∷ [])))
    ∷ row (scan_refusing fit_choices) claim.choices_dark (scanning (scan_of (generator4_off ∷ [])))
    ∷ row (scan_serving (with_buffer last_byte)) claim.behind_kept (scanning two_faults)
    ∷ row (scan_serving (with_buffer one_more)) claim.length_kept (scanning two_faults)
    ∷ []

-- served scans: their words, their sheets, what stands after them, interruptions; before and after them steps and scans
unfoldable pub wrong_scans : List Row3
wrong_scans =
    row takes_last_word claim.choices_are (scanning (scan_of (generator1_off ∷ breaker2_open ∷ [])))
    ∷ row takes_last_word claim.health (scanning two_faults)
    ∷ row takes_last_word claim.health (calling (nothing then step generator1_off full_room then scan two_faults full_room) (step breaker2_fit (replicate 0 0)))
    ∷ row sends_last_sheet claim.second_is (scanning two_faults)
    ∷ row sends_last_sheet claim.standing (scanning two_faults)
    ∷ row sends_last_sheet claim.standing (calling (nothing then step generator1_off full_room then scan two_faults full_room) (scan (scan_of []) full_room))
    ∷ row takes_words_backwards claim.health (scanning returned)
    ∷ row reads_past_count claim.health (scanning (counted_as 1 (scan_of (breaker2_open ∷ breaker1_closed ∷ breaker1_closed ∷ []))))
    ∷ row (design_controller empty_phases) claim.energized (scanning (scan_of (generator1_off ∷ breaker2_open ∷ [])))
    ∷ row (design_controller one_plan) claim.choices_are (scanning (scan_of (breaker2_open ∷ breaker2_open ∷ [])))
    ∷ row (design_controller one_wave) claim.clash_in_first_lem (halted 1 (calling (nothing then scan (scan_of (breaker2_open ∷ [])) full_room) (scan (scan_of (breaker2_fit ∷ breaker2_fit ∷ [])) full_room)))
    ∷ row (scan_serving no_choices) claim.dark_exactly (scanning two_faults)
    ∷ row (scan_serving (with_ring idle_ring)) claim.only (calling (nothing then scan two_faults full_room) (step breaker2_fit full_room))
    ∷ row (scan_writes 3 1 ((65, 0) ∷ (64, 1) ∷ (64, 0) ∷ (66, 1) ∷ [])) claim.clash_in_first_lem (halted 2 (scanning (scan_of (breaker2_open ∷ []))))
    ∷ row (scan_writes 1 3 ((65, 0) ∷ (66, 1) ∷ (64, 1) ∷ (64, 0) ∷ [])) claim.clash_in_second_lem (halted 2 (scanning (scan_of (breaker2_open ∷ []))))
    ∷ row (scan_writes 0 1 ((99, 1) ∷ [])) claim.ends_after (scanning two_faults)
    ∷ []

-- generators that return: refused by 7, left off, passed over though first in priority, or started before the sheet does
unfoldable pub wrong_returns : List Row3
wrong_returns =
    row refuses_returns claim.only (after [] generator1_fit)
    ∷ row refuses_returns claim.only (after (generator1_off ∷ []) generator1_fit)
    ∷ row refuses_returns_in_scans claim.only (scanning (scan_of (generator1_off ∷ generator1_fit ∷ [])))
    ∷ row keeps_off claim.health (after (generator1_off ∷ []) generator1_fit)
    ∷ row keeps_off claim.dark_exactly (after (generator3_off ∷ generator2_off ∷ generator1_off ∷ []) generator3_fit)
    ∷ row keeps_off_in_scans claim.health (calling (nothing then step generator1_off full_room) (scan (scan_of (generator1_fit ∷ [])) full_room))
    ∷ row passes_returned claim.choices_are (after (generator1_off ∷ []) generator1_fit)
    ∷ row passes_returned claim.dark_exactly (after (generator3_off ∷ generator2_off ∷ generator1_off ∷ []) generator1_fit)
    ∷ row leaves_orders claim.clash_in_first_lem (halted 0 (after (generator1_off ∷ []) generator1_fit))
    ∷ []

-- all generators have failed, behind BB1 stuck open; the last first
abbrev all_failed : List Report
all_failed = generator3_off ∷ generator2_off ∷ generator1_off ∷ breaker1_open ∷ []

-- the closing phase in another order: G3 closes G3, GB3, BB3 for B1 and then BB2 for B2; past BB1 stuck open G2 closes BB2 and BB3 for B1
unfoldable pub wrong_orders : List Row3
wrong_orders =
    row (design_controller closes_by_code) claim.start_second (starting 3 full_room)
    ∷ row (design_controller closes_by_code) claim.second_is (after (generator3_off ∷ generator2_off ∷ generator1_off ∷ []) generator3_fit)
    ∷ row (design_controller closes_inward) claim.second_is (after all_failed generator2_fit)
    ∷ row (design_controller lists_twice) claim.second_is (after all_failed generator2_fit)
    ∷ row (design_controller lists_standing) claim.second_is (after [] breaker2_open)
    ∷ row (design_controller buses_backwards) claim.second_is (after (generator3_off ∷ generator2_off ∷ generator1_off ∷ []) generator3_fit)
    ∷ row (design_controller buses_backwards) claim.start_second (starting 3 full_room)
    ∷ row (design_controller closes_by_code) claim.second_is
    (calling (nothing then step generator1_off full_room then step generator2_off full_room then step generator3_off full_room)
    (scan (scan_of (generator3_fit ∷ [])) full_room))
    ∷ []

-- G2 locked, and unlocked; BB1 locked, a word that no breaker has
abbrev generator2_lock : Report
generator2_lock = report (Generator 2) Lock

abbrev generator2_unlock : Report
generator2_unlock = report (Generator 2) Unlock

abbrev breaker1_lock : Report
breaker1_lock = report (BusBreaker 1) Lock

-- locks: forgotten at the next report; that make the generator stuck off for good; read nowhere in choosing; an unlock that mends; a
-- replaced set that is unlocked; words 4 and 5 refused, or served for a breaker; a part above n that is locked
unfoldable pub wrong_locks : List Row3
wrong_locks =
    row forgets_locks claim.locked (after (generator2_lock ∷ []) breaker1_open)
    ∷ row forgets_locks claim.choices_are (after (generator2_lock ∷ []) breaker1_open)
    ∷ row locks_for_good claim.health (after [] generator2_lock)
    ∷ row locks_for_good claim.locked (after [] generator2_lock)
    ∷ row locks_for_good claim.choices_are (after (generator2_lock ∷ []) generator2_unlock)
    ∷ row (design_controller locks_unread) claim.choices_are (after [] generator2_lock)
    ∷ row (design_controller locks_unread) claim.energized (after [] generator2_lock)
    ∷ row unlock_mends claim.health (after (generator2_lock ∷ generator2_off ∷ []) generator2_unlock)
    ∷ row unlock_mends claim.choices_are (after (generator2_lock ∷ generator2_off ∷ []) generator2_unlock)
    ∷ row replaced_unlocked claim.locked (after (generator2_off ∷ generator2_lock ∷ []) generator2_fit)
    ∷ row replaced_unlocked claim.energized (after (generator2_off ∷ generator2_lock ∷ []) generator2_fit)
    ∷ row refuses_locks claim.only (after [] generator2_lock)
    ∷ row serves_reports claim.always (after [] breaker1_lock)
    ∷ row serves_reports claim.always (after [] (report (GeneratorBreaker 1) Unlock))
    ∷ row passes_locks_in_scans claim.locked (scanning (scan_of (generator2_lock ∷ [])))
    ∷ row passes_locks_in_scans claim.choices_are (scanning (scan_of (generator2_lock ∷ breaker2_open ∷ [])))
    ∷ row (step_serving (with_ring lock_above)) claim.locked_above_lem (after [] breaker2_open)
    ∷ row (step_refusing (with_ring unlocked_ring)) claim.record_kept (after (generator2_lock ∷ []) generator4_off)
    ∷ []

-- all of them
unfoldable pub wrongs3 : List Row3
wrongs3 =
    wrong_designs
    ++ (wrong_starts
    ++ (wrong_refusals ++ (wrong_steps ++ (wrong_moments ++ (wrong_scan_refusals ++ (wrong_scans ++ (wrong_returns ++ (wrong_orders ++ wrong_locks))))))))

-- ---- demand 2: likewise

-- those that document 01 holds against demand 2, and a wrong controller for every claim of it
unfoldable pub wrongs2 : List Row2
wrongs2 =
    row2 (design_controller all_buses_dark) claim.start_path (starting 3 full_room)
    ∷ row2 (design_controller gives_up) claim.start_path (starting 3 full_room)
    ∷ row2 (design_controller empty_phases) claim.all_close (after [] breaker2_open)
    ∷ row2 (design_controller repeats_start) claim.call_path (after [] generator1_off)
    ∷ row2 (design_controller one_plan) claim.call_path (after [] breaker2_open)
    ∷ row2 (design_controller miscounts) claim.closes (after [] breaker1_closed)
    ∷ row2 (design_controller high_first) claim.start_path (starting 5 full_room)
    ∷ row2 refuses_starts claim.start_answered (starting 3 full_room)
    ∷ row2 refuses_reports claim.call_answered (after [] generator1_off)
    ∷ row2 (step_writes 2 1 ((64, 0) ∷ (65, 0) ∷ (66, 1) ∷ [])) claim.opens (after [] breaker2_open)
    ∷ row2 (step_writes 0 1 ((66, 1) ∷ [])) claim.all_open (after [] breaker2_open)
    ∷ row2 (step_writes 1 2 ((65, 0) ∷ (64, 1) ∷ (66, 1) ∷ [])) claim.closes (after [] breaker2_open)
    ∷ row2 (step_writes 1 0 ((65, 0) ∷ [])) claim.all_close (after [] breaker2_open)
    ∷ row2 (step_writes 3 2 ((65, 0) ∷ (33, 0) ∷ (1, 0) ∷ (64, 1) ∷ (66, 1) ∷ [])) claim.opens_rising (after [] breaker1_closed)
    ∷ row2 (step_writes 3 2 ((1, 0) ∷ (33, 0) ∷ (65, 0) ∷ (66, 1) ∷ (64, 1) ∷ [])) claim.closes_outward (after [] breaker1_closed)
    ∷ row2 (step_writes 1 0 ((65, 0) ∷ [])) claim.brings_about (after [] breaker2_open)
    ∷ row2 (design_controller closes_by_code) claim.closes_outward (after (generator3_off ∷ generator2_off ∷ generator1_off ∷ []) generator3_fit)
    ∷ row2 (design_controller closes_inward) claim.closes_outward (after all_failed generator2_fit)
    ∷ row2 (design_controller lists_twice) claim.closes_outward (after all_failed generator2_fit)
    ∷ row2 (design_controller lists_standing) claim.closes_outward (after [] breaker2_open)
    ∷ row2 (design_controller buses_backwards) claim.closes_outward (after (generator3_off ∷ generator2_off ∷ generator1_off ∷ []) generator3_fit)
    ∷ row2 (design_controller locks_unread) claim.call_path (after [] generator2_lock)
    ∷ row2 forgets_locks claim.call_path (after (generator2_lock ∷ []) breaker1_open)
    ∷ row2 locks_for_good claim.call_path (after (generator2_lock ∷ []) generator2_unlock)
    ∷ []

-- ---- the order of operations

-- that controller, interrupted after k operations of either phase in the sheet's order
unfoldable pub clashes_nowhere : ℕ → Bool
clashes_nowhere k =
    let c = step_writes 2 2 ((32, 0) ∷ (64, 1) ∷ (64, 0) ∷ (32, 1) ∷ []) in
    let i = halted k (after [] breaker2_open) in
    not (fails3 c i claim.clash_in_first_lem) && not (fails3 c i claim.clash_in_second_lem)

-- ---- a generator that starts as it returns

-- the controller that lets orders stand, while G1 is off
unfoldable pub quiet_while_off : Claim3 → Bool
quiet_while_off k = not (fails3 leaves_orders (after [] generator1_off) k)

-- ---- a locked generator that starts

-- G3 locked and G1 failed: by the design that reads no locks G3 starts when G2 fails too
unfoldable pub service_visit : Calls
service_visit = calls_of (generator1_off ∷ report (Generator 3) Lock ∷ [])

-- ---- what is computed

-- every computed fact about these controllers
record Computed : Type 0 where
  refuted_3 : all_of refuted3 wrongs3 ≡ true
  refuted_2 : all_of refuted2 wrongs2 ≡ true
  -- the order of the operations is what is wrong with the fourth and fifth controller of `wrong_moments`: in the sheet's own order
  -- they clash nowhere
  in_sheet_order : all_of clashes_nowhere (0 ∷ 1 ∷ 2 ∷ []) ≡ true
  -- the clash of the last row of `wrong_returns` comes with the return: while G1 is off nothing clashes, and every bus is fed as shown
  quiet_while_off_lem : all_of quiet_while_off
      (claim.clash_in_first_lem ∷ claim.clash_in_second_lem ∷ claim.clash_between ∷ claim.energized ∷ claim.de_energized ∷ []) ≡ true
  -- the exception is needed, n = 3 after the start, BB1 stuck closed: before the first operation, at an excepted moment, B1 is fed
  -- by two generators
  exception_needed : (P : PlantState)
      × Interrupted controller 3 full_room (nothing then step breaker1_closed full_room) P true
      × (bus_feed 3 P.health P.last 0 ≡ feed.Clash 1 2)
  -- .. and so it is in a scan
  exception_needed_in_scan : (P : PlantState)
      × Interrupted controller 3 full_room (nothing then scan two_faults full_room) P true
      × (bus_feed 3 P.health P.last 0 ≡ feed.Clash 1 2)
  -- "A generator under maintenance must never start.": it starts, by an order of the second wave; and it stands on
  started_though_locked :
      NeverStarts (design_controller locks_unread) 3 full_room (service_visit then step generator2_off full_room) → ⊥
  stands_though_locked : NeverStarts (design_controller locks_unread) 3 full_room (nothing then step generator2_lock full_room) → ⊥

-- by one evaluation
computed : Computed
unfolding below keep first any_of all_of part_code same_part parts health_of_kind next up arc connected feeds feeders feed_by bus_feed others
    sources path_bus_breakers path_breakers path_parts high_rises paths_from paths on_paths usable counted_closed isolated permitted choose
    add_path chosen plan commands choice_of choices opening first_occurrences parts_of sequence closing sheet_of sheet written part_named reported places health_of commands_of
    health_places command_places blank_ring told planned with_plan first_met size_outside not_of_ring word_of_other_kind too_short
    health_outside active_above locked_above unplanned bad_ring next_sheet report_conditions start_refusal step_refusal all_dark refusal_of refused_state
    served_state state_start state_step after_word after_words perform perform_all command_named with_operation operations phases_at
    decode excepted word_refusal earlier ordered both_phases world_after after_call run sum digest ring_sum choice_number choices_sum
    operation_number operations_digest is_dark feed_number is_clash on_world on_phases due refused_in_vain not_refused record_changed buffer_changed
    choices_lit behind_changed length_changed dark_though_reached lit_though_unreached lit_by_another dark_though_fed other_health other_lock other_command
    unfit_above claim.lock_above on_above any_clash other_choice new_commands other_first other_second clash_in_first clash_in_second start_of first_reply start_due
    at_call at_served at_phases at_start at_end at_last at_either fails3 design_commands design_sheet design_choices design_served design_bad design_start design_step
    design_controller right chosen_by trying planning_for writing all_buses_dark gives_up empty_phases repeats_start one_plan miscounts
    closings_first one_wave waves_exchanged stuck_closed_open breaker_behind high_first start_spoilt step_spoilt when_refused when_served with_ring
    with_choices with_buffer full_room calls_of starting handed halted reversed sheet_with start_refusing start_serving step_refusing step_serving
    start_writes step_writes refuses_twenty refuses_starts refuses_reports serves_starts serves_reports fit_choices no_choices wrong_designs
    wrong_starts wrong_refusals wrong_steps wrong_moments refuted3 flat_map fails2 extra_open extra_close has_operation other_outcome rises
    wrongs2 refuted2 clashes_nowhere count_above sheet_refusal told_all first_refusal scan_refusal state_scan call_number design_scan scan_spoilt
    scan_of counted_as calling scanning scan_refusing scan_serving scan_writes scan_telling scan_serving_by last_of backwards before_last
    takes_last_word sends_last_sheet takes_words_backwards reads_past_count serves_scans refuses64 refuses_by_last asks_first_step wrong_scan_refusals
    wrong_scans good_front serves_before_bad return_of refuses_returns refuses_returns_in_scans keeps_off keeps_off_in_scans passes_returned leaves_orders
    wrong_returns quiet_while_off parts_by right_order walking ordering closes_by_code closes_inward lists_twice lists_standing buses_backwards wrong_orders
    unloaded told_state reckoned bad_record state_refusal no_load total_watts watts_of with_figures live_twice booking_outside other_figures bad_load
    state_sum bookings_digest load_digest design_reckoned of_ring with_state locks_unread is_lock is_unlock telling_instead forgets_locks locks_for_good
    unlock_mends replaced_unlocked refuses_locks passes_locks_in_scans wrong_locks service_visit wrongs3
computed = record {
  refuted_3 = refl;
  refuted_2 = refl;
  in_sheet_order = refl;
  quiet_while_off_lem = refl;
  exception_needed = (
    _,
    in_call (step breaker1_closed full_room) whole (run_ended controller false 3 full_room nothing _ refl) refl refl
        (in_first [] (Permᴰ.refl _)),
    refl,
  );
  exception_needed_in_scan = (
    _,
    in_call (scan two_faults full_room) whole (run_ended controller false 3 full_room nothing _ refl) refl refl
        (in_first [] (Permᴰ.refl _)),
    refl,
  );
  started_though_locked = λ off.
      off.not_ordered (step generator2_off full_room) whole (run_ended (design_controller locks_unread) false 3 full_room service_visit _ refl) refl
      refl 2 refl (Memᴰ.tail (Memᴰ.tail (Memᴰ.tail (Memᴰ.head refl))));
  stands_though_locked = λ off.
      contra refl
      (off.ordered_off whole
      (run_ended (design_controller locks_unread) false 3 full_room (nothing then step generator2_lock full_room) _ refl) 1 (omega arith) refl);
}

-- ---- no wrong controller meets a demand

-- none of the wrong controllers meets demand 3
pub none_meets_3 : (k : Row3) → k ∈ wrongs3 → Demand3 k.wrong → ⊥
none_meets_3 = none_of_3 wrongs3 computed.refuted_3

-- nor one that is wrong at the largest ring alone, or above it
none_meets_20 : Demand3 refuses_twenty → ⊥
unfolding refuses_twenty start_spoilt refused_state refusal_of
none_meets_20 d = five ((d.start_answered 20 full_room).only PartOutside refl)
  where
    five : {n k : ℕ} → StartMeets n k 5 → ⊥
    five {n} {k} m = go m refl
      where
        go : {j : ℕ} → StartMeets n k j → j ≡ 5 → ⊥
        go (too_small l) e = omega arith
        go (too_large l) e = omega arith
        go (too_short_lem b s l) e = omega arith

none_meets_21 : Demand3 serves_starts → ⊥
unfolding serves_starts start_spoilt served_state
none_meets_21 d = served_refused refl ((d.start_answered 21 full_room).always 2 (too_large (omega arith)))

-- none of the wrong controllers meets demand 2
pub none_meets_2 : (k : Row2) → k ∈ wrongs2 → Demand2 k.wrong → ⊥
none_meets_2 = none_of_2 wrongs2 computed.refuted_2
