-- No controller that is wrong about bookings meets demand 3: of each, the claim that it fails and the calls that show it.
use Rattle.std.specs.Prelude.{◌≡◌, refl, true}
use mathlib.Core.List.{flat_map}
use Rattle.model.specs.Lists.{below, keep, first, any_of, all_of, ◌∈◌, sum}
use Rattle.model.specs.Values.{same_part, part_code, refusal_of}
use Rattle.model.specs.Plant.{parts, bus_feed, health_of_kind, next, up, arc, connected, feeds, feeders, feed_by}
use Rattle.model.specs.Priority.{sources, path_bus_breakers, path_parts, paths, others, path_breakers, high_rises, paths_from}
use Rattle.model.specs.Choosing.{
  on_paths,
  permitted,
  add_path,
  plan,
  commands,
  choice_of,
  choices,
  usable,
  counted_closed,
  isolated,
  choose,
  chosen,
}
use Rattle.model.specs.Sheet.{opening, first_occurrences, parts_of, sequence, closing, sheet_of, sheet, written}
use Rattle.model.specs.Reports.{
  reported,
  places,
  health_of,
  commands_of,
  command_places,
  blank_ring,
  planned,
  with_plan,
  told,
  part_named,
  health_places,
}
use Rattle.model.specs.Refusals.{
  first_met,
  size_outside,
  health_outside,
  active_above,
  locked_above,
  unplanned,
  bad_ring,
  bus_outside,
  count_above,
  too_short,
  next_sheet,
  report_conditions,
  sheet_refusal,
  start_refusal,
  step_refusal,
  not_of_ring,
  word_of_other_kind,
}
use Rattle.model.specs.Answers.{all_dark}
use Rattle.model.specs.Scans.{told_all, first_refusal, scan_refusal}
use Rattle.model.specs.Bookings.{with_figures, with_booking, without_booking, watts_outside, is_live, no_place, bad_load, no_load, total_watts, watts_of, live_twice, booking_outside, other_figures}
use Rattle.model.specs.States.{
  unloaded,
  told_state,
  reckoned,
  bad_record,
  state_refusal,
  served_state,
  state_start,
  state_step,
  state_scan,
  book_refusal,
  cancel_refusal,
  book_answer,
  cancel_answer,
  refused_state,
}
use Rattle.demands.specs.Statements.Demand3.{decode, noted, Demand3, after_word, after_words, perform, perform_all, command_named, with_operation, operations, phases_at, word_refusal}
use Rattle.demands.proofs.Proofs.Answering.{full_room, call_number}
use Rattle.demands.proofs.Proofs.Booking.{booking_number}
use Rattle.demands.proofs.Refuting.Claims.{
  fails3,
  digest,
  ring_sum,
  bookings_digest,
  load_digest,
  state_sum,
  choice_number,
  choices_sum,
  on_world,
  due,
  refused_in_vain,
  not_refused,
  record_changed,
  other_health,
  other_command,
  other_live,
  other_count,
  other_watts,
  watts_above,
  other_dark_watts,
  other_sum,
  other_choice,
  start_of,
  start_due,
  at_call,
  at_served,
  at_end,
  at_last,
  at_either,
  at_booking,
}
use Rattle.demands.proofs.Refuting.Runs.{ordered, both_phases, world_after, after_call, after_booking, run}
use Rattle.designs.specs.Spoilt.{start_spoilt, step_spoilt, scan_spoilt, bookings_spoilt, when_refused, when_served, when_not_booked, when_booked, of_ring, of_load, with_state, with_load, with_choices, giving_state, start_refusing, start_serving, step_refusing, step_serving, scan_refusing, scan_serving}
use Rattle.designs.specs.Instances.{starting, calling, scan_of, booking_after, ending}
use Rattle.designs.specs.Rows.{Row3, refuted3}
use Rattle.designs.proofs.Rows.{none_of_3}
use Rattle.wrong_bookings.specs.Controllers.{book_spoilt, cancel_spoilt, book_giving, cancel_giving, figures_stay_in_steps, figures_stay_in_scans, figures_stay_in_bookings, counts_cancelled, keeps_cancelled, empties_places, counts_one_more, forgets_bookings, places_serve_once, asks_every_place, serves_bookings, serves_cancellations, refuses_first, refuses_cancellations, book_refusing, cancel_refusing, sheds_load}
use Rattle.wrong_bookings.proofs.Claimed.{wrong_figures, wrong_bookings, wrong_turns, filled, wrong_places, wrong_about_bookings}

-- each fails its claim, by one evaluation
computed : all_of refuted3 wrong_about_bookings ≡ true
unfolding below keep first any_of all_of part_code same_part parts health_of_kind next up arc connected feeds feeders feed_by bus_feed others
    sources path_bus_breakers path_breakers path_parts high_rises paths_from paths on_paths usable counted_closed isolated permitted choose
    add_path chosen plan commands choice_of choices opening first_occurrences parts_of sequence closing sheet_of sheet written part_named reported
    places health_of commands_of health_places command_places blank_ring told planned with_plan first_met size_outside not_of_ring word_of_other_kind too_short
    health_outside active_above locked_above unplanned bad_ring next_sheet report_conditions start_refusal step_refusal all_dark refusal_of refused_state served_state state_start
    state_step after_word after_words perform perform_all command_named with_operation operations phases_at decode word_refusal ordered both_phases
    world_after after_call run sum digest ring_sum choice_number choices_sum on_world due refused_in_vain not_refused record_changed other_choice
    start_of start_due at_call at_served fails3 start_spoilt step_spoilt when_refused when_served with_choices full_room starting step_refusing
    step_serving start_refusing start_serving refuted3 flat_map count_above sheet_refusal told_all first_refusal scan_refusal state_scan call_number
    scan_spoilt scan_of calling scan_refusing scan_serving unloaded told_state reckoned bad_record state_refusal book_refusal cancel_refusal
    book_answer cancel_answer no_load total_watts watts_of with_figures with_booking without_booking watts_outside is_live no_place live_twice
    booking_outside other_figures bad_load bus_outside noted after_booking booking_number bookings_digest load_digest state_sum other_live other_count other_watts
    watts_above other_dark_watts other_sum at_end at_last at_either other_health other_command at_booking bookings_spoilt when_not_booked when_booked of_ring of_load with_state with_load giving_state
    booking_after ending book_spoilt cancel_spoilt book_giving cancel_giving figures_stay_in_steps figures_stay_in_scans figures_stay_in_bookings
    counts_cancelled keeps_cancelled empties_places counts_one_more forgets_bookings places_serve_once asks_every_place serves_bookings serves_cancellations
    refuses_first refuses_cancellations book_refusing cancel_refusing sheds_load wrong_figures wrong_bookings wrong_turns filled wrong_places
    wrong_about_bookings
computed = refl

-- none of the controllers that are wrong about bookings meets demand 3
pub none_books : (k : Row3) → k ∈ wrong_about_bookings → Demand3 k.wrong → ⊥
none_books = none_of_3 wrong_about_bookings computed
