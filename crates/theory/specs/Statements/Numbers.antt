-- Document 02, Note 3: "refusal 7 is given to no input any more." Every call that finds a refusal is named, with the answer that its
-- contract promises, and every text that has a definition. `rings::refused` and `heads::refused_text` pass on a number that they are
-- handed; `ringplant` prints that of `plant::feeds`, and `ringtrace` that of `files::check_file`.
use Rattle.std.specs.Prelude.{◌≢◌, List, ℕ, length}
use Rattle.model.specs.declared.Report.{Report}
use Rattle.model.specs.declared.Scan.{Scan}
use Rattle.model.specs.declared.Health.{Health}
use Rattle.model.specs.declared.Commands.{Commands}
use Rattle.model.specs.declared.Ring.{Ring}
use Rattle.model.specs.declared.RingState.{RingState}
use Rattle.model.specs.declared.Booking.{Booking}
use Rattle.model.specs.declared.Rates.{Rates}
use Rattle.model.specs.Values.{outcome_number, outcome_of, part_values, word_values, report_values, file_values}
use Rattle.model.specs.Reports.{part_named, word_named}
use Rattle.model.specs.Refusals.{first_met, report_conditions, sheet_refusal, file_refusal}
use Rattle.model.specs.Answers.{part_answer, word_answer, report_at, file_answer, feeds_answer, start_reply, step_reply}
use Rattle.model.specs.Scans.{first_refusal, scan_reply}
use Rattle.model.specs.States.{state_start, state_step, state_scan, book_answer, cancel_answer}
use Rattle.model.specs.CutSets.{cut_sets_reply}
use Rattle.model.specs.Exposure.{exposure_answer}
use Rattle.model.specs.Text.{refused_text, printed_run}
use Rattle.model.specs.CutText.{printed_cut_sets}
use Rattle.model.specs.ExposureText.{answered_text, printed_exposures}
use Rattle.model.specs.ScanText.{scan_text}

-- for every argument, the number of the answer is not k, and the text is not its refusal
pub record NeverGiven (k : ℕ) : Type 0 where
  -- files::check_file, latest::ring_after
  pub check_file : (file : List ℕ) → (file_values (file_answer file)).0 ≢ k
  pub ring_after : (file : List ℕ) → outcome_number (outcome_of (file_refusal file)) ≢ k
  -- codes::part_of, words::word_of
  pub part_of : (n code : ℕ) → (part_values (part_answer (part_named n code))).0 ≢ k
  pub word_of : (byte : ℕ) → (word_values (word_answer (word_named byte))).0 ≢ k
  -- reports::report_at, reports::check_report
  pub report_at_lem : (n : ℕ) (codes words : List ℕ) (i : ℕ) → (report_values (report_at n codes words i)).0 ≢ k
  pub check_report : (n : ℕ) (r : Report) → outcome_number (outcome_of (first_met (report_conditions n r))) ≢ k
  -- plant::feeds
  pub feeds : (n : ℕ) (health : Health) (commands : Commands) → outcome_number (feeds_answer n health commands).outcome ≢ k
  -- control::start, control::step, control::scan, control::book, control::cancel
  pub start : (n : ℕ) (buffer : List ℕ) → outcome_number (state_start n buffer).answer.outcome ≢ k
  pub step : (state : RingState) (r : Report) (buffer : List ℕ) → outcome_number (state_step state r buffer).answer.outcome ≢ k
  pub scan : (state : RingState) (s : Scan) (buffer : List ℕ) → outcome_number (state_scan state s buffer).answer.outcome ≢ k
  pub book : (state : RingState) (b : Booking) → outcome_number (book_answer state b).outcome ≢ k
  pub cancel : (state : RingState) (v : ℕ) → outcome_number (cancel_answer state v).outcome ≢ k
  -- transition::start, transition::step, transition::scan
  pub inner_start : (n : ℕ) (buffer : List ℕ) → outcome_number (start_reply n buffer).answer.outcome ≢ k
  pub inner_step : (ring : Ring) (r : Report) (buffer : List ℕ) → outcome_number (step_reply ring r buffer).answer.outcome ≢ k
  pub inner_scan : (ring : Ring) (s : Scan) (buffer : List ℕ) → outcome_number (scan_reply ring s buffer).answer.outcome ≢ k
  -- scans::check, sheet::write
  pub check : (n : ℕ) (rs : List Report) → outcome_number (outcome_of (first_refusal n rs)) ≢ k
  pub write : (bytes buffer : List ℕ) → outcome_number (outcome_of (sheet_refusal (length buffer) bytes)) ≢ k
  -- cutsets::list
  pub list : (state : RingState) (bus : ℕ) (buffer : List ℕ) → outcome_number (cut_sets_reply state bus buffer).answer.outcome ≢ k
  -- exposure::of_bus
  pub of_bus : (state : RingState) (bus : ℕ) (r : Rates) → outcome_number (exposure_answer state bus r).outcome ≢ k
  -- run::fill and cursor::next_line, piece by piece, and ringctl; ringcuts; ringchance, a file and each bus; calls::scan_text and ringscan
  pub printed_run_lem : (file : List ℕ) → printed_run file ≢ refused_text k
  pub printed_cut_sets_lem : (file : List ℕ) → printed_cut_sets file ≢ refused_text k
  pub printed_exposures_lem : (r : Rates) (file : List ℕ) → printed_exposures r file ≢ refused_text k
  pub answered_text_lem : (state : RingState) (bus : ℕ) (r : Rates)
      → (let a = exposure_answer state bus r in
      answered_text a.outcome a.exposure ≢ refused_text k)
  pub scan_text_lem : (i : ℕ) (ring : Ring) (s : Scan) → scan_text i ring s ≢ refused_text k
