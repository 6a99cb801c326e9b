-- The calls on which wrong controllers are tried: starts, reports, scans, bookings and cancellations, and where they are interrupted.
use Rattle.std.specs.Prelude.{true, false, List, [], ◌∷◌, ◌++◌, ℕ, ◌-◌, length, replicate}
use Rattle.model.specs.declared.Part.TheVariants.{Generator}
use Rattle.model.specs.declared.Word.TheVariants.{StuckOff}
use Rattle.model.specs.declared.Report.{Report}
use Rattle.model.specs.declared.Scan.{Scan}
use Rattle.demands.specs.Statements.Demand3.{Call, step, scan, BookingCall, cancel, Calls, nothing, ◌then◌}
use Rattle.demands.proofs.Proofs.Answering.{full_room}
use Rattle.demands.proofs.Refuting.Claims.{Instance}
use Rattle.demands.proofs.Refuting.Facts.{report, generator1_off, breaker1_closed, breaker2_open}

-- G2 stuck off
abbrev pub generator2_off : Report
generator2_off = report (Generator 2) StuckOff

-- G3 stuck off
abbrev pub generator3_off : Report
generator3_off = report (Generator 3) StuckOff

-- G4 stuck off, a part that no ring of three has
abbrev pub generator4_off : Report
generator4_off = report (Generator 4) StuckOff

-- a start of n with a buffer
unfoldable pub starting : ℕ → List ℕ → Instance
starting n buffer = record { size = n; lending = buffer; calls = nothing; call = step generator1_off full_room; booking = cancel 0; backward = false; done = 0 }

-- a ring of three that was handed some calls, and then a call
unfoldable pub calling : Calls → Call → Instance
calling cs c = record { size = 3; lending = full_room; calls = cs; call = c; booking = cancel 0; backward = false; done = 0 }

-- the calls of some reports, the last first
unfoldable pub calls_of : List Report → Calls
calls_of [] = nothing
calls_of (r ∷ rs) = calls_of rs then step r full_room

-- a ring of three that was handed some reports, the last first, and then a report with a buffer
unfoldable pub handed : List Report → Report → List ℕ → Instance
handed rs r buffer = calling (calls_of rs) (step r buffer)

-- .. with room for every sheet
abbrev pub after : List Report → Report → Instance
after rs r = handed rs r full_room

-- a scan of some reports: in the places past its count stand reports that would be refused
unfoldable pub scan_of : List Report → Scan
scan_of rs = record { reports = rs ++ replicate (64 - length rs) generator4_off; count = length rs }

-- .. that is said to have k
unfoldable pub counted_as : ℕ → Scan → Scan
counted_as k s = record { reports = s.reports; count = k }

-- BB2 stuck open and BB1 stuck closed in one scan
abbrev pub two_faults : Scan
two_faults = scan_of (breaker2_open ∷ breaker1_closed ∷ [])

-- a started ring of three, and then a scan, with room for every sheet
unfoldable pub scanning : Scan → Instance
scanning s = calling nothing (scan s full_room)

-- a ring of three that was handed some calls, and then a booking or a cancellation
unfoldable pub booking_after : Calls → BookingCall → Instance
booking_after cs b =
    record { size = 3; lending = full_room; calls = cs; call = step generator1_off full_room; booking = b; backward = false; done = 0 }

-- .. or then nothing
unfoldable pub ending : Calls → Instance
ending cs = booking_after cs (cancel 0)

-- interrupted after k operations of a phase
unfoldable pub halted : ℕ → Instance → Instance
halted k i = record { size = i.size; lending = i.lending; calls = i.calls; call = i.call; booking = i.booking; backward = i.backward; done = k }

-- each phase's operations the other way round
unfoldable pub reversed : Instance → Instance
reversed i = record { size = i.size; lending = i.lending; calls = i.calls; call = i.call; booking = i.booking; backward = true; done = i.done }
