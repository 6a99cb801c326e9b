-- `transition::scan` meets its contract: refused by 11 or by its reports' checks, or the ring told them all taken to its commands.
use mathlib.Core.Path.{refl}
use native.Mathlib.Omega.{arith}
use Rattle.model.specs.Scans.{scan_reply}
use Rattle.model.specs.Laws.Tests.{facts}
use Rattle.transition.specs.Replies.{scan_above, scanned_size, scan_advanced, scan_refused}
use Rattle.transition.proofs.scan.Goals as goal

pub returns-then-scan-gt64 : goal.returns-then-scan-gt64
unfolding scan_reply
returns-then-scan-gt64 c = let whole = scan_above _ c.requires c.args.scan (omega (arith, facts)) c.args.buffer.now _ (omega arith) _ c.refused_by.ensures in record { answer = whole.0; bytes = whole.1.0; number = whole.1.1.0; values = whole.1.1.1 }

pub check-requires : goal.check-requires
check-requires c = omega (arith, facts)

pub told-told-requires : goal.told-told-requires
told-told-requires c = omega (arith, facts)

pub advance-requires : goal.advance-requires
advance-requires c =
    scanned_size _ c.requires c.args.scan _ c.told-told.ensures

pub returns-in-Ok : goal.returns-in-Ok
unfolding scan_reply
returns-in-Ok c = let whole = scan_advanced _ c.requires c.args.scan (omega (arith, facts)) c.args.buffer.now _ c.check.ensures.answer _
    c.in-Ok.is _ _ _ (c.advance.ensures.answer, (c.advance.ensures.bytes, (c.advance.ensures.number, c.advance.ensures.values))) c.told-told.ensures refl in record { answer = whole.0; bytes = whole.1.0; number = whole.1.1.0; values = whole.1.1.1 }

pub returns-in-Err : goal.returns-in-Err
unfolding scan_reply
returns-in-Err c = let whole = scan_refused _ c.requires c.args.scan (omega (arith, facts)) c.args.buffer.now _ c.check.ensures.answer _ _
    c.in-Err.is c.refused_by-in-Err.ensures in record { answer = whole.0; bytes = whole.1.0; number = whole.1.1.0; values = whole.1.1.1 }
