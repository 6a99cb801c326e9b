-- `cutsets::write_sheet` meets its contract: the two bytes of the count, then those of the sets.
use native.Mathlib.Omega.{arith}
use lib.Seq.{length-take-le}
use Rattle.cutsets.specs.Sheet.{sheet_written}
use Rattle.cutsets.proofs.write_sheet.Goals as goal

pub returns : goal.returns
returns c =
    sheet_written c.args.count _ _ (omega (arith, c.requires)) c.to_le_bytes-number.ensures c.append-behind.ensures c.append.ensures
    (omega (arith, c.requires, length-take-le _ c.args.bytes.now c.requires.1))
