-- `exposure::of_bus` meets its contract: refused as the list is, or answered from its sheet.
use mathlib.Core.Path.{◌≡◌, ◌∙◌}
use Prim.Native.Nat.{ℕ}
use native.Mathlib.Omega.{arith}
use lib.ListN.{length, replicate, length-replicate}
use Rattle.model.specs.CutText.{sheet_room}
use Rattle.exposure.proofs.Calls.{gives, refused_is, served_room, served_is}
use Rattle.exposure.proofs.of_bus.Goals as goal

-- the list's buffer has room for any sheet
room : length (replicate {A = ℕ} 108155 0) ≡ sheet_room
room = length-replicate {A = ℕ} 108155 0

pub answered-requires : goal.answered-requires
answered-requires c =
    let t = served_room _ _ c.args.rates _ room c.list-list.ensures.answer c.list-list.ensures.bytes
    c.in-Ok.is in
    (t.0, t.1, omega (arith, t.2, c.list-list.auto))

pub returns-in-Ok : goal.returns-in-Ok
returns-in-Ok c =
    let e = c.list-list.ensures in
    let w = gives _ _ _ (c.answered.ensures ∙ served_is _ _ _ _ room e.answer e.bytes c.in-Ok.is) in
    record { answer = w.0; number = w.1.0; figures = w.1.1 }

pub returns-in-Err : goal.returns-in-Err
returns-in-Err c =
    let e = c.list-list.ensures in
    let w = gives _ _ _ (c.refused.ensures ∙ refused_is _ _ _ _ room e.answer e.bytes c.in-Err.is) in
    record { answer = w.0; number = w.1.0; figures = w.1.1 }
