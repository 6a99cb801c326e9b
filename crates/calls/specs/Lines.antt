-- A call's line in the front of a lent buffer. Reports are counted from 0.
use Rattle.std.specs.Prelude.{◌≡◌, false, List, ℕ}
use Rattle.model.specs.declared.Ring.{Ring}
use Rattle.model.specs.declared.Scan.{Scan}
use Rattle.model.specs.Reports.{with_plan}
use Rattle.model.specs.Refusals.{bad_ring}
use Rattle.model.specs.Text.{transition_line}
use Rattle.model.specs.ScanText.{scan_text, scan_ring}
use Rattle.model.specs.Laws.Appended.{Stored}

-- line i of a ring that was told its reports stands there, and next is the ring behind it
pub record Shown (i : ℕ) (ring : Ring) (before after : List ℕ) (next : Ring) (size : ℕ) : Type 0 where
  pub ring_is : next ≡ with_plan ring
  pub stored : Stored (transition_line i ring) before after size

-- the text of a scan stands there, line i or its refusal, and next is the ring behind it, which is a good one
pub record Answered (i : ℕ) (ring : Ring) (s : Scan) (before after : List ℕ) (next : Ring) (size : ℕ) : Type 0 where
  pub ring_is : next ≡ scan_ring ring s
  pub good : bad_ring next ≡ false
  pub stored : Stored (scan_text i ring s) before after size

-- a line by its number and its ring
pub same_line : {i j : ℕ} {ring told : Ring} {before after : List ℕ} {next : Ring} {size : ℕ} → Shown i told before after next size
    → i ≡ j → ring ≡ told → Shown j ring before after next size
same_line s e f = rw (← e, f) s
