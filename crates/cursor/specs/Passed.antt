-- A line of a file's run in the front of a lent buffer. Places are counted from 0.
use Rattle.std.specs.Prelude.{◌≡◌, List, [], ℕ, suc, ◌<◌, ltb, length, get_or}
use Rattle.model.specs.declared.RunPiece.{RunPiece}
use Rattle.model.specs.Text.{run_lines, cursor_at}
use Rattle.model.specs.Laws.Appended.{Stored}

-- the line at place k of a file's run stands there
pub record Passed (f : List ℕ) (k : ℕ) (before after : List ℕ) (p : RunPiece) : Type 0 where
  pub cursor : p.cursor ≡ cursor_at f (suc k)
  pub stored : Stored (get_or (run_lines f) k []) before after p.length
  pub some : 0 < p.length
  pub more : p.more ≡ ltb (suc k) (length (run_lines f))
