-- The lines of a run in the front of a lent buffer, one behind the other. Places are counted from 0.
use Rattle.std.specs.Prelude.{List, [], ◌++◌, ◌≡◌, refl, Bool, true, false, ℕ, suc, ◌+◌, ◌-◌, ◌≤◌, ◌<◌, ltb, length, get_or, take, drop}
use Rattle.std.proofs.Common.{append_assoc, append-nil, sym, ◌∙◌, ap, arith, length-append, length-drop, length-take-le, drop-cons, drop-drop, ltb-true, lt-ltb}
use Rattle.std.proofs.Math.Seq.{take-length, drop-length, take-append_seam, drop-append_seam}
use borrow.Rule.Slice.PartMut.{mid_of, put_mid}
use Rattle.model.specs.declared.RunCursor.{RunCursor}
use Rattle.model.specs.declared.RunPiece.{RunPiece}
use Rattle.model.specs.Sheet.{written}
use Rattle.model.specs.Text.{run_lines, joined, run_left, cursor_at, Within}
use Rattle.model.specs.Laws.Tests.{contra}
use Rattle.model.specs.Laws.Appended.{Stored}
use Rattle.cursor.specs.Passed.{Passed}

-- the lines from place k of a file's run up to a cursor stand there; where nothing is left or no room, there is one
pub record Filling (f : List ℕ) (k : ℕ) (before after : List ℕ) (c : RunCursor) (size : ℕ) (goes : Bool) : Type 0 where
  pub run : run_left f k ≡ take size after ++ run_left f c.place
  pub stored : Stored (take size after) before after size
  pub cursor : c ≡ cursor_at f c.place
  pub more : goes ≡ ltb c.place (length (run_lines f))
  pub some : goes ≡ false → 0 < size

-- what is left behind a piece is shorter
pub left_shorter : {left : List ℕ} (out rest : List ℕ) (k : ℕ) → left ≡ take k out ++ rest → 0 < k → k ≤ length out
    → length rest < length left
left_shorter out rest k e p h = omega (arith, ap length e, length-append (take k out) rest, length-take-le k out h)

-- what was stored is in front, and the rest keeps its values
pub stored_front : {text before after : List ℕ} {size : ℕ} → Stored text before after size → take size after ≡ text
unfolding written
stored_front {text} {before} s = rw (s.bytes, s.sized) (take-append_seam text (drop (length text) before))

pub stored_kept : {text before after : List ℕ} {size : ℕ} → Stored text before after size → drop size after ≡ drop size before
unfolding written
stored_kept {text} {before} s = rw (s.bytes, s.sized) (drop-append_seam text (drop (length text) before))

pub stored_none : (buffer : List ℕ) → Stored [] buffer buffer 0
unfolding written
stored_none buffer = record { bytes = refl; sized = refl }

-- a text behind another, in the part of the buffer that is left
pub stored_more : {xs ys before between last : List ℕ} {size more : ℕ} → Stored xs before between size
    → Stored ys (mid_of size (length between - size) between) last more
    → Stored (xs ++ ys) before (put_mid size (length between - size) between last) (size + more)
unfolding written
stored_more {xs} {ys} {between = between} {size = size} s t =
    record {
      bytes = rw (
        t.bytes,
        ← length-drop size between,
        take-length,
        drop-length,
        append-nil,
        s.bytes,
        s.sized,
        take-append_seam,
        drop-append_seam,
        drop-drop,
        length-append,
        append_assoc,
      );
      sized = omega (arith, s.sized, t.sized, length-append xs ys);
    }

-- the line at a place is the first of what is left there
pub left_line : (f : List ℕ) (k : ℕ) → k < length (run_lines f) → run_left f k ≡ get_or (run_lines f) k [] ++ run_left f (suc k)
unfolding run_left joined
left_line f k h = rw (drop-cons (run_lines f) k [] h)

pub filling_none : {f : List ℕ} {c : RunCursor} → Within f c → (buffer : List ℕ) → Filling f c.place buffer buffer c 0 true
filling_none {f} {c} w buffer =
    record {
      run = refl;
      stored = stored_none buffer;
      cursor = w.cursor;
      more = sym (lt-ltb c.place (length (run_lines f)) w.more);
      some = λ e. contra refl e;
    }

-- where more is left, the next line can be put
pub filling_within : {f before after : List ℕ} {k size : ℕ} {c : RunCursor} {goes : Bool} → Filling f k before after c size goes
    → goes ≡ true
    → Within f c
filling_within {f} {c = c} s e =
    record { cursor = s.cursor; more = ltb-true c.place (length (run_lines f)) (sym s.more ∙ e) }

-- a line that was passed brings the end nearer
pub passed_less : {f before after : List ℕ} {c : RunCursor} {p : RunPiece} → Within f c → Passed f c.place before after p
    → length (run_lines f) - p.cursor.place < length (run_lines f) - c.place
unfolding cursor_at
passed_less {f} {c = c} {p} w t =
    let next : p.cursor.place ≡ suc c.place = ap (λ (x : RunCursor). x.place) t.cursor in
    omega (arith, w.more)

-- one line more
pub filling_more : {f before between last : List ℕ} {k size : ℕ} {c : RunCursor} {p : RunPiece} {goes : Bool} (all : ℕ)
    → Filling f k before between c size goes → goes ≡ true → Passed f c.place (mid_of size (length between - size) between) last p
    → all ≡ size + p.length → Filling f k before (put_mid size (length between - size) between last) p.cursor all p.more
unfolding cursor_at
filling_more {f} {c = c} {p = p} all s e t h =
    let both = stored_more s.stored t.stored in
    let next : p.cursor.place ≡ suc c.place = ap (λ (x : RunCursor). x.place) t.cursor in
    record {
      run = s.run ∙ rw (h, left_line f c.place (filling_within s e).more, next, stored_front both, append_assoc);
      stored = rw (h, stored_front both) both;
      cursor = t.cursor ∙ ap (cursor_at f) (sym next);
      more = rw next t.more;
      some = λ z. omega (arith, t.some);
    }
