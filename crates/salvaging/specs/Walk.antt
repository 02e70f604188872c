-- The walk of the code over a tape's bytes: what a pass comes to, and what it comes to from a place on. (What a salvage
-- is: salvage_marks/specs.) Assumes nothing.
use Rattle.std.specs.Prelude.{ℕ, zero, ◌+◌, List, Bool, false, cond, ◌&&◌, length, drop, eqb}
use Rattle.salvage_marks.specs.Torn.{pick, headed, cells}
use Rattle.salvage_marks.specs.Pieces.{ahead, ended, begun}
use Rattle.salvaging.specs.declared.Passed.{Passed}

-- how many bytes at the front of what is seen are a header that is kept: 16 at byte 0, where one stands
unfoldable pub head_size : ℕ → List ℕ → ℕ
head_size place buf = cond (eqb place 0 && headed buf) 16 0

-- the marks of a pass over bytes that begin at a place, where the open stretch begins at `begin`
abbrev pub marked_at : ℕ → List ℕ → List Bool
marked_at place buf = ahead (eqb place 0) zero buf

-- what a pass comes to
unfoldable pub passed_of : ℕ → ℕ → List ℕ → Passed
passed_of place begin buf =
    record {
      done = length (marked_at place buf);
      from = begun begin place (marked_at place buf);
      kept = length (pick (marked_at place buf) buf);
      cells = length (cells (ended begin place (marked_at place buf)));
    }

-- the marks from an index on, behind which no header is kept
abbrev pub to_go : List ℕ → ℕ → List Bool
to_go buf at = ahead false zero (drop at buf)

-- what a pass comes to that stands at an index, and has kept w bytes and listed j numbers
abbrev pub passed_on : List ℕ → ℕ → ℕ → ℕ → ℕ → ℕ → Passed
passed_on buf place at from w j =
    record {
      done = at + length (to_go buf at);
      from = begun from (place + at) (to_go buf at);
      kept = w + length (pick (to_go buf at) (drop at buf));
      cells = j + length (cells (ended from (place + at) (to_go buf at)));
    }
