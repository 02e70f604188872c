-- `pass` meets its contract. The loop's invariant: what is counted, put and listed, and what is to come, make what the pass comes to. That the sink has room
-- for each record and stretch follows: it is part of what is to come. Assumes nothing.
use Prim.Native.Nat.{◌+◌, ◌-◌, ◌*◌, ◌≤◌}
use mathlib.Core.Path.{◌≡◌}
use lib.ListN.{length}
use Rattle.salvaging.specs.Walk.{passed_of, passed_on}
use Rattle.salvaging.proofs.Turns.{numbers_on, bytes_on}
use Rattle.salvaging.proofs.Seen.pass.Given as goal

abbrev pub invariant-loop-at : goal.invariant-loop-at
invariant-loop-at g l =
    let s = l.self in
    let buf = s.buf.now in
    let all = passed_of s.place s.begin buf in
    record {
      within : l.at ≤ length buf;
      few : l.kept ≤ l.at;
      fewer : 8 * l.cells ≤ l.kept;
      passed : passed_on buf s.place l.at l.from l.kept l.cells ≡ all;
      room : g.S.Sink.Room l.sink all.kept all.cells;
      put : (t : _) → g.S.Sink.Puts l.sink l.kept l.cells (bytes_on buf l.at) (numbers_on buf s.place l.at l.from) t
          → g.S.Sink.Puts l.initial.sink s.head 0 (bytes_on buf s.head) (numbers_on buf s.place s.head (s.begin + s.head)) t;
    }

abbrev pub decreases-loop-at : goal.decreases-loop-at
decreases-loop-at g l = length l.self.buf.now - l.at
