-- `pass` meets its contract, turn by turn: what is counted and put and what is to come stays the same. Assumes nothing.
use Prim.Native.Nat.{ℕ, ◌+◌}
use mathlib.Core.Path.{sym, ap, ◌∙◌}
use mathlib.Core.List.{List, []}
use native.Mathlib.Omega.{arith}
use lib.ListN.{length}
use Rattle.salvaging.specs.declared.Passed.{Passed}
use Rattle.salvaging.proofs.Stores.{part}
use Rattle.salvaging.proofs.Turns.{ended_numbers, cells_two, keep_bytes, keep_numbers, keep_room, keep_list_room, keep_passed, drop_passed, drop_bytes}
use Rattle.salvaging.proofs.Turns.{drop_numbers, stop_passed, stop_bytes, stop_numbers, puts_same, put_on}
use Rattle.salvaging.proofs.Starts.{starts, start_passed}
use Rattle.salvaging.proofs.Seen.pass.Goals as goal

pub overflow_add-from : goal.overflow_add-from
overflow_add-from g c =
    let a = c.args.self.now in
    let s = starts a.place a.begin a.buf.now a.opened a.head a.headed in
    omega (arith, s.within, a.opened, a.ends)

pub loop-at-init : goal.loop-at-init
loop-at-init g c =
    let a = c.args.self.now in
    let s = starts a.place a.begin a.buf.now a.opened a.head a.headed in
    record {
      within = s.within;
      few = omega arith;
      fewer = omega arith;
      passed = start_passed a.place a.begin a.head a.buf.now s;
      room = c.requires;
      put = λ t p. p;
    }

pub put-requires : goal.put-requires
put-requires g c =
    let a = c.args.self.now in
    let l = c.loop-at in
    let m = sym c.if-is_command.true ∙ c.is_command.ensures in
    let e = ap (λ (x : List ℕ). length x) (ended_numbers l.from (a.place + l.at) c.stretch-ended.ensures) in
    let r = keep_room a.buf.now a.place l.at l.from (omega arith) m l.kept in
    let n = keep_list_room a.buf.now a.place l.at l.from (omega arith) m l.cells in
    let q = part a.buf.now l.at (omega arith) in (
      q.1,
      g.met.S.Sink.room_left _ _ _ _ _ _ _ _ [] [] (g.met.S.Sink.puts_none l.sink l.kept l.cells) l.invariant.room
          (omega (arith, r, ap (λ (x : Passed). x.kept) l.invariant.passed, q.1))
          (omega (arith, n, ap (λ (x : Passed). x.cells) l.invariant.passed, e)),
    )

pub overflow_add-cells : goal.overflow_add-cells
overflow_add-cells g c =
    let a = c.args.self.now in
    let l = c.loop-at in
    let e = ap (λ (x : List ℕ). length x) (ended_numbers l.from (a.place + l.at) c.stretch-ended.ensures) in
    omega (arith, c.numbers-cells.ensures, e, cells_two l.from (a.place + l.at), a.ends)

pub loop-at-preserved-then-is_command : goal.loop-at-preserved-then-is_command
loop-at-preserved-then-is_command g c =
    let a = c.args.self.now in
    let b = a.buf.now in
    let l = c.loop-at in
    let m = sym c.if-is_command.true ∙ c.is_command.ensures in
    let q = part b l.at (omega arith) in
    let f = ended_numbers l.from (a.place + l.at) c.stretch-ended.ensures in
    let e = ap (λ (x : List ℕ). length x) f in
    let n = c.numbers-cells.ensures in
    record {
      within = omega arith;
      few = omega arith;
      fewer = omega (arith, n, e, cells_two l.from (a.place + l.at));
      passed =
          keep_passed b a.place l.at l.from (omega arith) m l.kept l.cells (l.cells + c.numbers-cells.result) (omega (arith, n, e)) ∙ l.invariant.passed;
      room = g.met.S.Sink.room_left _ _ _ _ _ _ _ _ _ _ c.put.ensures l.invariant.room (omega arith) (omega arith);
      put = λ t h.
          l.invariant.put t
          (put_on g.S.Sink.Puts g.met.S.Sink.puts_more l.sink c.put.new.self t l.kept l.cells c.numbers-cells.result _ _ _ _ c.put.ensures q.1 n
          (rw q.0 (keep_bytes b a.place l.at l.from (omega arith) m)) (rw f (keep_numbers b a.place l.at l.from (omega arith) m)) h);
    }

pub loop-at-preserved : goal.loop-at-preserved
loop-at-preserved g c =
    let a = c.args.self.now in
    let b = a.buf.now in
    let l = c.loop-at in
    let m = sym c.if-is_command.false ∙ c.is_command.ensures in
    record {
      within = omega arith;
      few = omega arith;
      fewer = l.invariant.fewer;
      passed = drop_passed b a.place l.at l.from (omega arith) m l.kept l.cells ∙ l.invariant.passed;
      room = l.invariant.room;
      put = λ t h.
          l.invariant.put t
          (puts_same g.S.Sink.Puts (drop_bytes b a.place l.at l.from (omega arith) m) (drop_numbers b a.place l.at l.from (omega arith) m) h);
    }

pub returns-clause-passed : goal.returns-clause-passed
returns-clause-passed g c =
    let a = c.args.self.now in
    let l = c.loop-at in
    sym (stop_passed a.buf.now a.place l.at l.from (omega arith) l.kept l.cells) ∙ l.invariant.passed

pub returns-clause-put : goal.returns-clause-put
returns-clause-put g c =
    let a = c.args.self.now in
    let b = a.buf.now in
    let l = c.loop-at in
    l.invariant.put l.sink
    (puts_same g.S.Sink.Puts (sym (stop_bytes b a.place l.at l.from (omega arith))) (sym (stop_numbers b a.place l.at l.from (omega arith)))
    (g.met.S.Sink.puts_none l.sink l.kept l.cells))
