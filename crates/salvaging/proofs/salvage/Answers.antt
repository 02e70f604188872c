-- `salvage` meets its contract: what is measured decides, and a whole tape is one piece and its last stretch. Assumes nothing.
use Prim.Native.Nat.{ℕ, ◌+◌}
use mathlib.Core.Path.{◌≡◌, sym, ap, ◌∙◌}
use mathlib.Core.List.{List, []}
use native.Mathlib.Omega.{arith}
use lib.ListN.{length}
use lib.Seq.{sets}
use Rattle.std.specs.Prelude.{Option, option_to_list}
use Rattle.salvage_marks.specs.declared.Stretch.{Stretch}
use Rattle.salvage_marks.specs.declared.Torn.{Torn}
use Rattle.salvage_marks.specs.Torn.{closed, cells}
use Rattle.salvage_marks.specs.Pieces.{at_first, opened, stretch_of}
use Rattle.salvaging.specs.declared.Passed.{Passed}
use Rattle.salvaging.specs.Walk.{passed_of}
use Rattle.salvaging.proofs.Turns.{ended_numbers, cells_two}
use Rattle.salvaging.proofs.Starts.{starts}
use Rattle.salvaging.proofs.Answers.{all_of, last_of, cells_few, no_bytes, no_numbers, all_fits, no_salvage, salvaged_so}
use Rattle.salvaging.proofs.salvage.Goals as goal

-- what a pass comes to tells the numbers of the last stretch
last_same : (s : List ℕ) {p : Passed} {o : Option Stretch} → p ≡ all_of s → o ≡ stretch_of p.from (length s) → cells (option_to_list o) ≡ last_of s
last_same s e f = ended_numbers _ (length s) f ∙ ap (λ (x : Passed). cells (closed x.from (length s) [])) e

-- what was measured of a whole tape
measured : (s : List ℕ) {b : List ℕ} {p i : ℕ} {t : Torn} {m : Passed} → (b ≡ s) × (p ≡ t.place) × (i ≡ opened t) → t ≡ at_first → m ≡ passed_of p i b
    → m ≡ all_of s
measured s (e, f, g) h m = rw (e, f, g, h) at m

pub returns-then-out-m : goal.returns-then-out-m
returns-then-out-m c =
    let a = c.args in
    let m = measured a.tape.now c.new-seen.ensures c.at_first.ensures c.measure-m.ensures in
    no_salvage a.tape.now a.out.now a.list.now
    (no_bytes a.tape.now (length a.out.now) (length a.list.now) (omega (arith, ap (λ (x : Passed). x.kept) m)))

pub overflow_add-m : goal.overflow_add-m
overflow_add-m c =
    let s = c.args.tape.now in
    let m = measured s c.new-seen.ensures c.at_first.ensures c.measure-m.ensures in
    let l = ap (λ (x : List ℕ). length x) (ended_numbers _ (length s) c.stretch-last.ensures) in
    omega (arith, ap (λ (x : Passed). x.cells) m, cells_few 0 0 s, c.numbers.ensures, l, cells_two c.measure-m.result.from (length s))

pub returns-then-list-m : goal.returns-then-list-m
returns-then-list-m c =
    let a = c.args in
    let s = a.tape.now in
    let m = measured s c.new-seen.ensures c.at_first.ensures c.measure-m.ensures in
    let l = ap (λ (x : List ℕ). length x) (last_same s m c.stretch-last.ensures) in
    no_salvage s a.out.now a.list.now
    (no_numbers s (length a.out.now) (length a.list.now) (omega (arith, ap (λ (x : Passed). x.cells) m, l, c.numbers.ensures)))

pub write-p-requires : goal.write-p-requires
write-p-requires c = (omega (arith, ap (λ (x : Passed). x.kept) c.measure-m.ensures), omega (arith, ap (λ (x : Passed). x.cells) c.measure-m.ensures))

pub list_one-requires : goal.list_one-requires
list_one-requires c =
    omega (arith, c.numbers.ensures, ap (λ (x : Passed). x.cells) c.measure-m.ensures, ap (λ (x : Passed). x.cells) c.write-p.ensures.passed)

pub returns : goal.returns
returns c =
    let a = c.args in
    let s = a.tape.now in
    let n = c.new-seen.ensures in
    let z = c.at_first.ensures in
    let m = measured s n z c.measure-m.ensures in
    let p = measured s n z c.write-p.ensures.passed in
    let e =
    ended_numbers _ (length s) c.stretch-last.ensures ∙ ap (λ (x : Passed). cells (closed x.from (length s) [])) (m ∙ sym p) in
    let l = ap (λ (x : List ℕ). length x) (last_same s m c.stretch-last.ensures) in
    let f = all_fits s (length a.out.now) (length a.list.now) (omega (arith, ap (λ (x : Passed). x.kept) m, c.if-out-m.false))
    (omega (arith, ap (λ (x : Passed). x.cells) m, l, c.numbers.ensures, c.if-list-m.false)) in
    let b = starts 0 0 s (omega arith) c.new-seen.result.head (rw (n.0, n.1, z) at c.new-seen.result.headed) in
    salvaged_so s a.out.now a.list.now c.new-seen.result.head _ c.write-p.result f b p (rw (n.0, n.1, z) at c.write-p.ensures.out)
    (rw (n.0, n.1, n.2, z) at c.write-p.ensures.list) (c.list_one.ensures ∙ ap (sets c.write-p.new.list c.write-p.result.cells) e)
    (ap (λ (k : ℕ). c.write-p.result.cells + k) (c.numbers-2.ensures ∙ ap (λ (x : List ℕ). length x) e))
