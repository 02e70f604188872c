-- `write` meets its contract: the header, and behind it the pass. Assumes nothing.
use Prim.Native.Nat.{ℕ}
use mathlib.Core.Path.{sym, ap, ◌∙◌}
use mathlib.Core.List.{List}
use native.Mathlib.Omega.{arith}
use lib.ListN.{drop}
use lib.Seq.{sets}
use Rattle.salvage_marks.specs.declared.Stretch.{Stretch}
use Rattle.salvage_marks.specs.Torn.{pick, cells}
use Rattle.salvaging.specs.declared.Passed.{Passed}
use Rattle.salvaging.specs.Walk.{to_go}
use Rattle.salvaging.proofs.Starts.{header_starts, starts, start_passed, start_out}
use Rattle.salvaging.proofs.Seen.write.Goals as goal

pub keep_head-requires : goal.keep_head-requires
keep_head-requires c =
    let a = c.args.self.now in
    let h = header_starts a.place a.begin a.buf.now a.opened a.head a.headed in
    let e = ap (λ (x : Passed). x.kept) (start_passed a.place a.begin a.head a.buf.now h.starts) in
    (h.one.0, h.one.1, omega (arith, e, c.requires.0), h.starts.within)

pub returns-clause-out : goal.returns-clause-out
returns-clause-out c =
    let a = c.args.self.now in
    let b = a.buf.now in
    let s = starts a.place a.begin b a.opened a.head a.headed in
    let k = c.pass.ensures.put.0 in
    let e =
    k.contents ∙ ap (λ (x : List ℕ). sets x a.head (pick (to_go b a.head) (drop a.head b))) c.keep_head.ensures
    ∙ start_out a.place a.begin a.head b s c.args.out.now in
    let n = k.same in
    grind (arith, e, n)

pub returns-clause-list : goal.returns-clause-list
returns-clause-list c =
    let a = c.args.self.now in
    let b = a.buf.now in
    let s = starts a.place a.begin b a.opened a.head a.headed in
    let k = c.pass.ensures.put.1 in
    let e = k.contents ∙ ap (λ (x : List Stretch). sets c.args.list.now 0 (cells x)) (sym s.stretches) in
    let n = k.same in
    grind (arith, e, n)
