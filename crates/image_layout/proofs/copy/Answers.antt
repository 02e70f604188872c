-- What the check leaves of `copy`.
use native.Mathlib.Omega.{arith}
use mathlib.Core.Path.{sym}
use lib.ListN.{length-set}
use Rattle.image_form.specs.Layout.{part}
use Rattle.record.proofs.Filled.{turn, whole}
use Rattle.image_form.proofs.Parts.{part_size, part_at}
use Rattle.image_layout.proofs.copy.Goals as goal

pub loop-i-preserved : goal.loop-i-preserved
loop-i-preserved c =
    let l = c.loop-i in
    let a = c.args in
    let n = a.n in
    let size = part_size n a.at a.s.now c.requires.0 in
    let byte = sym (part_at n a.at a.s.now l.i (omega arith)) in
    (omega arith, simp length-set l.invariant.1, turn l.table (part n a.at a.s.now) l.i _ (omega arith) (omega arith) byte l.invariant.2)

pub returns : goal.returns
returns c =
    let l = c.loop-i in
    let a = c.args in
    let n = a.n in
    whole l.table (part n a.at a.s.now) l.i n (omega arith) l.invariant.1 (part_size n a.at a.s.now c.requires.0) l.invariant.2
