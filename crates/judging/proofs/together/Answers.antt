-- What the check leaves of `together`.
use native.Mathlib.Omega.{arith}
use mathlib.Core.Path.{sym, ◌∙◌}
use mathlib.Core.List.{◌++◌}
use lib.ListN.{take, length-set}
use Rattle.kernel.specs.View.{pad}
use Rattle.kernel.proofs.Padded.{pad_size}
use Rattle.record.proofs.Filled.{turn, whole}
use Rattle.judging.proofs.Bytewise.{get_d_pad}
use Rattle.judging.proofs.together.Goals as goal

pub loop-i-preserved : goal.loop-i-preserved
loop-i-preserved c =
    let l = c.loop-i in
    let a = c.args in
    let t = take a.n a.held ++ a.piece.now in
    let e = c.byte_of.ensures ∙ sym (get_d_pad 16 t l.i (omega arith)) in
    (omega arith, simp length-set l.invariant.1, turn l.out (pad 16 t) l.i _ (omega arith) (rw (pad_size 16 t) (omega arith)) e l.invariant.2, l.invariant.3)

pub returns : goal.returns
returns c =
    let l = c.loop-i in
    let a = c.args in
    let t = take a.n a.held ++ a.piece.now in
    whole l.out (pad 16 t) l.i 16 (omega arith) l.invariant.1 (pad_size 16 t) l.invariant.2
