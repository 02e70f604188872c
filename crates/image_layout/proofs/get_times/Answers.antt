-- What the check leaves of `get_times`.
use native.Mathlib.Omega.{arith}
use Prim.Native.Nat.{◌*◌}
use mathlib.Core.Path.{sym, ◌∙◌}
use lib.ListN.{drop, length-set}
use Rattle.image_form.specs.Layout.{numbers_of}
use Rattle.record.proofs.Filled.{turn, whole}
use Rattle.image_form.proofs.Numbers.{numbers_size, number_at, number_behind}
use Rattle.image_layout.proofs.get_times.Goals as goal

pub loop-i-preserved : goal.loop-i-preserved
loop-i-preserved c =
    let l = c.loop-i in
    let s = c.args.s.now in
    let size = numbers_size 32 (drop 256 s) in
    let read = c.number_at.ensures ∙ sym (number_at 32 (drop 256 s) l.i (omega arith) ∙ number_behind 256 s (8 * l.i)) in
    (omega arith, simp length-set l.invariant.1, turn l.r (numbers_of 32 (drop 256 s)) l.i _ (omega arith) (omega arith) read l.invariant.2)

pub returns : goal.returns
returns c =
    let l = c.loop-i in
    let s = c.args.s.now in
    whole l.r (numbers_of 32 (drop 256 s)) l.i 32 (omega arith) l.invariant.1 (numbers_size 32 (drop 256 s)) l.invariant.2
