-- What the check leaves of `put_times`.
use borrow.Author.Rules.{rules}
use native.Mathlib.Omega.{arith}
use mathlib.Core.Path.{◌≡◌}
use lib.ListN.{length, take}
use Rattle.image_form.proofs.Numbers.{start_times, grow_times, end_times}
use Rattle.image_layout.proofs.put_times.Goals as goal

pub loop-i-init : goal.loop-i-init
loop-i-init c = let a = c.args in (omega arith, c.requires, start_times a.s.now a.until.now 256)

pub loop-i-preserved : goal.loop-i-preserved
loop-i-preserved c =
    let l = c.loop-i in
    let a = c.args in
    let w = c.put_number.ensures in
    (omega arith, w.0, grow_times l.s c.put_number.new.s (take 256 a.s.now) a.until.now 256 l.i (omega arith) l.invariant.2 w.1)

pub returns : goal.returns
returns c =
    let l = c.loop-i in
    let a = c.args in
    let size : length a.until.now ≡ 32 = search rules in
    (l.invariant.1, end_times l.s (take 256 a.s.now) a.until.now 256 l.i 32 (omega arith) size l.invariant.1 l.invariant.2)
