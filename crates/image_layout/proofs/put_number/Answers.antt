-- What the check leaves of `put_number`.
use borrow.Author.Rules.{rules}
use native.Mathlib.Omega.{arith}
use Prim.Native.Nat.{ℕ}
use mathlib.Core.Path.{ap, ◌∙◌}
use mathlib.Core.List.{List, ◌++◌}
use lib.ListN.{take, length-set}
use Rattle.image_layout.proofs.Copying.{start, grow, end}
use Rattle.image_layout.proofs.put_number.Goals as goal

pub loop-i-init : goal.loop-i-init
loop-i-init c = let a = c.args in (omega arith, search rules, start a.s.now c.number_bytes-bytes.result a.at)

pub loop-i-preserved : goal.loop-i-preserved
loop-i-preserved c =
    let l = c.loop-i in
    let a = c.args in
    let bytes = c.number_bytes-bytes.result in
    (omega arith, simp length-set l.invariant.1, grow l.s (take a.at a.s.now) bytes a.at l.i (omega arith) (omega arith) l.invariant.2)

pub returns : goal.returns
returns c =
    let l = c.loop-i in
    let a = c.args in (
      l.invariant.1,
      end l.s (take a.at a.s.now) c.number_bytes-bytes.result a.at l.i 8 (omega arith) (omega arith) l.invariant.2
          ∙ ap (λ (v : List ℕ). take a.at a.s.now ++ v) c.number_bytes-bytes.ensures,
    )
