-- What the check leaves of `in_place.records`.
use native.Mathlib.Omega.{arith}
use Prim.Native.Nat.{◌+◌, ◌≤◌}
use mathlib.Core.Path.{refl, ap, ◌∙◌}
use lib.ListN.{length}
use Rattle.kernel.specs.Step.{tables}
use Rattle.judging.specs.declared.Judge.{Judge}
use Rattle.judge_pieces.specs.Onward.{run_of}
use Rattle.judging.proofs.Bytewise.{through_turn, through_end}
use Rattle.judging.proofs.in_place.records.Goals as goal

pub loop-at-init : goal.loop-at-init
loop-at-init c = (omega arith, refl)

pub loop-at-preserved : goal.loop-at-preserved
loop-at-preserved c =
    let l = c.loop-at in
    let piece = c.args.piece.now in
    let x = run_of (tables l.base l.ready l.delayed l.held l.way l.until l.ceiling l.waiter l.clock l.started) l.head in
    let o : l.at + 16 ≤ length piece = omega (arith, l.invariant.0, c.loop-at-test.true) in
    (o, through_turn x _ piece l.at c.onward-head.ensures o ∙ l.invariant.1)

pub returns : goal.returns
returns c =
    let l = c.loop-at in
    let piece = c.args.piece.now in
    let x = run_of (tables l.base l.ready l.delayed l.held l.way l.until l.ceiling l.waiter l.clock l.started) l.head in
    through_end x piece l.at (omega arith) ∙ ap (λ (j : Judge). j.run) l.invariant.1
