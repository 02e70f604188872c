-- What the check leaves of `number_among`.
use Prim.Native.Nat.{◌-◌}
use native.Mathlib.Omega.{arith}
use mathlib.Core.Path.{sym, ◌∙◌}
use Rattle.text_command.proofs.Reading.{word_turn, none_left}
use Rattle.text_command.proofs.number_among.Goals as goal

pub returns-then-stands_at : goal.returns-then-stands_at
returns-then-stands_at c =
    let t = c in
    let lp = t.loop-at in
    let a = t.args in
    let turn = word_turn a.words.now a.word.now lp.at t.loop-at-test.true lp.n (omega arith) in
    sym (lp.invariant.2 ∙ turn ∙ rw (sym t.stands_at.ensures ∙ c.if-stands_at.true))

pub loop-at-preserved : goal.loop-at-preserved
loop-at-preserved c =
    let t = c in
    let lp = t.loop-at in
    let a = t.args in
    let turn = word_turn a.words.now a.word.now lp.at t.loop-at-test.true lp.n (omega arith) in
    (omega arith, omega arith, lp.invariant.2 ∙ turn ∙ rw (sym t.stands_at.ensures ∙ c.if-stands_at.false))

pub returns : goal.returns
returns c =
    let a = c.args in
    let lp = c.loop-at in
    sym (lp.invariant.2 ∙ none_left a.words.now a.word.now lp.n (256 - lp.n) lp.at c.loop-at-test.false)
