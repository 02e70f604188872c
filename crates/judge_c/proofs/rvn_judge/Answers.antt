-- `rvn_judge` meets its contract: four numbers are told of the judgement, another count is left. Assumes nothing.
use mathlib.Core.Path.{ap, ◌∙◌}
use borrow.Author.Tests.{ne_eqb}
use lib.ListN.{length, get_or}
use Rattle.judge_call.specs.Call.{reply_to, answer, numbers}
use Rattle.judge_c.proofs.Exits.{third, fourth, answered, written}
use Rattle.judge_c.proofs.rvn_judge.Goals as goal

pub returns-then-verdict-ne4 : goal.returns-then-verdict-ne4
unfolding answer numbers
returns-then-verdict-ne4 c = let n = ne_eqb (length c.args.verdict.now) 4 c.if-verdict-ne4.true in (simp n, simp n)

pub bounds-verdict-2 : goal.bounds-verdict-2
bounds-verdict-2 c =
    let lent = c.args.verdict.now in
    let n = c.reply_to-t.result.numbers in third lent (get_or n 0 0) (get_or n 1 0) c.if-verdict-ne4.false

pub bounds-verdict-3 : goal.bounds-verdict-3
bounds-verdict-3 c =
    let lent = c.args.verdict.now in
    let n = c.reply_to-t.result.numbers in fourth lent (get_or n 0 0) (get_or n 1 0) (get_or n 2 0) c.if-verdict-ne4.false

pub returns : goal.returns
returns c =
    let a = c.args in
    let e = c.reply_to-t.ensures ∙ ap reply_to c.judged.ensures in
    let four = c.if-verdict-ne4.false in
    (answered a.tape.now a.verdict.now _ e four, written a.tape.now a.verdict.now _ e four)
