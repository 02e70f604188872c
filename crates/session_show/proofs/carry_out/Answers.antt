-- `session_show::carry_out` meets its contract: the line says no command, and all stays, or it is a step of both models. Assumes nothing.
use Rattle.kernel.specs.Public.{to_rules}
use Rattle.session_show.proofs.Carrying.{says_none, says_one}
use Rattle.session_show.proofs.carry_out.Goals as goal

pub returns-then-l-ne0 : goal.returns-then-l-ne0
returns-then-l-ne0 c =
    let a = c.args in
    says_none a.s a.q a.n a.l c.unmoved-row.result c.if-l-ne0.true c.unmoved-row.ensures

pub returns : goal.returns
returns c =
    let a = c.args in
    says_one a.s a.q a.n a.l c.step-m.result c.row_of-row.result (to_rules c.command_of-c.result) c.plain.result
    c.command_of-c.ensures c.step-m.ensures c.plain.ensures c.row_of-row.ensures c.if-l-ne0.false
