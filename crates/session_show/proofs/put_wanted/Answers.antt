-- `session_show::put_wanted` meets its contract: the line is asked for, and its entry is put, or nothing is. Assumes nothing.
use Rattle.kernel_state.specs.Public.{view}
use Rattle.show_text.specs.Show.{wanted, block_of}
use Rattle.session_show.specs.Carried.{wanted_text}
use Rattle.session_show.proofs.Carrying.{unwanted, is_wanted, skipped, put_so}
use Rattle.session_show.proofs.put_wanted.Goals as goal

pub returns-then-only-row : goal.returns-then-only-row
unfolding wanted_text
returns-then-only-row c =
    let a = c.args in
    skipped a.out.now a.at _ (wanted a.only a.done.row.n) (unwanted a.only a.done.row.n c.if-only-row.true)

pub returns : goal.returns
unfolding wanted_text block_of view
returns c =
    let put = c.put_entry in
    let a = c.args in
    put_so a.out.now a.at _ (wanted a.only a.done.row.n) put.result _ (is_wanted a.only a.done.row.n c.if-only-row.false)
    put.ensures
