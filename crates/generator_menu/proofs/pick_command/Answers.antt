-- `generator_menu::pick_command` meets its contract, by what its callees ensure of the tables; and the tables show the machine (Tied). Assumes nothing.
use mathlib.Core.Path.{◌≡◌}
use lib.ListN.{length}
use Rattle.generator_menu.proofs.Tied.{chosen_from}
use borrow.Author.Rules.{rules}
use Rattle.generator_menu.proofs.pick_command.Goals as goal

pub returns : goal.returns
returns c =
    let s = c in
    let a = s.args in
    -- a profile has eight weights
    let eight : length a.weights ≡ 8 = search rules in
    chosen_from a.base.now a.ready.now a.held.now a.way.now a.ceiling a.waiter a.clock a.span a.weights eight
    a.d1 a.d2 a.d3 _ _ _ _ _ _ _ _ _ _ _ _ _
    c.command_for.ensures
    c.needed-y.ensures
    c.barrier_below.ensures
    c.is_quiet-quiet.ensures
    c.object_for-object.ensures
    c.needed-x.ensures
    c.operand_below.ensures
    c.kind_for-i.ensures
    c.remainder.ensures
    c.sum.ensures
    c.wider.ensures.0
    c.worths-w.ensures
    c.look-s.ensures
