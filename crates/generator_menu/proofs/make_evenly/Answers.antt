-- `generator_menu::make_evenly` meets its contract, by what its callees ensure of the tables; and the tables show the machine (Tied). Assumes nothing.
use mathlib.Core.Path.{◌≡◌}
use lib.ListN.{length}
use Rattle.generator_menu.proofs.Tied.{few_spent, evenly_from}
use borrow.Author.Rules.{rules}
use Rattle.generator_menu.proofs.make_evenly.Goals as goal

pub finish-requires : goal.finish-requires
finish-requires c =
    let k = c in
    few_spent k.sum.result k.args.seed k.choice_from-kind.result k.choice_from-kind.ensures

pub returns : goal.returns
returns c =
    let s = c in
    let a = s.args in
    -- a profile has eight weights
    let eight : length a.weights ≡ 8 = search rules in
    evenly_from a.base.now a.ready.now a.held.now a.way.now a.ceiling a.waiter a.clock a.span a.weights eight
    a.seed _ _ _ _ _ _ _
    c.finish.ensures
    c.kind_for-i.ensures
    c.wider.ensures.0
    c.choice_from-kind.ensures
    c.sum.ensures
    c.worths-w.ensures
    c.look-s.ensures
