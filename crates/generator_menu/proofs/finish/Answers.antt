-- `generator_menu::finish` meets its contract, by what its callees ensure. A choice spends at most 8 draws, so that their sum fits a byte. Assumes nothing.
use native.Mathlib.Omega.{arith}
use Rattle.generator_menu.proofs.Tied.{few_spent_if_needed, finished_from}
use Rattle.generator_menu.proofs.finish.Goals as goal

pub overflow_add-result : goal.overflow_add-result
overflow_add-result c =
    let k = c in
    omega (
      arith,
      few_spent_if_needed k.operand_below.result k.args.seed k.choice_if_needed-operand.result
          k.choice_if_needed-operand.ensures,
    )

pub overflow_add-result-2 : goal.overflow_add-result-2
overflow_add-result-2 c =
    let k = c in
    let h = c in
    omega (
      arith,
      few_spent_if_needed k.operand_below.result k.args.seed k.choice_if_needed-operand.result k.choice_if_needed-operand.ensures,
      few_spent_if_needed h.barrier_below.result k.choice_if_needed-operand.result.seed h.choice_if_needed-barrier.result
          h.choice_if_needed-barrier.ensures,
    )

pub returns : goal.returns
returns c =
    let k = c in
    let a = k.args in
    finished_from a.held.now a.ceiling a.waiter a.clock a.span a.s a.i a.seed a.spent _ _ _ _ _ _ _
    k.command_for-command.ensures
    k.choice_if_needed-barrier.ensures
    k.barrier_below.ensures
    k.is_quiet-quiet.ensures
    k.object_for-object.ensures
    k.choice_if_needed-operand.ensures
    k.operand_below.ensures
