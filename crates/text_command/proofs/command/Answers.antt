-- `text_command::command` meets its contract: a line too long, or its word and its operands in order. Assumes nothing.
use native.Mathlib.Omega.{arith}
use mathlib.Core.Path.{sym, ◌∙◌}
use lib.ListN.{drop}
use lib.Seq.{length-take-le}
use Rattle.text.proofs.Scan.{place_within}
use Rattle.text.proofs.Parts.{too_long}
use Rattle.text_command.proofs.Reading.{read_bound, unless_bound, line_read}
use Rattle.text_command.proofs.command.Goals as goal

pub returns-then-line-gt-LINE_MOST : goal.returns-then-line-gt-LINE_MOST
returns-then-line-gt-LINE_MOST c = c.no_command.ensures ∙ too_long c.args.line.now c.if-line-gt-LINE_MOST.true

pub slice_bounds-op_of-end : goal.slice_bounds-op_of-end
slice_bounds-op_of-end c = sym (length-take-le _ _ (place_within 32 _ 0 _ c.find-end.ensures (omega arith)))

pub take_unless-a-requires : goal.take_unless-a-requires
take_unless-a-requires c =
    let end = c.find-end in
    omega (arith, place_within 32 _ 0 end.result end.ensures (omega arith))

pub overflow_cast-result : goal.overflow_cast-result
overflow_cast-result c =
    let at_a = c in
    let at_end = at_a in
    let line = at_end.args.line.now in
    let a = at_a.take_unless-a in
    omega (
      arith,
      unless_bound line a.result at_a.omits_a.result at_a.takes_a.result 255 (drop at_end.find-end.result line) a.ensures,
    )

pub overflow_cast-result-then-op-a : goal.overflow_cast-result-then-op-a
overflow_cast-result-then-op-a c =
    let at_b = c in
    let at_a = at_b in
    let line = at_a.args.line.now in
    let b = at_b.take_operand-b in
    omega (arith, read_bound line b.result at_b.takes_b.result 255 (drop at_a.take_unless-a.result.next line) b.ensures)

pub returns-then-op-a : goal.returns-then-op-a
returns-then-op-a c =
    let at-v = c in
    let at_b = at-v in
    let at_a = at_b in
    let at_op = at_a in
    let at_end = at_op in
    rw c.if-op-a.true at
    (line_read at_end.args.line.now
    at_end.find-end.result at_op.op_of-op.result at_a.omits_a.result at_a.takes_a.result at_b.takes_b.result
    at-v.takes_value.result at_a.take_unless-a.result at_b.take_operand-b.result at-v.take_operand-v.result
    at_end.if-line-gt-LINE_MOST.false at_end.find-end.ensures at_op.op_of-op.ensures at_a.omits_a.ensures at_a.takes_a.ensures
    at_b.takes_b.ensures at-v.takes_value.ensures
    at_a.take_unless-a.ensures at_b.take_operand-b.ensures at-v.take_operand-v.ensures)

pub returns : goal.returns
returns c =
    let at-v = c in
    let at_b = at-v in
    let at_a = at_b in
    let at_op = at_a in
    let at_end = at_op in
    c.no_command-2.ensures ∙ rw c.if-op-a.false at
    (line_read at_end.args.line.now
    at_end.find-end.result at_op.op_of-op.result at_a.omits_a.result at_a.takes_a.result at_b.takes_b.result
    at-v.takes_value.result at_a.take_unless-a.result at_b.take_operand-b.result at-v.take_operand-v.result
    at_end.if-line-gt-LINE_MOST.false at_end.find-end.ensures at_op.op_of-op.ensures at_a.omits_a.ensures at_a.takes_a.ensures
    at_b.takes_b.ensures at-v.takes_value.ensures
    at_a.take_unless-a.ensures at_b.take_operand-b.ensures at-v.take_operand-v.ensures)
