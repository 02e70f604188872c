-- `text_first::read_settings` meets its contract: part behind part. Assumes nothing.
use native.Mathlib.Omega.{arith}
use lib.ListN.{drop}
use Rattle.text.specs.FirstLine.{word_most}
use Rattle.text_first.proofs.Opening.{settings_read, value_bound}
use Rattle.text_first.proofs.read_settings.Goals as goal

pub overflow_cast-result : goal.overflow_cast-result
overflow_cast-result c =
    let at-span = c in
    let line = at-span.args.line.now in
    let span = at-span.next_decimal-span in
    omega (arith, value_bound line span.result word_most (drop at-span.next_text-s.result.next line) span.ensures)

pub overflow_cast-result-2 : goal.overflow_cast-result-2
overflow_cast-result-2 c =
    let at_count = c in
    let line = at_count.args.line.now in
    let count = at_count.next_decimal-count in
    omega (arith, value_bound line count.result 100000 (drop at_count.next_text-k.result.next line) count.ensures)

pub returns : goal.returns
returns c =
    let at_count = c in
    let at-eight = at_count in
    let at-span = at-eight in
    let a = at-span.args in
    let s = at-span.next_text-s in
    let span = at-span.next_decimal-span in
    let w = at-eight.next_text-w in
    let eight = at-eight.next_eight-eight in
    let k = at_count.next_text-k in
    let count = at_count.next_decimal-count in
    settings_read a.line.now (drop a.at a.line.now)
    s.result span.result w.result eight.result k.result count.result
    s.ensures span.ensures w.ensures eight.ensures k.ensures count.ensures
