-- `text_command::stands_at` meets its contract: another first byte is another word, and else all bytes are compared. Assumes nothing.
use native.Mathlib.Omega.{arith}
use mathlib.Core.Path.{ap, sym, ◌∙◌}
use Rattle.text.specs.Words.{same}
use Rattle.text.proofs.Scan.{place_within, word_part}
use Rattle.text_command.proofs.Reading.{other_first}
use Rattle.text_command.proofs.stands_at.Goals as goal

pub returns-then-words-at : goal.returns-then-words-at
returns-then-words-at c =
    let s = c in
    let a = s.args in
    other_first a.words.now a.word.now a.at s.requires.1 (λ e. c.if-words-at.true (e ∙ sym s.requires.0))

pub slice_bounds-same_bytes-end : goal.slice_bounds-same_bytes-end
slice_bounds-same_bytes-end c =
    let a = c in
    omega (arith, place_within 32 a.args.words.now a.args.at c.find-end.result c.find-end.ensures (omega arith))

pub returns : goal.returns
returns c =
    let t = c in
    let a = t.args in
    c.same_bytes.ensures ∙ ap (same a.word.now) (word_part 32 a.words.now a.at t.find-end.result t.find-end.ensures)
