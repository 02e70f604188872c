-- `Judge::feed` meets its contract: a piece too short for a record is held; else the record that was begun is whole and is judged alone, and
-- then the rest of the piece (Bytewise). Assumes nothing.
use mathlib.Core.Path.{◌≡◌, ◌∙◌}
use lib.ListN.{length}
use Rattle.judging.proofs.Bytewise.{feed_short, feed_whole}
use borrow.Author.Rules.{rules}
use Rattle.judging.proofs.Judge.feed.Goals as goal

pub returns-then-piece-wanted : goal.returns-then-piece-wanted
returns-then-piece-wanted c =
    let a = c.args in
    let size : length a.self.held ≡ 16 = search rules in
    let n = c.held_count-n in
    let t = c.together-first in
    feed_short a.self a.piece.now n.result n.ensures size t.result t.ensures c.if-piece-wanted.true

pub returns : goal.returns
returns c =
    let a = c.args in
    let size : length a.self.held ≡ 16 = search rules in
    let n = c.held_count-n in
    let t = c.together-first in
    let w = c.records-whole in
    c.through.ensures
    ∙ feed_whole a.self a.piece.now n.result n.ensures size t.result t.ensures
    w.result w.ensures c.if-piece-wanted.false
