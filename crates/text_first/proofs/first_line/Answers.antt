-- `text_first::first_line` meets its contract: 14, the judgement, or the line, each by the tests on the way. Assumes nothing.
use native.Mathlib.Omega.{arith}
use mathlib.Core.Path.{◌∙◌}
use borrow.Author.Tests.{eq-eqb, ne_eqb}
use Rattle.text.proofs.Scan.{place_within}
use Rattle.text_first.proofs.Opening.{first_read}
use Rattle.text_first.proofs.first_line.Goals as goal

pub read_settings-rest-requires : goal.read_settings-rest-requires
read_settings-rest-requires c =
    let text = c.next_text-s in
    omega (arith, place_within 32 _ text.result.next c.find-end.result c.find-end.ensures text.ensures.within)

pub slice_bounds-seed_text-end : goal.slice_bounds-seed_text-end
slice_bounds-seed_text-end c =
    let text = c.next_text-s in
    let end = c.find-end in
    omega (arith, place_within 32 _ text.result.next end.result end.ensures text.ensures.within)

pub returns-then-not-line-s : goal.returns-then-not-line-s
returns-then-not-line-s c =
    let at-seed = c in
    let text = at-seed.next_text-s in
    let end = at-seed.find-end in
    let rest = at-seed.read_settings-rest in
    let line = at-seed.args.line.now in
    c.refuse.ensures ∙ rw c.if-not-line-s.true at
    (first_read line text.result end.result rest.result at-seed.seed_text-seed.result
    text.ensures end.ensures rest.ensures at-seed.seed_text-seed.ensures)

pub returns-then-code-ne0 : goal.returns-then-code-ne0
returns-then-code-ne0 c =
    let at-seed = c in
    let text = at-seed.next_text-s in
    let end = at-seed.find-end in
    let rest = at-seed.read_settings-rest in
    let line = at-seed.args.line.now in
    c.refuse-then-code-ne0.ensures ∙ rw (
      c.if-not-line-s.false,
      ← c.is_good.ensures,
      ← c.judge-code.ensures,
      ne_eqb c.judge-code.result 0 c.if-code-ne0.true,
    ) at
    (first_read line text.result end.result rest.result at-seed.seed_text-seed.result
    text.ensures end.ensures rest.ensures at-seed.seed_text-seed.ensures)

pub returns : goal.returns
returns c =
    let at-seed = c in
    let text = at-seed.next_text-s in
    let end = at-seed.find-end in
    let rest = at-seed.read_settings-rest in
    let line = at-seed.args.line.now in
    rw (
      c.if-not-line-s.false,
      ← c.is_good.ensures,
      ← c.judge-code.ensures,
      eq-eqb c.judge-code.result 0 c.if-code-ne0.false,
    ) at
    (first_read line text.result end.result rest.result at-seed.seed_text-seed.result
    text.ensures end.ensures rest.ensures at-seed.seed_text-seed.ensures)
