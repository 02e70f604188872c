-- `onward` in place meets its contract: its answer is the reader's of 16 bytes, and each way out is the definition's case (Exits). Assumes nothing.
-- (j: the run that is lent; going: it goes on; right: the 16 bytes have no fault.)
use mathlib.Core.Path.{◌≡◌, sym, ap, ◌∙◌}
use Rattle.std.specs.Prelude.{Ok}
use Rattle.kernel.specs.Step.{tables}
use Rattle.record.proofs.Faults.{bytes_fault, unmarked_fault}
use Rattle.judge_pieces.specs.declared.Run.{Run}
use Rattle.judge_pieces.specs.Onward.{run_of, answered}
use Rattle.judge_onward.proofs.Exits.{none_of, fault_is, onward_over, onward_refused, onward_header, onward_command, stepped}
use Rattle.judge_onward.proofs.onward.Goals as goal

pub returns-then-is_some : goal.returns-then-is_some
returns-then-is_some c =
    let a = c.args in
    let j : Run =
    run_of (tables a.base.now a.ready.now a.delayed.now a.held.now a.way.now
    a.until.now a.ceiling.now a.waiter.now a.clock.now a.started.now) a.h in
    onward_over j a.p.now (sym c.is_some.ensures ∙ c.if-is_some.true)

pub returns-then-not-is_marked : goal.returns-then-not-is_marked
returns-then-not-is_marked c =
    let a = c.args in
    let j : Run =
    run_of (tables a.base.now a.ready.now a.delayed.now a.held.now a.way.now
    a.until.now a.ceiling.now a.waiter.now a.clock.now a.started.now) a.h in
    let going = none_of c.is_some.ensures c.if-is_some.false in
    let wrong = unmarked_fault j.place a.p.now (sym c.is_marked.ensures ∙ c.if-not-is_marked.true) in
    rw (c.refused.ensures, c.number.ensures) (onward_refused j a.p.now going wrong)

pub returns-in-Err : goal.returns-in-Err
returns-in-Err c =
    let a = c.args in
    let j : Run =
    run_of (tables a.base.now a.ready.now a.delayed.now a.held.now a.way.now
    a.until.now a.ceiling.now a.waiter.now a.clock.now a.started.now) a.h in
    let going = none_of c.is_some.ensures c.if-is_some.false in
    let wrong = fault_is j.place a.p.now c.is_marked.ensures c.if-not-is_marked.false c.record_of-t.ensures c.fault.ensures c.in-Err.is in
    rw (c.refused-in-Err.ensures, c.number-in-Err.ensures, c.record_of-t.ensures) (onward_refused j a.p.now going wrong)

pub returns-then-place-eq0 : goal.returns-then-place-eq0
returns-then-place-eq0 c =
    let a = c.args in
    let j : Run =
    run_of (tables a.base.now a.ready.now a.delayed.now a.held.now a.way.now
    a.until.now a.ceiling.now a.waiter.now a.clock.now a.started.now) a.h in
    let going = none_of c.is_some.ensures c.if-is_some.false in
    let right : bytes_fault j.place a.p.now ≡ Ok tt =
    fault_is j.place a.p.now c.is_marked.ensures c.if-not-is_marked.false c.record_of-t.ensures c.fault.ensures c.in_default.is in
    rw (c.headed.ensures, c.record_of-t.ensures) (onward_header j a.p.now going right c.if-place-eq0.true)

pub returns : goal.returns
returns c =
    let a = c.args in
    let j : Run =
    run_of (tables a.base.now a.ready.now a.delayed.now a.held.now a.way.now
    a.until.now a.ceiling.now a.waiter.now a.clock.now a.started.now) a.h in
    let going = none_of c.is_some.ensures c.if-is_some.false in
    let right : bytes_fault j.place a.p.now ≡ Ok tt =
    fault_is j.place a.p.now c.is_marked.ensures c.if-not-is_marked.false c.record_of-t.ensures c.fault.ensures c.in_default.is in
    let d = c.command_of in
    let u = c.step_trusting-rules.ensures in
    let r = c.record_of-t in
    rw c.compared.ensures
    (stepped j r.result d.result _ _ _ d.ensures u.0 u.1 c.from.ensures
    ∙ ap (answered j) r.ensures
    ∙ onward_command j a.p.now going right c.if-place-eq0.false)
