-- `step` in place is step_of: the kernel's step, and what is settled by its answer (Steps). Assumes nothing.
use mathlib.Core.Path.{sym, ap, ◌∙◌}
use Rattle.kernel.specs.Public.{to_rules}
use Rattle.kernel_state.specs.declared.Stepped.{Stepped}
use Rattle.kernel_state.proofs.Steps.{settles, step_unsound}
use Rattle.kernel_state.proofs.in_place.step.Goals as goal

pub returns-then-not-pending_sound : goal.returns-then-not-pending_sound
returns-then-not-pending_sound c =
    let s = c.args.s.now in
    let z = step_unsound s.kernel s.pending (to_rules c.args.c) (sym c.pending_sound.ensures ∙ c.if-not-pending_sound.true) in
    (ap (λ (r : Stepped). r.next) z, rw c.number.ensures (ap (λ (r : Stepped). r.answer) z))

pub returns : goal.returns
returns c =
    let s = c.args.s.now in
    let z = settles s.kernel s.pending (to_rules c.args.c) (sym c.pending_sound.ensures ∙ c.if-not-pending_sound.false) in
    rw
    (c.with_exception.ensures, c.settle-behind.ensures, c.step-said.ensures.0, c.step-said.ensures.1, c.whose.ensures, c.runner-closer.ensures)
    (ap (λ (r : Stepped). r.next) z, ap (λ (r : Stepped). r.answer) z)
