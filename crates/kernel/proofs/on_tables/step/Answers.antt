-- `step` in place is step_of on the tables: those that are not sound stay as they are, and of sound ones the step is
-- `step_trusting`, which is the rules' (Whole: step_meets). Assumes nothing.
use mathlib.Core.Path.{◌≡◌, sym, ap, ◌∙◌}
use mathlib.Core.Bool.{false}
use Rattle.rules.specs.Machine.{Command}
use Rattle.kernel.specs.declared.Kernel.{Kernel}
use Rattle.kernel.specs.declared.Stepped.{Stepped}
use Rattle.kernel.specs.Public.{to_rules, is_sound, step_of}
use Rattle.kernel.specs.Lent.{tables}
use Rattle.kernel.specs.Step.{refused}
use Rattle.kernel.proofs.Whole.{step_meets}
use Rattle.kernel.proofs.on_tables.step.Goals as goal

-- (k: the lent tables; asked: the command.)
pub returns-then-not-sound : goal.returns-then-not-sound
unfolding step_of
returns-then-not-sound c =
    let a = c.args in
    let k : Kernel =
    tables a.base.now a.ready.now a.delayed.now a.held.now a.way.now a.until.now a.ceiling.now a.waiter.now
    a.clock.now a.started.now in
    let asked : Command = to_rules a.c in
    let e : is_sound k ≡ false = sym c.sound.ensures ∙ c.if-not-sound.true in (
      (let q : k ≡ (step_of k asked).next = rw e in q),
      rw (c.refused.ensures, c.number.ensures) (let q : refused 1 0 ≡ (step_of k asked).answer = rw e in q),
    )

pub returns : goal.returns
returns c =
    let a = c.args in
    let k : Kernel =
    tables a.base.now a.ready.now a.delayed.now a.held.now a.way.now a.until.now a.ceiling.now a.waiter.now
    a.clock.now a.started.now in
    let asked : Command = to_rules a.c in
    let m = step_meets k asked (sym c.sound.ensures ∙ c.if-not-sound.false) in
    (c.step_trusting.ensures.0 ∙ ap (λ (s : Stepped). s.next) m, c.step_trusting.ensures.1 ∙ ap (λ (s : Stepped). s.answer) m)
