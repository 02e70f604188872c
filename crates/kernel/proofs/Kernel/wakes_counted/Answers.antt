-- `Kernel::wakes_counted` is left_of: each return is one of the cases of WakesLeftCases. Assumes nothing.
use mathlib.Core.Path.{sym, ◌∙◌}
use Rattle.kernel.proofs.WakesLeftCases.{asked_unsound, asked_beyond, asked_missing, asked_count}
use Rattle.kernel.proofs.Kernel.wakes_counted.Goals as goal

pub returns-then-not-sound : goal.returns-then-not-sound
returns-then-not-sound c = asked_unsound c.args.self.now c.args.t.0 (sym c.sound.ensures ∙ c.if-not-sound.true)

pub returns-then-t : goal.returns-then-t
returns-then-t c = asked_beyond c.args.self.now c.args.t.0 (sym c.sound.ensures ∙ c.if-not-sound.false) c.if-t.true

pub returns-then-of_task-eq0 : goal.returns-then-of_task-eq0
returns-then-of_task-eq0 c =
    asked_missing c.args.self.now c.args.t.0 (sym c.sound.ensures ∙ c.if-not-sound.false) c.if-t.false (sym c.of_task.ensures ∙ c.if-of_task-eq0.true)

pub returns : goal.returns
returns c =
    rw (c.due_count.ensures, c.time_of.ensures, c.lead_task.ensures)
    (asked_count c.args.self.now c.args.t.0 (sym c.sound.ensures ∙ c.if-not-sound.false) c.if-t.false (λ z. c.if-of_task-eq0.false (c.of_task.ensures ∙ z)))
