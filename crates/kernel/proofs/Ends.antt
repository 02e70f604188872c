-- The two ends of a step on tables: refused, with the number that the code found; or accepted, and carried out. Assumes nothing.
use Prim.Native.Nat.{ℕ}
use mathlib.Core.Path.{◌≡◌, refl, ◌∙◌}
use mathlib.Core.Logic.{◌≢◌}
use borrow.Author.Tests.{eq-eqb, ne_eqb}
use Rattle.rules.specs.declared.Kind.{Kind}
use Rattle.rules.specs.declared.Kind.TheVariants.{NoKind, Creating, Declaring, Starting, Delaying, Waking, Advancing, Opening, Entering, Ending}
use Rattle.rules.specs.Machine.{Machine, Command}
use Rattle.rules.specs.Kinds.{kind}
use Rattle.rules.specs.Refusals.{refusal}
use Rattle.kernel_checks.specs.Shown.{shown, refusal_as}
use Rattle.kernel.specs.declared.Kernel.{Kernel}
use Rattle.kernel.specs.View.{view}
use Rattle.kernel.specs.Public.{running_of}
use Rattle.kernel.specs.Step.{refused, carried_as, stepped_of}

-- what the checks are shown of the tables
abbrev pub shown_of : Kernel → Machine
shown_of k = shown k.base k.ready k.held k.way k.ceiling k.waiter k.clock k.started

-- No check looks at the delay line, so what is shown is as good as the whole machine.
same_checks : (j : Kind) (k : Kernel) (c : Command) → refusal_as j (shown_of k) c ≡ refusal_as j (view k) c
unfolding view refusal_as
same_checks NoKind k c = refl
same_checks Creating k c = refl
same_checks Declaring k c = refl
same_checks Starting k c = refl
same_checks Delaying k c = refl
same_checks Waking k c = refl
same_checks Advancing k c = refl
same_checks Opening k c = refl
same_checks Entering k c = refl
same_checks (Ending e) k c = refl

whole : (k : Kernel) (c : Command) → refusal_as (kind c) (view k) c ≡ refusal (view k) c
unfolding refusal refusal_as
whole k c = refl

module _ (k : Kernel) (c : Command) (n : ℕ) (e : n ≡ refusal_as (kind c) (shown_of k) c) where
  found : n ≡ refusal (view k) c
  found = e ∙ same_checks (kind c) k c ∙ whole k c

  pub refused_end : n ≢ 0 → record { next = k; answer = refused n (running_of k) } ≡ stepped_of k c
  unfolding stepped_of
  refused_end h = rw (← found, ne_eqb n 0 h)

  pub accepted_end : n ≡ 0 → carried_as (kind c) k c ≡ stepped_of k c
  unfolding stepped_of
  accepted_end h = rw (← found, eq-eqb n 0 h)
