-- The answers to "Wakes left", case by case as the code gives them. Assumes nothing.
use Prim.Native.Nat.{ℕ, ◌≤◌}
use native.Mathlib.Omega.{arith}
use mathlib.Core.Path.{◌≡◌, refl, sym, ap, ◌∙◌}
use mathlib.Core.Logic.{◌≢◌}
use mathlib.Core.Bool.{true, false, not, ◌||◌}
use lib.Dec.{eqb, ltb}
use borrow.Author.Tests.{ne_eqb, eqb-false, ltb-false}
use Rattle.std.proofs.lemmas.Bool.Decides.{nat_tests}
use Rattle.rules.specs.Line.{at, within}
use Rattle.rules.proofs.Tests.{both_false}
use Rattle.rules.specs.Run.{question, wakes_left}
use Rattle.kernel_line.specs.Tables.{lead, time_in}
use Rattle.kernel.specs.declared.Kernel.{Kernel}
use Rattle.kernel.specs.declared.Left.{Left}
use Rattle.kernel.specs.View.{view}
use Rattle.kernel.specs.Public.{is_sound, left_of}
use Rattle.kernel.specs.Step.{due_count}
use Rattle.kernel.proofs.Written.{stands}
use Rattle.kernel.proofs.WakesLeft.{left_tie}

abbrev pub left : ℕ → ℕ → Left
left n r = record { code = n; left = r }

pub asked_unsound : (k : Kernel) (t : ℕ) → is_sound k ≡ false → left 1 0 ≡ left_of k t
unfolding left_of
asked_unsound k t e = rw e

-- what the code asks of the number of a task, and the rules
beyond : (t : ℕ) → (eqb t 0 || ltb 31 t) ≡ not (within 1 31 t)
beyond t = grind (arith, nat_tests)

module _ (k : Kernel) (t : ℕ) (s : is_sound k ≡ true) where
  pub asked_beyond : (eqb t 0 || ltb 31 t) ≡ true → left 4 0 ≡ left_of k t
  unfolding left_of question
  asked_beyond e = rw (s, ← beyond t, e)

  module _ (e : (eqb t 0 || ltb 31 t) ≡ false) where
    lo : t ≢ 0
    lo = eqb-false t 0 (both_false (eqb t 0) (ltb 31 t) e).0

    hi : t ≤ 31
    hi = ltb-false 31 t (both_false (eqb t 0) (ltb 31 t) e).1

    pub asked_missing : at k.base t ≡ 0 → left 6 0 ≡ left_of k t
    unfolding left_of question view
    asked_missing q = rw (s, ← beyond t, e, ne_eqb t 0 lo, q)

    counts : due_count (lead (eqb t) k.delayed) (time_in k.until t) k.clock ≡ wakes_left (view k) t
    counts =
        ap (λ (j : Kernel). due_count (lead (eqb t) j.delayed) (time_in j.until t) j.clock) (sym (stands k s).written)
        ∙ left_tie (view k) (stands k s).machine t (omega (arith, lo)) (omega (arith, hi))

    base_of : at (view k).base t ≡ at k.base t
    unfolding view
    base_of = refl

    pub asked_count : at k.base t ≢ 0 → left 0 (due_count (lead (eqb t) k.delayed) (time_in k.until t) k.clock) ≡ left_of k t
    unfolding left_of question
    asked_count n = rw (s, ← beyond t, e, ne_eqb t 0 lo, base_of, ne_eqb (at k.base t) 0 n, ← counts)
