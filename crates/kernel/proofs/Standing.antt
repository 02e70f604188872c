-- Where a task stands: how often, told by the tables; the mark that the test gives it; and what the one says of the other. Assumes nothing.
use Prim.Native.Nat.{ℕ, ◌+◌, ◌≤◌, ◌<◌}
use native.Mathlib.Omega.{arith}
use mathlib.Core.Path.{◌≡◌, ap, ◌∙◌}
use mathlib.Core.Logic.{◌≢◌}
use mathlib.Core.List.{List}
use lib.ListN.{length, replicate, length-replicate}
use lib.Dec.{eqb}
use borrow.Author.Tests.{ne_eqb}
use Rattle.rules.specs.Line.{at, count, one_if}
use Rattle.rules.specs.Sound.{standings}
use Rattle.rules.proofs.Words.{All}
use Rattle.rules.proofs.Lists.{count_snoc}
use Rattle.kernel_line.specs.Tables.{no_task}
use Rattle.kernel_marks.specs.Marks.{marks}
use Rattle.kernel.specs.declared.Kernel.{Kernel}
use Rattle.kernel.specs.View.{live, view}
use Rattle.kernel_sound.specs.Test as table
use Rattle.kernel.specs.Test.{places_of}
use Rattle.kernel.proofs.Padded.{free_at, tasks_timed}
use Rattle.kernel.proofs.Reading.{idle_last, live_real, real_none, wait_count, wait_idle}
use Rattle.kernel.proofs.Marks as M
use Rattle.kernel.proofs.Marks.{Spot, spot, line_marks, waiter_marks, tally}

module _ (k : Kernel) where
  -- the tasks of the two lines; how often a task stands, told by the tables; and where the marks put it
  abbrev pub ready_line : List ℕ
  ready_line = live k.ready

  abbrev pub delay_line : List ℕ
  delay_line = live k.delayed

  abbrev pub in_all : ℕ → ℕ
  in_all t = count t ready_line + count t delay_line + count t k.waiter

  abbrev pub SpotOf : ℕ → Type 0
  SpotOf t = Spot (count t ready_line) (count t delay_line) (count t k.waiter) (at (places_of k) t)

  pub stand_count : (t : ℕ) → t ≢ 0 → standings (view k) t ≡ in_all t
  unfolding view
  stand_count t n =
      let z : one_if (eqb t 0) ≡ 0 = rw (ne_eqb t 0 n) in
      rw (idle_last k.ready, tasks_timed k.until delay_line) (omega (arith, count_snoc t ready_line 0, wait_count t n k.waiter))

  pub stand_idle : standings (view k) 0 ≡ 1
  unfolding view
  stand_idle =
      let r = real_none ready_line (live_real k.ready) in
      let d = real_none delay_line (live_real k.delayed) in
      rw (idle_last k.ready, tasks_timed k.until delay_line) (omega (arith, count_snoc 0 ready_line 0, r, d, wait_idle k.waiter))

-- Where the marks put a task.
module _ (k : Kernel) (ra : All (λ x. x < 32) (ready_line k)) (da : All (λ x. x < 32) (delay_line k)) (wa : All (λ x. x < 32) k.waiter) where
  s0 : List ℕ
  s0 = replicate 32 0

  s1 : List ℕ
  s1 = marks no_task 1 k.ready s0

  s2 : List ℕ
  s2 = marks no_task 2 k.delayed s1

  ready_marks : (length s1 ≡ 32) × ((t : ℕ) → at s1 t ≡ tally 1 (at s0 t) (count t (live k.ready)))
  unfolding s0 s1
  ready_marks = line_marks 1 k.ready (replicate 32 0) ra (length-replicate {A = ℕ} 32 0)

  delay_marks : (length s2 ≡ 32) × ((t : ℕ) → at s2 t ≡ tally 2 (at s1 t) (count t (live k.delayed)))
  unfolding s2
  delay_marks = line_marks 2 k.delayed s1 da ready_marks.0

  first_mark : (t : ℕ) → at s2 t ≡ tally 2 (tally 1 0 (count t (ready_line k))) (count t (delay_line k))
  unfolding s0
  first_mark t =
      let e = ready_marks.1 t ∙ ap (λ (v : ℕ). tally 1 v (count t (ready_line k))) (free_at 32 t) in
      delay_marks.1 t ∙ ap (λ (v : ℕ). tally 2 v (count t (delay_line k))) e

  idle_mark : at s2 0 ≡ 0
  unfolding tally
  idle_mark = first_mark 0 ∙ rw (real_none (live k.ready) (live_real k.ready), real_none (live k.delayed) (live_real k.delayed))

  all_marks : (length (places_of k) ≡ 32) × (at (places_of k) 0 ≡ 0) × ((t : ℕ) → t ≢ 0 → at (places_of k) t ≡ tally 3 (at s2 t) (count t k.waiter))
  unfolding table.places s0 s1 s2
  all_marks = waiter_marks 3 k.waiter s2 wa delay_marks.0 idle_mark

  pub mark_of : (t : ℕ) → t ≢ 0 → SpotOf k t
  mark_of t n =
      let r = count t (ready_line k) in
      let d = count t (delay_line k) in
      let w = count t k.waiter in
      let e : at (places_of k) t ≡ tally 3 (tally 2 (tally 1 0 r) d) w = all_marks.2 t n ∙ ap (λ (v : ℕ). tally 3 v w) (first_mark t) in
      rw e (spot r d w)

  pub mark_idle : at (places_of k) 0 ≡ 0
  mark_idle = all_marks.1

-- What a mark says of the counts, and they of it.
module _ {a b c p : ℕ} where
  pub spot_none : Spot a b c p → a + b + c ≡ 0 → p ≡ 0
  spot_none (M.nowhere u v w e) h = e
  spot_none (M.ready u v w e) h = absurd (omega arith)
  spot_none (M.delayed u v w e) h = absurd (omega arith)
  spot_none (M.waits u v w e) h = absurd (omega arith)
  spot_none (M.many u e) h = absurd (omega arith)

  pub spot_zero : Spot a b c p → p ≡ 0 → a + b + c ≡ 0
  spot_zero (M.nowhere u v w e) h = omega arith
  spot_zero (M.ready u v w e) h = absurd (omega arith)
  spot_zero (M.delayed u v w e) h = absurd (omega arith)
  spot_zero (M.waits u v w e) h = absurd (omega arith)
  spot_zero (M.many u e) h = absurd (omega arith)

  pub spot_low : Spot a b c p → a + b + c ≤ 1 → p ≤ 3
  spot_low (M.nowhere u v w e) h = omega arith
  spot_low (M.ready u v w e) h = omega arith
  spot_low (M.delayed u v w e) h = omega arith
  spot_low (M.waits u v w e) h = omega arith
  spot_low (M.many u e) h = absurd (omega arith)

  pub spot_ready : Spot a b c p → a + b + c ≤ 1 → 1 ≤ a → p ≡ 1
  spot_ready (M.nowhere u v w e) h l = absurd (omega arith)
  spot_ready (M.ready u v w e) h l = e
  spot_ready (M.delayed u v w e) h l = absurd (omega arith)
  spot_ready (M.waits u v w e) h l = absurd (omega arith)
  spot_ready (M.many u e) h l = absurd (omega arith)

  pub spot_delayed : Spot a b c p → a + b + c ≤ 1 → 1 ≤ b → p ≡ 2
  spot_delayed (M.nowhere u v w e) h l = absurd (omega arith)
  spot_delayed (M.ready u v w e) h l = absurd (omega arith)
  spot_delayed (M.delayed u v w e) h l = e
  spot_delayed (M.waits u v w e) h l = absurd (omega arith)
  spot_delayed (M.many u e) h l = absurd (omega arith)
