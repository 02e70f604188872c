-- What the code's test of a saved state finds out, as statements. Assumes nothing.
use Prim.Native.Nat.{ℕ, ◌≤◌, ◌<◌, ◌^◌}
use native.Mathlib.Omega.{arith}
use mathlib.Core.Path.{◌≡◌, refl, sym, ◌∙◌}
use mathlib.Core.Logic.{◌≢◌}
use mathlib.Core.Bool.{true}
use lib.ListN.{replicate}
use Rattle.rules.specs.Line.{at}
use Rattle.rules.proofs.Words.{All}
use Rattle.rules.proofs.Tests.{Tests, tests_is, tests_le, tests_lt, tests_eq, tests_ne, tests_map, ◌also◌, tests_or, tests_every, tests_all_below}
use Rattle.kernel_line.specs.Tables.{level}
use Rattle.kernel_order.specs.Order.{ended}
use Rattle.kernel.specs.declared.Kernel.{Kernel}
use Rattle.kernel.specs.View.{live}
use Rattle.kernel_cells.specs.Cells.{task_fits, tasks_fit, times_fit, object_fits, objects_fit}
use Rattle.kernel_sound.specs.Test.{is_calm}
use Rattle.kernel_sound.specs.Test as table
use Rattle.kernel.specs.Test.{places_of, test_of}
use Rattle.kernel.proofs.Padded.{free_at}
use Rattle.kernel.proofs.Round.{Sizes}
use Rattle.kernel.proofs.Marks.{Ord, tests_ordered, Held, tests_holders}

-- What the types of the tables say.
pub record Fits (k : Kernel) : Type 0 where
  pub sizes : Sizes k
  pub clock : k.clock < 2 ^ 64
  pub times : (t : ℕ) → at k.until t < 2 ^ 64

-- What the test finds out: of a task, of an object, before Start, and of the whole state.
abbrev pub Task : Kernel → ℕ → Type 0
Task k t = record {
  base_low : at k.base t ≤ 15;
  place_low : at (places_of k) t ≤ 3;
  way_low : at k.way t ≤ 2;
  stands : ((at k.base t ≡ 0) × (at (places_of k) t ≡ 0) → ⊥) → (at k.base t ≢ 0) × (at (places_of k) t ≢ 0);
  hands : ((at k.held t ≡ 0) × (at k.way t ≡ 0) → ⊥) → ((at k.held t ≢ 0) × (at k.way t ≢ 0)) × (at (places_of k) t ≡ 1);
}

tests_task : (k : Kernel) (t : ℕ) → Tests (task_fits (at k.base t) (at (places_of k) t) (at k.held t) (at k.way t)) (Task k t)
tests_task k t =
    tests_map (λ ((((b, p), w), s), h). record { base_low = b; place_low = p; way_low = w; stands = s; hands = h })
    (λ z. ((((z.base_low, z.place_low), z.way_low), z.stands), z.hands))
    (tests_le _ 15
    also tests_le _ 3
    also tests_le _ 2
    also tests_or (tests_eq _ 0 also tests_eq _ 0) (tests_ne _ 0 also tests_ne _ 0)
    also tests_or (tests_eq _ 0 also tests_eq _ 0) (tests_ne _ 0 also tests_ne _ 0 also tests_eq _ 1))

abbrev pub Object : Kernel → ℕ → Type 0
Object k o = record {
  null : (o ≢ 0 → ⊥) → at k.ceiling o ≡ 0;
  ceiling_low : at k.ceiling o ≤ 15;
  waiter : at k.waiter o ≢ 0 → (at k.waiter o < 32) × ((at k.ceiling o ≢ 0) × (at k.base (at k.waiter o) ≤ at k.ceiling o));
}

tests_object : (k : Kernel) (o : ℕ) → Tests (object_fits o (at k.ceiling o) (at k.waiter o) (at k.base (at k.waiter o))) (Object k o)
tests_object k o =
    tests_map (λ ((n, c), w). record { null = n; ceiling_low = c; waiter = w }) (λ z. ((z.null, z.ceiling_low), z.waiter))
    (tests_or (tests_ne o 0) (tests_eq _ 0)
    also tests_le _ 15
    also tests_or (tests_eq _ 0) (tests_lt _ 32 also (tests_ne _ 0 also tests_le _ _)))

abbrev pub Quiet : Kernel → Type 0
Quiet k = record {
  clock_zero : k.clock ≡ 0;
  none_delayed : at k.delayed 0 ≡ 0;
  none_wait : All (λ x. x ≡ 0) k.waiter;
  none_hold : All (λ x. x ≡ 0) k.held;
}

tests_quiet : (k : Kernel) → Tests (is_calm k.started k.clock (at k.delayed 0) k.waiter k.held) (k.started ≢ true → Quiet k)
tests_quiet k =
    tests_or (tests_is k.started)
    (tests_map (λ (((c, d), w), h). record { clock_zero = c; none_delayed = d; none_wait = w; none_hold = h })
    (λ z. (((z.clock_zero, z.none_delayed), z.none_wait), z.none_hold))
    (tests_eq _ 0
    also tests_eq _ 0
    also tests_every (λ x. tests_eq x 0) k.waiter
    also tests_every (λ x. tests_eq x 0) k.held))

pub record Passed (k : Kernel) : Type 0 where
  pub ready_ended : ended k.ready ≡ true
  pub delayed_ended : ended k.delayed ≡ true
  pub falls : Ord (λ a b. b ≤ a) (level k.base k.ceiling k.held) 15 (live k.ready)
  pub rises : Ord (λ a b. a ≤ b) (at k.until) 0 (live k.delayed)
  pub tasks : (t : ℕ) → t < 32 → Task k t
  pub timed : (t : ℕ) → t < 32 → at k.until t ≢ 0 → at (places_of k) t ≡ 2
  pub holders : Held k.ceiling (replicate 8 0) k.base k.held
  pub objects : (o : ℕ) → o < 8 → Object k o
  pub quiet : k.started ≢ true → Quiet k

pub tests_passed : (k : Kernel) → Sizes k → Tests (test_of k) (Passed k)
unfolding table.test_of tasks_fit times_fit objects_fit
tests_passed k z =
    tests_map
    (λ ((((((((re, de), f), r), ta), ti), h), o), q).
    record { ready_ended = re; delayed_ended = de; falls = f; rises = r; tasks = ta; timed = ti; holders = h; objects = o; quiet = q })
    (λ p. ((((((((p.ready_ended, p.delayed_ended), p.falls), p.rises), p.tasks), p.timed), p.holders), p.objects), p.quiet))
    (tests_is (ended k.ready)
    also tests_is (ended k.delayed)
    also tests_ordered (λ a b. b ≤ a) (λ a b. tests_le b a) (level k.base k.ceiling k.held) 15 k.ready
    also tests_ordered (λ a b. a ≤ b) (λ a b. tests_le a b) (at k.until) 0 k.delayed
    also tests_all_below (tests_task k) 32
    also tests_all_below (λ t. tests_or (tests_eq (at k.until t) 0) (tests_eq (at (places_of k) t) 2)) 32
    also tests_holders k.ceiling k.base k.held (replicate 8 0) (z.base ∙ sym z.held) refl (λ o. omega (arith, free_at 8 o))
    also tests_all_below (tests_object k) 8
    also tests_quiet k)
