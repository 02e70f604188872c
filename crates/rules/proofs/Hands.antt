-- What a task holds: laws of the names by which it is asked (specs/Machine), and of a step that puts something else into the runner's hands.
-- Beside the sizes of the tables and the state before Start, this is the one file of proofs that knows the tables behind the names. Assumes nothing.
use Prim.Native.Nat.{ℕ, ◌+◌, ◌≤◌, ◌<◌}
use native.Mathlib.Omega.{arith}
use mathlib.Core.Path.{◌≡◌, refl, ◌∙◌}
use mathlib.Core.Logic.{◌≢◌, ◌⊎◌}
use lib.Dec.{eqb}
use lib.ListN.{length, length-set, get_or-eq_default}
use lib.Seq.{get_or-set_other, get_or-set_same}
use borrow.Author.Tests.{ne_eqb}
use Rattle.rules.specs.Line.{at, one_if}
use Rattle.rules.specs.Machine.{Machine, task_count, last_opened, way_held, holders, active, runner}
use Rattle.rules.specs.Table.{with_hand}
use Rattle.rules.proofs.Words.{All, Free, Holding}
use Rattle.rules.proofs.Lists.{all_at, count_set, eq_or_ne}

module _ (m : Machine) where
  -- Active priority, of one that holds nothing and of one that holds an object.
  pub act_free : (t : ℕ) → Free m t → active m t ≡ at m.base t
  act_free t e = rw e

  pub act_held : (t : ℕ) → Holding m t → active m t ≡ at m.ceiling (last_opened m t)
  act_held t n = rw (ne_eqb (last_opened m t) 0 n)

  pub free_or_holding : (t : ℕ) → Free m t ⊎ Holding m t
  free_or_holding t = eq_or_ne (last_opened m t) 0

  -- who is no task holds nothing; where all is free, everyone holds nothing
  pub past_free : length m.held ≡ task_count → (t : ℕ) → task_count ≤ t → Free m t
  past_free size t h = get_or-eq_default m.held 0 {n = t} (omega arith)

  pub all_free : All (λ o. o ≡ 0) m.held → (t : ℕ) → Free m t
  all_free h t = all_at (λ o. o ≡ 0) m.held t 0 refl h

-- The runner with something else in its hands: it holds that; the others hold what they held, and keep their active priorities.
module _ (m : Machine) (v w : ℕ) where
  pub held_sized : length m.held ≡ task_count → length (with_hand m v w).held ≡ task_count
  held_sized size = length-set m.held (runner m) v ∙ size

  pub way_sized : length m.way ≡ task_count → length (with_hand m v w).way ≡ task_count
  way_sized size = length-set m.way (runner m) w ∙ size

  pub in_hand : length m.held ≡ task_count → runner m < task_count → last_opened (with_hand m v w) (runner m) ≡ v
  in_hand size h = get_or-set_same m.held (runner m) v 0 (omega arith)

  pub in_that_way : length m.way ≡ task_count → runner m < task_count → way_held (with_hand m v w) (runner m) ≡ w
  in_that_way size h = get_or-set_same m.way (runner m) w 0 (omega arith)

  pub other_hand : (t : ℕ) → t ≢ runner m → last_opened (with_hand m v w) t ≡ last_opened m t
  other_hand t n = get_or-set_other m.held (runner m) t v 0 n

  pub other_way : (t : ℕ) → t ≢ runner m → way_held (with_hand m v w) t ≡ way_held m t
  other_way t n = get_or-set_other m.way (runner m) t w 0 n

  pub other_active : (t : ℕ) → t ≢ runner m → active (with_hand m v w) t ≡ active m t
  other_active t n = rw (other_hand t n)

  pub one_holder_more : (o : ℕ) → holders (with_hand m v w) o ≤ one_if (eqb o v) + holders m o
  one_holder_more o = count_set o m.held (runner m) v
