-- What a sound state is, as statements; that the test says just that; and what follows at once: where a task stands, and that lines are short.
-- Assumes nothing.
use Prim.Native.Nat.{ℕ, ◌+◌, ◌≤◌, ◌<◌, ◌^◌}
use native.Mathlib.Omega.{arith}
use mathlib.Core.Path.{◌≡◌, refl, sym, ap, ◌∙◌}
use mathlib.Core.Logic.{◌≢◌, ⊎_elim}
use mathlib.Core.Bool.{Bool, true, false, not, ◌||◌, true≢false}
use mathlib.Core.List.{List, [], ◌∷◌}
use lib.Dec.{eqb}
use lib.ListN.{get_or, length, get_or-eq_default}
use borrow.Author.Tests.{eqb-true, eqb-false, ne_eqb}
use Rattle.rules.specs.Line.{at, behind_front, empty, every, all_of, count, one_if}
use Rattle.rules.specs.Machine.{Machine, active, tasks, created, runner, task_count, object_count, top_base, top_ceiling, most_waiters}
use Rattle.rules.specs.Machine.{last_opened, way_held, holders, nobody_holds}
use Rattle.rules.specs.Sound.{standings, waits, tasks_only, admits, sound, tables_sized, in_time, idle_ready, stand_once, in_order, in_range}
use Rattle.rules.specs.Sound.{hold_one, one_each, holders_ready, all_admitted, quiet_before_start}
use Rattle.rules.proofs.Words.{All, Pairwise, Free, Holding, Ordered}
use Rattle.rules.proofs.Lists.{standing, count_front, count_absent, one_self, few, lt_or_ge}
use Rattle.rules.proofs.Hands.{past_free, free_or_holding}
use Rattle.rules.proofs.Tests.{Tests, tests_is, tests_le, tests_lt, tests_eq, tests_ne, tests_empty, tests_map, tests_and, tests_field, tests_record}
use Rattle.rules.proofs.Tests.{tests_or, tests_cond, tests_every, tests_neighbours, tests_all_below}

abbrev pub Numbers : List ℕ → Type 0
Numbers l = All (λ t. t < task_count) l

abbrev pub Admits : Machine → ℕ → ℕ → Type 0
Admits m o t = (at m.ceiling o ≢ 0) × (at m.base t ≤ at m.ceiling o)

tests_numbers : (l : List ℕ) → Tests (tasks_only l) (Numbers l)
tests_numbers l = tests_every (λ t. tests_lt t task_count) l

tests_admits : (m : Machine) (o t : ℕ) → Tests (admits m o t) (Admits m o t)
tests_admits m o t = tests_and (tests_ne (at m.ceiling o) 0) (tests_le (at m.base t) (at m.ceiling o))

-- The conditions, each by itself: what it says, and that its test says just that.
-- (A condition is a type of what it reads. So a step that leaves that alone hands the condition on as it is.)

-- tasks 0..31, objects 0..7
abbrev pub TablesSized : Machine → Type 0
TablesSized m = record {
  base_size : length m.base ≡ task_count;
  held_size : length m.held ≡ task_count;
  way_size : length m.way ≡ task_count;
  ceiling_size : length m.ceiling ≡ object_count;
  queue_size : length m.queue ≡ object_count;
}

tests_tables_sized : (m : Machine) → Tests (tables_sized m) (TablesSized m)
tests_tables_sized m =
    tests_field (tests_eq _ task_count) (λ s. s.base_size) λ base.
    tests_field (tests_eq _ task_count) (λ s. s.held_size) λ held.
    tests_field (tests_eq _ task_count) (λ s. s.way_size) λ way.
    tests_field (tests_eq _ object_count) (λ s. s.ceiling_size) λ ceiling.
    tests_field (tests_eq _ object_count) (λ s. s.queue_size) λ queue.
    tests_record (record { base_size = base; held_size = held; way_size = way; ceiling_size = ceiling; queue_size = queue })

-- the clock and delay times run over 0..2^64-1
abbrev pub InTime : Machine → Type 0
InTime m = record { clock_fits : m.clock < 2 ^ 64; times_fit : All (λ e. e.0 < 2 ^ 64) m.delay }

tests_in_time : (m : Machine) → Tests (in_time m) (InTime m)
tests_in_time m =
    tests_map (λ w. record { clock_fits = w.0; times_fit = w.1 }) (λ s. (s.clock_fits, s.times_fit))
    (tests_and (tests_lt _ _) (tests_every (λ e. tests_lt e.0 (2 ^ 64)) m.delay))

-- task 0 has base 0, is ready, and holds nothing
abbrev pub IdleReady : Machine → Type 0
IdleReady m = record { idle_base : at m.base 0 ≡ 0; idle_there : 1 ≤ count 0 m.ready; idle_free : Free m 0 }

tests_idle_ready : (m : Machine) → Tests (idle_ready m) (IdleReady m)
tests_idle_ready m =
    tests_map (λ ((base, there), free). record { idle_base = base; idle_there = there; idle_free = free })
    (λ s. ((s.idle_base, s.idle_there), s.idle_free))
    (tests_and (tests_and (tests_eq _ 0) (tests_le 1 _)) (tests_eq _ 0))

-- each created task stands in exactly one of ready, delayed, waiting, and once there; no other task stands anywhere
abbrev pub StandOnce : Machine → Type 0
StandOnce m = record {
  stands : (t : ℕ) → t < task_count → standings m t ≡ one_if (created m t);
  ready_tasks : Numbers m.ready;
  delay_tasks : Numbers (tasks m.delay);
  queue_tasks : All Numbers m.queue;
}

tests_stand_once : (m : Machine) → Tests (stand_once m) (StandOnce m)
tests_stand_once m =
    tests_field (tests_all_below (λ t. tests_eq (standings m t) (one_if (created m t))) task_count) (λ s. s.stands) λ stands.
    tests_field (tests_numbers m.ready) (λ s. s.ready_tasks) λ ready.
    tests_field (tests_numbers (tasks m.delay)) (λ s. s.delay_tasks) λ delay.
    tests_field (tests_every tests_numbers m.queue) (λ s. s.queue_tasks) λ queue.
    tests_record (record { stands = stands; ready_tasks = ready; delay_tasks = delay; queue_tasks = queue })

-- both lines are in order
abbrev pub InOrder : Machine → Type 0
InOrder m = record {
  ready_falls : Pairwise (Ordered m) m.ready;
  times_rise : Pairwise (λ e f. e.0 ≤ f.0) m.delay;
}

tests_in_order : (m : Machine) → Tests (in_order m) (InOrder m)
tests_in_order m =
    tests_map (λ w. record { ready_falls = w.0; times_rise = w.1 }) (λ s. (s.ready_falls, s.times_rise))
    (tests_and
    (tests_neighbours (Ordered m) (λ a b c u v. omega arith) (λ a b. tests_le (active m b) (active m a)) m.ready)
    (tests_neighbours (λ e f. e.0 ≤ f.0) (λ e f g u v. omega arith) (λ e f. tests_le e.0 f.0) m.delay))

-- bases and ceilings are in range; object 0 is not declared
abbrev pub InRange : Machine → Type 0
InRange m = record {
  bases : All (λ p. p ≤ top_base) m.base;
  ceilings : All (λ p. p ≤ top_ceiling) m.ceiling;
  null_object : at m.ceiling 0 ≡ 0;
}

tests_zero : (n : ℕ) → Tests (not (not (eqb n 0))) (n ≡ 0)
tests_zero n = record { sure = λ e. go (eqb n 0) refl e; found = λ e. rw e }
  where
    go : (b : Bool) → eqb n 0 ≡ b → not (not b) ≡ true → n ≡ 0
    go true q e = eqb-true n 0 q
    go false q e = absurd (true≢false (sym e))

tests_in_range : (m : Machine) → Tests (in_range m) (InRange m)
tests_in_range m =
    tests_map (λ ((bases, ceilings), null). record { bases = bases; ceilings = ceilings; null_object = null })
    (λ s. ((s.bases, s.ceilings), s.null_object))
    (tests_and (tests_and (tests_every (λ p. tests_le p top_base) m.base) (tests_every (λ p. tests_le p top_ceiling) m.ceiling))
    (tests_zero (at m.ceiling 0)))

-- a task holds at most one object (its table has one place for it), and that in one of the two ways
abbrev pub Hands : Machine → ℕ → Type 0
Hands m t = (Free m t → way_held m t ≡ 0) × (Holding m t → (1 ≤ way_held m t) × (way_held m t ≤ 2))

abbrev pub HoldOne : Machine → Type 0
HoldOne m = (t : ℕ) → t < task_count → Hands m t

-- the two ways are the numbers 1 and 2
tests_way : (w : ℕ) → Tests (eqb w 1 || (eqb w 2 || false)) ((1 ≤ w) × (w ≤ 2))
tests_way w = record { sure = λ e. go (eqb w 1) refl (eqb w 2) refl e; found = λ h. back (eqb w 1) refl (eqb w 2) refl h }
  where
    go : (a : Bool) → eqb w 1 ≡ a → (b : Bool) → eqb w 2 ≡ b → a || (b || false) ≡ true → (1 ≤ w) × (w ≤ 2)
    go true e b f k = let z : w ≡ 1 = eqb-true w 1 e in (omega arith, omega arith)
    go false e true f k = let z : w ≡ 2 = eqb-true w 2 f in (omega arith, omega arith)
    go false e false f k = absurd (true≢false (sym k))

    back : (a : Bool) → eqb w 1 ≡ a → (b : Bool) → eqb w 2 ≡ b → (1 ≤ w) × (w ≤ 2) → a || (b || false) ≡ true
    back true e b f h = refl
    back false e true f h = refl
    back false e false f h = let x : w ≢ 1 = eqb-false w 1 e in let y : w ≢ 2 = eqb-false w 2 f in absurd (omega (arith, h.0, h.1))

tests_hold_one : (m : Machine) → Tests (hold_one m) (HoldOne m)
tests_hold_one m =
    tests_all_below (λ t. tests_cond (tests_eq (last_opened m t) 0) (tests_eq (way_held m t) 0) (tests_way (way_held m t))) task_count

-- each object is held by at most one task and waited on by at most one
abbrev pub OneEach : Machine → Type 0
OneEach m = record {
  held_once : (o : ℕ) → o < object_count → o ≢ 0 → holders m o ≤ 1;
  waiters : All (λ q. length q ≤ most_waiters) m.queue;
}

tests_one_each : (m : Machine) → Tests (one_each m) (OneEach m)
tests_one_each m =
    tests_map (λ w. record { held_once = w.0; waiters = w.1 }) (λ s. (s.held_once, s.waiters))
    (tests_and (tests_all_below (λ o. tests_or (tests_eq o 0) (tests_le (holders m o) 1)) object_count)
    (tests_every (λ q. tests_le (length q) most_waiters) m.queue))

-- a holder is ready
abbrev pub HoldersReady : Machine → Type 0
HoldersReady m = (t : ℕ) → t < task_count → Holding m t → 1 ≤ count t m.ready

tests_holders_ready : (m : Machine) → Tests (holders_ready m) (HoldersReady m)
tests_holders_ready m = tests_all_below (λ t. tests_or (tests_eq (last_opened m t) 0) (tests_le 1 (count t m.ready))) task_count

-- holder and waiter have base at most the ceiling of a declared object
abbrev pub AllAdmitted : Machine → Type 0
AllAdmitted m = record {
  holder_admitted : (t : ℕ) → t < task_count → Holding m t → Admits m (last_opened m t) t;
  waiter_admitted : (o : ℕ) → o < object_count → All (Admits m o) (get_or m.queue o []);
}

tests_all_admitted : (m : Machine) → Tests (all_admitted m) (AllAdmitted m)
tests_all_admitted m =
    tests_map (λ w. record { holder_admitted = w.0; waiter_admitted = w.1 }) (λ s. (s.holder_admitted, s.waiter_admitted))
    (tests_and (tests_all_below (λ t. tests_or (tests_eq (last_opened m t) 0) (tests_admits m (last_opened m t) t)) task_count)
    (tests_all_below (λ o. tests_every (tests_admits m o) (get_or m.queue o [])) object_count))

-- before Start the clock is 0 and nothing is delayed, waiting or held
abbrev pub Calm : Machine → Type 0
Calm m = record {
  clock_zero : m.clock ≡ 0;
  none_delayed : m.delay ≡ [];
  none_wait : All (λ q. q ≡ []) m.queue;
  none_hold : All (λ o. o ≡ 0) m.held;
}

abbrev pub QuietBeforeStart : Machine → Type 0
QuietBeforeStart m = m.started ≢ true → Calm m

tests_calm : (m : Machine) → Tests (all_of (eqb m.clock 0 ∷ empty m.delay ∷ every (λ q. empty q) m.queue ∷ nobody_holds m ∷ [])) (Calm m)
tests_calm m =
    tests_field (tests_eq m.clock 0) (λ s. s.clock_zero) λ clock.
    tests_field (tests_empty m.delay) (λ s. s.none_delayed) λ delayed.
    tests_field (tests_every tests_empty m.queue) (λ s. s.none_wait) λ wait.
    tests_field (tests_every (λ o. tests_eq o 0) m.held) (λ s. s.none_hold) λ hold.
    tests_record (record { clock_zero = clock; none_delayed = delayed; none_wait = wait; none_hold = hold })

tests_quiet_before_start : (m : Machine) → Tests (quiet_before_start m) (QuietBeforeStart m)
tests_quiet_before_start m = tests_or (tests_is m.started) (tests_calm m)

-- Document 01's conditions, in its order: each under the name of its test.
pub record Sound (m : Machine) : Type 0 where
  pub tables_sized : TablesSized m
  pub in_time : InTime m
  pub idle_ready : IdleReady m
  pub stand_once : StandOnce m
  pub in_order : InOrder m
  pub in_range : InRange m
  pub hold_one : HoldOne m
  pub one_each : OneEach m
  pub holders_ready : HoldersReady m
  pub all_admitted : AllAdmitted m
  pub quiet_before_start : QuietBeforeStart m

-- The test says that, and nothing else.
pub tests_sound : (m : Machine) → Tests (sound m) (Sound m)
unfolding sound
tests_sound m =
    tests_field (tests_tables_sized m) (λ s. s.tables_sized) λ sized.
    tests_field (tests_in_time m) (λ s. s.in_time) λ time.
    tests_field (tests_idle_ready m) (λ s. s.idle_ready) λ idle.
    tests_field (tests_stand_once m) (λ s. s.stand_once) λ once.
    tests_field (tests_in_order m) (λ s. s.in_order) λ order.
    tests_field (tests_in_range m) (λ s. s.in_range) λ range.
    tests_field (tests_hold_one m) (λ s. s.hold_one) λ hands.
    tests_field (tests_one_each m) (λ s. s.one_each) λ each.
    tests_field (tests_holders_ready m) (λ s. s.holders_ready) λ ready.
    tests_field (tests_all_admitted m) (λ s. s.all_admitted) λ admitted.
    tests_field (tests_quiet_before_start m) (λ s. s.quiet_before_start) λ quiet.
    tests_record (record {
      tables_sized = sized;
      in_time = time;
      idle_ready = idle;
      stand_once = once;
      in_order = order;
      in_range = range;
      hold_one = hands;
      one_each = each;
      holders_ready = ready;
      all_admitted = admitted;
      quiet_before_start = quiet;
    })

numbers_none : (l : List ℕ) → Numbers l → (t : ℕ) → task_count ≤ t → count t l ≡ 0
numbers_none l k t h =
    ⊎_elim (λ (z : count t l < 1). omega arith)
    (λ (z : 1 ≤ count t l). absurd (let w : t < task_count = standing (λ x. x < task_count) l k t z in omega arith)) (lt_or_ge (count t l) 1)

numbers_none_wait : (q : List (List ℕ)) → All Numbers q → (t : ℕ) → task_count ≤ t → waits t q ≡ 0
numbers_none_wait [] k t h = refl
numbers_none_wait (l ∷ q) k t h = omega (arith, numbers_none l k.0 t h, numbers_none_wait q k.1 t h)

one_most : (b : Bool) → one_if b ≤ 1
one_most true = omega arith
one_most false = omega arith

module _ (m : Machine) (s : Sound m) where
  -- Where a task stands.
  pub nowhere : (t : ℕ) → task_count ≤ t → standings m t ≡ 0
  nowhere t h =
      omega (
        arith,
        numbers_none m.ready s.stand_once.ready_tasks t h,
        numbers_none (tasks m.delay) s.stand_once.delay_tasks t h,
        numbers_none_wait m.queue s.stand_once.queue_tasks t h,
      )

  pub once : (t : ℕ) → standings m t ≤ 1
  once t =
      ⊎_elim (λ (h : t < task_count). omega (arith, s.stand_once.stands t h, one_most (created m t))) (λ (h : task_count ≤ t). omega (arith, nowhere t h))
      (lt_or_ge t task_count)

  pub known : (t : ℕ) → 1 ≤ standings m t → t < task_count
  known t k = ⊎_elim (λ (h : t < task_count). h) (λ (h : task_count ≤ t). absurd (omega (arith, nowhere t h))) (lt_or_ge t task_count)

  -- whoever stands anywhere, idle apart, has a base
  pub based : (t : ℕ) → 1 ≤ standings m t → t ≢ 0 → 1 ≤ at m.base t
  based t k n = go (eqb (at m.base t) 0) refl (s.stand_once.stands t (known t k))
    where
      go : (b : Bool) → eqb (at m.base t) 0 ≡ b → standings m t ≡ one_if (eqb t 0 || not b) → 1 ≤ at m.base t
      go true e q = let z : standings m t ≡ 0 = rw (ne_eqb t 0 n) at q in absurd (omega arith)
      go false e q = let z : at m.base t ≢ 0 = eqb-false _ _ e in omega arith

  pub ready_few : length m.ready ≤ task_count
  ready_few = few task_count m.ready s.stand_once.ready_tasks (λ t. omega (arith, once t))

  pub delay_few : length (tasks m.delay) ≤ task_count
  delay_few = few task_count (tasks m.delay) s.stand_once.delay_tasks (λ t. omega (arith, once t))

  -- The runner stands at the front, once.
  pub front_and_behind : (t : ℕ) → count t m.ready ≡ one_if (eqb t (runner m)) + count t (behind_front m.ready)
  front_and_behind t = count_front m.ready 0 s.idle_ready.idle_there t

  pub runner_there : 1 ≤ count (runner m) m.ready
  runner_there = omega (arith, front_and_behind (runner m), one_self (runner m))

  pub runner_known : runner m < task_count
  runner_known = known (runner m) (omega (arith, runner_there))

  pub others : All (λ t. t ≢ runner m) (behind_front m.ready)
  others = count_absent (runner m) (behind_front m.ready) (omega (arith, front_and_behind (runner m), one_self (runner m), once (runner m)))

  -- A holder is ready; so whoever is not ready holds nothing, and is not the runner.
  pub holder : (t : ℕ) → Holding m t → 1 ≤ count t m.ready
  holder t n =
      ⊎_elim (λ (h : t < task_count). s.holders_ready t h n) (λ (h : task_count ≤ t). absurd (n (past_free m s.tables_sized.held_size t h)))
      (lt_or_ge t task_count)

  pub not_ready : (t : ℕ) → count t m.ready ≡ 0 → Free m t × (t ≢ runner m)
  not_ready t z = (
    ⊎_elim (λ (e : Free m t). e) (λ (n : Holding m t). absurd (omega (arith, holder t n))) (free_or_holding m t),
    λ e. omega (arith, runner_there, ap (λ (x : ℕ). count x m.ready) e),
  )

  -- An object is one of the eight, and declared ones are not the null object.
  pub object_known : (o : ℕ) → at m.ceiling o ≢ 0 → o < object_count
  object_known o n =
      ⊎_elim (λ (h : o < object_count). h)
      (λ (h : object_count ≤ o). absurd (n (get_or-eq_default m.ceiling 0 {n = o} (let z = s.tables_sized.ceiling_size in omega arith))))
      (lt_or_ge o object_count)

  pub object_real : (o : ℕ) → at m.ceiling o ≢ 0 → o ≢ 0
  object_real o n e = n (ap (at m.ceiling) e ∙ s.in_range.null_object)
