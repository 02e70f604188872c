-- The set-up before Start keeps a sound state sound: a task created, an object declared, Start itself.
-- Nobody holds, waits or sleeps yet, so each task's active priority is its base. Assumes nothing.
use Prim.Native.Nat.{ℕ, ◌+◌, ◌≤◌, ◌<◌, ◌^◌}
use native.Mathlib.Omega.{arith}
use mathlib.Core.Path.{◌≡◌, refl, sym, ap, ◌∙◌}
use mathlib.Core.Logic.{◌≢◌, ⊎_elim}
use mathlib.Core.Bool.{Bool, true, false, not, ◌||◌}
use mathlib.Core.List.{[]}
use lib.Dec.{eqb, ltb}
use lib.ListN.{get_or, set, length-set}
use lib.Seq.{get_or-set_other, get_or-set_same}
use borrow.Author.Tests.{eq-eqb, ne_eqb}
use Rattle.rules.specs.Line.{at, at_tail, count, one_if}
use Rattle.rules.specs.Machine.{Machine, task_count, object_count, top_base, top_ceiling, active, tasks, created}
use Rattle.rules.specs.Table.{creates, declares, with_set_up, carry}
use Rattle.rules.specs.Sound.{standings, waits}
use Rattle.rules.proofs.Words.{Pairwise, Free, Ordered}
use Rattle.rules.proofs.Lists.{all_every, all_place, all_at, all_set, pairwise_map, tail_falls, count_place, count_absent, eq_or_ne}
use Rattle.rules.proofs.Hands.{act_free, all_free}
use Rattle.rules.proofs.Sounds.{Sound}

-- What an accepted command has shown.
pub record MayCreate (m : Machine) (t p : ℕ) : Type 0 where
  pub off : m.started ≢ true
  pub new : created m t ≡ false
  pub task : (1 ≤ t) × (t < task_count)
  pub rank : (1 ≤ p) × (p ≤ top_base)

pub record MayDeclare (m : Machine) (o p : ℕ) : Type 0 where
  pub off : m.started ≢ true
  pub object : (1 ≤ o) × (o < object_count)
  pub rank : (1 ≤ p) × (p ≤ top_ceiling)

-- the machine at another time, started or not
abbrev pub with_clock : Machine → ℕ → Bool → Machine
with_clock m clock started = record {
  base = m.base;
  ceiling = m.ceiling;
  held = m.held;
  way = m.way;
  queue = m.queue;
  ready = m.ready;
  delay = m.delay;
  clock = clock;
  started = started;
}

module _ (m : Machine) (s : Sound m) (off : m.started ≢ true) where
  pub nobody_holding : (t : ℕ) → Free m t
  nobody_holding = all_free m (s.quiet_before_start off).none_hold

  act_base : (t : ℕ) → active m t ≡ at m.base t
  act_base t = act_free m t (nobody_holding t)

  nobody_waits : (o : ℕ) → get_or m.queue o [] ≡ []
  nobody_waits o = all_at (λ q. q ≡ []) m.queue o [] refl (s.quiet_before_start off).none_wait

module _ (m : Machine) (s : Sound m) where
  pub create_sound : (t p : ℕ) → MayCreate m t p → Sound (carry m (creates t p))
  unfolding carry
  create_sound t p g = record {
    tables_sized = record {
      base_size = length-set m.base t p ∙ s.tables_sized.base_size;
      held_size = s.tables_sized.held_size;
      way_size = s.tables_sized.way_size;
      ceiling_size = s.tables_sized.ceiling_size;
      queue_size = s.tables_sized.queue_size;
    };
    in_time = s.in_time;
    idle_ready = record {
      idle_base = get_or-set_other m.base t 0 p 0 (λ e. let z = g.task.0 in omega arith) ∙ s.idle_ready.idle_base;
      idle_there = omega (arith, one_more 0, s.idle_ready.idle_there);
      idle_free = s.idle_ready.idle_free;
    };
    stand_once = record {
      stands = λ x h. ⊎_elim (λ (e : x ≡ t). rw e mine) (λ (n : x ≢ t). theirs x h n) (eq_or_ne x t);
      ready_tasks = all_place (λ x. x < task_count) (λ y. ltb (active new y) p) t m.ready g.task.1 s.stand_once.ready_tasks;
      delay_tasks = s.stand_once.delay_tasks;
      queue_tasks = s.stand_once.queue_tasks;
    };
    in_order = record {
      ready_falls = tail_falls (active new) p t (omega (arith, rank)) (omega (arith, rank)) m.ready as_before;
      times_rise = s.in_order.times_rise;
    };
    in_range = record {
      bases = all_set (λ p. p ≤ top_base) m.base t p g.rank.1 s.in_range.bases;
      ceilings = s.in_range.ceilings;
      null_object = s.in_range.null_object;
    };
    hold_one = s.hold_one;
    one_each = s.one_each;
    holders_ready = λ x h n. absurd (n (nobody_holding m s g.off x));
    all_admitted = record {
      holder_admitted = λ x h n. absurd (n (nobody_holding m s g.off x));
      waiter_admitted = λ o h. rw (nobody_waits m s g.off o) tt;
    };
    quiet_before_start = s.quiet_before_start;
  }
    where
      new : Machine
      new = with_set_up m (set m.base t p) m.ceiling m.started

      stored : at (set m.base t p) t ≡ p
      stored = get_or-set_same m.base t p 0 (let z = g.task.1 in omega (arith, s.tables_sized.base_size))

      rank : active new t ≡ p
      rank = act_free new t (nobody_holding m s g.off t) ∙ stored

      kept : (x : ℕ) → x ≢ t → active new x ≡ active m x
      kept x n = act_free new x (nobody_holding m s g.off x) ∙ get_or-set_other m.base t x p 0 n ∙ sym (act_base m s g.off x)

      nowhere : standings m t ≡ 0
      nowhere = s.stand_once.stands t g.task.1 ∙ ap one_if g.new

      as_before : Pairwise (Ordered new) m.ready
      as_before =
          pairwise_map {P = λ x. x ≢ t} (λ x y nx ny w. omega (arith, kept x nx, kept y ny)) m.ready (count_absent t m.ready (omega (arith, nowhere)))
          s.in_order.ready_falls

      one_more : (x : ℕ) → count x (at_tail (active new) p t m.ready) ≡ one_if (eqb x t) + count x m.ready
      one_more x = count_place x (λ y. ltb (active new y) p) t m.ready

      -- how often a task stands then
      standings_then : ℕ → ℕ
      standings_then x = count x (at_tail (active new) p t m.ready) + count x (tasks m.delay) + waits x m.queue

      mine : standings_then t ≡ one_if (eqb t 0 || not (eqb (at (set m.base t p) t) 0))
      mine =
          rw (stored, ne_eqb p 0 (λ e. let z = g.rank.0 in omega arith), ne_eqb t 0 (λ e. let z = g.task.0 in omega arith))
          (let y : one_if (eqb t t) ≡ 1 = rw (eq-eqb t t refl) in omega (arith, one_more t, nowhere))

      theirs : (x : ℕ) → x < task_count → x ≢ t → standings_then x ≡ one_if (eqb x 0 || not (eqb (at (set m.base t p) x) 0))
      theirs x h n =
          rw (get_or-set_other m.base t x p 0 n) (let y : one_if (eqb x t) ≡ 0 = rw (ne_eqb x t n) in omega (arith, one_more x, s.stand_once.stands x h))

  pub declare_sound : (o p : ℕ) → MayDeclare m o p → Sound (carry m (declares o p))
  unfolding carry
  declare_sound o p g = record {
    tables_sized = record {
      base_size = s.tables_sized.base_size;
      held_size = s.tables_sized.held_size;
      way_size = s.tables_sized.way_size;
      ceiling_size = length-set m.ceiling o p ∙ s.tables_sized.ceiling_size;
      queue_size = s.tables_sized.queue_size;
    };
    in_time = s.in_time;
    idle_ready = s.idle_ready;
    stand_once = s.stand_once;
    in_order = record {
      ready_falls =
          pairwise_map {P = λ x. Unit {0}} (λ x y u v w. omega (arith, kept x, kept y)) m.ready (all_every (λ x. tt) m.ready) s.in_order.ready_falls;
      times_rise = s.in_order.times_rise;
    };
    in_range = record {
      bases = s.in_range.bases;
      ceilings = all_set (λ p. p ≤ top_ceiling) m.ceiling o p g.rank.1 s.in_range.ceilings;
      null_object = get_or-set_other m.ceiling o 0 p 0 (λ e. let z = g.object.0 in omega arith) ∙ s.in_range.null_object;
    };
    hold_one = s.hold_one;
    one_each = s.one_each;
    holders_ready = s.holders_ready;
    all_admitted = record {
      holder_admitted = λ x h n. absurd (n (nobody_holding m s g.off x));
      waiter_admitted = λ q h. rw (nobody_waits m s g.off q) tt;
    };
    quiet_before_start = s.quiet_before_start;
  }
    where
      new : Machine
      new = with_set_up m m.base (set m.ceiling o p) m.started

      kept : (x : ℕ) → active new x ≡ active m x
      kept x = act_free new x (nobody_holding m s g.off x) ∙ sym (act_base m s g.off x)

  -- Start, and the clock that goes on: all but the two stays.
  pub timed_sound : (clock : ℕ) (started : Bool) → clock < 2 ^ 64 → started ≡ true → Sound (with_clock m clock started)
  timed_sound clock started h on = record {
    tables_sized = s.tables_sized;
    in_time = record { clock_fits = h; times_fit = s.in_time.times_fit };
    idle_ready = s.idle_ready;
    stand_once = s.stand_once;
    in_order = s.in_order;
    in_range = s.in_range;
    hold_one = s.hold_one;
    one_each = s.one_each;
    holders_ready = s.holders_ready;
    all_admitted = s.all_admitted;
    quiet_before_start = λ off. absurd (off on);
  }
