-- A row carried out on a sound state leaves a sound state, where the row is allowed. Each part of `carry` by itself: the release, the way
-- out of the runner, the clock, and the set-up before Start. Assumes nothing.
use Prim.Native.Nat.{ℕ, suc, ◌+◌, ◌≤◌, ◌<◌, ◌^◌}
use native.Mathlib.Omega.{arith}
use mathlib.Core.Path.{◌≡◌, refl, sym, ap, ◌∙◌}
use mathlib.Core.Logic.{◌≢◌, ⊎_elim}
use mathlib.Core.Bool.{Bool, true, false, cond}
use mathlib.Core.List.{List, [], ◌∷◌, ◌++◌}
use lib.Dec.{eqb, ltb}
use lib.ListN.{get_or, length, length-set}
use borrow.Author.Tests.{eq-eqb, ne_eqb, ltb-true, ltb-false}
use Rattle.rules.specs.Line.{at, behind_front, behind_few, place, at_tail, by_time, count, one_if}
use Rattle.rules.specs.Machine.{Machine, task_count, object_count, most_waiters, last_opened, way_held, holders, active, tasks, runner}
use Rattle.rules.specs.Table.{Out, same, take, yield, close, sleep, await, Rel, none, due, serve}
use Rattle.rules.specs.Table.{with_lines, with_hands, with_hand, freed, enter, release, leave}
use Rattle.rules.specs.Sound.{standings, waits}
use Rattle.rules.proofs.Words.{All, Pairwise, Free, Holding, Ordered}
use Rattle.rules.proofs.Lists.{all_map, all_both, all_place, all_behind, all_few, fewer, all_at, all_set, pairwise_map, pairwise_behind, front_over}
use Rattle.rules.proofs.Lists.{pairwise_front}
use Rattle.rules.proofs.Lists.{set_keeps, tail_falls, count_place, count_tasks_place, all_standing, count_first, tasks_behind, waits_more}
use Rattle.rules.proofs.Lists.{waits_fewer, lt_or_ge, eq_or_ne}
use Rattle.rules.proofs.Hands.{act_free, held_sized, way_sized, in_hand, in_that_way, other_hand, other_way, other_active, one_holder_more}
use Rattle.rules.proofs.Sounds.{Sound, Numbers, Admits, HoldOne, nowhere, once, front_and_behind, runner_there, runner_known, others, not_ready}
use Rattle.rules.proofs.Sounds.{object_known, object_real}

-- What a step that moves tasks may change, and has to show of it: what the tasks hold (m is the machine in which they hold that), and the three lines.
pub record HandsKept (m : Machine) : Type 0 where
  pub held_size : length m.held ≡ task_count
  pub way_size : length m.way ≡ task_count
  pub idle_free : Free m 0
  pub hold_one : HoldOne m
  pub held_once : (o : ℕ) → o < object_count → o ≢ 0 → holders m o ≤ 1
  pub holder_admitted : (t : ℕ) → t < task_count → Holding m t → Admits m (last_opened m t) t

pub record LinesKept (m : Machine) (ready : List ℕ) (delay : List (ℕ × ℕ)) (queue : List (List ℕ)) : Type 0 where
  pub queue_size : length queue ≡ object_count
  pub times_fit : All (λ e. e.0 < 2 ^ 64) delay
  pub same_standings : (t : ℕ) → count t ready + count t (tasks delay) + waits t queue ≡ standings m t
  pub idle_there : 1 ≤ count 0 ready
  pub ready_falls : Pairwise (Ordered m) ready
  pub times_rise : Pairwise (λ e f. e.0 ≤ f.0) delay
  pub waiters : All (λ q. length q ≤ most_waiters) queue
  pub holder_ready : (t : ℕ) → t < task_count → Holding m t → 1 ≤ count t ready
  pub waiter_admitted : (o : ℕ) → o < object_count → All (Admits m o) (get_or queue o [])

numbers : (l : List ℕ) → ((t : ℕ) → task_count ≤ t → count t l ≡ 0) → Numbers l
numbers l f =
    all_standing (λ t. t < task_count) l
    (λ t h. ⊎_elim (λ (x : t < task_count). x) (λ (x : task_count ≤ t). absurd (omega (arith, f t x))) (lt_or_ge t task_count))

numbers_wait : (q : List (List ℕ)) → ((t : ℕ) → task_count ≤ t → waits t q ≡ 0) → All Numbers q
numbers_wait [] f = tt
numbers_wait (l ∷ q) f = (numbers l (λ t h. omega (arith, f t h)), numbers_wait q (λ t h. omega (arith, f t h)))

module _ (m : Machine) (s : Sound m) (on : m.started ≡ true) where
  -- All else stays, and so the state is sound.
  pub moved_sound : {held way ready : List ℕ} {delay : List (ℕ × ℕ)} {queue : List (List ℕ)} → let n = with_hands m held way in
      HandsKept n → LinesKept n ready delay queue → Sound (with_lines n ready delay queue)
  moved_sound {held} {way} {ready} {delay} {queue} h l = record {
    tables_sized = record {
      base_size = s.tables_sized.base_size;
      held_size = h.held_size;
      way_size = h.way_size;
      ceiling_size = s.tables_sized.ceiling_size;
      queue_size = l.queue_size;
    };
    in_time = record { clock_fits = s.in_time.clock_fits; times_fit = l.times_fit };
    idle_ready = record { idle_base = s.idle_ready.idle_base; idle_there = l.idle_there; idle_free = h.idle_free };
    stand_once = record {
      stands = λ t k. l.same_standings t ∙ s.stand_once.stands t k;
      ready_tasks = numbers ready (λ t k. omega (arith, l.same_standings t, nowhere m s t k));
      delay_tasks = numbers (tasks delay) (λ t k. omega (arith, l.same_standings t, nowhere m s t k));
      queue_tasks = numbers_wait queue (λ t k. omega (arith, l.same_standings t, nowhere m s t k));
    };
    in_order = record { ready_falls = l.ready_falls; times_rise = l.times_rise };
    in_range = s.in_range;
    hold_one = h.hold_one;
    one_each = record { held_once = h.held_once; waiters = l.waiters };
    holders_ready = l.holder_ready;
    all_admitted = record { holder_admitted = h.holder_admitted; waiter_admitted = l.waiter_admitted };
    quiet_before_start = λ off. absurd (off on);
  }

  -- the hands as they were
  same_hands : HandsKept m
  same_hands = record {
    held_size = s.tables_sized.held_size;
    way_size = s.tables_sized.way_size;
    idle_free = s.idle_ready.idle_free;
    hold_one = s.hold_one;
    held_once = s.one_each.held_once;
    holder_admitted = s.all_admitted.holder_admitted;
  }

-- Those who are placed, in order.
pub count_enter : (m : Machine) (t : ℕ) (us l : List ℕ) → count t (enter m us l) ≡ count t us + count t l
count_enter m t [] l = omega arith
count_enter m t (u ∷ us) l =
    omega (arith, count_enter m t us (at_tail (active m) (at m.base u) u l), count_place t (λ y. ltb (active m y) (at m.base u)) u l)

enter_falls : (m : Machine) (us : List ℕ) → All (λ u. active m u ≡ at m.base u) us → (l : List ℕ) → Pairwise (Ordered m) l
    → Pairwise (Ordered m) (enter m us l)
enter_falls m [] h l k = k
enter_falls m (u ∷ us) h l k =
    enter_falls m us h.1 (at_tail (active m) (at m.base u) u l)
    (tail_falls (active m) (at m.base u) u (let z = h.0 in omega arith) (let z = h.0 in omega arith) l k)

-- The release.
module _ (m : Machine) (s : Sound m) where
  -- whoever is released stood in the delay line or waited, and so was not ready, held nothing, and is not the runner
  pub freed_elsewhere : (rel : Rel) (t : ℕ) → count t (freed rel m) ≤ count t (tasks m.delay) + waits t m.queue
  freed_elsewhere none t = omega arith
  freed_elsewhere due t = omega (arith, count_first t (tasks m.delay))
  freed_elsewhere (serve o n) t = omega (arith, waits_fewer t n m.queue o)

  pub freed_away : (rel : Rel) → All (λ u. Free m u × (u ≢ runner m)) (freed rel m)
  freed_away rel = all_standing (λ u. Free m u × (u ≢ runner m)) (freed rel m) (λ u k. not_ready m s u (omega (arith, freed_elsewhere rel u, once m s u)))

  pub freed_free : (rel : Rel) → All (Free m) (freed rel m)
  freed_free rel = all_map (λ u w. w.0) (freed rel m) (freed_away rel)

  freed_falls : (rel : Rel) → Pairwise (Ordered m) (enter m (freed rel m) m.ready)
  freed_falls rel = enter_falls m (freed rel m) (all_map (act_free m) (freed rel m) (freed_free rel)) m.ready s.in_order.ready_falls

  more_ready : (rel : Rel) (t : ℕ) → 1 ≤ count t m.ready → 1 ≤ count t (enter m (freed rel m) m.ready)
  more_ready rel t k = omega (arith, count_enter m t (freed rel m) m.ready)

  pub release_sound : m.started ≡ true → (rel : Rel) → Sound (release rel m)
  unfolding release
  release_sound on none = s
  release_sound on due = moved_sound m s on (same_hands m s on) record {
    queue_size = s.tables_sized.queue_size;
    times_fit = all_behind (λ e. e.0 < 2 ^ 64) m.delay s.in_time.times_fit;
    same_standings = λ t. rw (tasks_behind m.delay) (omega (arith, count_enter m t (freed due m) m.ready, count_first t (tasks m.delay)));
    idle_there = more_ready due 0 s.idle_ready.idle_there;
    ready_falls = freed_falls due;
    times_rise = pairwise_behind (λ e f. e.0 ≤ f.0) m.delay s.in_order.times_rise;
    waiters = s.one_each.waiters;
    holder_ready = λ t k n. more_ready due t (s.holders_ready t k n);
    waiter_admitted = s.all_admitted.waiter_admitted;
  }
  release_sound on (serve o n) = moved_sound m s on (same_hands m s on) record {
    queue_size = length-set m.queue o left ∙ s.tables_sized.queue_size;
    times_fit = s.in_time.times_fit;
    same_standings = λ t. omega (arith, count_enter m t (freed (serve o n) m) m.ready, waits_fewer t n m.queue o);
    idle_there = more_ready (serve o n) 0 s.idle_ready.idle_there;
    ready_falls = freed_falls (serve o n);
    times_rise = s.in_order.times_rise;
    waiters = all_set (λ q. length q ≤ most_waiters) m.queue o left (omega (arith, short, fewer n (get_or m.queue o []))) s.one_each.waiters;
    holder_ready = λ t k h. more_ready (serve o n) t (s.holders_ready t k h);
    waiter_admitted = λ q k. set_keeps (λ j l. All (Admits m j) l) m.queue o left q [] (λ e. admitted q k e) (s.all_admitted.waiter_admitted q k);
  }
    where
      left : List ℕ
      left = behind_few n (get_or m.queue o [])

      short : length (get_or m.queue o []) ≤ most_waiters
      short = all_at (λ q. length q ≤ most_waiters) m.queue o [] (omega arith) s.one_each.waiters

      admitted : (q : ℕ) → q < object_count → q ≡ o → All (Admits m q) left
      admitted q k e = rw (← e) (all_few (Admits m q) n (get_or m.queue q []) (s.all_admitted.waiter_admitted q k)).1

-- The way out of the runner: what an accepted command has shown of it.
pub record MayLeave (m : Machine) : Type 0 where
  pub busy : runner m ≢ 0
  pub bare : Free m (runner m)

pub record MayTake (m : Machine) (o w : ℕ) : Type 0 where
  pub leaves : MayLeave m
  pub admits : Admits m o (runner m)
  pub unheld : holders m o ≡ 0
  pub in_one_way : (1 ≤ w) × (w ≤ 2)

pub record MaySleep (m : Machine) (d : ℕ) : Type 0 where
  pub leaves : MayLeave m
  pub ahead : m.clock < d
  pub fits : d < 2 ^ 64

pub record MayAwait (m : Machine) (o : ℕ) : Type 0 where
  pub leaves : MayLeave m
  pub admits : Admits m o (runner m)
  pub alone : get_or m.queue o [] ≡ []

abbrev pub AllowedOut : Machine → Out → Type 0
AllowedOut m same = Unit {0}
AllowedOut m (take o w) = MayTake m o w
AllowedOut m yield = MayLeave m
AllowedOut m close = runner m ≢ 0
AllowedOut m (sleep d) = MaySleep m d
AllowedOut m (await o) = MayAwait m o

pub times_rise_placed : (e : ℕ × ℕ) (l : List (ℕ × ℕ)) → Pairwise (λ a b. a.0 ≤ b.0) l → Pairwise (λ a b. a.0 ≤ b.0) (by_time e l)
times_rise_placed e [] k = (tt, tt)
times_rise_placed e (f ∷ l) k = go (ltb e.0 f.0) refl (times_rise_placed e l k.1)
  where
    go : (b : Bool) → ltb e.0 f.0 ≡ b → Pairwise (λ a b. a.0 ≤ b.0) (by_time e l)
        → Pairwise (λ a b. a.0 ≤ b.0) (cond b (e ∷ f ∷ l) (f ∷ by_time e l))
    go true q ih = let c : e.0 < f.0 = ltb-true _ _ q in ((omega arith, all_map (λ z w. omega arith) l k.0), k)
    go false q ih = (all_place (λ b. f.0 ≤ b.0) (λ f. ltb e.0 f.0) e l (ltb-false _ _ q) k.0, ih)

module _ (m : Machine) (s : Sound m) where
  -- The runner's hands, when it takes an object (v) in a way (w), or lets it go (both 0).
  pub new_hand : (v w : ℕ) → last_opened (with_hand m v w) (runner m) ≡ v
  new_hand v w = in_hand m v w s.tables_sized.held_size (runner_known m s)

  set_hands : (v w : ℕ) → runner m ≢ 0 → (v ≡ 0 → w ≡ 0) → (v ≢ 0 → (1 ≤ w) × (w ≤ 2)) → (v ≢ 0 → Admits m v (runner m)) → (v ≢ 0 → holders m v ≡ 0)
      → HandsKept (with_hand m v w)
  set_hands v w busy off on admits unheld = record {
    held_size = held_sized m v w s.tables_sized.held_size;
    way_size = way_sized m v w s.tables_sized.way_size;
    idle_free = other_hand m v w 0 (λ e. busy (sym e)) ∙ s.idle_ready.idle_free;
    hold_one = λ t h.
        ⊎_elim (λ (e : t ≡ runner m). rw (e, new_way, new_hand v w) (off, on))
        (λ (n : t ≢ runner m). rw (other_hand m v w t n, other_way m v w t n) (s.hold_one t h)) (eq_or_ne t (runner m));
    held_once = λ o h n. ⊎_elim (λ (e : o ≡ v). hold_new o n e) (λ (k : o ≢ v). hold_old o h n k) (eq_or_ne o v);
    holder_admitted = λ t h.
        ⊎_elim (λ (e : t ≡ runner m). rw (e, new_hand v w) admits)
        (λ (n : t ≢ runner m). rw (other_hand m v w t n) (s.all_admitted.holder_admitted t h)) (eq_or_ne t (runner m));
  }
    where
      new_way : way_held (with_hand m v w) (runner m) ≡ w
      new_way = in_that_way m v w s.tables_sized.way_size (runner_known m s)

      hold_new : (o : ℕ) → o ≢ 0 → o ≡ v → holders (with_hand m v w) o ≤ 1
      hold_new o n e =
          let z : holders m o ≡ 0 = rw e (unheld (λ q. n (e ∙ q))) in
          let y : one_if (eqb o v) ≡ 1 = rw (eq-eqb o v e) in
          omega (arith, one_holder_more m v w o)

      hold_old : (o : ℕ) → o < object_count → o ≢ 0 → o ≢ v → holders (with_hand m v w) o ≤ 1
      hold_old o h n k = let y : one_if (eqb o v) ≡ 0 = rw (ne_eqb o v k) in omega (arith, one_holder_more m v w o, s.one_each.held_once o h n)

  -- the others keep their active priorities, and so their order
  pub behind_falls : (v w : ℕ) → let n = with_hand m v w in Pairwise (Ordered n) (behind_front m.ready)
  behind_falls v w =
      pairwise_map {P = λ t. t ≢ runner m} (λ a b na nb k. omega (arith, other_active m v w a na, other_active m v w b nb)) (behind_front m.ready)
      (others m s)
      (pairwise_behind (Ordered m) m.ready s.in_order.ready_falls)

  behind_runner : All (λ t. (t ≢ runner m) × (active m t ≤ active m (runner m))) (behind_front m.ready)
  behind_runner =
      all_both (λ t. t ≢ runner m) (λ t. active m t ≤ active m (runner m)) (behind_front m.ready) (others m s)
      (front_over (Ordered m) 0 m.ready s.in_order.ready_falls)

  -- a line into which the runner came back holds whom it held; without it, all but the runner
  back_again : (f : ℕ → Bool) (t : ℕ) → count t (place f (runner m) (behind_front m.ready)) ≡ count t m.ready
  back_again f t = omega (arith, count_place t f (runner m) (behind_front m.ready), front_and_behind m s t)

  gone_other : (t : ℕ) → t ≢ runner m → count t (behind_front m.ready) ≡ count t m.ready
  gone_other t n = let z : one_if (eqb t (runner m)) ≡ 0 = rw (ne_eqb t (runner m) n) in omega (arith, front_and_behind m s t)

  take_sound : m.started ≡ true → (o w : ℕ) → MayTake m o w → Sound (leave (take o w) m)
  unfolding leave
  take_sound on o w g =
      moved_sound m s on
      (set_hands o w g.leaves.busy (λ e. absurd (real e)) (λ n. g.in_one_way) (λ n. g.admits) (λ n. g.unheld)) record {
        queue_size = s.tables_sized.queue_size;
        times_fit = s.in_time.times_fit;
        same_standings = λ t. refl;
        idle_there = s.idle_ready.idle_there;
        ready_falls =
            pairwise_front (Ordered (with_hand m o w)) 0 m.ready
            (all_map (λ t k. omega (arith, other_active m o w t k.0, k.1, rises)) (behind_front m.ready) behind_runner) (behind_falls o w);
        times_rise = s.in_order.times_rise;
        waiters = s.one_each.waiters;
        holder_ready = λ t h n.
            ⊎_elim (λ (e : t ≡ runner m). rw e (runner_there m s))
            (λ (k : t ≢ runner m). s.holders_ready t h (λ z. n (other_hand m o w t k ∙ z))) (eq_or_ne t (runner m));
        waiter_admitted = s.all_admitted.waiter_admitted;
      }
    where
      real : o ≢ 0
      real = object_real m s o g.admits.0

      rises : active m (runner m) ≤ active (with_hand m o w) (runner m)
      rises = rw (new_hand o w, ne_eqb o 0 real) (omega (arith, act_free m (runner m) g.leaves.bare, g.admits.1))

  yield_sound : m.started ≡ true → MayLeave m → Sound (leave yield m)
  unfolding leave
  yield_sound on g =
      moved_sound m s on (same_hands m s on) record {
        queue_size = s.tables_sized.queue_size;
        times_fit = s.in_time.times_fit;
        same_standings = λ t. omega (arith, back_again stop t);
        idle_there = omega (arith, back_again stop 0, s.idle_ready.idle_there);
        ready_falls =
            let z = act_free m (runner m) g.bare in
            tail_falls (active m) (at m.base (runner m)) (runner m) (omega arith) (omega arith) (behind_front m.ready)
            (pairwise_behind (Ordered m) m.ready s.in_order.ready_falls);
        times_rise = s.in_order.times_rise;
        waiters = s.one_each.waiters;
        holder_ready = λ t h n. omega (arith, back_again stop t, s.holders_ready t h n);
        waiter_admitted = s.all_admitted.waiter_admitted;
      }
    where
      stop : ℕ → Bool
      stop y = ltb (active m y) (at m.base (runner m))

  close_sound : m.started ≡ true → runner m ≢ 0 → Sound (leave close m)
  unfolding leave
  close_sound on busy =
      moved_sound m s on
      (set_hands 0 0 busy (λ e. refl) (λ n. absurd (n refl)) (λ n. absurd (n refl)) (λ n. absurd (n refl))) record {
        queue_size = s.tables_sized.queue_size;
        times_fit = s.in_time.times_fit;
        same_standings = λ t. omega (arith, back_again stop t);
        idle_there = omega (arith, back_again stop 0, s.idle_ready.idle_there);
        ready_falls =
            tail_falls (active (with_hand m 0 0)) (suc (at m.base (runner m))) (runner m) (omega (arith, falls)) (omega (arith, falls))
            (behind_front m.ready) (behind_falls 0 0);
        times_rise = s.in_order.times_rise;
        waiters = s.one_each.waiters;
        holder_ready = λ t h n.
            ⊎_elim (λ (e : t ≡ runner m). absurd (n (ap (last_opened (with_hand m 0 0)) e ∙ new_hand 0 0)))
            (λ (k : t ≢ runner m). omega (arith, back_again stop t, s.holders_ready t h (λ z. n (other_hand m 0 0 t k ∙ z)))) (eq_or_ne t (runner m));
        waiter_admitted = s.all_admitted.waiter_admitted;
      }
    where
      stop : ℕ → Bool
      stop y = ltb (active (with_hand m 0 0) y) (suc (at m.base (runner m)))

      falls : active (with_hand m 0 0) (runner m) ≡ at m.base (runner m)
      falls = act_free (with_hand m 0 0) (runner m) (new_hand 0 0)

  sleep_sound : m.started ≡ true → (d : ℕ) → MaySleep m d → Sound (leave (sleep d) m)
  unfolding leave
  sleep_sound on d g =
      moved_sound m s on (same_hands m s on) record {
        queue_size = s.tables_sized.queue_size;
        times_fit = all_place (λ e. e.0 < 2 ^ 64) (λ f. ltb d f.0) (d, runner m) m.delay g.fits s.in_time.times_fit;
        same_standings = λ t. omega (arith, front_and_behind m s t, count_tasks_place t (λ f. ltb d f.0) (d, runner m) m.delay);
        idle_there = omega (arith, gone_other 0 (λ e. g.leaves.busy (sym e)), s.idle_ready.idle_there);
        ready_falls = pairwise_behind (Ordered m) m.ready s.in_order.ready_falls;
        times_rise = times_rise_placed (d, runner m) m.delay s.in_order.times_rise;
        waiters = s.one_each.waiters;
        holder_ready = λ t h n. omega (arith, gone_other t (λ e. n (ap (last_opened m) e ∙ g.leaves.bare)), s.holders_ready t h n);
        waiter_admitted = s.all_admitted.waiter_admitted;
      }

  await_sound : m.started ≡ true → (o : ℕ) → MayAwait m o → Sound (leave (await o) m)
  unfolding leave
  await_sound on o g =
      moved_sound m s on (same_hands m s on) record {
        queue_size = length-set m.queue o longer ∙ s.tables_sized.queue_size;
        times_fit = s.in_time.times_fit;
        same_standings = λ t. omega (arith, front_and_behind m s t, waits_more t m.queue o (runner m) known);
        idle_there = omega (arith, gone_other 0 (λ e. g.leaves.busy (sym e)), s.idle_ready.idle_there);
        ready_falls = pairwise_behind (Ordered m) m.ready s.in_order.ready_falls;
        times_rise = s.in_order.times_rise;
        waiters = all_set (λ q. length q ≤ most_waiters) m.queue o longer (rw g.alone (omega arith)) s.one_each.waiters;
        holder_ready = λ t h n. omega (arith, gone_other t (λ e. n (ap (last_opened m) e ∙ g.leaves.bare)), s.holders_ready t h n);
        waiter_admitted = λ q h.
            set_keeps (λ j l. All (Admits m j) l) m.queue o longer q [] (λ e. rw (e, g.alone) (g.admits, tt)) (s.all_admitted.waiter_admitted q h);
      }
    where
      longer : List ℕ
      longer = get_or m.queue o [] ++ (runner m ∷ [])

      known : o < length m.queue
      known = omega (arith, s.tables_sized.queue_size, object_known m s o g.admits.0)

  pub leave_sound : m.started ≡ true → (out : Out) → AllowedOut m out → Sound (leave out m)
  unfolding leave
  leave_sound on same g = s
  leave_sound on (take o w) g = take_sound on o w g
  leave_sound on yield g = yield_sound on g
  leave_sound on close g = close_sound on g
  leave_sound on (sleep d) g = sleep_sound on d g
  leave_sound on (await o) g = await_sound on o g
