-- The code's test of a saved state is is_sound: the tables are tidy, and the machine that they stand for is sound; no more and no less.
-- What the test finds out (Passed) gives each of document 01's conditions, and each of those gives what it looks for. Assumes nothing.
use Prim.Native.Nat.{ℕ, ◌≤◌, ◌<◌, ◌^◌}
use native.Mathlib.Omega.{arith}
use mathlib.Core.Path.{◌≡◌, refl, sym, ap, ◌∙◌, subst}
use mathlib.Core.Logic.{◌≢◌, ⊎_elim}
use mathlib.Core.List.{List, [], ◌∷◌, ◌++◌}
use mathlib.Core.Bool.{Bool, true, false, cond, not, ◌&&◌, ◌||◌}
use lib.ListN.{length, length-map}
use lib.Dec.{eqb}
use borrow.Author.Tests.{ne_eqb, eq-eqb}
use Rattle.rules.specs.Line.{at, count, one_if}
use Rattle.rules.specs.Sound.{sound, standings}
use Rattle.rules.proofs.Words.{All, Pairwise}
use Rattle.rules.proofs.Lists.{all_map, all_every, all_at, eq_or_ne, standing, count_snoc}
use Rattle.rules.proofs.Tests.{◌also◌}
use Rattle.rules.proofs.Sounds.{Calm, Sound, tests_sound, once, object_known}
use Rattle.kernel_line.specs.Tables.{level}
use Rattle.kernel.specs.declared.Kernel.{Kernel}
use Rattle.kernel.specs.View.{timed, nobody_or, view, tidy}
use Rattle.kernel.specs.Public.{is_sound}
use Rattle.kernel.specs.Test.{places_of, test_of}
use Rattle.kernel.proofs.Padded.{free_at, tasks_timed}
use Rattle.kernel.proofs.Round.{Sizes, Tidy, tests_tidy, all_index}
use Rattle.kernel.proofs.Reading.{idle_last, live_real, live_none, none_live, all_join, all_front, pairs_join, pairs_front}
use Rattle.kernel.proofs.Reading.{all_timed, pairs_timed, timed_pairs, all_queues, queues_all, one_waits, waits_one, no_more, nobody_zero, queue_at}
use Rattle.kernel.proofs.Passed.{Fits, Task, Object, Quiet, Passed, tests_passed}
use Rattle.kernel.proofs.Standing.{ready_line, delay_line, in_all, SpotOf, stand_count, stand_idle, mark_of, mark_idle}
use Rattle.kernel.proofs.Standing.{spot_none, spot_zero, spot_low, spot_ready, spot_delayed}
use Rattle.kernel.proofs.Marks as M
use Rattle.kernel.proofs.Marks.{ord_pairs, pairs_ord}

-- The active priority, told by the tables; a task may stand ahead of another by it, or by its time.
abbrev rank_of : Kernel → ℕ → ℕ
rank_of k = level k.base k.ceiling k.held

abbrev Falling : Kernel → ℕ → ℕ → Type 0
Falling k x y = rank_of k y ≤ rank_of k x

abbrev Admitted : Kernel → ℕ → ℕ → Type 0
Admitted k o t = (at k.ceiling o ≢ 0) × (at k.base t ≤ at k.ceiling o)

-- From the test to the conditions.
module _ (k : Kernel) (z : Fits k) (p : Passed k) where
  falling : All (λ x. (x < 32) × (rank_of k x ≤ 15)) (ready_line k) × Pairwise (Falling k) (ready_line k)
  falling = ord_pairs (λ a b. b ≤ a) (λ a b c u v. omega arith) (rank_of k) 15 (ready_line k) p.falls

  rising : All (λ x. (x < 32) × (0 ≤ at k.until x)) (delay_line k) × Pairwise (λ x y. at k.until x ≤ at k.until y) (delay_line k)
  rising = ord_pairs (λ a b. a ≤ b) (λ a b c u v. omega arith) (at k.until) 0 (delay_line k) p.rises

  ra : All (λ x. x < 32) (ready_line k)
  ra = all_map (λ x w. w.0) (ready_line k) falling.0

  da : All (λ x. x < 32) (delay_line k)
  da = all_map (λ x w. w.0) (delay_line k) rising.0

  wa : All (λ x. x < 32) k.waiter
  wa = all_index (λ x. x < 32) 0 k.waiter (λ o h. go o (omega (arith, z.sizes.waiter)))
    where
      go : (o : ℕ) → o < 8 → at k.waiter o < 32
      go o h =
          ⊎_elim (λ (e : at k.waiter o ≡ 0). omega arith) (λ (n : at k.waiter o ≢ 0). ((p.objects o h).waiter n).0) (eq_or_ne (at k.waiter o) 0)

  spot_of : (t : ℕ) → t ≢ 0 → SpotOf k t
  spot_of = mark_of k ra da wa

  -- a task is created exactly if it stands somewhere
  unbased : (t : ℕ) → t < 32 → at (places_of k) t ≡ 0 → at k.base t ≡ 0
  unbased t h e =
      ⊎_elim (λ (q : at k.base t ≡ 0). q) (λ (n : at k.base t ≢ 0). absurd (((p.tasks t h).stands (λ w. n w.0)).1 e)) (eq_or_ne (at k.base t) 0)

  placed_base : (t : ℕ) → t < 32 → at (places_of k) t ≢ 0 → at k.base t ≢ 0
  placed_base t h n e = ((p.tasks t h).stands (λ w. n w.1)).0 e

  -- what the test finds of a holder: it has a way, and is ready
  of_holder : (t : ℕ) → t < 32 → at k.held t ≢ 0 → ((at k.held t ≢ 0) × (at k.way t ≢ 0)) × (at (places_of k) t ≡ 1)
  of_holder t h n = (p.tasks t h).hands (λ w. n w.0)

  free_hands : (t : ℕ) → t < 32 → at (places_of k) t ≢ 1 → at k.held t ≡ 0
  free_hands t h n =
      ⊎_elim (λ (q : at k.held t ≡ 0). q) (λ (m : at k.held t ≢ 0). absurd (n (of_holder t h m).1)) (eq_or_ne (at k.held t) 0)

  idle_place : at (places_of k) 0 ≡ 0
  idle_place = mark_idle k ra da wa

  idle_bare : at k.held 0 ≡ 0
  idle_bare = free_hands 0 (omega arith) (λ e. omega (arith, idle_place))

  stands_so : (t : ℕ) → t < 32 → t ≢ 0 → standings (view k) t ≡ one_if (not (eqb (at k.base t) 0))
  stands_so t h n = stand_count k t n ∙ go (spot_of t n)
    where
      some : at (places_of k) t ≢ 0 → one_if (not (eqb (at k.base t) 0)) ≡ 1
      some q = rw (ne_eqb (at k.base t) 0 (placed_base t h q))

      go : SpotOf k t → in_all k t ≡ one_if (not (eqb (at k.base t) 0))
      go (M.nowhere a b c e) = let v : one_if (not (eqb (at k.base t) 0)) ≡ 0 = rw (unbased t h e) in omega arith
      go (M.ready a b c e) = omega (arith, some (λ q. omega arith))
      go (M.delayed a b c e) = omega (arith, some (λ q. omega arith))
      go (M.waits a b c e) = omega (arith, some (λ q. omega arith))
      go (M.many a e) = absurd (let w = (p.tasks t h).place_low in omega arith)

  created_so : (t : ℕ) → t < 32 → standings (view k) t ≡ one_if (eqb t 0 || not (eqb (at k.base t) 0))
  created_so t h =
      ⊎_elim (λ (e : t ≡ 0). subst (λ (x : ℕ). standings (view k) x ≡ one_if (eqb x 0 || not (eqb (at k.base x) 0))) (sym e) (stand_idle k))
      (λ (n : t ≢ 0). stands_so t h n ∙ ap (λ (b : Bool). one_if (b || not (eqb (at k.base t) 0))) (sym (ne_eqb t 0 n))) (eq_or_ne t 0)

  ready_place : (t : ℕ) → t ≢ 0 → at (places_of k) t ≡ 1 → 1 ≤ count t (ready_line k)
  ready_place t n q = go (spot_of t n)
    where
      go : SpotOf k t → 1 ≤ count t (ready_line k)
      go (M.nowhere a b c e) = absurd (omega arith)
      go (M.ready a b c e) = omega arith
      go (M.delayed a b c e) = absurd (omega arith)
      go (M.waits a b c e) = absurd (omega arith)
      go (M.many a e) = absurd (omega arith)

  delayed_place : (t : ℕ) → t ≢ 0 → at (places_of k) t ≡ 2 → 1 ≤ count t (delay_line k)
  delayed_place t n q = go (spot_of t n)
    where
      go : SpotOf k t → 1 ≤ count t (delay_line k)
      go (M.nowhere a b c e) = absurd (omega arith)
      go (M.ready a b c e) = absurd (omega arith)
      go (M.delayed a b c e) = omega arith
      go (M.waits a b c e) = absurd (omega arith)
      go (M.many a e) = absurd (omega arith)

  passed_tidy : Tidy k
  passed_tidy = record { sizes = z.sizes; ready_ended = p.ready_ended; delayed_ended = p.delayed_ended; untimed = λ t h n. go t (p.timed t h n) }
    where
      go : (t : ℕ) → at (places_of k) t ≡ 2 → 1 ≤ count t (delay_line k)
      go t e = delayed_place t (λ q. let v : at (places_of k) 0 ≡ 2 = rw q at e in omega (arith, idle_place)) e

  idle_act : rank_of k 0 ≡ 0
  idle_act = rw idle_bare (unbased 0 (omega arith) idle_place)

  one_way : (t : ℕ) → t < 32 → at k.held t ≡ 0 → at k.way t ≡ 0
  one_way t h e =
      ⊎_elim (λ (q : at k.way t ≡ 0). q) (λ (n : at k.way t ≢ 0). absurd (((p.tasks t h).hands (λ w. n w.1)).0.0 e)) (eq_or_ne (at k.way t) 0)

  two_ways : (t : ℕ) → t < 32 → at k.held t ≢ 0 → (1 ≤ at k.way t) × (at k.way t ≤ 2)
  two_ways t h n = let w = (of_holder t h n).0.1 in (omega arith, (p.tasks t h).way_low)

  -- before Start
  quiet : k.started ≢ true → Calm (view k)
  unfolding view
  quiet off =
      let q = p.quiet off in
      record {
        clock_zero = q.clock_zero;
        none_delayed = ap (timed k.until) (live_none k.delayed q.none_delayed);
        none_wait = all_queues (λ l. l ≡ []) k.waiter (all_map {Q = λ x. nobody_or x ≡ []} (λ x e. rw (eq-eqb x 0 e)) k.waiter q.none_wait);
        none_hold = q.none_hold;
      }

  passed_sound : Sound (view k)
  unfolding view
  passed_sound = record {
    tables_sized = record {
      base_size = z.sizes.base;
      held_size = z.sizes.held;
      way_size = z.sizes.way;
      ceiling_size = z.sizes.ceiling;
      queue_size = length-map k.waiter nobody_or ∙ z.sizes.waiter;
    };
    in_time = record {
      clock_fits = z.clock;
      times_fit = all_timed (λ e. e.0 < 2 ^ 64) k.until (delay_line k) (all_every (λ t. z.times t) (delay_line k));
    };
    idle_ready = record {
      idle_base = unbased 0 (omega arith) idle_place;
      idle_there = rw (idle_last k.ready) (omega (arith, count_snoc 0 (ready_line k) 0));
      idle_free = idle_bare;
    };
    stand_once = record {
      stands = created_so;
      ready_tasks = rw (idle_last k.ready) (all_join (λ x. x < 32) (ready_line k) (0 ∷ []) ra (omega arith, tt));
      delay_tasks = rw (tasks_timed k.until (delay_line k)) da;
      queue_tasks = all_queues (λ q. All (λ x. x < 32) q) k.waiter (all_map (λ x w. one_waits (λ y. y < 32) x (λ n. w)) k.waiter wa);
    };
    in_order = record {
      ready_falls = rw (idle_last k.ready) (pairs_join (Falling k) (ready_line k) 0 (all_every (λ x. omega (arith, idle_act)) (ready_line k)) falling.1);
      times_rise = pairs_timed k.until (delay_line k) rising.1;
    };
    in_range = record {
      bases = all_index (λ b. b ≤ 15) 0 k.base (λ t h. (p.tasks t (omega (arith, z.sizes.base))).base_low);
      ceilings = all_index (λ b. b ≤ 15) 0 k.ceiling (λ o h. (p.objects o (omega (arith, z.sizes.ceiling))).ceiling_low);
      null_object = (p.objects 0 (omega arith)).null (λ n. n refl);
    };
    hold_one = λ t h. (one_way t h, two_ways t h);
    one_each = record {
      held_once = λ o h n. omega (arith, p.holders.single o n h);
      waiters = all_queues (λ q. length q ≤ 1) k.waiter (all_every no_more k.waiter);
    };
    holders_ready =
        λ t h n.
        rw (idle_last k.ready)
        (omega (arith, count_snoc t (ready_line k) 0, ready_place t (λ e. n (ap (at k.held) e ∙ idle_bare)) (of_holder t h n).1));
    all_admitted = record {
      holder_admitted = λ t h n. (p.holders.each t n (omega (arith, z.sizes.held))).1;
      waiter_admitted = λ o h. rw (queue_at k o) (one_waits (Admitted k o) (at k.waiter o) (λ n. ((p.objects o h).waiter n).1));
    };
    quiet_before_start = quiet;
  }

-- From the conditions to the test.
module _ (k : Kernel) (z : Sizes k) (d : Tidy k) (s : Sound (view k)) where
  ra' : All (λ x. x < 32) (ready_line k)
  unfolding view
  ra' = all_front (λ x. x < 32) (ready_line k) (0 ∷ []) (rw (idle_last k.ready) at s.stand_once.ready_tasks)

  da' : All (λ x. x < 32) (delay_line k)
  unfolding view
  da' = rw (tasks_timed k.until (delay_line k)) at s.stand_once.delay_tasks

  wa' : All (λ x. x < 32) k.waiter
  unfolding view
  wa' =
      all_map (λ x h. ⊎_elim (λ (e : x ≡ 0). omega arith) (λ (n : x ≢ 0). waits_one (λ y. y < 32) x h n) (eq_or_ne x 0)) k.waiter
      (queues_all (λ q. All (λ y. y < 32) q) k.waiter s.stand_once.queue_tasks)

  spot' : (t : ℕ) → t ≢ 0 → SpotOf k t
  spot' = mark_of k ra' da' wa'

  once' : (t : ℕ) → t ≢ 0 → in_all k t ≤ 1
  once' t n = omega (arith, stand_count k t n, once (view k) s t)

  level_low : (x : ℕ) → rank_of k x ≤ 15
  unfolding view
  level_low x = go (eqb (at k.held x) 0)
    where
      go : (b : Bool) → cond b (at k.base x) (at k.ceiling (at k.held x)) ≤ 15
      go true = all_at (λ p. p ≤ 15) k.base x 0 (omega arith) s.in_range.bases
      go false = all_at (λ p. p ≤ 15) k.ceiling (at k.held x) 0 (omega arith) s.in_range.ceilings

  -- a task with a mark has a base, and one without has none
  task_stands : (t : ℕ) → t < 32 → ((at k.base t ≡ 0) × (at (places_of k) t ≡ 0) → ⊥) → (at k.base t ≢ 0) × (at (places_of k) t ≢ 0)
  unfolding view
  task_stands t h f =
      ⊎_elim (λ (e : t ≡ 0). absurd (f (ap (at k.base) e ∙ s.idle_ready.idle_base, ap (at (places_of k)) e ∙ mark_idle k ra' da' wa')))
      (λ (n : t ≢ 0). go n) (eq_or_ne t 0)
    where
      go : (n : t ≢ 0) → (at k.base t ≢ 0) × (at (places_of k) t ≢ 0)
      go n =
          let sum : in_all k t ≡ one_if (not (eqb (at k.base t) 0)) =
          sym (stand_count k t n) ∙ (s.stand_once.stands t h ∙ ap (λ (b : Bool). one_if (b || not (eqb (at k.base t) 0))) (ne_eqb t 0 n)) in
          let nb : at k.base t ≢ 0 = λ e. (let y : one_if (not (eqb (at k.base t) 0)) ≡ 0 = rw e in f (e, spot_none (spot' t n) (omega arith))) in
          (nb, λ e. (let y : one_if (not (eqb (at k.base t) 0)) ≡ 1 = rw (ne_eqb (at k.base t) 0 nb) in omega (arith, spot_zero (spot' t n) e)))

  holder_place : (t : ℕ) → t < 32 → at k.held t ≢ 0 → at (places_of k) t ≡ 1
  unfolding view
  holder_place t h m =
      let n : t ≢ 0 = λ e. m (ap (at k.held) e ∙ s.idle_ready.idle_free) in
      let y : one_if (eqb t 0) ≡ 0 = rw (ne_eqb t 0 n) in
      let c : 1 ≤ count t (ready_line k ++ (0 ∷ [])) = rw (idle_last k.ready) at (s.holders_ready t h m) in
      spot_ready (spot' t n) (once' t n) (omega (arith, count_snoc t (ready_line k) 0))

  place_low : (t : ℕ) → at (places_of k) t ≤ 3
  place_low t =
      ⊎_elim (λ (e : t ≡ 0). omega (arith, ap (at (places_of k)) e, mark_idle k ra' da' wa')) (λ (n : t ≢ 0). spot_low (spot' t n) (once' t n)) (eq_or_ne t 0)

  way_low : (t : ℕ) → t < 32 → at k.way t ≤ 2
  unfolding view
  way_low t h =
      ⊎_elim (λ (e : at k.held t ≡ 0). omega (arith, (s.hold_one t h).0 e)) (λ (n : at k.held t ≢ 0). ((s.hold_one t h).1 n).1)
      (eq_or_ne (at k.held t) 0)

  hands : (t : ℕ) → t < 32 → ((at k.held t ≡ 0) × (at k.way t ≡ 0) → ⊥) → ((at k.held t ≢ 0) × (at k.way t ≢ 0)) × (at (places_of k) t ≡ 1)
  unfolding view
  hands t h f =
      let n : at k.held t ≢ 0 = λ e. f (e, (s.hold_one t h).0 e) in
      ((n, λ e. let w = ((s.hold_one t h).1 n).0 in omega arith), holder_place t h n)

  task_found : (t : ℕ) → t < 32 → Task k t
  unfolding view
  task_found t h = record {
    base_low = all_at (λ b. b ≤ 15) k.base t 0 (omega arith) s.in_range.bases;
    place_low = place_low t;
    way_low = way_low t h;
    stands = task_stands t h;
    hands = hands t h;
  }

  object_found : (o : ℕ) → o < 8 → Object k o
  unfolding view
  object_found o h = record {
    null = λ f. ⊎_elim (λ (e : o ≡ 0). ap (at k.ceiling) e ∙ s.in_range.null_object) (λ (n : o ≢ 0). absurd (f n)) (eq_or_ne o 0);
    ceiling_low = all_at (λ b. b ≤ 15) k.ceiling o 0 (omega arith) s.in_range.ceilings;
    waiter = λ n. (
      all_at (λ x. x < 32) k.waiter o 0 (omega arith) wa',
      waits_one (Admitted k o) (at k.waiter o) (rw (queue_at k o) at (s.all_admitted.waiter_admitted o h)) n,
    );
  }

  quiet_found : k.started ≢ true → Quiet k
  unfolding view
  quiet_found off =
      let c = s.quiet_before_start off in
      record {
        clock_zero = c.clock_zero;
        none_delayed = none_live k.delayed (untime (delay_line k) c.none_delayed);
        none_wait = all_map (λ x e. nobody_zero x e) k.waiter (queues_all (λ l. l ≡ []) k.waiter c.none_wait);
        none_hold = c.none_hold;
      }
    where
      untime : (l : List ℕ) → timed k.until l ≡ [] → l ≡ []
      untime [] e = refl
      untime (x ∷ l) e = let y : ◌≡◌ {A = ℕ} 0 1 = cc in absurd (omega arith)

  found_passed : Passed k
  unfolding view
  found_passed = record {
    ready_ended = d.ready_ended;
    delayed_ended = d.delayed_ended;
    falls =
        pairs_ord (λ a b. b ≤ a) (λ a b c u v. omega arith) (rank_of k) 15 (ready_line k) ra' (all_every level_low (ready_line k))
        (pairs_front (Falling k) (ready_line k) (0 ∷ []) (rw (idle_last k.ready) at s.in_order.ready_falls));
    rises =
        pairs_ord (λ a b. a ≤ b) (λ a b c u v. omega arith) (at k.until) 0 (delay_line k) da' (all_every (λ x. omega arith) (delay_line k))
        (timed_pairs k.until (delay_line k) s.in_order.times_rise);
    tasks = task_found;
    timed =
        λ t h n.
        (let c = d.untimed t h n in let m = standing (λ x. x ≢ 0) (delay_line k) (live_real k.delayed) t c in spot_delayed (spot' t m) (once' t m) c);
    holders = record {
      each = λ t n l. (let a = s.all_admitted.holder_admitted t (omega (arith, z.held)) n in (object_known (view k) s (at k.held t) a.0, a));
      single = λ o n l. omega (arith, s.one_each.held_once o l n, free_at 8 o);
    };
    objects = object_found;
    quiet = quiet_found;
  }

-- The code's test is is_sound.
both_ways : (a b : Bool) → (a ≡ true → b ≡ true) → (b ≡ true → a ≡ true) → a ≡ b
both_ways true true f g = refl
both_ways true false f g = sym (f refl)
both_ways false true f g = g refl
both_ways false false f g = refl

pub test_same : (k : Kernel) → Fits k → test_of k ≡ is_sound k
unfolding is_sound
test_same k z =
    let made = tests_tidy k also tests_sound (view k) in
    both_ways (test_of k) (tidy k && sound (view k))
    (λ e. let p = (tests_passed k z.sizes).sure e in made.found (passed_tidy k z p, passed_sound k z p))
    (λ e. let w = made.sure e in (tests_passed k z.sizes).found (found_passed k z.sizes w.0 w.1))
