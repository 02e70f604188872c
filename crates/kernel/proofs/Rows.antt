-- What each op does to the tables is what its row of the op table does to the machine: op (encode m) ≡ encode (row of m).
-- A place found in a padded line is the place in the line, since the first free place stops every search. Assumes nothing.
use Prim.Native.Nat.{ℕ, zero, suc, ◌+◌, ◌≤◌, ◌<◌, ◌^◌}
use native.Mathlib.Numerals.{add-one}
use native.Mathlib.Omega.{arith}
use mathlib.Core.Path.{◌≡◌, refl, sym, ap, ◌∙◌, subst}
use mathlib.Core.Logic.{◌≢◌}
use mathlib.Core.List.{List, [], ◌∷◌}
use mathlib.Core.Bool.{Bool, true, false, cond}
use lib.ListN.{length, get_or, set}
use lib.Seq.{get_or-set_other, set-get_or}
use lib.Dec.{ltb}
use borrow.Author.Tests.{ne_eqb, lt-ltb, lt-leb}
use Rattle.rules.specs.Line as R
use Rattle.rules.specs.Line.{at, count, front, behind_front, first_alone, at_tail, at_head, by_time}
use Rattle.rules.specs.Machine.{Machine, active, tasks, runner}
use Rattle.rules.specs.Table as T
use Rattle.rules.specs.Table.{take, yield, close, sleep, await, due, serve, creates, declares, begins, freed, release, leave, carry}
use Rattle.rules.proofs.Words.{All}
use Rattle.rules.proofs.Lists.{all_map, all_behind, all_at, standing, one_self, tasks_behind, waits_at}
use Rattle.rules.proofs.Hands.{act_free}
use Rattle.rules.proofs.Sounds.{Sound, based, once, known, ready_few, delay_few, runner_there}
use Rattle.rules.proofs.Kept.{MayLeave, MayAwait}
use Rattle.rules.proofs.SetUp.{MayCreate}
use Rattle.kernel_line.specs.Tables.{shift, place, pop, later}
use Rattle.kernel_ready.specs.Ready.{runner_in, popped, lower, tailed, headed}
use Rattle.kernel.specs.View.{pad, times, encode}
use Rattle.kernel.specs.Step.{answered, created_of, declared_of, begun_of, yielded_of, slept_of, woken_of, advanced_of, held_of, served_of, closed_of, awaiting_of}
use Rattle.kernel.proofs.Padded.{pad_zero, front_pad, pad_more, Right, Own, own_right, times_place, times_drop, map_set}
use Rattle.kernel.proofs.Round.{sound_own, act_zero, delayed_tasks, not_idle}

-- Padded lines.
shift_pad : (x n : ℕ) (l : List ℕ) → shift x (pad n l) ≡ pad n (x ∷ l)
unfolding shift
shift_pad x zero l = refl
shift_pad x (suc n) [] = ap (λ (l : List ℕ). x ∷ l) (shift_pad 0 n [] ∙ pad_zero n)
shift_pad x (suc n) (y ∷ l) = ap (λ (l : List ℕ). x ∷ l) (shift_pad y n l)

pub place_pad : (f g : ℕ → Bool) → f 0 ≡ true → (t n : ℕ) (l : List ℕ) → All (λ x. f x ≡ g x) l → place f t (pad n l) ≡ pad n (R.place g t l)
unfolding place
place_pad f g z t zero l h = refl
place_pad f g z t (suc n) [] h = rw z (ap (λ (l : List ℕ). t ∷ l) (shift_pad 0 n [] ∙ pad_zero n))
place_pad f g z t (suc n) (x ∷ l) h = rw h.0 (go (g x) (place_pad f g z t n l h.1))
  where
    go : (b : Bool) → place f t (pad n l) ≡ pad n (R.place g t l)
        → cond b (t ∷ shift x (pad n l)) (x ∷ place f t (pad n l)) ≡ pad (suc n) (cond b (t ∷ x ∷ l) (x ∷ R.place g t l))
    go true ih = ap (λ (l : List ℕ). t ∷ l) (shift_pad x n l)
    go false ih = ap (λ (l : List ℕ). x ∷ l) ih

pub pop_pad : (n : ℕ) (l : List ℕ) → length l ≤ n → pop (pad n l) ≡ pad n (behind_front l)
unfolding pop
pop_pad zero l h = refl
pop_pad (suc n) [] h = pad_more n [] (omega arith)
pop_pad (suc n) (x ∷ l) h = pad_more n l (omega arith)

-- The ready line in its table: its front, the line without it, and a task at the tail and at the head of p, by the active priorities of a machine.
pub runner_pad : (l : List ℕ) → runner_in (pad 32 l) ≡ front 0 l
unfolding runner_in
runner_pad l = front_pad 31 l

popped_pad : (l : List ℕ) → length l ≤ 32 → popped (pad 32 l) ≡ pad 32 (behind_front l)
unfolding popped
popped_pad l h = pop_pad 32 l h

module _ (m : Machine) (z : active m 0 ≡ 0) (p t : ℕ) (l : List ℕ) (k : All (λ x. x < 32) l) where
  tailed_pad : 1 ≤ p → tailed m.base m.ceiling m.held p t (pad 32 l) ≡ pad 32 (at_tail (active m) p t l)
  unfolding tailed
  tailed_pad h =
      place_pad (lower m.base m.ceiling m.held p) (λ y. ltb (active m y) p) (lt-ltb (active m 0) p (omega arith)) t 32 l
      (all_map {Q = λ x. lower m.base m.ceiling m.held p x ≡ ltb (active m x) p} (λ x b. rw (lt-leb 32 x b)) l k)

headed_pad : (m : Machine) → active m 0 ≡ 0 → (p t : ℕ) (l : List ℕ) → All (λ x. x < 32) l → p < 255
    → headed m.base m.ceiling m.held p t (pad 32 l) ≡ pad 32 (at_head (active m) p t l)
unfolding headed
headed_pad m z p t l k low = rw (lt-ltb p 255 low, add-one p) (tailed_pad m z (suc p) t l k (omega arith))

-- by time, among the delayed tasks
tasks_place : (until : List ℕ) (v t : ℕ) (l : List (ℕ × ℕ)) → All (Right until) l → tasks (by_time (v, t) l) ≡ R.place (λ x. ltb v (at until x)) t (tasks l)
tasks_place until v t [] h = refl
tasks_place until v t (e ∷ l) h = rw h.0.0 (go (ltb v e.0) (tasks_place until v t l h.1))
  where
    go : (b : Bool) → tasks (by_time (v, t) l) ≡ R.place (λ x. ltb v (at until x)) t (tasks l)
        → tasks (cond b ((v, t) ∷ e ∷ l) (e ∷ by_time (v, t) l)) ≡ cond b (t ∷ e.1 ∷ tasks l) (e.1 ∷ R.place (λ x. ltb v (at until x)) t (tasks l))
    go true ih = refl
    go false ih = ap (λ (l : List ℕ). e.1 ∷ l) ih

time_pad : (until : List ℕ) (v t : ℕ) (l : List (ℕ × ℕ)) → All (Right until) l → All (λ x. (x < 32) × (x ≢ 0)) (tasks l)
    → place (later until v) t (pad 32 (tasks l)) ≡ pad 32 (tasks (by_time (v, t) l))
time_pad until v t l r k =
    place_pad (later until v) (λ x. ltb v (at until x)) refl t 32 (tasks l)
    (all_map {P = λ x. (x < 32) × (x ≢ 0)} {Q = λ x. later until v x ≡ ltb v (at until x)}
    (λ x w. rw (ne_eqb x 0 w.1, lt-leb 32 x w.0)) (tasks l) k)
    ∙ ap (pad 32) (sym (tasks_place until v t l r))

module _ (m : Machine) (s : Sound m) where
  runner_rank : runner m ≢ 0 → 1 ≤ at m.base (runner m)
  runner_rank n = based m s (runner m) (omega (arith, runner_there m s)) n

  behind_low : All (λ x. x < 32) (behind_front m.ready)
  behind_low = all_behind (λ x. x < 32) m.ready s.stand_once.ready_tasks

  -- nobody but the delayed have a time: the runner has none
  runner_untimed : count (runner m) (tasks m.delay) ≡ 0
  runner_untimed = omega (arith, once m s (runner m), runner_there m s)

  runner_low : runner m < 32
  runner_low = known m s (runner m) (omega (arith, runner_there m s))

  right : All (Right (times m.delay)) m.delay
  right = own_right m.delay (sound_own m s)

  -- The rows.
  pub create_tie : (t p : ℕ) → MayCreate m t p → created_of (encode m) t p ≡ answered (encode (carry m (creates t p))) 0
  unfolding created_of carry encode
  create_tie t p g = rw (tailed_pad new zero_act p t m.ready s.stand_once.ready_tasks g.rank.0)
    where
      new : Machine
      new = T.with_set_up m (set m.base t p) m.ceiling m.started

      zero_act : active new 0 ≡ 0
      zero_act = act_free new 0 s.idle_ready.idle_free
          ∙ (get_or-set_other m.base t 0 p 0 (λ e. let z = g.task.0 in omega arith) ∙ s.idle_ready.idle_base)

  pub declare_tie : (o p : ℕ) → declared_of (encode m) o p ≡ answered (encode (carry m (declares o p))) 0
  unfolding declared_of carry encode
  declare_tie o p = refl

  pub begin_tie : begun_of (encode m) ≡ answered (encode (carry m begins)) 0
  unfolding begun_of carry encode
  begin_tie = refl

  pub yield_tie : MayLeave m → yielded_of (encode m) ≡ answered (encode (leave yield m)) 0
  unfolding yielded_of leave encode
  yield_tie g =
      rw (
        runner_pad m.ready,
        popped_pad m.ready (ready_few m s),
        tailed_pad m (act_zero m s) (at m.base (runner m)) (runner m) (behind_front m.ready) behind_low (runner_rank g.busy),
      )

  pub sleep_tie : (v : ℕ) → slept_of (encode m) v ≡ answered (encode (leave (sleep v) m)) 0
  unfolding slept_of leave encode
  sleep_tie v =
      rw (
        runner_pad m.ready,
        popped_pad m.ready (ready_few m s),
        time_pad (times m.delay) v (runner m) m.delay right (delayed_tasks m s),
        lt-ltb (runner m) 32 runner_low,
        times_place (λ f. ltb v f.0) v (runner m) m.delay runner_untimed,
      )

  pub advance_tie : (n : ℕ) → m.clock + n < 2 ^ 64 → advanced_of (encode m) n ≡ answered (encode (T.later m n)) 0
  unfolding advanced_of encode
  advance_tie n h = rw (lt-ltb (m.clock + n) (2 ^ 64) h)

  pub take_tie : (o w : ℕ) → held_of (encode m) o w ≡ answered (encode (leave (take o w) m)) 0
  unfolding held_of leave encode
  take_tie o w = rw (runner_pad m.ready)

  pub close_tie : (t : ℕ) → closed_of (encode m) t ≡ answered (encode (leave close m)) t
  unfolding closed_of leave encode
  close_tie t =
      rw (
        runner_pad m.ready,
        popped_pad m.ready (ready_few m s),
        headed_pad new zero_act (at m.base (runner m)) (runner m) (behind_front m.ready) behind_low low,
      )
    where
      low : at m.base (runner m) < 255
      low = let z = all_at (λ p. p ≤ 15) m.base (runner m) 0 (omega arith) s.in_range.bases in omega arith

      new : Machine
      new = T.with_hands m (set m.held (runner m) 0) (set m.way (runner m) 0)

      freed_hands : (l : List ℕ) (i : ℕ) → at l 0 ≡ 0 → at (set l i 0) 0 ≡ 0
      freed_hands [] i e = refl
      freed_hands (x ∷ l) zero e = refl
      freed_hands (x ∷ l) (suc i) e = e

      zero_act : active new 0 ≡ 0
      zero_act = act_free new 0 (freed_hands m.held (runner m) s.idle_ready.idle_free) ∙ s.idle_ready.idle_base

  pub await_tie : (o : ℕ) → MayAwait m o → awaiting_of (encode m) o ≡ answered (encode (leave (await o) m)) 0
  unfolding awaiting_of leave encode
  await_tie o g =
      rw (runner_pad m.ready, popped_pad m.ready (ready_few m s), g.alone, map_set (front 0) m.queue o (runner m ∷ []))

-- The releases.
times_behind : (l : List (ℕ × ℕ)) (t : ℕ) → first_alone (tasks l) ≡ t ∷ [] → Own l → set (times l) t 0 ≡ times (behind_front l)
times_behind [] t e o = let z : ◌≡◌ {A = ℕ} 0 1 = cc in absurd (omega arith)
times_behind (f ∷ l) t e o = let q : f.1 ≡ t = cc in subst (λ (x : ℕ). set (times (f ∷ l)) x 0 ≡ times l) q (times_drop f l o.0.0)

first_stands : (l : List ℕ) (t : ℕ) → first_alone l ≡ t ∷ [] → 1 ≤ count t l
first_stands [] t e = let z : ◌≡◌ {A = ℕ} 0 1 = cc in absurd (omega arith)
first_stands (x ∷ l) t e = let q : x ≡ t = cc in rw q (omega (arith, one_self t))

last_one : (q : List ℕ) → length q ≤ 1 → front 0 (behind_front q) ≡ 0
last_one [] h = refl
last_one (x ∷ []) h = refl
last_one (x ∷ (y ∷ q)) h = absurd (omega arith)

module _ (m : Machine) (s : Sound m) where
  pub woken_tie : (t : ℕ) → freed due m ≡ t ∷ [] → woken_of (encode m) t ≡ answered (encode (release due m)) t
  unfolding woken_of release encode
  woken_tie t e =
      let d : 1 ≤ count t (tasks m.delay) = first_stands (tasks m.delay) t e in
      let h = standing (λ x. (x < 32) × (x ≢ 0)) (tasks m.delay) (delayed_tasks m s) t d in
      let up : 1 ≤ at m.base t = based m s t (omega arith) h.1 in
      rw (
        tailed_pad m (act_zero m s) (at m.base t) t m.ready s.stand_once.ready_tasks up,
        pop_pad 32 (tasks m.delay) (delay_few m s),
        lt-ltb t 32 h.0,
        times_behind m.delay t e (sound_own m s),
        e,
        tasks_behind m.delay,
      )

  pub served_tie : (o t : ℕ) → freed (serve o 1) m ≡ t ∷ [] → served_of (encode m) o t ≡ encode (release (serve o 1) m)
  unfolding served_of release encode
  served_tie o t e =
      let d : 1 ≤ count t (get_or m.queue o []) = first_stands (get_or m.queue o []) t e in
      let w = waits_at t m.queue o in
      let n : t ≢ 0 = not_idle m s t (omega arith) in
      let up : 1 ≤ at m.base t = based m s t (omega arith) n in
      rw (
        tailed_pad m (act_zero m s) (at m.base t) t m.ready s.stand_once.ready_tasks up,
        e,
        map_set (front 0) m.queue o (behind_front (get_or m.queue o [])),
        last_one (get_or m.queue o []) (all_at (λ q. length q ≤ 1) m.queue o [] (omega arith) s.one_each.waiters),
      )

  -- nobody waits: nothing changes
  pub nobody_served : (o : ℕ) → get_or m.queue o [] ≡ [] → release (serve o 1) m ≡ m
  unfolding release
  nobody_served o e =
      let q : set m.queue o [] ≡ m.queue = subst (λ (x : List ℕ). set m.queue o x ≡ m.queue) e (set-get_or m.queue o []) in
      rw (e, q)
