-- Reading what was written, and writing what was read: view (encode m) ≡ m for a sound machine, encode (view k) ≡ k for tidy tables.
-- Assumes nothing.
use Prim.Native.Nat.{ℕ, zero, suc, ◌+◌, ◌≤◌, ◌<◌}
use native.Mathlib.Omega.{arith}
use mathlib.Core.Path.{◌≡◌, refl, sym, ap, ◌∙◌, subst}
use mathlib.Core.Logic.{◌≢◌, ⊎_elim}
use mathlib.Core.List.{List, [], ◌∷◌}
use mathlib.Core.Bool.{Bool, true, false, cond}
use lib.ListN.{length, get_or}
use lib.Seq.{ext_get_or}
use lib.Dec.{eqb, leb}
use borrow.Author.Tests.{eqb-true, eqb-false, ne_eqb, leb-false}
use Rattle.rules.specs.Line.{at, count, one_if}
use Rattle.rules.specs.Machine.{Machine, task_count, object_count, active, tasks}
use Rattle.rules.specs.Sound.{standings, waits}
use Rattle.rules.proofs.Words.{All, Pairwise, Free, Holding}
use Rattle.kernel_order.specs.Order.{ended}
use Rattle.rules.proofs.Lists.{all_map, all_both, all_standing, eq_or_ne, one_self, waits_at}
use Rattle.rules.proofs.Tests.{Tests, tests_is, tests_le, tests_eq, tests_field, tests_record, tests_or, tests_all_below}
use Rattle.rules.proofs.Hands.{act_free, act_held, free_or_holding}
use Rattle.rules.proofs.Sounds.{Sound, once, known, based, ready_few, delay_few}
use Rattle.kernel.specs.declared.Kernel.{Kernel}
use Rattle.kernel.specs.View.{live, with_idle, timed, pad, times, encode, view, sized, tidy}
use Rattle.kernel.proofs.Padded.{pad_ready, pad_live, live_pad, timed_right, tasks_timed, times_size, times_timed, Own, own_right, front_waiting}
use Rattle.kernel.proofs.Padded.{waiting_front}

-- What tidy says: the sizes of the tables, and what they hold.
pub record Sizes (k : Kernel) : Type 0 where
  pub base : length k.base ≡ task_count
  pub ready : length k.ready ≡ task_count
  pub delayed : length k.delayed ≡ task_count
  pub held : length k.held ≡ task_count
  pub way : length k.way ≡ task_count
  pub until : length k.until ≡ task_count
  pub ceiling : length k.ceiling ≡ object_count
  pub waiter : length k.waiter ≡ object_count

tests_sized : (k : Kernel) → Tests (sized k) (Sizes k)
tests_sized k =
    tests_field (tests_eq _ task_count) (λ z. z.base) λ base.
    tests_field (tests_eq _ task_count) (λ z. z.ready) λ ready.
    tests_field (tests_eq _ task_count) (λ z. z.delayed) λ delayed.
    tests_field (tests_eq _ task_count) (λ z. z.held) λ held.
    tests_field (tests_eq _ task_count) (λ z. z.way) λ way.
    tests_field (tests_eq _ task_count) (λ z. z.until) λ until.
    tests_field (tests_eq _ object_count) (λ z. z.ceiling) λ ceiling.
    tests_field (tests_eq _ object_count) (λ z. z.waiter) λ waiter.
    tests_record (record { base = base; ready = ready; delayed = delayed; held = held; way = way; until = until; ceiling = ceiling; waiter = waiter })

pub record Tidy (k : Kernel) : Type 0 where
  pub sizes : Sizes k
  pub ready_ended : ended k.ready ≡ true
  pub delayed_ended : ended k.delayed ≡ true
  pub untimed : (t : ℕ) → t < task_count → at k.until t ≢ 0 → 1 ≤ count t (live k.delayed)

pub tests_tidy : (k : Kernel) → Tests (tidy k) (Tidy k)
unfolding tidy
tests_tidy k =
    tests_field (tests_sized k) (λ z. z.sizes) λ sizes.
    tests_field (tests_is (ended k.ready)) (λ z. z.ready_ended) λ ready.
    tests_field (tests_is (ended k.delayed)) (λ z. z.delayed_ended) λ delayed.
    tests_field (tests_all_below (λ t. tests_or (tests_eq (at k.until t) 0) (tests_le 1 (count t (live k.delayed)))) task_count) (λ z. z.untimed)
    λ untimed.
    tests_record (record { sizes = sizes; ready_ended = ready; delayed_ended = delayed; untimed = untimed })

-- Writing what was read.
module _ (k : Kernel) (h : Tidy k) where
  until_back : times (timed k.until (live k.delayed)) ≡ k.until
  until_back =
      ext_get_or 0 (times (timed k.until (live k.delayed))) k.until (size ∙ sym h.sizes.until)
      (λ t l. times_timed k.until (live k.delayed) t (omega (arith, size)) ∙ go t (omega (arith, size)) (leb 1 (count t (live k.delayed))) refl)
    where
      size : length (times (timed k.until (live k.delayed))) ≡ 32
      size = times_size (timed k.until (live k.delayed))

      go : (t : ℕ) → t < 32 → (b : Bool) → leb 1 (count t (live k.delayed)) ≡ b → cond b (at k.until t) 0 ≡ at k.until t
      go t l true e = refl
      go t l false e =
          sym
          (⊎_elim (λ (z : at k.until t ≡ 0). z)
          (λ (z : at k.until t ≢ 0). absurd (omega (arith, h.untimed t l z, leb-false 1 (count t (live k.delayed)) e))) (eq_or_ne (at k.until t) 0))

  pub encode_view : encode (view k) ≡ k
  unfolding encode view
  encode_view =
      let r : pad 32 (with_idle k.ready) ≡ k.ready =
      subst (λ (n : ℕ). pad n (with_idle k.ready) ≡ k.ready) h.sizes.ready (pad_ready k.ready h.ready_ended) in
      let d : pad 32 (live k.delayed) ≡ k.delayed =
      subst (λ (n : ℕ). pad n (live k.delayed) ≡ k.delayed) h.sizes.delayed (pad_live k.delayed h.delayed_ended) in
      rw (tasks_timed k.until (live k.delayed), r, d, until_back, front_waiting k.waiter)

-- Reading what was written. A line in order, in which idle stands once, ends with idle: all others have an active priority above 0.
ready_pad : (act : ℕ → ℕ) (n : ℕ) (l : List ℕ) → length l ≤ n → count 0 l ≡ 1 → Pairwise (λ x y. act y ≤ act x) l → act 0 ≡ 0
    → ((t : ℕ) → 1 ≤ count t l → t ≢ 0 → 1 ≤ act t) → with_idle (pad n l) ≡ l
ready_pad act zero [] h o c z f = absurd (omega arith)
ready_pad act zero (x ∷ l) h o c z f = absurd (omega arith)
ready_pad act (suc n) [] h o c z f = absurd (omega arith)
ready_pad act (suc n) (x ∷ l) h o c z f = go (eqb x 0) refl (ready_pad act n l (omega arith))
  where
    -- behind idle stands nobody
    alone : (l : List ℕ) → All (λ y. act y ≤ act 0) l → count 0 l ≡ 0 → ((t : ℕ) → 1 ≤ count t l → t ≢ 0 → 1 ≤ act t) → l ≡ []
    alone [] a o f = refl
    alone (y ∷ l) a o f =
        let ny : y ≢ 0 = λ w. let v : one_if (eqb 0 y) ≡ 1 = rw w in omega arith in
        let up : 1 ≤ act y = f y (omega (arith, one_self y)) ny in
        absurd (let w = a.0 in omega arith)

    go : (b : Bool) → eqb x 0 ≡ b
        → (count 0 l ≡ 1 → Pairwise (λ x y. act y ≤ act x) l → act 0 ≡ 0 → ((t : ℕ) → 1 ≤ count t l → t ≢ 0 → 1 ≤ act t) → with_idle (pad n l) ≡ l)
        → cond b (0 ∷ []) (x ∷ with_idle (pad n l)) ≡ x ∷ l
    go true e ih =
        let q : x ≡ 0 = eqb-true x 0 e in
        let v : one_if (eqb 0 x) ≡ 1 = rw q in
        rw (q, alone l (subst (λ (w : ℕ). All (λ y. act y ≤ act w) l) q c.0) (omega arith) (λ t k. f t (omega arith)))
    go false e ih =
        let v : one_if (eqb 0 x) ≡ 0 = rw (ne_eqb 0 x (λ w. eqb-false x 0 e (sym w))) in
        ap (λ (l : List ℕ). x ∷ l) (ih (omega arith) c.1 z (λ t k. f t (omega arith)))

own : (l : List (ℕ × ℕ)) → ((t : ℕ) → count t (tasks l) ≤ 1) → All (λ t. (t < 32) × (t ≢ 0)) (tasks l) → Own l
own [] o a = tt
own (e ∷ l) o a = ((omega (arith, o e.1, one_self e.1), a.0.0, a.0.1), own l (λ t. omega (arith, o t)) a.1)

pub all_index : {A : Type 0} (P : A → Type 0) (d : A) (l : List A) → ((i : ℕ) → i < length l → P (get_or l i d)) → All P l
all_index P d [] f = tt
all_index P d (x ∷ l) f = (f 0 (omega arith), all_index P d l (λ i h. f (suc i) (omega arith)))

module _ (m : Machine) (s : Sound m) where
  -- idle is ready, and so neither delayed nor waiting
  pub not_idle : (t : ℕ) → 1 ≤ count t (tasks m.delay) + waits t m.queue → t ≢ 0
  not_idle t h e = let z : 1 ≤ count 0 (tasks m.delay) + waits 0 m.queue = rw e at h in omega (arith, once m s 0, s.idle_ready.idle_there)

  pub delayed_tasks : All (λ t. (t < 32) × (t ≢ 0)) (tasks m.delay)
  delayed_tasks = all_standing (λ t. (t < 32) × (t ≢ 0)) (tasks m.delay) (λ t h. (known m s t (omega arith), not_idle t (omega arith)))

  pub waiting_tasks : (o : ℕ) → All (λ t. t ≢ 0) (get_or m.queue o [])
  waiting_tasks o = all_standing (λ t. t ≢ 0) (get_or m.queue o []) (λ t h. not_idle t (omega (arith, waits_at t m.queue o)))

  pub sound_own : Own m.delay
  sound_own = own m.delay (λ t. omega (arith, once m s t)) delayed_tasks

  pub act_zero : active m 0 ≡ 0
  act_zero = act_free m 0 s.idle_ready.idle_free ∙ s.idle_ready.idle_base

  -- a standing task that is not idle has an active priority
  pub act_some : (t : ℕ) → 1 ≤ standings m t → t ≢ 0 → 1 ≤ active m t
  act_some t h n =
      ⊎_elim (λ (e : Free m t). omega (arith, act_free m t e, based m s t h n))
      (λ (e : Holding m t). let w = s.all_admitted.holder_admitted t (known m s t h) e in omega (arith, act_held m t e, based m s t h n, w.1))
      (free_or_holding m t)

  queue_back : All (λ l. (length l ≤ 1) × All (λ t. t ≢ 0) l) m.queue
  queue_back =
      all_both (λ l. length l ≤ 1) (λ l. All (λ t. t ≢ 0) l) m.queue s.one_each.waiters
      (all_index (λ l. All (λ t. t ≢ 0) l) [] m.queue (λ o h. waiting_tasks o))

  pub view_encode : view (encode m) ≡ m
  unfolding encode view
  view_encode =
      let r : with_idle (pad 32 m.ready) ≡ m.ready =
      ready_pad (active m) 32 m.ready (ready_few m s) (omega (arith, once m s 0, s.idle_ready.idle_there)) s.in_order.ready_falls act_zero
      (λ t h n. act_some t (omega arith) n) in
      let d : live (pad 32 (tasks m.delay)) ≡ tasks m.delay =
      live_pad 32 (tasks m.delay) (delay_few m s) (all_map (λ t w. w.1) (tasks m.delay) delayed_tasks) in
      rw (r, d, timed_right (times m.delay) m.delay (own_right m.delay sound_own), waiting_front m.queue queue_back)
