-- The queue beside a machine: of every sound machine, and by every command, the queue of its delay line becomes the queue of the delay line behind the
-- command. By the kinds of command, of which two touch a delay line. Assumes nothing.
use Prim.Native.Nat.{ℕ, suc, ◌+◌, ◌≤◌, ◌<◌}
use native.Mathlib.Omega.{arith}
use mathlib.Core.Path.{◌≡◌, refl, sym, ap, ◌∙◌}
use mathlib.Core.Logic.{◌≢◌}
use mathlib.Core.Bool.{Bool, true, false, cond, ◌&&◌}
use mathlib.Core.List.{List, [], ◌∷◌}
use lib.Dec.{eqb, ltb}
use lib.ListN.{length}
use borrow.Author.Tests.{eqb-true, ne_eqb}
use Rattle.rules.specs.Line.{one_if, count, front, behind_front, by_time}
use Rattle.rules.specs.Machine.{Machine, Command, task_count, tasks, runner, for_entry}
use Rattle.rules.specs.declared.Kind.{Kind}
use Rattle.rules.specs.declared.Kind.TheVariants.{NoKind, Creating, Declaring, Starting, Delaying, Waking, Advancing, Opening, Entering, Ending}
use Rattle.rules.specs.Kinds.{kind}
use Rattle.rules.specs.Table.{same, take, yield, close, sleep, await, none, due, serve, first_due, opens, effect_of, effect, freed, release, leave, carry}
use Rattle.rules.specs.Run.{accepts, next, released, run, wakes_left}
use Rattle.rules.proofs.Words.{All, Pairwise, cmd}
use Rattle.rules.proofs.Lists.{count_absent, one_self, few}
use Rattle.rules.proofs.Sounds.{Sound, once, runner_there}
use Rattle.rules.proofs.Step.{next_sound}
use Rattle.queue_chip.specs.Queue.{woken, left, follow, beside}
use Rattle.queue_chip.specs.Words.{Apart, Lined, queued, follows}
use Rattle.queue_chip.proofs.Laws.{delayed_is, wake_is, woken_is, left_is, idle_absent}

-- ## The delay line of a sound machine
all_tasks : (P : ℕ → Type 0) (l : List (ℕ × ℕ)) → All P (tasks l) → All (λ f. P f.1) l
all_tasks P [] a = tt
all_tasks P (e ∷ l) a = (a.0, all_tasks P l a.1)

lined_of : (l : List (ℕ × ℕ)) → ((t : ℕ) → count t (tasks l) ≤ 1) → count 0 (tasks l) ≡ 0 → All (λ t. t < task_count) (tasks l)
    → Pairwise (λ e f. e.0 ≤ f.0) l → Lined l
lined_of [] o z a k = tt
lined_of (e ∷ l) o z a k =
    let some : e.1 ≢ 0 = (count_absent 0 (tasks (e ∷ l)) z).0 in (
      omega arith,
      a.0,
      all_tasks (λ x. x ≢ e.1) l (count_absent e.1 (tasks l) (omega (arith, o e.1, one_self e.1))),
      k.0,
      lined_of l (λ t. omega (arith, o t)) (omega arith) a.1 k.1,
    )

tasks_length : (l : List (ℕ × ℕ)) → length (tasks l) ≡ length l
tasks_length [] = refl
tasks_length (e ∷ l) = ap suc (tasks_length l)

-- such a line is short: its tasks are below 32, each once, and idle is not among them
count_apart : (t : ℕ) (l : List (ℕ × ℕ)) → Apart t l → count t (tasks l) ≡ 0
count_apart t [] a = refl
count_apart t (e ∷ l) a = rw (ne_eqb t e.1 (λ q. a.0 (sym q))) (omega (arith, count_apart t l a.1))

count_lined : (t : ℕ) (l : List (ℕ × ℕ)) → Lined l → count t (tasks l) ≤ 1
count_lined t [] w = omega arith
count_lined t (e ∷ l) w = go (eqb t e.1) refl (count_lined t l w.4)
  where
    go : (b : Bool) → eqb t e.1 ≡ b → count t (tasks l) ≤ 1 → one_if b + count t (tasks l) ≤ 1
    go true c ih = rw (eqb-true t e.1 c) (omega (arith, count_apart e.1 l w.2))
    go false c ih = omega arith

tasks_below : (l : List (ℕ × ℕ)) → Lined l → All (λ t. t < task_count) (tasks l)
tasks_below [] w = tt
tasks_below (e ∷ l) w = (w.1, tasks_below l w.4)

pub lined_short : (l : List (ℕ × ℕ)) → Lined l → length l < task_count
lined_short l w = omega (arith, tasks_length l, few task_count (0 ∷ tasks l) (omega arith, tasks_below l w) (λ t. counted t (eqb t 0) refl))
  where
    counted : (t : ℕ) (b : Bool) → eqb t 0 ≡ b → one_if b + count t (tasks l) ≤ 1
    counted t true c = rw (eqb-true t 0 c) (omega (arith, count_apart 0 l (idle_absent l w)))
    counted t false c = omega (arith, count_lined t l w)

module _ (m : Machine) (s : Sound m) where
  pub delay_lined : Lined m.delay
  delay_lined =
      lined_of m.delay (λ t. omega (arith, once m s t)) (omega (arith, once m s 0, s.idle_ready.idle_there)) s.stand_once.delay_tasks
      s.in_order.times_rise

  pub delay_short : length m.delay < task_count
  delay_short = lined_short m.delay delay_lined

  pub runner_apart : Apart (runner m) m.delay
  runner_apart =
      all_tasks (λ x. x ≢ runner m) m.delay
      (count_absent (runner m) (tasks m.delay) (omega (arith, once m s (runner m), runner_there m s)))

  -- ## What each kind of command does to the delay line
  slept : (v : ℕ) (b : Bool) → (leave (cond b (sleep v) yield) (release none m)).delay ≡ cond b (by_time (v, runner m) m.delay) m.delay
  unfolding leave release
  slept v true = refl
  slept v false = refl

  woke : (b : Bool) → (leave same (release (cond b due none) m)).delay ≡ cond b (behind_front m.delay) m.delay
  unfolding leave release
  woke true = refl
  woke false = refl

  closed : (o : ℕ) (b : Bool) → (leave close (release (cond b (serve o 1) none) m)).delay ≡ m.delay
  unfolding leave release
  closed o true = refl
  closed o false = refl

  entered : (o w : ℕ) (b : Bool) → (leave (cond b (take o w) (await o)) (release none m)).delay ≡ m.delay
  unfolding leave release
  entered o w true = refl
  entered o w false = refl

  by_kind : (c : Command) (k : Kind) → follow k m.clock c.value (runner m) (queued m.delay) ≡ queued (carry m (effect_of k m c)).delay
  unfolding follow carry leave release
  by_kind c NoKind = refl
  by_kind c Creating = refl
  by_kind c Declaring = refl
  by_kind c Starting = refl
  by_kind c Delaying =
      delayed_is m.clock c.value (runner m) m.delay delay_lined runner_apart (omega (arith, delay_short)) ∙
      ap queued (sym (slept c.value (ltb m.clock c.value)))
  by_kind c Waking = wake_is m.clock m.delay delay_lined ∙ ap queued (sym (woke (first_due m)))
  by_kind c Advancing = refl
  by_kind c Opening = refl
  by_kind c Entering = ap queued (sym (entered c.a for_entry (eqb c.b 1)))
  by_kind c (Ending e) = ap queued (sym (closed c.a (e.serves && opens c)))

  pub beside_is : (c : Command) → beside m c (queued m.delay) ≡ queued (next m c).delay
  unfolding beside next
  beside_is c = go (accepts m c)
    where
      go : (x : Bool) → cond x (follow (kind c) m.clock c.value (runner m) (queued m.delay)) (queued m.delay)
          ≡ queued (cond x (carry m (effect m c)) m).delay
      go true = by_kind c (kind c)
      go false = refl

  -- ## The released task of a Wake, and "Wakes left"
  wake_frees : (l : List (ℕ × ℕ)) (x : Bool) → m.delay ≡ l → front 0 (freed (cond x due none) m) ≡ cond x (front (0, 0) l).1 0
  wake_frees [] true e = rw e
  wake_frees (f ∷ l) true e = rw e
  wake_frees l false e = refl

  pub wake_releases : (a b v : ℕ) → released m (cmd 5 a b v) ≡ cond (accepts m (cmd 5 a b v)) (woken m.clock (queued m.delay)) 0
  unfolding released
  wake_releases a b v = rw (woken_is m.clock m.delay delay_lined, wake_frees m.delay (first_due m) refl)

  pub left_same : (t : ℕ) → left m.clock t (queued m.delay) ≡ wakes_left m t
  unfolding wakes_left
  left_same t = left_is m.clock t m.delay delay_lined

pub follows_is : (cs : List Command) (m : Machine) → Sound m → follows m cs (queued m.delay) ≡ queued (run m cs).delay
unfolding follows run
follows_is [] m s = refl
follows_is (c ∷ cs) m s = rw (beside_is m s c) (follows_is cs (next m c) (next_sound m s c))
