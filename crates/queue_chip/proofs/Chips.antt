-- The chip is as the machine is: its step, answers and "Wakes left". The rules look at no more of a delay line than its first entry, so what they do, but for
-- the line itself, is the same with the registers in its place; and the queue follows the line (Runs). Assumes nothing.
use Prim.Native.Nat.{ℕ, ◌-◌}
use native.Mathlib.Omega.{arith}
use mathlib.Core.Path.{◌≡◌, refl, sym, ap, ◌∙◌}
use mathlib.Core.Bool.{Bool, true, false, cond, not, ◌&&◌}
use mathlib.Core.List.{List, [], ◌∷◌}
use lib.Dec.{eqb, leb, ltb}
use lib.ListN.{get_or}
use borrow.Author.Tests.{ne_eqb}
use Rattle.rules.specs.Line.{at, at_tail, front, first_alone, within}
use Rattle.rules.specs.Machine.{Machine, Command, task_count, active, created, running, for_entry}
use Rattle.rules.specs.Machine as M
use Rattle.rules.specs.declared.Kind.{Kind}
use Rattle.rules.specs.declared.Kind.TheVariants.{NoKind, Creating, Declaring, Starting, Delaying, Waking, Advancing, Opening, Entering, Ending}
use Rattle.rules.specs.Kinds.{kind}
use Rattle.rules.specs.Table.{Out, same, take, yield, close, sleep, await, Rel, none, due, serve, first_due, opens, effect_of, effect, freed}
use Rattle.rules.specs.Table.{freed_by, enter, later, release, leave, carry}
use Rattle.rules.specs.Refusals.{checks_of, first_number, refusal}
use Rattle.rules.specs.Run.{accepts, released, Left}
use Rattle.rules.specs.Run as R
use Rattle.rules.proofs.Sounds.{Sound}
use Rattle.rules.proofs.Step.{next_sound}
use Rattle.queue_chip.specs.declared.Queue.{Queue}
use Rattle.queue_chip.specs.Queue.{beside}
use Rattle.queue_chip.specs.Chip.{with_delay, chip, fresh, face, next, answer, question, run, answers}
use Rattle.queue_chip.specs.Words.{Lined, queued, chip_of}
use Rattle.queue_chip.proofs.Runs.{delay_lined, beside_is, left_same}

-- ## The rules look at the first entry alone
module _ (m : Machine) where
  -- m with a delay line, behind a release and the runner's way out; without the line that is left
  abbrev bare : Out → Rel → List (ℕ × ℕ) → Machine
  bare out rel l = with_delay (leave out (release rel (with_delay m l))) []

  slept : (v : ℕ) (k l : List (ℕ × ℕ)) (b : Bool) → bare (cond b (sleep v) yield) none k ≡ bare (cond b (sleep v) yield) none l
  unfolding leave release
  slept v k l true = refl
  slept v k l false = refl

  same_due : (l : List (ℕ × ℕ)) → first_due (with_delay m (first_alone l)) ≡ first_due (with_delay m l)
  same_due [] = refl
  same_due (e ∷ l) = refl

  woke : (l : List (ℕ × ℕ)) (b : Bool) → bare same (cond b due none) (first_alone l) ≡ bare same (cond b due none) l
  unfolding leave release
  woke [] true = refl
  woke (e ∷ l) true = refl
  woke l false = refl

  enter_same : (k l : List (ℕ × ℕ)) (ts r : List ℕ) → enter (with_delay m k) ts r ≡ enter (with_delay m l) ts r
  enter_same k l [] r = refl
  enter_same k l (t ∷ ts) r = enter_same k l ts (at_tail (active m) (at m.base t) t r)

  closed : (o : ℕ) (k l : List (ℕ × ℕ)) (b : Bool) → bare close (cond b (serve o 1) none) k ≡ bare close (cond b (serve o 1) none) l
  unfolding leave release
  closed o k l true = rw (enter_same k l (first_alone (get_or m.queue o [])) m.ready)
  closed o k l false = refl

  entered : (o w : ℕ) (k l : List (ℕ × ℕ)) (b : Bool) → bare (cond b (take o w) (await o)) none k ≡ bare (cond b (take o w) (await o)) none l
  unfolding leave release
  entered o w k l true = refl
  entered o w k l false = refl

  -- what is done, the delay line apart
  by_kind : (l : List (ℕ × ℕ)) (c : Command) (k : Kind) → let one = with_delay m (first_alone l) in let all = with_delay m l in
      with_delay (carry one (effect_of k one c)) [] ≡ with_delay (carry all (effect_of k all c)) []
  unfolding carry leave release
  by_kind l c NoKind = refl
  by_kind l c Creating = refl
  by_kind l c Declaring = refl
  by_kind l c Starting = refl
  by_kind l c Delaying = ap (λ (x : Machine). later x 0) (slept c.value (first_alone l) l (ltb m.clock c.value))
  by_kind l c Waking = rw (same_due l) (ap (λ (x : Machine). later x 0) (woke l (first_due (with_delay m l))))
  by_kind l c Advancing = refl
  by_kind l c Opening = refl
  by_kind l c Entering = ap (λ (x : Machine). later x 0) (entered c.a for_entry (first_alone l) l (eqb c.b 1))
  by_kind l c (Ending e) = ap (λ (x : Machine). later x 0) (closed c.a (first_alone l) l (e.serves && opens c))

  -- whom it releases
  served : (o : ℕ) (k l : List (ℕ × ℕ)) (x : Bool)
      → front 0 (freed (cond x (serve o 1) none) (with_delay m k)) ≡ front 0 (freed (cond x (serve o 1) none) (with_delay m l))
  served o k l true = refl
  served o k l false = refl

  due_freed : (e : ℕ × ℕ) (l : List (ℕ × ℕ)) (x : Bool)
      → front 0 (freed (cond x due none) (with_delay m (e ∷ []))) ≡ front 0 (freed (cond x due none) (with_delay m (e ∷ l)))
  due_freed e l true = refl
  due_freed e l false = refl

  frees : (l : List (ℕ × ℕ)) (c : Command) (k : Kind) → let one = with_delay m (first_alone l) in let all = with_delay m l in
      freed_by (effect_of k one c) one ≡ freed_by (effect_of k all c) all
  frees l c NoKind = refl
  frees l c Creating = refl
  frees l c Declaring = refl
  frees l c Starting = refl
  frees l c Delaying = refl
  frees [] c Waking = refl
  frees (e ∷ l) c Waking = due_freed e l (leb e.0 m.clock)
  frees l c Advancing = refl
  frees l c Opening = refl
  frees l c Entering = refl
  frees l c (Ending e) = served c.a (first_alone l) l (e.serves && opens c)

  -- whether it is refused: the checks do not look at the delay line at all
  checks_same : (l : List (ℕ × ℕ)) (c : Command) (k : Kind) → checks_of k (with_delay m l) c ≡ checks_of k m c
  checks_same l c NoKind = refl
  checks_same l c Creating = refl
  checks_same l c Declaring = refl
  checks_same l c Starting = refl
  checks_same l c Delaying = refl
  checks_same l c Waking = refl
  checks_same l c Advancing = refl
  checks_same l c Opening = refl
  checks_same l c Entering = refl
  checks_same l c (Ending e) = refl

  refusal_same : (l : List (ℕ × ℕ)) (c : Command) → refusal (with_delay m l) c ≡ refusal m c
  unfolding refusal
  refusal_same l c = ap first_number (checks_same l c (kind c))

  -- the step, and its answer
  next_bare : (l : List (ℕ × ℕ)) (c : Command) → with_delay (R.next (with_delay m (first_alone l)) c) [] ≡ with_delay (R.next (with_delay m l) c) []
  unfolding R.next
  next_bare l c = rw (refusal_same (first_alone l) c, refusal_same l c) (go (accepts m c))
    where
      go : (x : Bool) → let one = with_delay m (first_alone l) in let all = with_delay m l in
          with_delay (cond x (carry one (effect one c)) one) [] ≡ with_delay (cond x (carry all (effect all c)) all) []
      go true = by_kind l c (kind c)
      go false = refl

  same_released : (l : List (ℕ × ℕ)) (c : Command) → released (with_delay m (first_alone l)) c ≡ released (with_delay m l) c
  unfolding released
  same_released l c = rw (refusal_same (first_alone l) c, refusal_same l c) (ap (λ (x : ℕ). cond (accepts m c) x 0) (frees l c (kind c)))

  same_answer : (l : List (ℕ × ℕ)) (c : Command) → R.answer (with_delay m (first_alone l)) c ≡ R.answer (with_delay m l) c
  unfolding R.answer
  same_answer l c =
      ap (λ (x : ℕ). record { code = x; running = running (R.next one c); released = released one c })
      (refusal_same (first_alone l) c ∙ sym (refusal_same l c))
      ∙ ap (λ (x : Machine). record { code = refusal all c; running = running x; released = released one c }) (next_bare l c)
      ∙ ap (λ (x : ℕ). record { code = refusal all c; running = running (R.next all c); released = x }) (same_released l c)
    where
      one : Machine
      one = with_delay m (first_alone l)

      all : Machine
      all = with_delay m l

-- ## The chip that is as a machine is
-- the registers are the line's first entry
face_is : (m : Machine) → Sound m → face (chip_of m) ≡ with_delay m (first_alone m.delay)
unfolding chip_of queued
face_is m s = go m.delay (delay_lined m s)
  where
    go : (l : List (ℕ × ℕ)) → Lined l
        → with_delay m (cond (eqb (queued l).task 0) [] (((queued l).time, (queued l).task) ∷ [])) ≡ with_delay m (first_alone l)
    go [] w = refl
    go (e ∷ l) w = rw (ne_eqb e.1 0 (λ q. omega (arith, w.0)))

-- the queue's own step looks at no delay line: of the machine it takes the refusal, the clock and the runner
pub beside_same : (m : Machine) (l : List (ℕ × ℕ)) (c : Command) (q : Queue) → beside (with_delay m l) c q ≡ beside m c q
unfolding beside
beside_same m l c q = rw (refusal_same m l c)

pub next_is : (m : Machine) → Sound m → (c : Command) → next (chip_of m) c ≡ chip_of (R.next m c)
unfolding next chip_of
next_is m s c =
    ap (λ (n : Machine). chip (with_delay (R.next n c) []) (beside n c (queued m.delay))) (face_is m s)
    ∙ ap (λ (n : Machine). chip n (beside (with_delay m (first_alone m.delay)) c (queued m.delay))) (next_bare m m.delay c)
    ∙ ap (λ (q : Queue). chip (with_delay (R.next m c) []) q) (beside_same m (first_alone m.delay) c (queued m.delay) ∙ beside_is m s c)

pub answer_is : (m : Machine) → Sound m → (c : Command) → answer (chip_of m) c ≡ R.answer m c
unfolding answer
answer_is m s c = ap (λ (n : Machine). R.answer n c) (face_is m s) ∙ same_answer m m.delay c

pub question_is : (m : Machine) → Sound m → (t : ℕ) → question (chip_of m) t ≡ R.question m t
unfolding question R.question chip_of
question_is m s t = ap asked (left_same m s t)
  where
    asked : ℕ → Left
    asked n =
        cond (not (within 1 (task_count - 1) t)) (record { code = 4; left = 0 })
        (cond (not (created m t)) (record { code = 6; left = 0 })
        (record { code = 0; left = n }))

-- ## Along a run
pub run_is : (cs : List Command) (m : Machine) → Sound m → run (chip_of m) cs ≡ chip_of (R.run m cs)
unfolding run R.run
run_is [] m s = refl
run_is (c ∷ cs) m s = rw (next_is m s c) (run_is cs (R.next m c) (next_sound m s c))

pub answers_are : (cs : List Command) (m : Machine) → Sound m → answers (chip_of m) cs ≡ R.answers m cs
unfolding answers R.answers
answers_are [] m s = refl
answers_are (c ∷ cs) m s = rw (answer_is m s c, next_is m s c, answers_are cs (R.next m c) (next_sound m s c))

pub fresh_is : fresh ≡ chip_of M.fresh
unfolding chip_of queued
fresh_is = refl
