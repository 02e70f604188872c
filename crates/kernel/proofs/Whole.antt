-- The whole step on the tables of a sound machine is the rules' step: the refusals are the rules' refusals, each accepted op is its row
-- carried out, and the question counts what the rules count. Assumes nothing.
use Prim.Native.Nat.{ℕ, ◌<◌}
use native.Mathlib.Nat.{add-zero}
use native.Mathlib.Omega.{arith}
use mathlib.Core.Path.{◌≡◌, refl, sym, ap, ◌∙◌, subst}
use mathlib.Core.Logic.{◌≢◌}
use mathlib.Core.List.{List, [], ◌∷◌}
use mathlib.Core.Bool.{Bool, true, false, cond, not, ◌&&◌, true≢false}
use lib.ListN.{get_or, get_or-map}
use lib.Dec.{eqb, leb, ltb}
use borrow.Author.Tests.{eqb-true, ne_eqb, lt-ltb}
use Rattle.rules.specs.declared.Kind.{Kind}
use Rattle.rules.specs.declared.Kind.TheVariants.{NoKind, Creating, Declaring, Starting, Delaying, Waking, Advancing, Opening, Entering, Ending}
use Rattle.rules.specs.Line.{at, front, empty, first_alone}
use Rattle.rules.specs.Machine.{Machine, Command, tasks, running, for_open, for_entry}
use Rattle.rules.specs.Kinds.{kind}
use Rattle.rules.specs.Table as T
use Rattle.rules.specs.Table.{Out, same, take, yield, close, sleep, await, none, due, serve, nothing, moves, opens, closing, first_due}
use Rattle.rules.specs.Table.{effect_of, effect, freed, freed_by, release, leave, carry}
use Rattle.rules.specs.Refusals.{refusal}
use Rattle.rules.specs.Run.{next, released, answer}
use Rattle.rules.proofs.Words.{All}
use Rattle.rules.proofs.Sounds.{Sound}
use Rattle.rules.proofs.Kept.{AllowedOut, release_sound}
use Rattle.rules.proofs.Accepted.{Allowed, allowed}
use Rattle.kernel_line.specs.Tables.{time_in}
use Rattle.kernel.specs.declared.Kernel.{Kernel}
use Rattle.kernel.specs.declared.Stepped.{Stepped}
use Rattle.kernel.specs.View.{encode, view, times, pad}
use Rattle.kernel.specs.Public.{is_sound, report, step_of, running_of}
use Rattle.kernel.specs.Step.{answered, due_of, wake_of, closing_of, carried_as, refused, stepped_of}
use Rattle.kernel.specs.Step.{advanced_of, woken_of, closed_of, served_of, slept_of, yielded_of, held_of, awaiting_of}
use Rattle.kernel.proofs.Padded.{Right, own_right}
use Rattle.kernel.proofs.Round.{waiting_tasks, delayed_tasks, sound_own, view_encode}
use Rattle.kernel.proofs.Written.{stands, step_on}
use Rattle.kernel.proofs.Rows.{runner_pad, create_tie, declare_tie, begin_tie, yield_tie, sleep_tie, advance_tie}
use Rattle.kernel.proofs.Rows.{take_tie, close_tie, await_tie, woken_tie, served_tie, nobody_served}

-- no ticks later is now
pub later_zero : (m : Machine) → T.later m 0 ≡ m
later_zero m = rw (add-zero m.clock)

pub release_none : (m : Machine) → release none m ≡ m
unfolding release
release_none m = refl

-- The answer of an accepted op.
pub answered_report : (n : Machine) (t : ℕ) → answered (encode n) t ≡ report (encode n) (record { code = 0; running = running n; released = t })
unfolding encode
answered_report n t = rw (runner_pad n.ready)

module _ (m : Machine) (s : Sound m) where
  -- who waits on an object: the first of its queue, 0 for nobody
  waiter_tie : (o : ℕ) → at (encode m).waiter o ≡ front 0 (get_or m.queue o [])
  unfolding encode
  waiter_tie o = get_or-map (front 0) m.queue o []

-- Wake: the first of the delay line, if it is due.
due_of_line : (l : List (ℕ × ℕ)) (u : List ℕ) (now : ℕ) → All (Right u) l → All (λ x. (x < 32) × (x ≢ 0)) (tasks l)
    → cond (leb (time_in u (at (pad 32 (tasks l)) 0)) now) (at (pad 32 (tasks l)) 0) 0
    ≡ cond (not (empty l) && leb (front (0, 0) l).0 now) (front 0 (tasks l)) 0
due_of_line [] u now r k = elim (leb (time_in u 0) now) as (λ (b : Bool). cond {A = ℕ} b 0 0 ≡ 0) [ true ↦ refl | false ↦ refl ]
due_of_line (e ∷ l) u now r k = rw (lt-ltb e.1 32 k.0.0, r.0.0)

due_first : (l : List (ℕ × ℕ)) (now : ℕ) → not (empty l) && leb (front (0, 0) l).0 now ≡ true → first_alone (tasks l) ≡ front 0 (tasks l) ∷ []
due_first [] now e = absurd (true≢false (sym e))
due_first (f ∷ l) now e = refl

first_real : (l : List ℕ) → All (λ x. (x < 32) × (x ≢ 0)) l → first_alone l ≡ front 0 l ∷ [] → front 0 l ≢ 0
first_real [] k e = let z : ◌≡◌ {A = ℕ} 0 1 = cc in absurd (omega arith)
first_real (x ∷ l) k e = k.0.1

module _ (m : Machine) (s : Sound m) (on : m.started ≡ true) where
  due_tie : due_of (encode m) ≡ cond (first_due m) (front 0 (tasks m.delay)) 0
  unfolding encode
  due_tie = due_of_line m.delay (times m.delay) m.clock (own_right m.delay (sound_own m s)) (delayed_tasks m s)

  pub wake_tie :
      let rel = cond (first_due m) due none in
      wake_of (encode m) ≡ answered (encode (carry m (moves same rel 0))) (front 0 (freed rel m))
  unfolding wake_of carry leave
  wake_tie = rw due_tie (go (first_due m) refl)
    where
      t : ℕ
      t = front 0 (tasks m.delay)

      go : (b : Bool) → first_due m ≡ b
          → cond (eqb (cond b t 0) 0) (advanced_of (encode m) 0) (woken_of (encode m) (cond b t 0))
          ≡ answered (encode (T.later (release (cond b due none) m) 0)) (front 0 (freed (cond b due none) m))
      go true e =
          let f = due_first m.delay m.clock e in
          rw (ne_eqb t 0 (first_real (tasks m.delay) (delayed_tasks m s) f), later_zero (release due m), woken_tie m s t f, f)
      go false e = rw (release_none m) (advance_tie m s 0 (omega (arith, s.in_time.clock_fits)))

  -- the end of a body: whoever waits is served, where it serves, and then the runner closes
  pub closing_tie : (c : Command) (serves : Bool)
      → closing_of (encode m) c.a (serves && opens c) ≡ answered (encode (carry m (closing serves c))) (freed_by (closing serves c) m)
  unfolding closing_of carry
  closing_tie c serves = rw (waiter_tie m s c.a) (go (serves && opens c))
    where
      served : (q : List ℕ) → get_or m.queue c.a [] ≡ q → All (λ t. t ≢ 0) q
          → cond (eqb (front 0 q) 0) (closed_of (encode m) 0) (closed_of (served_of (encode m) c.a (front 0 q)) (front 0 q))
          ≡ answered (encode (T.later (leave close (release (serve c.a 1) m)) 0)) (front 0 (first_alone q))
      served [] e k = rw (nobody_served m s c.a e, later_zero (leave close m)) (close_tie m s 0)
      served (x ∷ q) e k =
          let f : freed (serve c.a 1) m ≡ x ∷ [] = ap (λ (l : List ℕ). first_alone l) e in
          let n = release (serve c.a 1) m in
          rw (ne_eqb x 0 k.0, served_tie m s c.a x f, later_zero (leave close n)) (close_tie n (release_sound m s on (serve c.a 1)) x)

      go : (x : Bool) →
          let t = cond x (front 0 (get_or m.queue c.a [])) 0 in
          cond (eqb t 0) (closed_of (encode m) 0) (closed_of (served_of (encode m) c.a t) t)
          ≡ answered (encode (T.later (leave close (release (cond x (serve c.a 1) none) m)) 0)) (front 0 (freed (cond x (serve c.a 1) none) m))
      go true = served (get_or m.queue c.a []) refl (waiting_tasks m s c.a)
      go false = rw (release_none m, later_zero (leave close m)) (close_tie m s 0)

-- Every accepted op.
pub clock_tie : (m : Machine) → (encode m).clock ≡ m.clock
unfolding encode
clock_tie m = refl

module _ (m : Machine) (s : Sound m) where
  still : (out : Out) (t : ℕ) → answered (encode (leave out m)) t ≡ answered (encode (carry m (moves out none 0))) t
  unfolding carry
  still out t = rw (release_none m, later_zero (leave out m))

  leaves : (out : Out) → AllowedOut (release none m) out → AllowedOut m out
  leaves out g = subst (λ (n : Machine). AllowedOut n out) (release_none m) g

  advance_row : (n : ℕ) → answered (encode (T.later m n)) 0 ≡ answered (encode (carry m (moves same none n))) 0
  unfolding carry leave release
  advance_row n = refl

  nothing_row : answered (encode m) 0 ≡ answered (encode (carry m nothing)) 0
  unfolding carry
  nothing_row = refl

  delay_row : (v : ℕ) (b : Bool) → AllowedOut m (cond b (sleep v) yield)
      → cond b (slept_of (encode m) v) (yielded_of (encode m)) ≡ answered (encode (carry m (moves (cond b (sleep v) yield) none 0))) 0
  delay_row v true g = sleep_tie m s v ∙ still (sleep v) 0
  delay_row v false g = yield_tie m s g ∙ still yield 0

  entry_row : (o : ℕ) (b : Bool) → AllowedOut m (cond b (take o for_entry) (await o))
      → cond b (held_of (encode m) o for_entry) (awaiting_of (encode m) o)
      ≡ answered (encode (carry m (moves (cond b (take o for_entry) (await o)) none 0))) 0
  entry_row o true g = take_tie m s o for_entry ∙ still (take o for_entry) 0
  entry_row o false g = await_tie m s o g ∙ still (await o) 0

  by_kind : (c : Command) (k : Kind) → Allowed m (effect_of k m c)
      → carried_as k (encode m) c ≡ answered (encode (carry m (effect_of k m c))) (freed_by (effect_of k m c) m)
  unfolding carried_as
  by_kind c NoKind g = nothing_row
  by_kind c Creating g = create_tie m s c.a c.b g
  by_kind c Declaring g = declare_tie m s c.a c.b
  by_kind c Starting g = begin_tie m s
  by_kind c Delaying g =
      ap (λ (n : ℕ). cond (ltb n c.value) (slept_of (encode m) c.value) (yielded_of (encode m))) (clock_tie m)
      ∙ delay_row c.value (ltb m.clock c.value)
      (leaves (cond (ltb m.clock c.value) (sleep c.value) yield) g.leaves)
  by_kind c Waking g = wake_tie m s g.on
  by_kind c Advancing g = advance_tie m s c.value g.in_time ∙ advance_row c.value
  by_kind c Opening g = take_tie m s c.a for_open ∙ still (take c.a for_open) 0
  by_kind c Entering g =
      entry_row c.a (eqb c.b 1) (leaves (cond (eqb c.b 1) (take c.a for_entry) (await c.a)) g.leaves)
  by_kind c (Ending e) g = closing_tie m s g.on c e.serves

  pub running_tie : running_of (encode m) ≡ running m
  unfolding encode
  running_tie = rw (runner_pad m.ready)

  -- The step of tables that passed the test.
  pub stepped_tie : (c : Command) → stepped_of (encode m) c ≡ report (encode (next m c)) (answer m c)
  unfolding stepped_of next answer released
  stepped_tie c = rw (view_encode m s) (go (eqb (refusal m c) 0) refl)
    where
      -- the step as the rules take it
      after : Machine
      after = carry m (effect m c)

      freed_one : ℕ
      freed_one = freed_by (effect m c) m

      go : (b : Bool) → eqb (refusal m c) 0 ≡ b
          → cond b (carried_as (kind c) (encode m) c) (record { next = encode m; answer = refused (refusal m c) (running_of (encode m)) })
          ≡ report (encode (cond b after m)) (record { code = refusal m c; running = running (cond b after m); released = cond b freed_one 0 })
      go true e =
          by_kind c (kind c) (allowed m s c (eqb-true _ _ e))
          ∙ (answered_report after freed_one
          ∙ ap (λ (n : ℕ). report (encode after) (record { code = n; running = running after; released = freed_one })) (sym (eqb-true _ _ e)))
      go false e = ap (λ (x : ℕ). let z : Stepped = record { next = encode m; answer = refused (refusal m c) x } in z) running_tie

-- So for every sound state it is what the public contract says.
pub step_meets : (k : Kernel) (c : Command) → is_sound k ≡ true → stepped_of k c ≡ step_of k c
step_meets k c e =
    let w = stands k e in
    subst (λ (x : Kernel). stepped_of x c ≡ step_of x c) w.written (stepped_tie (view k) w.machine c ∙ sym (step_on (view k) w.machine c))
