-- The promise on Wakes. A task that is due at index r of the delay line stays there, moves up by one with each accepted Wake, and is
-- released by the (r+1)th and by nothing before it. Why: entries come in later than the clock, so behind all that are due; and a
-- delayed task stands nowhere else, so nothing but a Wake can release it. Assumes nothing.
use Prim.Native.Nat.{ℕ, zero, suc, ◌+◌, ◌-◌, ◌≤◌, ◌<◌}
use native.Mathlib.Omega.{arith}
use native.Mathlib.Nat.{sub-zero}
use mathlib.Core.Path.{◌≡◌, refl, sym, ap, ◌∙◌, subst}
use mathlib.Core.Logic.{◌≢◌}
use mathlib.Core.Bool.{Bool, true, false, cond, not, ◌&&◌, ◌||◌, true≢false}
use mathlib.Core.List.{List, [], ◌∷◌}
use lib.Dec.{eqb, leb}
use lib.ListN.{get_or, length, replicate}
use borrow.Author.Tests.{eqb-true, eq-eqb, eqb-false, ne_eqb, le-ltb, le-leb, leb-true}
use Rattle.rules.specs.Line.{at, within, front, behind_front, first_few, first_alone, by_time, count, one_if, empty}
use Rattle.rules.specs.Machine.{Machine, Command, tasks, created, runner}
use Rattle.rules.specs.Kinds.{kind}
use Rattle.rules.specs.Table.{Out, same, take, yield, close, sleep, await, Rel, none, due, serve, Effect, nothing, creates, declares, begins, moves}
use Rattle.rules.specs.Table.{first_due, effect, freed, freed_by, later, release, leave, carry}
use Rattle.rules.specs.Refusals.{refusal}
use Rattle.rules.specs.Sound.{standings, waits}
use Rattle.rules.specs.Run.{next, released, answer, run, answers, is_due, ahead, wakes_left, Left, question}
use Rattle.rules.proofs.Words.{All, Pairwise, cmd, wakes, wakes_in, DueAt}
use Rattle.rules.proofs.Lists.{waits_fewer, one_self}
use Rattle.rules.proofs.Sounds.{Sound, once, known, based}
use Rattle.rules.proofs.Kept.{AllowedOut, release_sound}
use Rattle.rules.proofs.Accepted.{Allowed, rel_of, not_due, Releases, nobody, woken, served, releases, wake_op}
use Rattle.rules.proofs.Step.{Step, kept, carried, step, next_sound, run_sound, moved_started}

-- The delay line: the entry at index r, and what placing a later entry leaves of it.
task_at : (l : List (ℕ × ℕ)) (r : ℕ) → r < length l → 1 ≤ count (get_or l r (0, 0)).1 (tasks l)
task_at [] r h = absurd (omega arith)
task_at (e ∷ l) zero h = omega (arith, one_self e.1)
task_at (e ∷ l) (suc r) h = omega (arith, task_at l r (omega arith))

time_above : (l : List (ℕ × ℕ)) (x r : ℕ) → All (λ f. x ≤ f.0) l → r < length l → x ≤ (get_or l r (0, 0)).0
time_above [] x r k h = absurd (omega arith)
time_above (e ∷ l) x zero k h = k.0
time_above (e ∷ l) x (suc r) k h = time_above l x r k.1 (omega arith)

place_later : (d x : ℕ) (l : List (ℕ × ℕ)) (r : ℕ) → Pairwise (λ e f. e.0 ≤ f.0) l → r < length l → (get_or l r (0, 0)).0 < d
    → (r < length (by_time (d, x) l)) × (get_or (by_time (d, x) l) r (0, 0) ≡ get_or l r (0, 0))
place_later d x [] r k h q = absurd (omega arith)
place_later d x (e ∷ l) zero k h q = rw (le-ltb d e.0 (omega arith)) (omega arith, refl)
place_later d x (e ∷ l) (suc r) k h q =
    let z : e.0 ≤ (get_or l r (0, 0)).0 = time_above l e.0 r k.0 (omega arith) in
    let w = place_later d x l r k.1 (omega arith) q in
    rw (le-ltb d e.0 (omega arith)) (omega (arith, w.0), w.1)

-- Only a Wake takes from the delay line.
only_wake : (m : Machine) (c : Command) → c.op ≢ 5 → rel_of (effect m c) ≡ due → ⊥
only_wake m c n e = go (releases m c (kind c))
  where
    go : Releases (kind c) (rel_of (effect m c)) → ⊥
    go (nobody f) = not_due false 0 (sym f ∙ e)
    go (woken f) = n (wake_op c.op f)
    go (served f g) = g e

-- Each part of a step that takes nothing from the delay line leaves t where it is.
module _ (m : Machine) (t r : ℕ) (d : DueAt m t r) where
  release_stays : (rel : Rel) → (rel ≡ due → ⊥) → DueAt (release rel m) t r
  unfolding release
  release_stays none n = d
  release_stays due n = absurd (n refl)
  release_stays (serve o k) n = record { inside = d.inside; task = d.task; due = d.due }

  leave_stays : Pairwise (λ e f. e.0 ≤ f.0) m.delay → (out : Out) → AllowedOut m out → DueAt (leave out m) t r
  unfolding leave
  leave_stays k same g = d
  leave_stays k (take o w) g = record { inside = d.inside; task = d.task; due = d.due }
  leave_stays k yield g = record { inside = d.inside; task = d.task; due = d.due }
  leave_stays k close g = record { inside = d.inside; task = d.task; due = d.due }
  leave_stays k (sleep x) g =
      let w = place_later x (runner m) m.delay r k d.inside (omega (arith, d.due, g.ahead)) in
      record { inside = w.0; task = rw w.1 d.task; due = rw w.1 d.due }
  leave_stays k (await o) g = record { inside = d.inside; task = d.task; due = d.due }

  later_stays : (n : ℕ) → DueAt (later m n) t r
  later_stays n = record { inside = d.inside; task = d.task; due = omega (arith, d.due) }

module _ (m : Machine) (s : Sound m) (t r : ℕ) (d : DueAt m t r) where
  -- t is delayed, and so it is not idle, does not wait, and is delayed once
  delayed : 1 ≤ count t (tasks m.delay)
  delayed = rw d.task at (task_at m.delay r d.inside)

  pub not_idle : t ≢ 0
  not_idle e = let z : 1 ≤ count 0 (tasks m.delay) = rw e at delayed in omega (arith, once m s 0, s.idle_ready.idle_there)

  not_served : (o n : ℕ) → front 0 (freed (serve o n) m) ≢ t
  not_served o n e = go n (get_or m.queue o []) e (omega (arith, waits_fewer t n m.queue o))
    where
      go : (n : ℕ) (q : List ℕ) → front 0 (first_few n q) ≡ t → count t (first_few n q) ≤ waits t m.queue → ⊥
      go zero q e k = not_idle (sym e)
      go (suc n) [] e k = not_idle (sym e)
      go (suc n) (x ∷ q) e k = let z : one_if (eqb t x) ≡ 1 = rw (eq-eqb t x (sym e)) in omega (arith, delayed, once m s t)

  not_freed : (rel : Rel) → (rel ≡ due → ⊥) → front 0 (freed rel m) ≢ t
  not_freed none n = λ e. not_idle (sym e)
  not_freed due n = absurd (n refl)
  not_freed (serve o k) n = not_served o k

  stays : (e : Effect) → Allowed m e → (rel_of e ≡ due → ⊥) → DueAt (carry m e) t r × (freed_by e m ≢ t)
  unfolding carry
  stays nothing g n = (d, λ e. not_idle (sym e))
  stays (creates x p) g n = (record { inside = d.inside; task = d.task; due = d.due }, λ e. not_idle (sym e))
  stays (declares o p) g n = (record { inside = d.inside; task = d.task; due = d.due }, λ e. not_idle (sym e))
  stays begins g n = (record { inside = d.inside; task = d.task; due = d.due }, λ e. not_idle (sym e))
  stays (moves out rel k) g n = (
    later_stays (leave out (release rel m)) t r
        (leave_stays (release rel m) t r (release_stays m t r d rel n) (release_sound m s g.on rel).in_order.times_rise out g.leaves) k,
    not_freed rel n,
  )

  -- What is no accepted Wake leaves t at index r, and does not release it.
  pub unless_wake : (c : Command) → wakes m c ≡ false → DueAt (next m c) t r × (released m c ≢ t)
  unless_wake c other = go (step m s c)
    where
      go : Step m c → DueAt (next m c) t r × (released m c ≢ t)
      go (kept e f w) = rw (e, f) (d, λ z. not_idle (sym z))
      go (carried e f w g) = rw (e, f) (stays (effect m c) g (only_wake m c (eqb-false _ _ (sym w ∙ other))))

-- An accepted Wake takes the first entry, which is due if any is.
abbrev Turn : Machine → Command → ℕ → ℕ → Type 0
Turn m c t zero = released m c ≡ t
Turn m c t (suc r) = DueAt (next m c) t r × (released m c ≢ t)

first_is_due : (l : List (ℕ × ℕ)) (now r : ℕ) → Pairwise (λ e f. e.0 ≤ f.0) l → r < length l → (get_or l r (0, 0)).0 ≤ now
    → not (empty l) && leb (front (0, 0) l).0 now ≡ true
first_is_due [] now r k h d = absurd (omega arith)
first_is_due (e ∷ l) now zero k h d = le-leb e.0 now d
first_is_due (e ∷ l) now (suc r) k h d = le-leb e.0 now (let z : e.0 ≤ (get_or l r (0, 0)).0 = time_above l e.0 r k.0 (omega arith) in omega arith)

first_task : (l : List (ℕ × ℕ)) → front 0 (first_alone (tasks l)) ≡ (get_or l 0 (0, 0)).1
first_task [] = refl
first_task (e ∷ l) = refl

behind_first : (l : List (ℕ × ℕ)) (r : ℕ) → suc r < length l → (r < length (behind_front l)) × (get_or (behind_front l) r (0, 0) ≡ get_or l (suc r) (0, 0))
behind_first [] r h = absurd (omega arith)
behind_first (e ∷ l) r h = (omega arith, refl)

first_other : (l : List (ℕ × ℕ)) (r t : ℕ) → suc r < length l → (get_or l (suc r) (0, 0)).1 ≡ t → count t (tasks l) ≤ 1 → (get_or l 0 (0, 0)).1 ≢ t
first_other [] r t h e k q = absurd (omega arith)
first_other (f ∷ l) r t h e k q =
    let x : 1 ≤ count t (tasks l) = rw e at (task_at l r (omega arith)) in
    let y : one_if (eqb t f.1) ≡ 1 = rw (eq-eqb t f.1 (sym q)) in
    omega arith

wake_row : (m : Machine) (c : Command) → c.op ≡ 5 → first_due m ≡ true → effect m c ≡ moves same due 0
wake_row m c o q = rw (o, q)

module _ (m : Machine) (s : Sound m) (t : ℕ) where
  in_turn : (r : ℕ) → DueAt m t r → (c : Command) → next m c ≡ carry m (moves same due 0) → released m c ≡ front 0 (freed due m) → Turn m c t r
  unfolding carry leave release
  in_turn zero d c e f = f ∙ first_task m.delay ∙ d.task
  in_turn (suc r) d c e f =
      let w = behind_first m.delay r d.inside in (
        rw e (record { inside = w.0; task = rw w.1 d.task; due = rw w.1 (omega (arith, d.due)) }),
        λ q. first_other m.delay r t d.inside d.task (omega (arith, once m s t)) (sym (f ∙ first_task m.delay) ∙ q),
      )

  pub at_wake : (c : Command) → wakes m c ≡ true → (r : ℕ) → DueAt m t r → Turn m c t r
  at_wake c woke r d = go (step m s c)
    where
      go : Step m c → Turn m c t r
      go (kept e f w) = absurd (true≢false (sym woke ∙ w))
      go (carried e f w g) =
          let q : effect m c ≡ moves same due 0 =
          wake_row m c (eqb-true _ _ (sym w ∙ woke)) (first_is_due m.delay m.clock r s.in_order.times_rise d.inside d.due) in
          in_turn r d c (e ∙ ap (carry m) q) (f ∙ ap (λ (x : Effect). freed_by x m) q)

-- So over any run from a sound state: as long as no more than r accepted Wakes have come, t stands at index r less their count, and no
-- answer has released it.
pub keeps_its_turn : (cs : List Command) (m : Machine) → Sound m → (t r : ℕ) → DueAt m t r → wakes_in m cs ≤ r
    → DueAt (run m cs) t (r - wakes_in m cs) × All (λ a. a.released ≢ t) (answers m cs)
unfolding run answers answer wakes_in
keeps_its_turn [] m s t r d k = (rw (sub-zero r) d, tt)
keeps_its_turn (c ∷ cs) m s t r d k = go (wakes m c) refl r d k (λ r. keeps_its_turn cs (next m c) (next_sound m s c) t r)
  where
    go : (b : Bool) → wakes m c ≡ b → (r : ℕ) → DueAt m t r → one_if b + wakes_in (next m c) cs ≤ r
        → ((r : ℕ) → DueAt (next m c) t r → wakes_in (next m c) cs ≤ r
        → DueAt (run (next m c) cs) t (r - wakes_in (next m c) cs) × All (λ a. a.released ≢ t) (answers (next m c) cs))
        → DueAt (run (next m c) cs) t (r - (one_if b + wakes_in (next m c) cs)) × ((released m c ≢ t) × All (λ a. a.released ≢ t) (answers (next m c) cs))
    go false e r d k ih =
        let w = unless_wake m s t r d c e in
        let i = ih r w.0 (omega arith) in
        let z : r - (0 + wakes_in (next m c) cs) ≡ r - wakes_in (next m c) cs = omega arith in
        rw z (i.0, (w.1, i.1))
    go true e zero d k ih = absurd (omega arith)
    go true e (suc r) d k ih =
        let w = at_wake m s t c e (suc r) d in
        let i = ih r w.0 (omega arith) in
        let z : suc r - (1 + wakes_in (next m c) cs) ≡ r - wakes_in (next m c) cs = omega arith in
        rw z (i.0, (w.1, i.1))

-- "Wakes left" counts just that: it is n + 1 where t is due at index n, and 0 where t is due at none.
module _ (now t : ℕ) where
  found : (l : List (ℕ × ℕ)) → count t (tasks l) ≤ 1 → is_due now t l ≡ true
      → (ahead t l < length l) × ((get_or l (ahead t l) (0, 0)).1 ≡ t) × ((get_or l (ahead t l) (0, 0)).0 ≤ now)
  found [] k e = absurd (true≢false (sym e))
  found (f ∷ l) k e = go (eqb f.1 t) refl (leb f.0 now) refl (found l (omega arith)) e
    where
      go : (b : Bool) → eqb f.1 t ≡ b → (q : Bool) → leb f.0 now ≡ q
          → (is_due now t l ≡ true → (ahead t l < length l) × ((get_or l (ahead t l) (0, 0)).1 ≡ t) × ((get_or l (ahead t l) (0, 0)).0 ≤ now))
          → b && q || is_due now t l ≡ true
          → let r = cond b 0 (suc (ahead t l)) in
          (r < suc (length l)) × ((get_or (f ∷ l) r (0, 0)).1 ≡ t) × ((get_or (f ∷ l) r (0, 0)).0 ≤ now)
      go true x true y ih e = (omega arith, eqb-true _ _ x, leb-true _ _ y)
      go true x false y ih e =
          let w = ih e in
          let z : 1 ≤ count t (tasks l) = rw w.1 at (task_at l (ahead t l) w.0) in
          let u : one_if (eqb t f.1) ≡ 1 = rw (eq-eqb t f.1 (sym (eqb-true _ _ x))) in
          absurd (omega arith)
      go false x q y ih e = let w = ih e in (omega (arith, w.0), w.1, w.2)

  counted : (l : List (ℕ × ℕ)) (r : ℕ) → count t (tasks l) ≤ 1 → r < length l → (get_or l r (0, 0)).1 ≡ t → (get_or l r (0, 0)).0 ≤ now
      → (is_due now t l ≡ true) × (ahead t l ≡ r)
  counted [] r k h e d = absurd (omega arith)
  counted (f ∷ l) zero k h e d = rw (eq-eqb f.1 t e, le-leb f.0 now d) (refl, refl)
  counted (f ∷ l) (suc r) k h e d =
      let n : f.1 ≢ t = first_other (f ∷ l) r t h e k in
      let w = counted l r (omega arith) (omega arith) e d in
      rw (ne_eqb f.1 t n) (w.0, ap suc w.1)

pub left_is_due : (m : Machine) → Sound m → (t r : ℕ) → wakes_left m t ≡ suc r → DueAt m t r
unfolding wakes_left
left_is_due m s t r e = go (is_due m.clock t m.delay) refl e
  where
    go : (b : Bool) → is_due m.clock t m.delay ≡ b → cond b (suc (ahead t m.delay)) 0 ≡ suc r → DueAt m t r
    go true q e =
        let w = found m.clock t m.delay (omega (arith, once m s t)) q in
        let z : ahead t m.delay ≡ r = omega arith in
        record { inside = rw z at w.0; task = rw z at w.1; due = rw z at w.2 }
    go false q e = absurd (omega arith)

pub due_is_left : (m : Machine) → Sound m → (t r : ℕ) → DueAt m t r → wakes_left m t ≡ suc r
unfolding wakes_left
due_is_left m s t r d = let w = counted m.clock t m.delay r (omega (arith, once m s t)) d.inside d.task d.due in rw (w.0, w.1)

-- So does the question, of which a task out of range or not set up is refused with 0 left: such a task is never due.
pub question_left : (m : Machine) → Sound m → (t r : ℕ) → (question m t).left ≡ suc r → DueAt m t r
unfolding question
question_left m s t r e = go (within 1 31 t) (created m t) e
  where
    go : (a b : Bool)
        → (cond {A = Left} (not a) (record { code = 4; left = 0 })
        (cond (not b) (record { code = 6; left = 0 }) (record { code = 0; left = wakes_left m t }))).left ≡ suc r
        → DueAt m t r
    go true true e = left_is_due m s t r e
    go true false e = absurd (omega arith)
    go false b e = absurd (omega arith)

pub left_question : (m : Machine) → Sound m → (t r : ℕ) → DueAt m t r → (question m t).left ≡ suc r
unfolding question
left_question m s t r d =
    let n = not_idle m s t r d in
    let h : 1 ≤ standings m t = (let z = delayed m s t r d in omega arith) in
    let k : t < 32 = known m s t h in
    rw (le-leb 1 t (omega arith), le-leb t 31 (omega arith), ne_eqb t 0 n, ne_eqb (at m.base t) 0 (λ e. omega (arith, based m s t h n)))
    (due_is_left m s t r d)

-- And from outside: a Wake releases only a due task, the first; so the answer can be read off a row of Wakes.
abbrev pub a_wake : Command
a_wake = cmd 5 0 0 0

-- what a Wake finds in the delay line
Found : Machine → List (ℕ × ℕ) → Type 0
Found m l =
    (front 0 (first_alone (tasks l)) ≢ 0 → not (empty l) && leb (front (0, 0) l).0 m.clock ≡ true → (0 < length l) × ((get_or l 0 (0, 0)).0 ≤ m.clock))

finds : (m : Machine) (l : List (ℕ × ℕ)) → Found m l
unfolding Found
finds m [] n e = absurd (n refl)
finds m (f ∷ l) n e = (omega arith, leb-true _ _ e)

pub wake_takes_due : (m : Machine) → Sound m → (c : Command) → wakes m c ≡ true → released m c ≢ 0 → DueAt m (released m c) 0
unfolding Found
wake_takes_due m s c woke n = go (step m s c)
  where
    of_row : (b : Bool) → first_due m ≡ b → front 0 (freed (cond b due none) m) ≢ 0 → DueAt m (front 0 (freed (cond b due none) m)) 0
    of_row true e n = let w = finds m m.delay n e in record { inside = w.0; task = sym (first_task m.delay); due = w.1 }
    of_row false e n = absurd (n refl)

    go : Step m c → DueAt m (released m c) 0
    go (kept e f w) = absurd (n f)
    go (carried e f w g) =
        let q : effect m c ≡ moves same (cond (first_due m) due none) 0 = (let o : c.op ≡ 5 = eqb-true _ _ (sym w ∙ woke) in rw o) in
        let z : released m c ≡ front 0 (freed (cond (first_due m) due none) m) = f ∙ ap (λ (x : Effect). freed_by x m) q in
        rw z (of_row (first_due m) refl (λ y. n (z ∙ y)))

wake_accepted : (m : Machine) → m.started ≡ true → wakes m a_wake ≡ true
unfolding wakes refusal
wake_accepted m on = rw on

wake_next : (m : Machine) → m.started ≡ true → next m a_wake ≡ carry m (moves same (cond (first_due m) due none) 0)
unfolding next refusal
wake_next m on = rw on

-- the state behind a Wake: one entry fewer, or the same line
due_before : (m : Machine) → Sound m → m.started ≡ true → (t r : ℕ) → DueAt (next m a_wake) t r → DueAt m t (suc r)
unfolding carry leave release
due_before m s on t r d = go (first_due m) refl (subst (λ (x : Machine). DueAt x t r) (wake_next m on) d)
  where
    longer : (l : List (ℕ × ℕ)) → r < length (behind_front l) → suc r < length l
    longer [] h = absurd (omega arith)
    longer (f ∷ l) h = omega arith

    go : (b : Bool) → first_due m ≡ b → DueAt (carry m (moves same (cond b due none) 0)) t r → DueAt m t (suc r)
    go true e d =
        let w = behind_first m.delay r (longer m.delay d.inside) in
        record {
          inside = longer m.delay d.inside;
          task = rw w.1 at d.task;
          due = (let z : (get_or (behind_front m.delay) r (0, 0)).0 ≤ m.clock = omega (arith, d.due) in rw w.1 at z);
        }
    go false e d = absurd (true≢false (sym (first_is_due m.delay m.clock r s.in_order.times_rise d.inside (omega (arith, d.due))) ∙ e))

wake_started : (m : Machine) → m.started ≡ true → (next m a_wake).started ≡ true
unfolding carry
wake_started m on = ap (λ (x : Machine). x.started) (wake_next m on) ∙ (moved_started same (cond (first_due m) due none) m ∙ on)

wake_count : (r : ℕ) (m : Machine) → m.started ≡ true → wakes_in m (replicate r a_wake) ≡ r
unfolding wakes_in
wake_count zero m on = refl
wake_count (suc r) m on = rw (wake_accepted m on) (omega (arith, wake_count r (next m a_wake) (wake_started m on)))

-- after r Wakes in a row the next one releases t exactly if t was due at index r
pub row_of_wakes : (r : ℕ) (m : Machine) → Sound m → m.started ≡ true → (t : ℕ) → t ≢ 0 → released (run m (replicate r a_wake)) a_wake ≡ t → DueAt m t r
unfolding run
row_of_wakes zero m s on t n e = rw e at (wake_takes_due m s a_wake (wake_accepted m on) (λ z. n (sym e ∙ z)))
row_of_wakes (suc r) m s on t n e = due_before m s on t r (row_of_wakes r (next m a_wake) (next_sound m s a_wake) (wake_started m on) t n e)

run_of_wakes : (r : ℕ) (m : Machine) → m.started ≡ true → (run m (replicate r a_wake)).started ≡ true
unfolding run
run_of_wakes zero m on = on
run_of_wakes (suc r) m on = run_of_wakes r (next m a_wake) (wake_started m on)

pub wakes_in_row : (r : ℕ) (m : Machine) → Sound m → m.started ≡ true → (t : ℕ) → DueAt m t r → released (run m (replicate r a_wake)) a_wake ≡ t
wakes_in_row r m s on t d =
    let cs = replicate r a_wake in
    let i = keeps_its_turn cs m s t r d (omega (arith, wake_count r m on)) in
    let z : r - wakes_in m cs ≡ 0 = omega (arith, wake_count r m on) in
    at_wake (run m cs) (run_sound cs m s) t a_wake (wake_accepted (run m cs) (run_of_wakes r m on)) 0 (rw z at i.0)
