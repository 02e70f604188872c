-- The words of the promises over tables are those of the rules, for the tables of a sound machine. Assumes nothing.
use Prim.Native.Nat.{ℕ, zero, suc, ◌≤◌, ◌<◌}
use native.Mathlib.Omega.{arith}
use mathlib.Core.Path.{◌≡◌, refl, sym, ap, ◌∙◌, subst}
use mathlib.Core.Logic.{◌≢◌}
use mathlib.Core.List.{List, [], ◌∷◌, map}
use lib.ListN.{length, get_or}
use Rattle.rules.specs.Line.{at}
use Rattle.rules.specs.Machine.{Machine, fresh, tasks}
use Rattle.rules.specs.Run.{next, answer, question, run, answers}
use Rattle.rules.specs.Run as R
use Rattle.rules.proofs.Words.{All, moments, wakes, wakes_in, DueAt}
use Rattle.rules.proofs.Sounds.{Sound, delay_few}
use Rattle.rules.proofs.Step.{next_sound, fresh_sound}
use Rattle.rules.proofs.Wakes as W
use Rattle.kernel.specs.declared.Kernel.{Kernel}
use Rattle.kernel_checks.specs.declared.Command.{Command}
use Rattle.kernel.specs.declared.command.Answer.{Answer}
use Rattle.kernel.specs.View.{pad, times, encode}
use Rattle.kernel.specs.Public.{to_rules, left_of}
use Rattle.kernel.proofs.Padded.{Right, own_right}
pub use Rattle.kernel.proofs.Whole.{running_tie}
use Rattle.kernel.proofs.Round.{sound_own, view_encode}
use Rattle.kernel.proofs.Whole.{clock_tie}
use Rattle.kernel.proofs.Written.{step_on, encode_sound}
use Rattle.promises.specs.Words.{fresh_of, run_of, answers_of, moments_of, woke_by, wakes_of, DueIn}

at_pad : (n : ℕ) (l : List ℕ) (r : ℕ) → length l ≤ n → at (pad n l) r ≡ at l r
at_pad zero [] r h = refl
at_pad zero (x ∷ l) r h = absurd (omega arith)
at_pad (suc n) [] zero h = refl
at_pad (suc n) [] (suc r) h = at_pad n [] r (omega arith)
at_pad (suc n) (x ∷ l) zero h = refl
at_pad (suc n) (x ∷ l) (suc r) h = at_pad n l r (omega arith)

at_tasks : (l : List (ℕ × ℕ)) (r : ℕ) → at (tasks l) r ≡ (get_or l r (0, 0)).1
at_tasks [] r = refl
at_tasks (e ∷ l) zero = refl
at_tasks (e ∷ l) (suc r) = at_tasks l r

-- a task stands where one is found
found_inside : (l : List (ℕ × ℕ)) (r : ℕ) → (get_or l r (0, 0)).1 ≢ 0 → r < length l
found_inside [] r n = absurd (n refl)
found_inside (e ∷ l) zero n = omega arith
found_inside (e ∷ l) (suc r) n = omega (arith, found_inside l r n)

right_at : (u : List ℕ) (l : List (ℕ × ℕ)) (r : ℕ) → All (Right u) l → r < length l → at u (get_or l r (0, 0)).1 ≡ (get_or l r (0, 0)).0
right_at u [] r h k = absurd (omega arith)
right_at u (e ∷ l) zero h k = h.0.0
right_at u (e ∷ l) (suc r) h k = right_at u l r h.1 (omega arith)

module _ (m : Machine) (s : Sound m) where
  task_tie : (r : ℕ) → at (encode m).delayed r ≡ (get_or m.delay r (0, 0)).1
  unfolding encode
  task_tie r = at_pad 32 (tasks m.delay) r (delay_few m s) ∙ at_tasks m.delay r

  time_tie : (r : ℕ) → r < length m.delay → at (encode m).until (get_or m.delay r (0, 0)).1 ≡ (get_or m.delay r (0, 0)).0
  unfolding encode
  time_tie r h = right_at (times m.delay) m.delay r (own_right m.delay (sound_own m s)) h

  pub due_at : (t r : ℕ) → DueIn (encode m) t r → DueAt m t r
  due_at t r d =
      let e : (get_or m.delay r (0, 0)).1 ≡ t = sym (task_tie r) ∙ d.task in
      let h : r < length m.delay = found_inside m.delay r (λ z. d.there (sym e ∙ z)) in
      record {
        inside = h;
        task = e;
        due = (let z : at (encode m).until t ≡ (get_or m.delay r (0, 0)).0 = rw e at (time_tie r h) in omega (arith, z, d.due, clock_tie m));
      }

  pub due_in : (t r : ℕ) → DueAt m t r → DueIn (encode m) t r
  due_in t r d = record {
    task = task_tie r ∙ d.task;
    there = W.not_idle m s t r d;
    due = (let z : at (encode m).until t ≡ (get_or m.delay r (0, 0)).0 = rw d.task at (time_tie r d.inside) in omega (arith, z, d.due, clock_tie m));
  }

  pub left_tie : (t : ℕ) → (left_of (encode m) t).left ≡ (question m t).left
  unfolding left_of
  left_tie t = rw (encode_sound m s, view_encode m s)

  pub woke_tie : (c : Command) → woke_by (encode m) c ≡ wakes m (to_rules c)
  unfolding woke_by wakes answer
  woke_tie c = rw (step_on m s (to_rules c))

-- an answer of the rules, with its numbers of tasks
abbrev pub told : R.Answer → Answer
told a = record { code = a.code; running = record { 0 = a.running }; released = record { 0 = a.released } }

-- Runs of the step are runs of the rules.
pub run_tie : (cs : List Command) (m : Machine) → Sound m → run_of (encode m) cs ≡ encode (run m (map to_rules cs))
unfolding run_of run
run_tie [] m s = refl
run_tie (c ∷ cs) m s = rw (step_on m s (to_rules c)) (run_tie cs (next m (to_rules c)) (next_sound m s (to_rules c)))

pub answers_tie : (cs : List Command) (m : Machine) → Sound m → answers_of (encode m) cs ≡ map told (answers m (map to_rules cs))
unfolding answers_of answers
answers_tie [] m s = refl
answers_tie (c ∷ cs) m s = rw (step_on m s (to_rules c), answers_tie cs (next m (to_rules c)) (next_sound m s (to_rules c)))

pub run_from_fresh : (cs : List Command) → run_of fresh_of cs ≡ encode (run fresh (map to_rules cs))
unfolding fresh_of
run_from_fresh cs = run_tie cs fresh fresh_sound

pub wakes_tie : (cs : List Command) (m : Machine) → Sound m → wakes_of (encode m) cs ≡ wakes_in m (map to_rules cs)
unfolding wakes_of wakes_in
wakes_tie [] m s = refl
wakes_tie (c ∷ cs) m s = rw (woke_tie m s c, step_on m s (to_rules c), wakes_tie cs (next m (to_rules c)) (next_sound m s (to_rules c)))

-- of each state of a run: a statement on its tables, and one on the machine
pub all_moments : (P : Kernel → Type 0) (Q : Machine → Type 0) → ((m : Machine) → Sound m → P (encode m) → Q m) → (cs : List Command) (m : Machine) → Sound m
    → All P (moments_of (encode m) cs) → All Q (moments m (map to_rules cs))
unfolding moments_of moments
all_moments P Q f [] m s h = (f m s h.0, tt)
all_moments P Q f (c ∷ cs) m s h =
    let behind = subst (λ (k : Kernel). All P (moments_of k cs)) (ap (λ x. x.next) (step_on m s (to_rules c))) h.1 in
    (f m s h.0, all_moments P Q f cs (next m (to_rules c)) (next_sound m s (to_rules c)) behind)

pub moments_all : (P : Kernel → Type 0) (Q : Machine → Type 0) → ((m : Machine) → Sound m → Q m → P (encode m)) → (cs : List Command) (m : Machine) → Sound m
    → All Q (moments m (map to_rules cs)) → All P (moments_of (encode m) cs)
unfolding moments_of moments
moments_all P Q f [] m s h = (f m s h.0, tt)
moments_all P Q f (c ∷ cs) m s h =
    let behind = moments_all P Q f cs (next m (to_rules c)) (next_sound m s (to_rules c)) h.1 in
    (f m s h.0, subst (λ (k : Kernel). All P (moments_of k cs)) (sym (ap (λ x. x.next) (step_on m s (to_rules c)))) behind)

pub all_told : {A B : Type 0} (P : B → Type 0) (f : A → B) (l : List A) → All (λ x. P (f x)) l → All P (map f l)
all_told P f [] h = tt
all_told P f (x ∷ l) h = (h.0, all_told P f l h.1)
