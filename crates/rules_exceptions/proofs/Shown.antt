-- What one command does to the pending exception of one task, and so what a run does: it is pending behind a run exactly where it was set and no
-- answer has shown it (`pending_unshown`). Assumes nothing.
use Prim.Native.Nat.{ℕ}
use native.Mathlib.Omega.{arith}
use mathlib.Core.Path.{◌≡◌, refl, sym, ap, ◌∙◌}
use mathlib.Core.Logic.{◌≢◌, ◌↔◌}
use mathlib.Core.Bool.{Bool, true, false, cond, not, ◌&&◌, ◌||◌, or-true, or-false, and-true, and-false, true≢false}
use mathlib.Core.List.{List, [], ◌∷◌, ◌++◌}
use lib.Dec.{eqb}
use borrow.Author.Tests.{eq-eqb, not-true}
use Rattle.rules.specs.Machine.{Machine, Command, running}
use Rattle.rules.specs.Run.{accepts}
use Rattle.rules.specs.Run as R
use Rattle.rules.proofs.Tests.{both_true}
use Rattle.rules_exceptions.specs.Exceptions.{State, has, cleared, owner, pending_then, next, run}
use Rattle.rules_exceptions.specs.Words.{names, sets, Silent, Unshown, from_start, set_by, SetUnshown}
use Rattle.rules_exceptions.proofs.Bits.{has_set, has_idle, has_cleared}

-- One step, for a task that is not idle: pending behind the command is what was pending before it or is set by it, and is not shown by its answer.
pub step_has : (s : State) (c : Command) (t : ℕ) → t ≢ 0 → has (next s c).pending t ≡ ((has s.pending t || sets s c t) && not (names s c t))
unfolding next
step_has s c t n = go (accepts m c)
  where
    m : Machine
    m = s.machine

    go : (b : Bool)
        → has (cond b (record { machine = R.next m c; pending = cleared (pending_then s c) (running (R.next m c)) }) s).pending t
        ≡ ((has s.pending t || (b && eqb (owner m c) t)) && not (b && eqb (running (R.next m c)) t))
    go true =
        has_cleared (pending_then s c) (running (R.next m c)) t ∙
        ap (λ (b : Bool). b && not (eqb (running (R.next m c)) t)) (has_set s.pending (owner m c) t n)
    go false = sym (and-true _ ∙ or-false (has s.pending t))

-- idle's bit stays 0
pub step_idle : (s : State) (c : Command) → has s.pending 0 ≡ false → has (next s c).pending 0 ≡ false
unfolding next
step_idle s c e = go (accepts s.machine c)
  where
    m : Machine
    m = s.machine

    go : (b : Bool) → has (cond b (record { machine = R.next m c; pending = cleared (pending_then s c) (running (R.next m c)) }) s).pending 0 ≡ false
    go true =
        has_cleared (pending_then s c) (running (R.next m c)) 0 ∙
        ap (λ (b : Bool). b && not (eqb (running (R.next m c)) 0)) (has_idle s.pending (owner m c) ∙ e)
    go false = e

pub run_idle : (cs : List Command) (s : State) → has s.pending 0 ≡ false → has (run s cs).pending 0 ≡ false
unfolding run
run_idle [] s e = e
run_idle (c ∷ cs) s e = run_idle cs (next s c) (step_idle s c e)

-- the running task has none left behind an accepted answer, for that shows it
step_runner : (s : State) (c : Command) → has s.pending (running s.machine) ≡ false → has (next s c).pending (running (next s c).machine) ≡ false
unfolding next
step_runner s c e = go (accepts s.machine c)
  where
    m : Machine
    m = R.next s.machine c

    go : (b : Bool) → let n = cond b (record { machine = m; pending = cleared (pending_then s c) (running m) }) s in has n.pending (running n.machine) ≡ false
    go true = has_cleared (pending_then s c) (running m) (running m) ∙ rw (eq-eqb (running m) (running m) refl) (and-false (has (pending_then s c) (running m)))
    go false = e

pub run_runner : (cs : List Command) (s : State) → has s.pending (running s.machine) ≡ false
    → has (run s cs).pending (running (run s cs).machine) ≡ false
unfolding run
run_runner [] s e = e
run_runner (c ∷ cs) s e = run_runner cs (next s c) (step_runner s c e)

-- One command more in front: what is pending behind it was pending before, or is set by it; and it is silent on t.
module _ (t : ℕ) (n : t ≢ 0) (s : State) (c : Command) (cs : List Command) where
  more : Unshown t (next s c) cs → Unshown t s (c ∷ cs)
  unfolding run
  more (from_start e k) = go (has s.pending t) refl (both_true _ _ (sym (step_has s c t n) ∙ e))
    where
      go : (b : Bool) → has s.pending t ≡ b → ((has s.pending t || sets s c t) ≡ true) × (not (names s c t) ≡ true) → Unshown t s (c ∷ cs)
      go true h w = from_start h (not-true _ w.1, k)
      go false h w = set_by [] c cs refl (rw h at w.0) (not-true _ w.1, k)
  more (set_by before d between e f k) = set_by (c ∷ before) d between (ap (λ (l : List Command). c ∷ l) e) f k

  fewer : Unshown t s (c ∷ cs) → Unshown t (next s c) cs
  unfolding run
  fewer (from_start e k) = from_start (step_has s c t n ∙ rw (e, k.0)) k.1
  fewer (set_by [] d between e f k) =
      let p : d ≡ c = cc in
      let q : between ≡ cs = cc in
      let here : sets s c t ≡ true = rw p at f in
      let silent : Silent t s (c ∷ cs) = rw (p, q) at k in
      from_start (step_has s c t n ∙ rw (here, silent.0, or-true (has s.pending t))) silent.1
  fewer (set_by (b ∷ before) d between e f k) =
      let p : b ≡ c = cc in
      let q : cs ≡ before ++ (d ∷ between) = cc in
      set_by before d between q (rw p at f) (rw p at k)

no_command : (before : List Command) (c : Command) (between : List Command) → [] ≡ before ++ (c ∷ between) → ⊥
no_command [] c between e = let z : ◌≡◌ {A = ℕ} 0 1 = cc in omega arith
no_command (b ∷ before) c between e = let z : ◌≡◌ {A = ℕ} 0 1 = cc in omega arith

pub pending_unshown : (t : ℕ) → t ≢ 0 → (cs : List Command) (s : State) → (has (run s cs).pending t ≡ true) ↔ Unshown t s cs
unfolding run
pending_unshown t n [] s = (λ e. from_start e tt, back)
  where
    back : Unshown t s [] → has s.pending t ≡ true
    back (from_start e k) = e
    back (set_by before c between e f k) = absurd (no_command before c between e)
pending_unshown t n (c ∷ cs) s =
    let ih = pending_unshown t n cs (next s c) in
    (λ e. more t n s c cs (ih.0 e), λ u. ih.1 (fewer t n s c cs u))

-- One that was not pending at the start was set on the way.
pub set_on_the_way : {t : ℕ} {s : State} {cs : List Command} → has s.pending t ≡ false → Unshown t s cs → SetUnshown t s cs
set_on_the_way e (from_start h k) = absurd (true≢false (sym h ∙ e))
set_on_the_way e (set_by before c between q f k) = (before, c, between, q, f, k)
