-- The ops that go one way or the other, by a test: what they leave in each table is what the one row or the other leaves. Assumes nothing.
use Prim.Native.Nat.{ℕ, ◌+◌, ◌^◌}
use native.Mathlib.Omega.{arith}
use mathlib.Core.Path.{◌≡◌, refl, sym, ap, subst}
use mathlib.Core.Bool.{Bool, true, false, cond}
use mathlib.Core.List.{List}
use lib.Dec.{eqb, ltb}
use lib.ListN.{set}
use borrow.Author.Tests.{eqb-true}
use Rattle.rules.specs.declared.Kind.{Kind}
use Rattle.rules.specs.Machine.{Command, for_entry}
use Rattle.kernel_line.specs.Tables.{place, pop, later, with_time}
use Rattle.kernel_ready.specs.Ready.{runner_in, popped, to_tail, released_line}
use Rattle.kernel_close.specs.Moves.{waits_in, closed_line}
use Rattle.kernel.specs.declared.Kernel.{Kernel}
use Rattle.kernel.specs.Step.{Carried, runner_of, carried_as, slept_of, yielded_of, advanced_of, woken_of, held_of, awaiting_of, served_of, closed_of, closing_of}
use Rattle.kernel.specs.Step.{grown}

-- a command of a kind is carried out as that kind is
pub as_kind : (j k : Kind) (m : Kernel) (c : Command) → k ≡ j → (n : Kernel) (t : ℕ) → Carried n t (carried_as j m c) → Carried n t (carried_as k m c)
as_kind j k m c e n t g = subst (λ (i : Kind). Carried n t (carried_as i m c)) (sym e) g

either : (x : Bool) (n : ℕ) → cond x n n ≡ n
either true n = refl
either false n = refl

-- a Wake with nobody due leaves all as it is
unmoved : (n : ℕ) → n ≡ grown n 0
unmoved n = let z : n + 0 ≡ n = omega arith in sym (rw z (either (ltb n (2 ^ 64)) n))

still : (k : Kernel) → k ≡ (advanced_of k 0).next
unfolding advanced_of
still k = ap (λ (n : ℕ). record k { clock = n }) (unmoved k.clock)

module _ (k : Kernel) where
  pub delays : (v : ℕ) (b : Bool) → Carried
      (record k {
        ready = cond b (popped k.ready) (to_tail k.base k.ceiling k.held (runner_of k) (popped k.ready));
        delayed = cond b (place (later k.until v) (runner_of k) k.delayed) k.delayed;
        until = cond b (with_time k.until (runner_of k) v) k.until;
      })
      0 (cond b (slept_of k v) (yielded_of k))
  unfolding slept_of yielded_of
  delays v true = (refl, refl)
  delays v false = (refl, refl)

  pub wakes : (t : ℕ) (b : Bool) → eqb t 0 ≡ b → Carried
      (record k {
        ready = cond b k.ready (to_tail k.base k.ceiling k.held t k.ready);
        delayed = cond b k.delayed (pop k.delayed);
        until = cond b k.until (with_time k.until t 0);
      })
      t (cond b (advanced_of k 0) (woken_of k t))
  unfolding advanced_of woken_of
  wakes t true e = (still k, rw (eqb-true t 0 e))
  wakes t false e = (refl, refl)

  pub enters : (o : ℕ) (b : Bool) → Carried
      (record k {
        ready = cond b k.ready (popped k.ready);
        held = cond b (set k.held (runner_of k) o) k.held;
        way = cond b (set k.way (runner_of k) for_entry) k.way;
        waiter = cond b k.waiter (set k.waiter o (runner_of k));
      })
      0 (cond b (held_of k o for_entry) (awaiting_of k o))
  unfolding held_of awaiting_of
  enters o true = (refl, refl)
  enters o false = (refl, refl)

  -- the line once t is served, where there is a t
  abbrev line : ℕ → Bool → List ℕ
  line t b = cond b k.ready (to_tail k.base k.ceiling k.held t k.ready)

  closes : (o t : ℕ) (b : Bool) → eqb t 0 ≡ b → Carried
      (record k {
        ready = closed_line k.base k.ceiling k.held (line t b);
        held = set k.held (runner_in (line t b)) 0;
        way = set k.way (runner_in (line t b)) 0;
        waiter = cond b k.waiter (set k.waiter o 0);
      })
      t (cond b (closed_of k 0) (closed_of (served_of k o t) t))
  unfolding closed_of served_of
  closes o t true e = (refl, rw (eqb-true t 0 e))
  closes o t false e = (refl, refl)

  -- the end of a body, whoever waits
  pub ending : (o : ℕ) (serves : Bool) →
      let t = waits_in k.waiter o serves in
      let l = released_line k.base k.ceiling k.held t k.ready in Carried
      (record k {
        ready = closed_line k.base k.ceiling k.held l;
        held = set k.held (runner_in l) 0;
        way = set k.way (runner_in l) 0;
        waiter = cond (eqb t 0) k.waiter (set k.waiter o 0);
      })
      t (closing_of k o serves)
  unfolding closing_of
  ending o serves = let t = waits_in k.waiter o serves in closes o t (eqb t 0) refl
