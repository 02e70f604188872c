-- Where each part of `carry` puts a task, in the paper's words: the law of placing (Placing.antt), told of the step itself; what a
-- closing runner holds, and whom it releases. Rules out: the head of a base for the tail and the other way round, a tie in the wrong order.
-- Leaves: which part another row of the op table has (Table.antt; Corners, rows).
-- `Split P Q t before after`: the line before is some tasks with P and then some with Q; after, t stands between them. Assumes nothing.
use Prim.Native.Nat.{ℕ, suc, ◌≤◌, ◌<◌}
use native.Mathlib.Omega.{arith}
use mathlib.Core.Path.{◌≡◌, refl, sym, subst, ◌∙◌}
use mathlib.Core.Logic.{⊎_elim}
use mathlib.Core.Bool.{Bool, true, false, cond}
use mathlib.Core.List.{List, [], ◌∷◌}
use lib.Dec.{eqb}
use lib.ListN.{get_or, set, length, length-set, get_or-eq_default}
use lib.Seq.{get_or-set_same}
use borrow.Author.Tests.{eqb-true}
use Rattle.rules.specs.Line.{at, front, behind_front, behind_few}
use Rattle.rules.specs.Machine.{Machine, Command, active, runner}
use Rattle.rules.specs.Kinds.{kind_at}
use Rattle.rules.specs.Table.{Rel, Effect, close, yield, sleep, none, serve, due, creates, moves, closing, freed, freed_by, effect_of, effect, release, leave}
use Rattle.rules.specs.Table.{carry}
use Rattle.rules.specs.Run.{accepts, next, released}
use Rattle.rules.proofs.Words.{Pairwise, Free, Ordered, Among, closing_ops, serving_ops}
use Rattle.rules.proofs.Lists.{pairwise_behind, all_at, lt_or_ge, standing}
use Rattle.rules.proofs.Sounds.{Sound}
use Rattle.rules.proofs.Placing.{Split, tail_splits, head_splits, time_splits}
use Rattle.rules.proofs.Kept.{behind_falls, new_hand, release_sound}
use Rattle.rules.proofs.Accepted.{Allowed, allowed}

module _ (m : Machine) (s : Sound m) where
  -- A closing runner goes to the head of its base: behind every task with active above it, before all others.
  pub closer_to_head : let n = leave close m in let p = at m.base (runner m) in
      Split (λ y. p < active n y) (λ y. active n y < suc p) (runner m) (behind_front m.ready) n.ready
  unfolding leave
  closer_to_head = head_splits (active (leave close m)) (at m.base (runner m)) (runner m) (behind_front m.ready) (behind_falls m s 0 0)

  -- A runner that yields goes to the tail of its base: behind every task with active at least that.
  pub yielder_to_tail : let p = at m.base (runner m) in
      Split (λ y. p ≤ active m y) (λ y. active m y < p) (runner m) (behind_front m.ready) (leave yield m).ready
  unfolding leave
  yielder_to_tail =
      tail_splits (active m) (at m.base (runner m)) (runner m) (behind_front m.ready) (pairwise_behind (Ordered m) m.ready s.in_order.ready_falls)

  -- A sleeper goes behind every entry of an equal or earlier time, before every later one.
  pub sleeper_by_time : (d : ℕ) → Split (λ f. f.0 ≤ d) (λ f. d < f.0) (d, runner m) m.delay (leave (sleep d) m).delay
  unfolding leave
  sleeper_by_time d = time_splits (d, runner m) m.delay s.in_order.times_rise

  -- A released task t goes to the tail of its base, whether it was due or waited.
  pub woken_to_tail : (t : ℕ) → freed due m ≡ t ∷ []
      → Split (λ y. at m.base t ≤ active m y) (λ y. active m y < at m.base t) t m.ready (release due m).ready
  unfolding release
  woken_to_tail t e = rw e (tail_splits (active m) (at m.base t) t m.ready s.in_order.ready_falls)

  pub served_to_tail : (o n t : ℕ) → freed (serve o n) m ≡ t ∷ []
      → Split (λ y. at m.base t ≤ active m y) (λ y. active m y < at m.base t) t m.ready (release (serve o n) m).ready
  unfolding release
  served_to_tail o n t e = rw e (tail_splits (active m) (at m.base t) t m.ready s.in_order.ready_falls)

  -- A created task goes to the tail of its base, among tasks that hold nothing: behind every task with active at least that.
  pub created_to_tail : (t p : ℕ) → let n = carry m (creates t p) in
      Pairwise (Ordered n) m.ready → Split (λ y. p ≤ active n y) (λ y. active n y < p) t m.ready n.ready
  unfolding carry
  created_to_tail t p k = tail_splits (active (carry m (creates t p))) p t m.ready k

  -- Whoever closes, whomever it releases, holds nothing.
  emptied : (rel : Rel) (n : ℕ) → Allowed m (moves close rel n) → Free (carry m (moves close rel n)) (runner m)
  unfolding carry leave
  emptied rel n g =
      subst (Free (leave close (release rel m))) (g.in_front (λ e. let z : ◌≡◌ {A = ℕ} 0 1 = cc in absurd (omega arith)))
      (new_hand (release rel m) (release_sound m s g.on rel) 0 0)

  -- Whom the end of a body with a barrier releases: with barrier 1 the first that waits on the object, with barrier 0 nobody.
  serves : (c : Command) → freed_by (closing true c) m ≡ cond (eqb c.b 1) (front 0 (get_or m.queue c.a [])) 0
  serves c = go (eqb c.b 1) (get_or m.queue c.a []) refl
    where
      go : (x : Bool) (q : List ℕ) → get_or m.queue c.a [] ≡ q → front 0 (freed (cond x (serve c.a 1) none) m) ≡ cond x (front 0 q) 0
      go true [] e = rw e
      go true (t ∷ q) e = rw e
      go false q e = refl

  -- Behind barrier 1 nobody waits on the object any more.
  none_wait : (o : ℕ) → get_or (carry m (moves close (serve o 1) 0)).queue o [] ≡ []
  unfolding carry leave release
  none_wait o =
      ⊎_elim
      (λ (h : o < length m.queue).
      get_or-set_same m.queue o _ [] h ∙ alone (get_or m.queue o []) (all_at (λ q. length q ≤ 1) m.queue o [] (omega arith) s.one_each.waiters))
      past (lt_or_ge o (length m.queue))
    where
      alone : (q : List ℕ) → length q ≤ 1 → behind_few 1 q ≡ []
      alone [] h = refl
      alone (x ∷ []) h = refl
      alone (x ∷ (y ∷ q)) h = absurd (omega arith)

      past : length m.queue ≤ o → get_or (set m.queue o (behind_few 1 (get_or m.queue o []))) o [] ≡ []
      past h =
          get_or-eq_default (set m.queue o (behind_few 1 (get_or m.queue o []))) [] {n = o}
          (let z = length-set m.queue o (behind_few 1 (get_or m.queue o [])) in omega arith)

-- The rows of the ends of a body: all close, those that have a barrier alike.
closing_row : (m : Machine) (c : Command) → Among closing_ops c.op → (rel : Rel) × (effect m c ≡ moves close rel 0)
closing_row m c = standing (λ op. (rel : Rel) × (effect_of (kind_at op) m c ≡ moves close rel 0)) closing_ops
    ((_, refl), ((_, refl), ((_, refl), ((_, refl), ((_, refl), ((_, refl), ((_, refl), tt))))))) c.op

serving_row : (m : Machine) (c : Command) → Among serving_ops c.op → effect m c ≡ closing true c
serving_row m c = standing (λ op. effect_of (kind_at op) m c ≡ closing true c) serving_ops (refl, (refl, (refl, (refl, (refl, tt))))) c.op

-- With barrier 0 the row of done is the one that document 01 gives it: so (0 being in range as an unused operand and as a barrier) a tape whose
-- op 11 records have b 0 is judged as it was before request 2.
pub shut_done_is_old : (m : Machine) (c : Command) → c.op ≡ 11 → c.b ≡ 0 → effect m c ≡ moves close none 0
shut_done_is_old m c e z = rw (e, z)

pub closed_holds_nothing : (m : Machine) → Sound m → (c : Command) → accepts m c ≡ true → Among closing_ops c.op → Free (next m c) (runner m)
unfolding next
closed_holds_nothing m s c ok op = rw ok (of_row (closing_row m c op))
  where
    of_row : (rel : Rel) × (effect m c ≡ moves close rel 0) → Free (carry m (effect m c)) (runner m)
    of_row (rel, e) =
        subst (λ (x : Effect). Allowed m x → Free (carry m x) (runner m)) (sym e) (λ g. emptied m s rel 0 g) (allowed m s c (eqb-true _ _ ok))

-- An accepted end of a body that has a barrier serves by it: with 1 it releases the first that waits on its object, and nobody waits there any more;
-- with 0 it releases nobody, and who waits waits on.
module _ (m : Machine) (s : Sound m) (c : Command) (ok : accepts m c ≡ true) (op : Among serving_ops c.op) where
  its_row : effect m c ≡ closing true c
  its_row = serving_row m c op

  pub closing_serves : released m c ≡ cond (eqb c.b 1) (front 0 (get_or m.queue c.a [])) 0
  unfolding released
  closing_serves = rw (ok, its_row) (serves m s c)

  pub served_waits_no_more : c.b ≡ 1 → get_or (next m c).queue c.a [] ≡ []
  unfolding next
  served_waits_no_more e = rw (ok, its_row, e) (none_wait m s c.a)

  pub shut_keeps_waiters : c.b ≡ 0 → (next m c).queue ≡ m.queue
  unfolding next carry leave release
  shut_keeps_waiters e = rw (ok, its_row, e)
