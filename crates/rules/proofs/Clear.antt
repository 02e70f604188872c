-- The invariant behind the promise on releases: where a task holds an object, every task ahead of it in the ready line has a base above
-- its ceiling. Every step from a sound state keeps it, so it holds along every run from the fresh machine. It does not follow from
-- soundness: two low tasks may hold objects of one high ceiling in a forged state, and both run before a task between (Saved, two-holders). Assumes nothing.
use Prim.Native.Nat.{ℕ, suc, ◌<◌}
use native.Mathlib.Omega.{arith}
use mathlib.Core.Path.{◌≡◌}
use mathlib.Core.Logic.{◌≢◌}
use mathlib.Core.List.{List, [], ◌∷◌}
use Rattle.rules.specs.Line.{at, behind_front, at_tail}
use Rattle.rules.specs.Machine.{Machine, Command, active, runner, fresh}
use Rattle.rules.specs.Table.{Out, same, take, yield, close, sleep, await, Rel, none, due, serve}
use Rattle.rules.specs.Table.{Effect, nothing, creates, declares, begins, moves, effect, with_hand, freed, enter, release, leave, carry}
use Rattle.rules.specs.Run.{next, run}
use Rattle.rules.proofs.Words.{All, Pairwise, Free, Holding, Ordered, Clear}
use Rattle.rules.proofs.Lists.{all_map, all_both, all_every, pairwise_map, pairwise_behind, front_over, pairwise_front, tail_pairwise, tail_falls}
use Rattle.rules.proofs.Hands.{act_free, other_hand}
use Rattle.rules.proofs.Sounds.{Sound, others}
use Rattle.rules.proofs.Kept.{AllowedOut, freed_free, release_sound, new_hand, behind_falls}
use Rattle.rules.proofs.SetUp.{nobody_holding}
use Rattle.rules.proofs.Accepted.{Allowed}
use Rattle.rules.proofs.Step.{Step, kept, carried, step, next_sound}

-- a may stand ahead of b
abbrev pub Over : Machine → ℕ → ℕ → Type 0
Over m a b = Holding m b → active m b < at m.base a

-- Those that hold nothing may be placed at the tail of their bases.
pub one_clear : (m : Machine) (u : ℕ) → Free m u → (l : List ℕ) → Pairwise (Ordered m) l → Pairwise (Over m) l
    → let after = at_tail (active m) (at m.base u) u l in Pairwise (Ordered m) after × Pairwise (Over m) after
one_clear m u h l f k =
    let r : active m u ≡ at m.base u = act_free m u h in (
      tail_falls (active m) (at m.base u) u (omega arith) (omega arith) l f,
      tail_pairwise (Over m) (active m) (at m.base u) u (λ y c n. absurd (n h)) l f (all_every (λ y c n. c) l) k,
    )

enter_clear : (m : Machine) (us : List ℕ) → All (Free m) us → (l : List ℕ) → Pairwise (Ordered m) l → Pairwise (Over m) l → Pairwise (Over m) (enter m us l)
enter_clear m [] h l f k = k
enter_clear m (u ∷ us) h l f k =
    let w = one_clear m u h.0 l f k in
    enter_clear m us h.1 (at_tail (active m) (at m.base u) u l) w.0 w.1

pub release_clear : (m : Machine) → Sound m → Clear m → (rel : Rel) → Clear (release rel m)
unfolding Clear release
release_clear m s k none = k
release_clear m s k due = enter_clear m (freed due m) (freed_free m s due) m.ready s.in_order.ready_falls k
release_clear m s k (serve o n) = enter_clear m (freed (serve o n) m) (freed_free m s (serve o n)) m.ready s.in_order.ready_falls k

module _ (m : Machine) (s : Sound m) (k : Pairwise (Over m) m.ready) where
  -- the others, under new hands of the runner
  same_over : (v w a b : ℕ) → b ≢ runner m → Over m a b → Over (with_hand m v w) a b
  same_over v w a b n k = rw (other_hand m v w b n) k

  behind_clear : (v w : ℕ) → Pairwise (Over (with_hand m v w)) (behind_front m.ready)
  behind_clear v w =
      pairwise_map {P = λ t. t ≢ runner m} (λ a b na nb k. same_over v w a b nb k) (behind_front m.ready) (others m s)
      (pairwise_behind (Over m) m.ready k)

  runner_over : (v w : ℕ) → All (Over (with_hand m v w) (runner m)) (behind_front m.ready)
  runner_over v w =
      all_map (λ b k. same_over v w (runner m) b k.0 k.1) (behind_front m.ready)
      (all_both (λ b. b ≢ runner m) (Over m (runner m)) (behind_front m.ready) (others m s) (front_over (Over m) 0 m.ready k))

  leave_clear : (out : Out) → AllowedOut m out → Pairwise (Over (leave out m)) (leave out m).ready
  unfolding leave
  leave_clear same g = k
  leave_clear (take o w) g = pairwise_front (Over (with_hand m o w)) 0 m.ready (runner_over o w) (behind_clear o w)
  leave_clear yield g =
      tail_pairwise (Over m) (active m) (at m.base (runner m)) (runner m) (λ y c n. absurd (n g.bare)) (behind_front m.ready)
      (pairwise_behind (Ordered m) m.ready s.in_order.ready_falls)
      (all_every (λ y c n. c) (behind_front m.ready)) (pairwise_behind (Over m) m.ready k)
  leave_clear close g =
      let n = with_hand m 0 0 in
      tail_pairwise (Over n) (active n) (suc (at m.base (runner m))) (runner m) (λ y c h. absurd (h (new_hand m s 0 0))) (behind_front m.ready)
      (behind_falls m s 0 0) (all_map (λ b w c. w) (behind_front m.ready) (runner_over 0 0)) (behind_clear 0 0)
  leave_clear (sleep d) g = pairwise_behind (Over m) m.ready k
  leave_clear (await o) g = pairwise_behind (Over m) m.ready k

carry_clear : (m : Machine) → Sound m → Clear m → (e : Effect) → Allowed m e → Clear (carry m e)
unfolding Clear carry
carry_clear m s k nothing g = k
carry_clear m s k (creates t p) g = none_hold (at_tail _ p t m.ready)
  where
    none_hold : (l : List ℕ) → Pairwise (Over (carry m (creates t p))) l
    none_hold [] = tt
    none_hold (x ∷ l) = (all_every (λ b n. absurd (n (nobody_holding m s g.off b))) l, none_hold l)
carry_clear m s k (declares o p) g =
    pairwise_map {P = λ x. Unit {0}} (λ a b u v w n. absurd (n (nobody_holding m s g.off b))) m.ready (all_every (λ x. tt) m.ready) k
carry_clear m s k begins g = k
carry_clear m s k (moves out rel n) g = leave_clear (release rel m) (release_sound m s g.on rel) (release_clear m s k rel) out g.leaves

pub next_clear : (m : Machine) → Sound m → Clear m → (c : Command) → Clear (next m c)
next_clear m s k c = go (step m s c)
  where
    go : Step m c → Clear (next m c)
    go (kept e f w) = rw e k
    go (carried e f w g) = rw e (carry_clear m s k (effect m c) g)

pub run_clear : (cs : List Command) (m : Machine) → Sound m → Clear m → Clear (run m cs)
unfolding run
run_clear [] m s k = k
run_clear (c ∷ cs) m s k = run_clear cs (next m c) (next_sound m s c) (next_clear m s k c)

pub fresh_clear : Clear fresh
unfolding Clear
fresh_clear = (tt, tt)
