-- What "placed" means: the theorem that ties the placing function to document 01's words.
-- On an ordered line the new entry stands behind all those and before all those that the paper names, and the others keep their order:
-- the line is `ahead ++ behind`, and after placing it is `ahead ++ new ∷ behind`. Assumes nothing.
use Prim.Native.Nat.{ℕ, suc, ◌≤◌, ◌<◌}
use native.Mathlib.Omega.{arith}
use mathlib.Core.Path.{◌≡◌, refl, ap}
use mathlib.Core.Bool.{Bool, true, false, cond}
use mathlib.Core.List.{List, [], ◌∷◌, ◌++◌}
use lib.Dec.{ltb}
use borrow.Author.Tests.{ltb-true, ltb-false, lt-ltb}
use Rattle.rules.specs.Line.{place, at_tail, at_head, by_time}
use Rattle.rules.proofs.Words.{All, Pairwise}
use Rattle.rules.proofs.Lists.{all_map, all_every, pairwise_map}

pub record Split {A : Type 0} (Ahead Behind : A → Type 0) (x : A) (l placed : List A) : Type 0 where
  pub ahead : List A
  pub behind : List A
  pub was : l ≡ ahead ++ behind
  pub is : placed ≡ ahead ++ (x ∷ behind)
  pub all_ahead : All Ahead ahead
  pub all_behind : All Behind behind

-- One law for all three: on a line where the test, once it stops, stops at all that follow.
module _ {A : Type 0} (stop : A → Bool) (x : A) where
  pub place_splits : (l : List A) → Pairwise (λ a b. stop a ≡ true → stop b ≡ true) l → Split (λ y. stop y ≡ false) (λ y. stop y ≡ true) x l (place stop x l)
  place_splits [] k = record { ahead = []; behind = []; was = refl; is = refl; all_ahead = tt; all_behind = tt }
  place_splits (y ∷ l) k = go (stop y) refl (place_splits l k.1)
    where
      go : (b : Bool) → stop y ≡ b → Split (λ y. stop y ≡ false) (λ y. stop y ≡ true) x l (place stop x l)
          → Split (λ y. stop y ≡ false) (λ y. stop y ≡ true) x (y ∷ l) (cond b (x ∷ y ∷ l) (y ∷ place stop x l))
      go true e s = record { ahead = []; behind = y ∷ l; was = refl; is = refl; all_ahead = tt; all_behind = (e, all_map (λ z w. w e) l k.0) }
      go false e s = record {
        ahead = y ∷ s.ahead;
        behind = s.behind;
        was = ap (λ (z : List A). y ∷ z) s.was;
        is = ap (λ (z : List A). y ∷ z) s.is;
        all_ahead = (e, s.all_ahead);
        all_behind = s.all_behind;
      }

  -- said in the words of what the test tests
  reads_as : (Ahead Behind : A → Type 0) → ((y : A) → stop y ≡ false → Ahead y) → ((y : A) → stop y ≡ true → Behind y) → (l : List A)
      → Split (λ y. stop y ≡ false) (λ y. stop y ≡ true) x l (place stop x l) → Split Ahead Behind x l (place stop x l)
  reads_as Ahead Behind f g l s = record {
    ahead = s.ahead;
    behind = s.behind;
    was = s.was;
    is = s.is;
    all_ahead = all_map f s.ahead s.all_ahead;
    all_behind = all_map g s.behind s.all_behind;
  }

-- At the tail of p: behind every task with active at least p, before all others.
pub tail_splits : (act : ℕ → ℕ) (p t : ℕ) (l : List ℕ) → Pairwise (λ a b. act b ≤ act a) l → Split (λ y. p ≤ act y) (λ y. act y < p) t l (at_tail act p t l)
tail_splits act p t l k =
    reads_as (λ y. ltb (act y) p) t (λ y. p ≤ act y) (λ y. act y < p) (λ y. ltb-false (act y) p) (λ y. ltb-true (act y) p) l
    (place_splits (λ y. ltb (act y) p) t l
    (pairwise_map {P = λ y. Unit {0}} (λ a b u v w e. (let z : act a < p = ltb-true _ _ e in lt-ltb (act b) p (omega arith))) l (all_every (λ y. tt) l) k))

-- At the head of p: behind every task with active above p, before all others.
pub head_splits : (act : ℕ → ℕ) (p t : ℕ) (l : List ℕ) → Pairwise (λ a b. act b ≤ act a) l
    → Split (λ y. p < act y) (λ y. act y < suc p) t l (at_head act p t l)
head_splits act p t l k = tail_splits act (suc p) t l k

-- Into the delay line: behind every entry of an equal or earlier time, before every later one.
pub time_splits : (e : ℕ × ℕ) (l : List (ℕ × ℕ)) → Pairwise (λ f g. f.0 ≤ g.0) l → Split (λ f. f.0 ≤ e.0) (λ f. e.0 < f.0) e l (by_time e l)
time_splits e l k =
    reads_as (λ f. ltb e.0 f.0) e (λ f. f.0 ≤ e.0) (λ f. e.0 < f.0) (λ f. ltb-false e.0 f.0) (λ f. ltb-true e.0 f.0) l
    (place_splits (λ f. ltb e.0 f.0) e l
    (pairwise_map {P = λ f. Unit {0}} (λ f g u v w q. (let z : e.0 < f.0 = ltb-true _ _ q in lt-ltb e.0 g.0 (omega arith))) l
    (all_every (λ f. tt) l) k))
