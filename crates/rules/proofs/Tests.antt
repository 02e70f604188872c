-- A test that computes, and the statement that it stands for: each gives the other. Assumes nothing.
use Prim.Native.Nat.{ℕ, zero, suc, ◌≤◌, ◌<◌}
use native.Mathlib.Omega.{arith}
use mathlib.Core.Path.{◌≡◌, refl, sym}
use mathlib.Core.Logic.{◌≢◌}
use mathlib.Core.Bool.{Bool, true, false, cond, not, ◌&&◌, ◌||◌, true≢false}
use mathlib.Core.List.{List, [], ◌∷◌}
use lib.Dec.{eqb, leb, ltb}
use borrow.Author.Tests.{eqb-true, eq-eqb, leb-true, le-leb, ltb-true, lt-ltb, eqb-false, ne_eqb, not-true}
use Rattle.rules.specs.Line.{every, neighbours, all_below, empty}
use Rattle.rules.proofs.Words.{All, Pairwise}
use Rattle.rules.proofs.Lists.{all_map}

pub record Tests (b : Bool) (P : Type 0) : Type 0 where
  pub sure : b ≡ true → P
  pub found : P → b ≡ true

pub both_true : (a b : Bool) → a && b ≡ true → (a ≡ true) × (b ≡ true)
both_true true b e = (refl, e)
both_true false b e = absurd (true≢false (sym e))

pub both_false : (a b : Bool) → a || b ≡ false → (a ≡ false) × (b ≡ false)
both_false true b e = absurd (true≢false e)
both_false false b e = (refl, e)

pub tests_is : (b : Bool) → Tests b (b ≡ true)
tests_is b = record { sure = λ e. e; found = λ e. e }

pub tests_le : (a b : ℕ) → Tests (leb a b) (a ≤ b)
tests_le a b = record { sure = leb-true a b; found = le-leb a b }

pub tests_lt : (a b : ℕ) → Tests (ltb a b) (a < b)
tests_lt a b = record { sure = ltb-true a b; found = lt-ltb a b }

pub tests_eq : (a b : ℕ) → Tests (eqb a b) (a ≡ b)
tests_eq a b = record { sure = eqb-true a b; found = eq-eqb a b }

pub tests_ne : (a b : ℕ) → Tests (not (eqb a b)) (a ≢ b)
tests_ne a b = record { sure = λ e. eqb-false a b (not-true _ e); found = λ n. rw (ne_eqb a b n) }

pub tests_empty : {A : Type 0} (l : List A) → Tests (empty l) (l ≡ [])
tests_empty [] = record { sure = λ e. refl; found = λ e. refl }
tests_empty (x ∷ l) = record { sure = λ e. absurd (true≢false (sym e)); found = λ e. let z : ◌≡◌ {A = ℕ} 0 1 = cc in absurd (omega arith) }

pub tests_map : {b : Bool} {P Q : Type 0} → (P → Q) → (Q → P) → Tests b P → Tests b Q
tests_map f g t = record { sure = λ e. f (t.sure e); found = λ q. t.found (g q) }

pub tests_and : {a b : Bool} {P Q : Type 0} → Tests a P → Tests b Q → Tests (a && b) (P × Q)
tests_and {a} {b} p q =
    record { sure = λ e. (let w = both_true a b e in (p.sure w.0, q.sure w.1)); found = λ w. rw (p.found w.0, q.found w.1) }

-- one test behind another, as `a && b && c` stands
infixl 4 ◌also◌
abbrev pub ◌also◌ : {a b : Bool} {P Q : Type 0} → Tests a P → Tests b Q → Tests (a && b) (P × Q)
p also q = tests_and p q

-- A record of facts, each with its test: the first fact and what it is in the record, then the others. So a law over a record is a line for each field.
pub tests_field : {a b : Bool} {P R : Type 0} → Tests a P → (R → P) → (P → Tests b R) → Tests (a && b) R
tests_field {a} {b} t part more = record {
  sure = λ e. (let w = both_true a b e in (more (t.sure w.0)).sure w.1);
  found = λ r. rw (t.found (part r), (more (part r)).found r);
}

pub tests_record : {R : Type 0} → R → Tests true R
tests_record r = record { sure = λ e. r; found = λ r. refl }

-- "it holds nothing, or .." is an implication
pub tests_or : {a b : Bool} {P Q : Type 0} → Tests a P → Tests b Q → Tests (a || b) ((P → ⊥) → Q)
tests_or {a} {b} {P} {Q} p q = record { sure = λ e n. go a p n e; found = back a p }
  where
    go : (a : Bool) → Tests a P → (P → ⊥) → a || b ≡ true → Q
    go true p n e = absurd (n (p.sure refl))
    go false p n e = q.sure e

    back : (a : Bool) → Tests a P → ((P → ⊥) → Q) → a || b ≡ true
    back true p f = refl
    back false p f = q.found (f (λ w. true≢false (sym (p.found w))))

pub tests_cond : {a x y : Bool} {P X Y : Type 0} → Tests a P → Tests x X → Tests y Y → Tests (cond a x y) ((P → X) × ((P → ⊥) → Y))
tests_cond {a} {x} {y} {P} {X} {Y} p u v = record { sure = λ e. (go a p e, other a p e); found = back a p }
  where
    go : (a : Bool) → Tests a P → cond a x y ≡ true → P → X
    go true p e w = u.sure e
    go false p e w = absurd (true≢false (sym (p.found w)))

    other : (a : Bool) → Tests a P → cond a x y ≡ true → (P → ⊥) → Y
    other true p e n = absurd (n (p.sure refl))
    other false p e n = v.sure e

    back : (a : Bool) → Tests a P → (P → X) × ((P → ⊥) → Y) → cond a x y ≡ true
    back true p f = u.found (f.0 (p.sure refl))
    back false p f = v.found (f.1 (λ w. true≢false (sym (p.found w))))

pub tests_every : {A : Type 0} {f : A → Bool} {P : A → Type 0} → ((a : A) → Tests (f a) (P a)) → (l : List A) → Tests (every f l) (All P l)
tests_every t [] = record { sure = λ e. tt; found = λ k. refl }
tests_every t (x ∷ l) = tests_and (t x) (tests_every t l)

-- of a relation that carries on, each two neighbours are as good as each two
pub tests_neighbours : {A : Type 0} {f : A → A → Bool} (R : A → A → Type 0) → ((a b c : A) → R a b → R b c → R a c) → ((a b : A) → Tests (f a b) (R a b))
    → (l : List A) → Tests (neighbours f l) (Pairwise R l)
tests_neighbours R on t [] = record { sure = λ e. tt; found = λ k. refl }
tests_neighbours R on t (x ∷ []) = record { sure = λ e. (tt, tt); found = λ k. refl }
tests_neighbours R on t (x ∷ (y ∷ l)) =
    tests_map (λ w. ((w.0, all_map (λ z k. on x y z w.0 k) l w.1.0), w.1)) (λ k. (k.0.0, k.1))
    (tests_and (t x y) (tests_neighbours R on t (y ∷ l)))

pub tests_all_below : {f : ℕ → Bool} {P : ℕ → Type 0} → ((a : ℕ) → Tests (f a) (P a)) → (n : ℕ) → Tests (all_below n f) ((a : ℕ) → a < n → P a)
unfolding all_below
tests_all_below t zero = record { sure = λ e a h. absurd (omega arith); found = λ k. refl }
tests_all_below {f} {P} t (suc n) =
    tests_map (λ w a h. up w a h (eqb a n) refl) (λ k. (k n (omega arith), λ a h. k a (omega arith))) (tests_and (t n) (tests_all_below t n))
  where
    up : P n × ((a : ℕ) → a < n → P a) → (a : ℕ) → a < suc n → (b : Bool) → eqb a n ≡ b → P a
    up w a h true e = rw (eqb-true a n e) w.0
    up w a h false e = w.1 a (let z : a ≢ n = eqb-false a n e in omega arith)
