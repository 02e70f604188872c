-- Laws of lines and tables: what holds of each entry, of each two, and how often a number stands there. Assumes nothing.
use Prim.Native.Nat.{ℕ, zero, suc, ◌+◌, ◌≤◌, ◌<◌}
use native.Mathlib.Omega.{arith}
use native.Mathlib.Nat.{eq-or-lt_of_le}
use mathlib.Core.Path.{◌≡◌, refl, sym, ap}
use mathlib.Core.Logic.{◌≢◌, ◌⊎◌, inl, inr, ⊎_elim}
use mathlib.Core.Bool.{Bool, true, false, cond}
use mathlib.Core.List.{List, [], ◌∷◌, ◌++◌}
use lib.Dec.{eqb, ltb}
use lib.ListN.{get_or, set, length}
use borrow.Author.Tests.{ltb-true, ltb-false, eqb-true, eqb-false, ne_eqb, eq-eqb}
use Rattle.rules.specs.Line.{place, behind_front, front, first_few, behind_few, first_alone, at_tail, count, one_if}
use Rattle.rules.specs.Machine.{tasks}
use Rattle.rules.specs.Sound.{waits}
use Rattle.rules.proofs.Words.{All, Pairwise}

pub lt_or_ge : (a b : ℕ) → (a < b) ⊎ (b ≤ a)
lt_or_ge a b = go (ltb a b) refl
  where
    go : (x : Bool) → ltb a b ≡ x → (a < b) ⊎ (b ≤ a)
    go true e = inl (ltb-true a b e)
    go false e = inr (ltb-false a b e)

pub eq_or_ne : (a b : ℕ) → (a ≡ b) ⊎ (a ≢ b)
eq_or_ne a b = go (eqb a b) refl
  where
    go : (x : Bool) → eqb a b ≡ x → (a ≡ b) ⊎ (a ≢ b)
    go true e = inl (eqb-true a b e)
    go false e = inr (eqb-false a b e)

-- Each entry, each two.
module _ {A : Type 0} where
  pub all_map : {P Q : A → Type 0} → ((a : A) → P a → Q a) → (l : List A) → All P l → All Q l
  all_map f [] h = tt
  all_map f (x ∷ l) h = (f x h.0, all_map f l h.1)

  pub all_both : (P Q : A → Type 0) (l : List A) → All P l → All Q l → All (λ a. P a × Q a) l
  all_both P Q [] h k = tt
  all_both P Q (x ∷ l) h k = ((h.0, k.0), all_both P Q l h.1 k.1)

  pub all_every : {P : A → Type 0} → ((a : A) → P a) → (l : List A) → All P l
  all_every f [] = tt
  all_every f (x ∷ l) = (f x, all_every f l)

  pub all_place : (P : A → Type 0) (stop : A → Bool) (x : A) (l : List A) → P x → All P l → All P (place stop x l)
  all_place P stop x [] p h = (p, tt)
  all_place P stop x (y ∷ l) p h =
      elim (stop y) as (λ b. All P (cond b (x ∷ y ∷ l) (y ∷ place stop x l))) [ true ↦ (p, h) | false ↦ (h.0, all_place P stop x l p h.1) ]

  pub all_behind : (P : A → Type 0) (l : List A) → All P l → All P (behind_front l)
  all_behind P [] h = tt
  all_behind P (x ∷ l) h = h.1

  pub all_few : (P : A → Type 0) (n : ℕ) (l : List A) → All P l → All P (first_few n l) × All P (behind_few n l)
  all_few P zero l h = (tt, h)
  all_few P (suc n) [] h = (tt, tt)
  all_few P (suc n) (x ∷ l) h = let w = all_few P n l h.1 in ((h.0, w.0), w.1)

  pub fewer : (n : ℕ) (l : List A) → length (behind_few n l) ≤ length l
  fewer zero l = omega arith
  fewer (suc n) [] = omega arith
  fewer (suc n) (x ∷ l) = omega (arith, fewer n l)

  pub all_at : (P : A → Type 0) (l : List A) (i : ℕ) (d : A) → P d → All P l → P (get_or l i d)
  all_at P [] i d p h = p
  all_at P (x ∷ l) zero d p h = h.0
  all_at P (x ∷ l) (suc i) d p h = all_at P l i d p h.1

  pub all_set : (P : A → Type 0) (l : List A) (i : ℕ) (v : A) → P v → All P l → All P (set l i v)
  all_set P [] i v p h = tt
  all_set P (x ∷ l) zero v p h = (p, h.1)
  all_set P (x ∷ l) (suc i) v p h = (h.0, all_set P l i v p h.1)

  pub pairwise_map : {P : A → Type 0} {R S : A → A → Type 0} → ((a b : A) → P a → P b → R a b → S a b) → (l : List A) → All P l → Pairwise R l → Pairwise S l
  pairwise_map f [] h k = tt
  pairwise_map {P} {R} f (x ∷ l) h k = (all_map (λ b w. f x b h.0 w.0 w.1) l (all_both P (R x) l h.1 k.0), pairwise_map f l h.1 k.1)

  pub pairwise_behind : (R : A → A → Type 0) (l : List A) → Pairwise R l → Pairwise R (behind_front l)
  pairwise_behind R [] k = tt
  pairwise_behind R (x ∷ l) k = k.1

  pub front_over : (R : A → A → Type 0) (d : A) (l : List A) → Pairwise R l → All (R (front d l)) (behind_front l)
  front_over R d [] k = tt
  front_over R d (x ∷ l) k = k.0

  pub pairwise_front : (R : A → A → Type 0) (d : A) (l : List A) → All (R (front d l)) (behind_front l) → Pairwise R (behind_front l) → Pairwise R l
  pairwise_front R d [] h k = tt
  pairwise_front R d (x ∷ l) h k = (h, k)

  -- a stored cell is the new value, or was not touched
  pub set_either : (l : List A) (i : ℕ) (v : A) (j : ℕ) (d : A) → ((j ≡ i) × (get_or (set l i v) j d ≡ v)) ⊎ (get_or (set l i v) j d ≡ get_or l j d)
  set_either [] i v j d = inr refl
  set_either (x ∷ l) zero v zero d = inl (refl, refl)
  set_either (x ∷ l) zero v (suc j) d = inr refl
  set_either (x ∷ l) (suc i) v zero d = inr refl
  set_either (x ∷ l) (suc i) v (suc j) d =
      ⊎_elim (λ (w : (j ≡ i) × (get_or (set l i v) j d ≡ v)). inl (ap suc w.0, w.1)) (λ (w : get_or (set l i v) j d ≡ get_or l j d). inr w)
      (set_either l i v j d)

  -- so what holds of the new value there, and held of each cell, holds of each cell
  pub set_keeps : (P : ℕ → A → Type 0) (l : List A) (i : ℕ) (v : A) (j : ℕ) (d : A) → (j ≡ i → P j v) → P j (get_or l j d) → P j (get_or (set l i v) j d)
  set_keeps P l i v j d f h =
      ⊎_elim (λ (w : (j ≡ i) × (get_or (set l i v) j d ≡ v)). rw w.1 (f w.0)) (λ (w : get_or (set l i v) j d ≡ get_or l j d). rw w h) (set_either l i v j d)

-- Whatever is placed by a level keeps a relation that goes with the level: those up to the first below p stand over x, and x over the rest.
pub tail_pairwise : (R : ℕ → ℕ → Type 0) (act : ℕ → ℕ) (p x : ℕ) → ((y : ℕ) → p ≤ act y → R y x)
    → (l : List ℕ) → Pairwise (λ a b. act b ≤ act a) l → All (λ y. act y < p → R x y) l → Pairwise R l → Pairwise R (at_tail act p x l)
tail_pairwise R act p x up [] o down k = (tt, tt)
tail_pairwise R act p x up (y ∷ l) o down k = go (ltb (act y) p) refl (tail_pairwise R act p x up l o.1 down.1 k.1)
  where
    go : (b : Bool) → ltb (act y) p ≡ b → Pairwise R (at_tail act p x l) → Pairwise R (cond b (x ∷ y ∷ l) (y ∷ at_tail act p x l))
    go true e ih =
        let c : act y < p = ltb-true _ _ e in
        let behind = all_both (λ z. act z < p → R x z) (λ z. act z ≤ act y) l down.1 o.0 in
        ((down.0 c, all_map (λ z w. w.0 (let q : act z ≤ act y = w.1 in omega arith)) l behind), k)
    go false e ih = (all_place (R y) (λ z. ltb (act z) p) x l (up y (ltb-false _ _ e)) k.0, ih)

-- the order of the line itself is such a relation, for a task placed at the tail or at the head of its own priority
pub tail_falls : (act : ℕ → ℕ) (p x : ℕ) → act x ≤ p → p ≤ suc (act x) → (l : List ℕ) → Pairwise (λ a b. act b ≤ act a) l
    → Pairwise (λ a b. act b ≤ act a) (at_tail act p x l)
tail_falls act p x lo hi l k = tail_pairwise (λ a b. act b ≤ act a) act p x (λ y c. omega arith) l k (all_every (λ y c. omega arith) l) k

-- How often a number stands in a line.
pub count_place : (t : ℕ) (stop : ℕ → Bool) (x : ℕ) (l : List ℕ) → count t (place stop x l) ≡ one_if (eqb t x) + count t l
count_place t stop x [] = refl
count_place t stop x (y ∷ l) = go (stop y) (count_place t stop x l)
  where
    go : (b : Bool) → count t (place stop x l) ≡ one_if (eqb t x) + count t l
        → count t (cond b (x ∷ y ∷ l) (y ∷ place stop x l)) ≡ one_if (eqb t x) + (one_if (eqb t y) + count t l)
    go true ih = refl
    go false ih = omega arith

pub count_tasks_place : (t : ℕ) (stop : ℕ × ℕ → Bool) (e : ℕ × ℕ) (l : List (ℕ × ℕ))
    → count t (tasks (place stop e l)) ≡ one_if (eqb t e.1) + count t (tasks l)
count_tasks_place t stop e [] = refl
count_tasks_place t stop e (f ∷ l) = go (stop f) (count_tasks_place t stop e l)
  where
    go : (b : Bool) → count t (tasks (place stop e l)) ≡ one_if (eqb t e.1) + count t (tasks l)
        → count t (tasks (cond b (e ∷ f ∷ l) (f ∷ place stop e l))) ≡ one_if (eqb t e.1) + (one_if (eqb t f.1) + count t (tasks l))
    go true ih = refl
    go false ih = omega arith

pub one_self : (x : ℕ) → one_if (eqb x x) ≡ 1
one_self x = rw (eq-eqb x x refl)

pub count_absent : (t : ℕ) (l : List ℕ) → count t l ≡ 0 → All (λ a. a ≢ t) l
count_absent t [] h = tt
count_absent t (x ∷ l) h = go (count_absent t l) (eqb t x) refl h
  where
    go : (count t l ≡ 0 → All (λ a. a ≢ t) l) → (b : Bool) → eqb t x ≡ b → one_if b + count t l ≡ 0 → All (λ a. a ≢ t) (x ∷ l)
    go ih true e h = absurd (omega arith)
    go ih false e h = ((λ q. eqb-false t x e (sym q)), ih (omega arith))

-- what holds of each number that stands in the line holds of each entry
pub all_standing : (P : ℕ → Type 0) (l : List ℕ) → ((t : ℕ) → 1 ≤ count t l → P t) → All P l
all_standing P [] f = tt
all_standing P (x ∷ l) f = (f x (omega (arith, one_self x)), all_standing P l (λ t h. f t (omega arith)))

pub standing : (P : ℕ → Type 0) (l : List ℕ) → All P l → (t : ℕ) → 1 ≤ count t l → P t
standing P [] h t k = absurd (omega arith)
standing P (x ∷ l) h t k = go (standing P l h.1 t) (eqb t x) refl k
  where
    go : (1 ≤ count t l → P t) → (b : Bool) → eqb t x ≡ b → 1 ≤ one_if b + count t l → P t
    go ih true e k = rw (eqb-true t x e) h.0
    go ih false e k = ih (omega arith)

pub count_front : (l : List ℕ) (z : ℕ) → 1 ≤ count z l → (t : ℕ) → count t l ≡ one_if (eqb t (front 0 l)) + count t (behind_front l)
count_front [] z h t = absurd (omega arith)
count_front (x ∷ l) z h t = refl

pub count_snoc : (t : ℕ) (l : List ℕ) (r : ℕ) → count t (l ++ (r ∷ [])) ≡ one_if (eqb t r) + count t l
count_snoc t [] r = refl
count_snoc t (x ∷ l) r = omega (arith, count_snoc t l r)

pub count_few : (t n : ℕ) (l : List ℕ) → count t (first_few n l) + count t (behind_few n l) ≡ count t l
count_few t zero l = omega arith
count_few t (suc n) [] = refl
count_few t (suc n) (x ∷ l) = omega (arith, count_few t n l)

pub count_first : (t : ℕ) (l : List ℕ) → count t (first_alone l) + count t (behind_front l) ≡ count t l
count_first t [] = refl
count_first t (x ∷ l) = omega arith

pub tasks_behind : (l : List (ℕ × ℕ)) → tasks (behind_front l) ≡ behind_front (tasks l)
tasks_behind [] = refl
tasks_behind (e ∷ l) = refl

pub count_set : (o : ℕ) (l : List ℕ) (i v : ℕ) → count o (set l i v) ≤ one_if (eqb o v) + count o l
count_set o [] i v = omega arith
count_set o (x ∷ l) zero v = omega arith
count_set o (x ∷ l) (suc i) v = omega (arith, count_set o l i v)

-- one waiter more, or some fewer
pub waits_more : (t : ℕ) (q : List (List ℕ)) (o r : ℕ) → o < length q → waits t (set q o (get_or q o [] ++ (r ∷ []))) ≡ one_if (eqb t r) + waits t q
waits_more t [] o r h = absurd (omega arith)
waits_more t (l ∷ q) zero r h = omega (arith, count_snoc t l r)
waits_more t (l ∷ q) (suc o) r h = omega (arith, waits_more t q o r (omega arith))

pub waits_fewer : (t n : ℕ) (q : List (List ℕ)) (o : ℕ) → count t (first_few n (get_or q o [])) + waits t (set q o (behind_few n (get_or q o []))) ≡ waits t q
waits_fewer t zero [] o = refl
waits_fewer t (suc n) [] o = refl
waits_fewer t n (l ∷ q) zero = omega (arith, count_few t n l)
waits_fewer t n (l ∷ q) (suc o) = omega (arith, waits_fewer t n q o)

pub waits_at : (t : ℕ) (q : List (List ℕ)) (o : ℕ) → count t (get_or q o []) ≤ waits t q
waits_at t [] o = omega arith
waits_at t (l ∷ q) zero = omega arith
waits_at t (l ∷ q) (suc o) = omega (arith, waits_at t q o)

-- A line that holds each number below n at most once, and no other, has at most n entries.
sum : (ℕ → ℕ) → ℕ → ℕ
sum g zero = 0
sum g (suc n) = g n + sum g n

sum_zero : (n : ℕ) → sum (λ t. 0) n ≡ 0
unfolding sum
sum_zero zero = refl
sum_zero (suc n) = omega (arith, sum_zero n)

sum_add : (g h : ℕ → ℕ) (n : ℕ) → sum (λ t. g t + h t) n ≡ sum g n + sum h n
unfolding sum
sum_add g h zero = omega arith
sum_add g h (suc n) = omega (arith, sum_add g h n)

sum_past : (x n : ℕ) → n ≤ x → sum (λ t. one_if (eqb t x)) n ≡ 0
unfolding sum
sum_past x zero h = refl
sum_past x (suc n) h = rw (ne_eqb n x (λ e. omega arith)) (omega (arith, sum_past x n (omega arith)))

sum_one : (x n : ℕ) → x < n → sum (λ t. one_if (eqb t x)) n ≡ 1
unfolding sum
sum_one x zero h = absurd (omega arith)
sum_one x (suc n) h =
    let le : x ≤ n = omega arith in
    ⊎_elim (λ (e : x ≡ n). rw (eq-eqb n x (sym e)) (omega (arith, sum_past x n (omega arith))))
    (λ (l : x < n). rw (ne_eqb n x (λ e. omega arith)) (omega (arith, sum_one x n l))) (eq-or-lt_of_le le)

sum_count : (n : ℕ) (l : List ℕ) → All (λ x. x < n) l → sum (λ t. count t l) n ≡ length l
sum_count n [] a = sum_zero n
sum_count n (x ∷ l) a = omega (arith, sum_add (λ t. one_if (eqb t x)) (λ t. count t l) n, sum_one x n a.0, sum_count n l a.1)

sum_most : (g : ℕ → ℕ) (n : ℕ) → ((t : ℕ) → g t ≤ 1) → sum g n ≤ n
unfolding sum
sum_most g zero b = omega arith
sum_most g (suc n) b = omega (arith, sum_most g n b, b n)

pub few : (n : ℕ) (l : List ℕ) → All (λ x. x < n) l → ((t : ℕ) → count t l ≤ 1) → length l ≤ n
few n l a b = omega (arith, sum_count n l a, sum_most (λ t. count t l) n b)
