-- The queue of a delay line: each operation on it is the line's own. The table of a line is a run of stores from its last entry on, so insertion and search
-- are laws of stores (`set_comm`, `set-set`), and no two tables are compared cell by cell. Assumes nothing.
use Prim.Native.Nat.{ℕ, zero, suc, ◌+◌, ◌≤◌, ◌<◌}
use native.Mathlib.Omega.{arith}
use mathlib.Core.Path.{◌≡◌, refl, sym, ap, ◌∙◌}
use mathlib.Core.Logic.{◌≢◌, ◌↔◌, ◌⊎◌, inl, inr, ⊎_elim}
use mathlib.Core.Bool.{Bool, true, false, cond, not, ◌&&◌, ◌||◌, true≢false, or-false, and-false}
use mathlib.Core.List.{List, [], ◌∷◌}
use lib.Dec.{eqb, leb, ltb}
use lib.ListN.{length, set, replicate, length-set, length-replicate, get_or-replicate, get_or-eq_default}
use lib.Seq.{get_or-set_same, get_or-set_other, set-get_or, set-set, set_comm}
use borrow.Author.Tests.{ltb-true, ltb-false, eq-eqb, ne_eqb, lt-ltb, le-ltb, eqb-true, eqb-false}
use Rattle.rules.specs.Line.{at, one_if, count, by_time, front, behind_front, empty}
use Rattle.rules.specs.Machine.{task_count, tasks}
use Rattle.rules.specs.Run.{is_due, ahead}
use Rattle.rules.proofs.Words.{All}
use Rattle.rules.proofs.Lists.{all_map, all_place, eq_or_ne, lt_or_ge}
use Rattle.kernel_line.specs.Tables.{more}
use Rattle.queue_chip.specs.Queue.{queue, none, in_use, older, aged, preempts, pushed, tabled, insert, before, searched, moved_up, taken}
use Rattle.queue_chip.specs.declared.Queue.{Queue}
use Rattle.queue_chip.specs.Queue.{due, woken, wake, how_many, ahead_of, cell_due, left, above, delayed, read}
use Rattle.queue_chip.specs.Words.{Apart, Lined, equals, times_of, ages_of, queued, InRegisters, InTable}
use Rattle.queue_chip.proofs.Search.{Sooner, sooner_yes, sooner_no, sooner_self, nobody, found}

-- ## The table of a line, cell by cell
zero_cell : (n i : ℕ) → at (replicate n 0) i ≡ 0
zero_cell n i =
    ⊎_elim (λ (h : i < n). get_or-replicate n i 0 0 h) (λ (h : n ≤ i). get_or-eq_default (replicate n 0) 0 {n = i} (rw (length-replicate {A = ℕ} n 0) h))
    (lt_or_ge i n)

times_size : (l : List (ℕ × ℕ)) → length (times_of l) ≡ task_count
unfolding times_of
times_size [] = length-replicate {A = ℕ} task_count 0
times_size (e ∷ l) = length-set (times_of l) e.1 e.0 ∙ times_size l

ages_size : (l : List (ℕ × ℕ)) → length (ages_of l) ≡ task_count
unfolding ages_of
ages_size [] = length-replicate {A = ℕ} task_count 0
ages_size (e ∷ l) = length-set (ages_of l) e.1 (suc (equals e.0 l)) ∙ ages_size l

module _ (e : ℕ × ℕ) (l : List (ℕ × ℕ)) where
  own_time : e.1 < task_count → at (times_of (e ∷ l)) e.1 ≡ e.0
  unfolding times_of
  own_time h = get_or-set_same (times_of l) e.1 e.0 0 (rw (times_size l) h)

  own_age : e.1 < task_count → at (ages_of (e ∷ l)) e.1 ≡ suc (equals e.0 l)
  unfolding ages_of
  own_age h = get_or-set_same (ages_of l) e.1 (suc (equals e.0 l)) 0 (rw (ages_size l) h)

  other_time : (u : ℕ) → u ≢ e.1 → at (times_of (e ∷ l)) u ≡ at (times_of l) u
  unfolding times_of
  other_time u n = get_or-set_other (times_of l) e.1 u e.0 0 n

  pub other_age : (u : ℕ) → u ≢ e.1 → at (ages_of (e ∷ l)) u ≡ at (ages_of l) u
  unfolding ages_of
  other_age u n = get_or-set_other (ages_of l) e.1 u (suc (equals e.0 l)) 0 n

  pub own_there : e.1 < task_count → at (ages_of (e ∷ l)) e.1 ≢ 0
  own_there h z = let q = own_age h in omega arith

-- who is not in the line has neither
no_time : (t : ℕ) → at (times_of []) t ≡ 0
unfolding times_of
no_time t = zero_cell task_count t

no_age : (t : ℕ) → at (ages_of []) t ≡ 0
unfolding ages_of
no_age t = zero_cell task_count t

absent_time : (t : ℕ) (l : List (ℕ × ℕ)) → Apart t l → at (times_of l) t ≡ 0
absent_time t [] a = no_time t
absent_time t (e ∷ l) a = other_time e l t (λ q. a.0 (sym q)) ∙ absent_time t l a.1

pub absent_age : (t : ℕ) (l : List (ℕ × ℕ)) → Apart t l → at (ages_of l) t ≡ 0
absent_age t [] a = no_age t
absent_age t (e ∷ l) a = other_age e l t (λ q. a.0 (sym q)) ∙ absent_age t l a.1

-- ## Who stands before whom
-- In a line whose times are n or later, whoever has the time n has an age of at most their number.
cell_after : (n : ℕ) (l : List (ℕ × ℕ)) → Lined l → All (λ f. n ≤ f.0) l → (u : ℕ)
    → (at (ages_of l) u ≡ 0) ⊎ ((n ≤ at (times_of l) u) × (at (times_of l) u ≡ n → at (ages_of l) u ≤ equals n l))
cell_after n [] w a u = inl (no_age u)
cell_after n (e ∷ l) w a u = ⊎_elim mine (others (cell_after n l w.4 a.1 u)) (eq_or_ne u e.1)
  where
    mine : u ≡ e.1 → (at (ages_of (e ∷ l)) u ≡ 0) ⊎ ((n ≤ at (times_of (e ∷ l)) u) × (at (times_of (e ∷ l)) u ≡ n → at (ages_of (e ∷ l)) u ≤ equals n (e ∷ l)))
    mine q =
        let t : at (times_of (e ∷ l)) u ≡ e.0 = rw q (own_time e l w.1) in
        let g : at (ages_of (e ∷ l)) u ≡ suc (equals e.0 l) = rw q (own_age e l w.1) in
        inr (
          omega (arith, a.0),
          λ h. (
              let z : e.0 ≡ n = sym t ∙ h in
              let k : one_if (eqb n e.0) ≡ 1 = rw (eq-eqb n e.0 (sym z)) in
              let j : equals e.0 l ≡ equals n l = ap (λ (x : ℕ). equals x l) z in
              omega arith),
        )

    others : (at (ages_of l) u ≡ 0) ⊎ ((n ≤ at (times_of l) u) × (at (times_of l) u ≡ n → at (ages_of l) u ≤ equals n l)) → u ≢ e.1
        → (at (ages_of (e ∷ l)) u ≡ 0) ⊎ ((n ≤ at (times_of (e ∷ l)) u) × (at (times_of (e ∷ l)) u ≡ n → at (ages_of (e ∷ l)) u ≤ equals n (e ∷ l)))
    others (inl z) q = inl (other_age e l u q ∙ z)
    others (inr h) q = rw (other_age e l u q, other_time e l u q) (inr (h.0, λ x. omega (arith, h.1 x)))

-- who stands behind the front of a line is no sooner than the front, and of the same time younger
cell_behind : (e : ℕ × ℕ) (l : List (ℕ × ℕ)) → Lined (e ∷ l) → (u : ℕ)
    → (at (ages_of l) u ≡ 0) ⊎ ((e.0 ≤ at (times_of l) u) × (at (times_of l) u ≡ e.0 → at (ages_of l) u < suc (equals e.0 l)))
cell_behind e l w u = go (cell_after e.0 l w.4 w.3 u)
  where
    go : (at (ages_of l) u ≡ 0) ⊎ ((e.0 ≤ at (times_of l) u) × (at (times_of l) u ≡ e.0 → at (ages_of l) u ≤ equals e.0 l))
        → (at (ages_of l) u ≡ 0) ⊎ ((e.0 ≤ at (times_of l) u) × (at (times_of l) u ≡ e.0 → at (ages_of l) u < suc (equals e.0 l)))
    go (inl z) = inl z
    go (inr h) = inr (h.0, λ x. omega (arith, h.1 x))

-- the front of a line stands before all others, and nobody before it
module _ (e : ℕ × ℕ) (l : List (ℕ × ℕ)) (w : Lined (e ∷ l)) (u : ℕ) (n : u ≢ e.1) where
  ahead_of_cell : Sooner e.0 (suc (equals e.0 l)) (at (times_of (e ∷ l)) u) (at (ages_of (e ∷ l)) u)
  ahead_of_cell = (λ z. omega arith, rw (other_age e l u n, other_time e l u n) (cell_behind e l w u))

  front_before : before (times_of (e ∷ l)) (ages_of (e ∷ l)) e.1 u ≡ true
  front_before = rw (own_time e l w.1, own_age e l w.1) (sooner_yes _ _ _ _ ahead_of_cell)

  none_before : before (times_of (e ∷ l)) (ages_of (e ∷ l)) u e.1 ≡ false
  none_before = rw (own_time e l w.1, own_age e l w.1) (sooner_no _ _ _ _ ahead_of_cell)

-- ## The search, and the registers filled by it
pub search_front : (e : ℕ × ℕ) (l : List (ℕ × ℕ)) → Lined (e ∷ l) → searched (times_of (e ∷ l)) (ages_of (e ∷ l)) ≡ e.1
unfolding searched
search_front e l w =
    let h : e.1 < 32 = w.1 in
    found (times_of (e ∷ l)) (ages_of (e ∷ l)) e.1 w.0 (front_before e l w) (none_before e l w) _ (omega arith)

search_empty : searched (times_of []) (ages_of []) ≡ 0
unfolding searched
search_empty = nobody (times_of []) (ages_of []) _ (λ u h. no_age u)

freed_time : (e : ℕ × ℕ) (l : List (ℕ × ℕ)) → Lined (e ∷ l) → set (times_of (e ∷ l)) e.1 0 ≡ times_of l
unfolding times_of
freed_time e l w =
    set-set (times_of l) e.1 e.0 0 ∙ ap (set (times_of l) e.1) (sym (absent_time e.1 l w.2)) ∙ set-get_or (times_of l) e.1 0

freed_age : (e : ℕ × ℕ) (l : List (ℕ × ℕ)) → Lined (e ∷ l) → set (ages_of (e ∷ l)) e.1 0 ≡ ages_of l
unfolding ages_of
freed_age e l w =
    set-set (ages_of l) e.1 (suc (equals e.0 l)) 0 ∙ ap (set (ages_of l) e.1) (sym (absent_age e.1 l w.2)) ∙ set-get_or (ages_of l) e.1 0

same_queue : (t : ℕ) {n m a b : ℕ} {ns ms gs hs : List ℕ} → n ≡ m → a ≡ b → ns ≡ ms → gs ≡ hs → queue t n a ns gs ≡ queue t m b ms hs
same_queue t p q r s = cc

-- the front is moved up with its own time and age, and its cell is free again
moved_front : (e : ℕ × ℕ) (l : List (ℕ × ℕ)) (t n a : ℕ) → Lined (e ∷ l) → moved_up e.1 (queue t n a (times_of (e ∷ l)) (ages_of (e ∷ l))) ≡ queued (e ∷ l)
unfolding moved_up queued
moved_front e l t n a w = same_queue e.1 (own_time e l w.1) (own_age e l w.1) (freed_time e l w) (freed_age e l w)

moved_none : (t n a : ℕ) → moved_up 0 (queue t n a (times_of []) (ages_of [])) ≡ none
unfolding moved_up times_of ages_of
moved_none t n a = refl

pub taken_is : (e : ℕ × ℕ) (l : List (ℕ × ℕ)) → Lined (e ∷ l) → taken (queued (e ∷ l)) ≡ queued l
unfolding taken queued
taken_is e [] w = rw search_empty (moved_none e.1 e.0 1)
taken_is e (f ∷ l) w = rw (search_front f l w.4) (moved_front f l e.1 e.0 (suc (equals e.0 (f ∷ l))) w.4)

-- ## Insertion
equals_by_time : (k n t : ℕ) (l : List (ℕ × ℕ)) → equals k (by_time (n, t) l) ≡ one_if (eqb k n) + equals k l
equals_by_time k n t [] = refl
equals_by_time k n t (e ∷ l) = go (ltb n e.0) (equals_by_time k n t l)
  where
    go : (b : Bool) → equals k (by_time (n, t) l) ≡ one_if (eqb k n) + equals k l
        → equals k (cond b ((n, t) ∷ e ∷ l) (e ∷ by_time (n, t) l)) ≡ one_if (eqb k n) + (one_if (eqb k e.0) + equals k l)
    go true ih = refl
    go false ih = omega arith

times_by_time : (n t : ℕ) (l : List (ℕ × ℕ)) → Apart t l → times_of (by_time (n, t) l) ≡ set (times_of l) t n
unfolding times_of
times_by_time n t [] a = refl
times_by_time n t (e ∷ l) a = go (ltb n e.0) (times_by_time n t l a.1)
  where
    go : (b : Bool) → times_of (by_time (n, t) l) ≡ set (times_of l) t n
        → times_of (cond b ((n, t) ∷ e ∷ l) (e ∷ by_time (n, t) l)) ≡ set (set (times_of l) e.1 e.0) t n
    go true ih = refl
    go false ih = rw ih (set_comm (times_of l) t e.1 n e.0 (λ q. a.0 (sym q)))

-- One more comes in for the time n: who is there for it is one older (a byte has room: an age is at most 31), all others stay as they are.
more_one : (a : ℕ) → a < 254 → more (suc a) ≡ suc (suc a)
more_one a h = rw (lt-ltb (suc a) 255 (omega arith)) (omega arith)

older_same : (n a : ℕ) → a < 254 → older n n (suc a) ≡ suc (suc a)
unfolding older
older_same n a h = rw (ne_eqb (suc a) 0 (λ q. omega arith), eq-eqb n n refl) (more_one a h)

older_other : (n m a : ℕ) → m ≢ n → older n m a ≡ a
unfolding older
older_other n m a d = rw (ne_eqb m n d, and-false (in_use a))

older_some : (n m a : ℕ) → a < 254 → older n m (suc a) ≡ suc (one_if (eqb m n) + a)
older_some n m a h =
    ⊎_elim (λ (z : m ≡ n). rw (z, older_same n a h, eq-eqb n n refl) (omega arith))
    (λ (d : m ≢ n). rw (older_other n m (suc a) d, ne_eqb m n d) (omega arith)) (eq_or_ne m n)

older_none : (n m : ℕ) → older n m 0 ≡ 0
unfolding older
older_none n m = refl

aged_set : (n : ℕ) (times ages : List ℕ) (i v a : ℕ) → aged n (set times i v) (set ages i a) ≡ set (aged n times ages) i (older n v a)
unfolding aged
aged_set n [] ages i v a = refl
aged_set n (x ∷ times) [] zero v a = refl
aged_set n (x ∷ times) [] (suc i) v a = refl
aged_set n (x ∷ times) (y ∷ ages) zero v a = refl
aged_set n (x ∷ times) (y ∷ ages) (suc i) v a = ap (λ (r : List ℕ). older n x y ∷ r) (aged_set n times ages i v a)

aged_zeros : (n k : ℕ) → aged n (replicate k 0) (replicate k 0) ≡ replicate k 0
unfolding aged
aged_zeros n zero = refl
aged_zeros n (suc k) = rw (older_none n 0, aged_zeros n k)

equals_few : (n : ℕ) (l : List (ℕ × ℕ)) → equals n l ≤ length l
equals_few n [] = omega arith
equals_few n (e ∷ l) = go (eqb n e.0) (equals_few n l)
  where
    go : (b : Bool) → equals n l ≤ length l → one_if b + equals n l ≤ suc (length l)
    go true ih = omega arith
    go false ih = omega arith

module _ (n : ℕ) where
  -- where all are later than n, none has the time n, and none is older by one that comes in for it
  equals_none : (l : List (ℕ × ℕ)) → All (λ f. n < f.0) l → equals n l ≡ 0
  equals_none [] a = refl
  equals_none (e ∷ l) a = rw (ne_eqb n e.0 (λ q. omega (arith, a.0))) (omega (arith, equals_none l a.1))

  aged_none : (l : List (ℕ × ℕ)) → All (λ f. n < f.0) l → aged n (times_of l) (ages_of l) ≡ ages_of l
  unfolding times_of ages_of
  aged_none [] a = aged_zeros n task_count
  aged_none (e ∷ l) a =
      aged_set n (times_of l) (ages_of l) e.1 e.0 (suc (equals e.0 l)) ∙
      rw (aged_none l a.1, older_other n e.0 (suc (equals e.0 l)) (λ q. omega (arith, a.0)))

  later_all : (e : ℕ × ℕ) (l : List (ℕ × ℕ)) → Lined (e ∷ l) → n < e.0 → All (λ f. n < f.0) (e ∷ l)
  later_all e l w h = (h, all_map (λ f d. let r : e.0 ≤ f.0 = d in omega arith) l w.3)

  ages_by_time : (t : ℕ) (l : List (ℕ × ℕ)) → Lined l → Apart t l → length l ≤ task_count
      → ages_of (by_time (n, t) l) ≡ set (aged n (times_of l) (ages_of l)) t 1
  unfolding times_of ages_of
  ages_by_time t [] w a few = rw (aged_none [] tt)
  ages_by_time t (e ∷ l) w a few = go (ltb n e.0) refl (ages_by_time t l w.4 a.1 (omega arith))
    where
      go : (b : Bool) → ltb n e.0 ≡ b → ages_of (by_time (n, t) l) ≡ set (aged n (times_of l) (ages_of l)) t 1
          → ages_of (cond b ((n, t) ∷ e ∷ l) (e ∷ by_time (n, t) l)) ≡ set (aged n (times_of (e ∷ l)) (ages_of (e ∷ l))) t 1
      go true c ih = let all = later_all e l w (ltb-true _ _ c) in rw (aged_none (e ∷ l) all, equals_none (e ∷ l) all)
      go false c ih =
          rw (
            ih,
            equals_by_time e.0 n t l,
            aged_set n (times_of l) (ages_of l) e.1 e.0 (suc (equals e.0 l)),
            older_some n e.0 (equals e.0 l) (omega (arith, equals_few e.0 l)),
          )
          (set_comm (aged n (times_of l) (ages_of l)) t e.1 1 (suc (one_if (eqb e.0 n) + equals e.0 l)) (λ q. a.0 (sym q)))

-- the line behind an insertion is such a line again
pub by_time_lined : (n t : ℕ) (l : List (ℕ × ℕ)) → 0 < t → t < task_count → Lined l → Apart t l → Lined (by_time (n, t) l)
by_time_lined n t [] p h w a = (p, h, tt, tt, tt)
by_time_lined n t (e ∷ l) p h w a = go (ltb n e.0) refl (by_time_lined n t l p h w.4 a.1)
  where
    go : (b : Bool) → ltb n e.0 ≡ b → Lined (by_time (n, t) l) → Lined (cond b ((n, t) ∷ e ∷ l) (e ∷ by_time (n, t) l))
    go true c ih =
        let late : n < e.0 = ltb-true n e.0 c in
        (p, h, a, (omega arith, all_map (λ f d. let r : e.0 ≤ f.0 = d in omega arith) l w.3), w)
    go false c ih = (
      w.0,
      w.1,
      all_place (λ f. f.1 ≢ e.1) (λ f. ltb n f.0) (n, t) l (λ q. a.0 (sym q)) w.2,
      all_place (λ f. e.0 ≤ f.0) (λ f. ltb n f.0) (n, t) l (ltb-false n e.0 c) w.3,
      ih,
    )

-- the registers' time is passed by a sooner one alone
pub preempts_sooner : (n m : ℕ) → preempts n m ≡ true → n < m
unfolding preempts
preempts_sooner n m e = ltb-true n m e

pub preempts_not : (n m : ℕ) → preempts n m ≡ false → m ≤ n
unfolding preempts
preempts_not n m e = ltb-false n m e

pub insert_is : (n t : ℕ) (l : List (ℕ × ℕ)) → Lined l → Apart t l → length l ≤ task_count → insert n t (queued l) ≡ queued (by_time (n, t) l)
unfolding insert queued times_of ages_of
insert_is n t [] w a few = refl
insert_is n t (e ∷ l) w a few = rw (ne_eqb e.1 0 (λ q. omega (arith, w.0))) (go (preempts n e.0) refl)
  where
    go : (b : Bool) → preempts n e.0 ≡ b
        → cond b (pushed n t (queued (e ∷ l))) (tabled n t (queued (e ∷ l))) ≡ queued (by_time (n, t) (e ∷ l))
    go true c = let h = preempts_sooner n e.0 c in rw (lt-ltb n e.0 h, equals_none n (e ∷ l) (later_all n e l w h))
    go false c =
        rw (
          le-ltb n e.0 (preempts_not n e.0 c),
          older_some n e.0 (equals e.0 l) (omega (arith, equals_few e.0 l)),
          equals_by_time e.0 n t l,
          times_by_time n t l a.1,
          ages_by_time n t l w.4 a.1 (omega arith),
        )

-- ## A delay
pub above_later : (now n : ℕ) → above now n ≡ true → now < n
unfolding above
above_later now n e = ltb-true now n e

pub above_not : (now n : ℕ) → above now n ≡ false → n ≤ now
unfolding above
above_not now n e = ltb-false now n e

pub delayed_is : (now n t : ℕ) (l : List (ℕ × ℕ)) → Lined l → Apart t l → length l ≤ task_count
    → delayed now n t (queued l) ≡ queued (cond (ltb now n) (by_time (n, t) l) l)
unfolding delayed
delayed_is now n t l w a few = go (above now n) refl
  where
    go : (b : Bool) → above now n ≡ b → cond b (insert n t (queued l)) (queued l) ≡ queued (cond (ltb now n) (by_time (n, t) l) l)
    go true e = rw (lt-ltb now n (above_later now n e)) (insert_is n t l w a few)
    go false e = rw (le-ltb now n (above_not now n e))

-- of any queue: what is not above the clock is not queued
pub delayed_not : (now n t : ℕ) (q : Queue) → n ≤ now → delayed now n t q ≡ q
unfolding delayed
delayed_not now n t q h = go (above now n) refl
  where
    go : (b : Bool) → above now n ≡ b → cond b (insert n t q) q ≡ q
    go true e = let k = above_later now n e in absurd (omega arith)
    go false e = refl

-- ## Wake
pub wake_is : (now : ℕ) (l : List (ℕ × ℕ)) → Lined l → wake now (queued l) ≡ queued (cond (not (empty l) && leb (front (0, 0) l).0 now) (behind_front l) l)
unfolding wake queued
wake_is now [] w = refl
wake_is now (e ∷ l) w = rw (ne_eqb e.1 0 (λ q. omega (arith, w.0))) (go (leb e.0 now))
  where
    go : (b : Bool) → cond b (taken (queued (e ∷ l))) (queued (e ∷ l)) ≡ queued (cond b l (e ∷ l))
    go true = taken_is e l w
    go false = refl

pub woken_is : (now : ℕ) (l : List (ℕ × ℕ)) → Lined l
    → woken now (queued l) ≡ cond (not (empty l) && leb (front (0, 0) l).0 now) (front (0, 0) l).1 0
unfolding woken queued
woken_is now [] w = refl
woken_is now (e ∷ l) w = rw (ne_eqb e.1 0 (λ q. omega (arith, w.0)))

-- ## "Wakes left"
module _ (f g : ℕ → Bool) (x : ℕ) (yes : f x ≡ true) (no : g x ≡ false) (same : (u : ℕ) → u ≢ x → f u ≡ g u) where
  same_below : (k : ℕ) → k ≤ x → how_many k f ≡ how_many k g
  unfolding how_many
  same_below zero h = refl
  same_below (suc k) h = rw (same k (λ q. omega arith), same_below k (omega arith))

  one_more : (k : ℕ) → x < k → how_many k f ≡ suc (how_many k g)
  unfolding how_many
  one_more zero h = absurd (omega arith)
  one_more (suc k) h = go (λ (i : x < k). one_more k i) (lt_or_ge x k)
    where
      go : (x < k → how_many k f ≡ suc (how_many k g)) → (x < k) ⊎ (k ≤ x) → one_if (f k) + how_many k f ≡ suc (one_if (g k) + how_many k g)
      go ih (inl i) = rw (same k (λ q. omega arith)) (omega (arith, ih i))
      go ih (inr i) = let z : k ≡ x = omega arith in rw (z, yes, no) (omega (arith, same_below x (omega arith)))

none_many : (f : ℕ → Bool) → ((u : ℕ) → f u ≡ false) → (k : ℕ) → how_many k f ≡ 0
unfolding how_many
none_many f n zero = refl
none_many f n (suc k) = rw (n k) (omega (arith, none_many f n k))

-- who stands before t in the table of a line is ahead of it in the line
many_before : (t : ℕ) (l : List (ℕ × ℕ)) → Lined l → at (ages_of l) t ≢ 0 → how_many task_count (λ u. before (times_of l) (ages_of l) u t) ≡ ahead t l
many_before t [] w n = absurd (n (no_age t))
many_before t (e ∷ l) w n = go (eqb e.1 t) refl (many_before t l w.4)
  where
    go : (b : Bool) → eqb e.1 t ≡ b → (at (ages_of l) t ≢ 0 → how_many task_count (λ u. before (times_of l) (ages_of l) u t) ≡ ahead t l)
        → how_many task_count (λ u. before (times_of (e ∷ l)) (ages_of (e ∷ l)) u t) ≡ cond b 0 (suc (ahead t l))
    go true c ih =
        let z : e.1 ≡ t = eqb-true _ _ c in
        none_many (λ u. before (times_of (e ∷ l)) (ages_of (e ∷ l)) u t)
        (λ u. ⊎_elim
        (λ (q : u ≡ t). rw q (sooner_self (at (times_of (e ∷ l)) t) (at (ages_of (e ∷ l)) t)))
        (λ (q : u ≢ t). rw (sym z) (none_before e l w u (λ r. q (r ∙ z))))
        (eq_or_ne u t)) task_count
    go false c ih =
        let d : t ≢ e.1 = λ q. eqb-false _ _ c (sym q) in
        one_more (λ u. before (times_of (e ∷ l)) (ages_of (e ∷ l)) u t) (λ u. before (times_of l) (ages_of l) u t) e.1
        (front_before e l w t d)
        (rw (absent_age e.1 l w.2))
        (λ u q. rw (other_time e l u q, other_age e l u q, other_time e l t d, other_age e l t d))
        task_count w.1
        ∙ ap suc (ih (λ q. n (other_age e l t d ∙ q)))

ahead_of_is : (t : ℕ) (e : ℕ × ℕ) (l : List (ℕ × ℕ)) → Lined (e ∷ l) → at (ages_of l) t ≢ 0 → ahead_of t (queued (e ∷ l)) ≡ suc (ahead t l)
unfolding ahead_of queued
ahead_of_is t e l w n = omega (arith, many_before t l w.4 n)

due_is : (now t : ℕ) (l : List (ℕ × ℕ)) → Lined l → is_due now t l ≡ in_use (at (ages_of l) t) && leb (at (times_of l) t) now
due_is now t [] w = rw (no_age t)
due_is now t (e ∷ l) w = go (eqb e.1 t) refl (due_is now t l w.4)
  where
    go : (b : Bool) → eqb e.1 t ≡ b → is_due now t l ≡ in_use (at (ages_of l) t) && leb (at (times_of l) t) now
        → b && leb e.0 now || is_due now t l ≡ in_use (at (ages_of (e ∷ l)) t) && leb (at (times_of (e ∷ l)) t) now
    go true c ih =
        let z : t ≡ e.1 = sym (eqb-true _ _ c) in
        rw (ih, z, absent_age e.1 l w.2, own_time e l w.1, own_age e l w.1, ne_eqb (suc (equals e.0 l)) 0 (λ q. omega arith))
        (or-false (leb e.0 now))
    go false c ih =
        let d : t ≢ e.1 = λ q. eqb-false _ _ c (sym q) in
        rw (other_time e l t d, other_age e l t d) ih

-- nobody is delayed: none are left, of idle either
none_left : (now t : ℕ) (b : Bool) → cond b (one_if (due now none)) (cond (cell_due now t none) (suc (ahead_of t none)) 0) ≡ 0
none_left now t true = refl
none_left now t false = rw (zero_cell task_count t)

pub left_is : (now t : ℕ) (l : List (ℕ × ℕ)) → Lined l → left now t (queued l) ≡ cond (is_due now t l) (suc (ahead t l)) 0
unfolding left queued
left_is now t [] w = none_left now t (eqb 0 t)
left_is now t (e ∷ l) w = go (eqb e.1 t) refl
  where
    mine : (b : Bool) → one_if b ≡ cond (b || false) 1 0
    mine true = refl
    mine false = refl

    in_table : (b : Bool) → in_use (at (ages_of l) t) && leb (at (times_of l) t) now ≡ b
        → cond b (suc (ahead_of t (queued (e ∷ l)))) 0 ≡ cond b (suc (suc (ahead t l))) 0
    in_table true c = ap suc (ahead_of_is t e l w (λ q. true≢false (sym c ∙ rw q)))
    in_table false c = refl

    go : (b : Bool) → eqb e.1 t ≡ b
        → cond b (one_if (not (eqb e.1 0) && leb e.0 now)) (cond (cell_due now t (queued (e ∷ l))) (suc (ahead_of t (queued (e ∷ l)))) 0)
        ≡ cond (b && leb e.0 now || is_due now t l) (suc (cond b 0 (suc (ahead t l)))) 0
    go true c =
        let z : t ≡ e.1 = sym (eqb-true _ _ c) in
        rw (ne_eqb e.1 0 (λ q. omega (arith, w.0)), due_is now t l w.4, z, absent_age e.1 l w.2) (mine (leb e.0 now))
    go false c = rw (due_is now t l w.4) (in_table (in_use (at (ages_of l) t) && leb (at (times_of l) t) now) refl)

-- ## The line, read off its queue
pub read_is : (k : ℕ) (l : List (ℕ × ℕ)) → Lined l → length l ≤ k → read k (queued l) ≡ l
unfolding read queued
read_is zero [] w h = refl
read_is zero (e ∷ l) w h = absurd (omega arith)
read_is (suc k) [] w h = refl
read_is (suc k) (e ∷ l) w h = rw (ne_eqb e.1 0 (λ q. omega (arith, w.0)), taken_is e l w, read_is k l w.4 (omega arith))

-- ## Where a task stands
-- in the table of a line stand the line's tasks
stands : (t : ℕ) (l : List (ℕ × ℕ)) → Lined l → (1 ≤ count t (tasks l)) ↔ (at (ages_of l) t ≢ 0)
stands t [] w = (λ h. absurd (omega arith), λ n. absurd (n (no_age t)))
stands t (e ∷ l) w = ⊎_elim own (other (stands t l w.4)) (eq_or_ne t e.1)
  where
    own : t ≡ e.1 → (1 ≤ count t (tasks (e ∷ l))) ↔ (at (ages_of (e ∷ l)) t ≢ 0)
    own z = (λ h. rw z (own_there e l w.1), λ n. omega (arith, one_here))
      where
        one_here : one_if (eqb t e.1) ≡ 1
        one_here = rw (eq-eqb t e.1 z)

    other : (1 ≤ count t (tasks l)) ↔ (at (ages_of l) t ≢ 0) → t ≢ e.1 → (1 ≤ count t (tasks (e ∷ l))) ↔ (at (ages_of (e ∷ l)) t ≢ 0)
    other ih d = rw (ne_eqb t e.1 d, other_age e l t d) (λ h. ih.0 (omega arith), λ n. omega (arith, ih.1 n))

-- a delayed task stands in the registers or in the table, and never in both
pub stands_once : (t : ℕ) (l : List (ℕ × ℕ)) → t ≢ 0 → Lined l → let q = queued l in
    ((1 ≤ count t (tasks l)) ↔ (InRegisters q t ⊎ InTable q t)) × (InRegisters q t → InTable q t → ⊥)
unfolding queued ages_of
stands_once t [] n w = (
  (λ h. absurd (omega arith), ⊎_elim (λ (z : 0 ≡ t). absurd (n (sym z))) (λ (h : at (ages_of []) t ≢ 0). absurd (h (no_age t)))),
  λ z h. n (sym z),
)
stands_once t (e ∷ l) n w = ((there, ⊎_elim first behind), λ z h. h (rw (sym z) (absent_age e.1 l w.2)))
  where
    there : 1 ≤ count t (tasks (e ∷ l)) → (e.1 ≡ t) ⊎ (at (ages_of l) t ≢ 0)
    there h = ⊎_elim (λ (z : e.1 ≡ t). inl z) (λ (d : e.1 ≢ t). inr ((stands t l w.4).0 (fewer d))) (eq_or_ne e.1 t)
      where
        fewer : e.1 ≢ t → 1 ≤ count t (tasks l)
        fewer d = let z : one_if (eqb t e.1) ≡ 0 = rw (ne_eqb t e.1 (λ q. d (sym q))) in omega arith

    first : e.1 ≡ t → 1 ≤ count t (tasks (e ∷ l))
    first z = let o : one_if (eqb t e.1) ≡ 1 = rw (eq-eqb t e.1 (sym z)) in omega arith

    behind : at (ages_of l) t ≢ 0 → 1 ≤ count t (tasks (e ∷ l))
    behind h = omega (arith, (stands t l w.4).1 h)

-- the registers are empty exactly where the line is, and then all of the queue is
pub empty_exactly : (l : List (ℕ × ℕ)) → Lined l → ((queued l).task ≡ 0) ↔ (l ≡ [])
unfolding queued
empty_exactly [] w = (λ z. refl, λ z. refl)
empty_exactly (e ∷ l) w = (λ z. absurd (omega (arith, w.0)), λ z. ap (λ (k : List (ℕ × ℕ)). (queued k).task) z)

-- the registers hold the soonest, with an age
pub registers_first : (u : ℕ) (l : List (ℕ × ℕ)) → Lined l → let q = queued l in InTable q u
    → (q.time ≤ at q.times u) × (at q.times u ≡ q.time → at q.ages u < q.age)
unfolding queued ages_of
registers_first u [] w h = absurd (h (no_age u))
registers_first u (e ∷ l) w h = go (cell_behind e l w u)
  where
    go : (at (ages_of l) u ≡ 0) ⊎ ((e.0 ≤ at (times_of l) u) × (at (times_of l) u ≡ e.0 → at (ages_of l) u < suc (equals e.0 l)))
        → (e.0 ≤ at (times_of l) u) × (at (times_of l) u ≡ e.0 → at (ages_of l) u < suc (equals e.0 l))
    go (inl z) = absurd (h z)
    go (inr g) = g

pub some_age : (l : List (ℕ × ℕ)) → let q = queued l in q.task ≢ 0 → 1 ≤ q.age
unfolding queued
some_age [] n = absurd (n refl)
some_age (e ∷ l) n = omega arith

-- idle is never in the table; a cell that is not in use holds the time 0; and an age has a byte's room, and more
pub idle_absent : (l : List (ℕ × ℕ)) → Lined l → Apart 0 l
idle_absent [] w = tt
idle_absent (e ∷ l) w = (λ z. omega (arith, w.0), idle_absent l w.4)

pub idle_free : (l : List (ℕ × ℕ)) → Lined l → InTable (queued l) 0 → ⊥
unfolding queued ages_of
idle_free [] w h = h (no_age 0)
idle_free (e ∷ l) w h = h (absent_age 0 l (idle_absent l w.4))

free_cell : (t : ℕ) (l : List (ℕ × ℕ)) → Lined l → at (ages_of l) t ≡ 0 → at (times_of l) t ≡ 0
free_cell t [] w z = no_time t
free_cell t (e ∷ l) w z =
    ⊎_elim (λ (q : t ≡ e.1). absurd (own_there e l w.1 (rw q at z)))
    (λ (d : t ≢ e.1). other_time e l t d ∙ free_cell t l w.4 (sym (other_age e l t d) ∙ z)) (eq_or_ne t e.1)

pub free_cells : (t : ℕ) (l : List (ℕ × ℕ)) → Lined l → let q = queued l in at q.ages t ≡ 0 → at q.times t ≡ 0
unfolding queued times_of
free_cells t [] w z = no_time t
free_cells t (e ∷ l) w z = free_cell t l w.4 z

age_cell : (t : ℕ) (l : List (ℕ × ℕ)) → Lined l → at (ages_of l) t ≤ length l
age_cell t [] w = rw (no_age t) (omega arith)
age_cell t (e ∷ l) w =
    ⊎_elim (λ (q : t ≡ e.1). rw (q, own_age e l w.1) (omega (arith, equals_few e.0 l)))
    (λ (d : t ≢ e.1). rw (other_age e l t d) (omega (arith, age_cell t l w.4))) (eq_or_ne t e.1)

pub ages_few : (t : ℕ) (l : List (ℕ × ℕ)) → Lined l → let q = queued l in (q.age ≤ length l) × (at q.ages t ≤ length l)
unfolding queued ages_of
ages_few t [] w = (omega arith, rw (zero_cell task_count t) (omega arith))
ages_few t (e ∷ l) w = (omega (arith, equals_few e.0 l), omega (arith, age_cell t l w.4))

-- of two tasks of the table one stands before the other: the ages settle every tie
settled : (t u : ℕ) (l : List (ℕ × ℕ)) → Lined l → t ≢ u → at (ages_of l) t ≢ 0 → at (ages_of l) u ≢ 0
    → (before (times_of l) (ages_of l) t u ≡ true) ⊎ (before (times_of l) (ages_of l) u t ≡ true)
settled t u [] w d x y = absurd (x (no_age t))
settled t u (e ∷ l) w d x y = ⊎_elim mine (λ (n : t ≢ e.1). ⊎_elim (yours n) (neither (settled t u l w.4 d) n) (eq_or_ne u e.1)) (eq_or_ne t e.1)
  where
    Either : Type 0
    Either = (before (times_of (e ∷ l)) (ages_of (e ∷ l)) t u ≡ true) ⊎ (before (times_of (e ∷ l)) (ages_of (e ∷ l)) u t ≡ true)

    mine : t ≡ e.1 → Either
    mine z = inl (rw z (front_before e l w u (λ q. d (z ∙ sym q))))

    yours : t ≢ e.1 → u ≡ e.1 → Either
    yours n z = inr (rw z (front_before e l w t n))

    neither : (at (ages_of l) t ≢ 0 → at (ages_of l) u ≢ 0 → (before (times_of l) (ages_of l) t u ≡ true) ⊎ (before (times_of l) (ages_of l) u t ≡ true))
        → t ≢ e.1 → u ≢ e.1 → Either
    neither ih n k =
        rw (other_time e l t n, other_age e l t n, other_time e l u k, other_age e l u k)
        (ih (λ z. x (other_age e l t n ∙ z)) (λ z. y (other_age e l u k ∙ z)))

pub ties_settled : (t u : ℕ) (l : List (ℕ × ℕ)) → Lined l → let q = queued l in t ≢ u → InTable q t → InTable q u
    → (before q.times q.ages t u ≡ true) ⊎ (before q.times q.ages u t ≡ true)
unfolding queued ages_of
ties_settled t u [] w d x y = absurd (x (no_age t))
ties_settled t u (e ∷ l) w d x y = settled t u l w.4 d x y
