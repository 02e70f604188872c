-- Laws of padded lines and of times by task: what is written, and what is read of it. Assumes nothing.
use Prim.Native.Nat.{ℕ, zero, suc, ◌+◌, ◌≤◌, ◌<◌}
use native.Mathlib.Omega.{arith}
use mathlib.Core.Path.{◌≡◌, refl, sym, ap, ◌∙◌, subst}
use mathlib.Core.Logic.{◌≢◌}
use mathlib.Core.List.{List, [], ◌∷◌, ◌++◌, map}
use mathlib.Core.Bool.{Bool, true, false, cond, not, ◌||◌}
use lib.ListN.{length, set, replicate, length-set}
use lib.Seq.{set_comm, set-set, set-get_or, get_or-set_other, get_or-set_same}
use lib.Dec.{eqb, leb}
use borrow.Author.Tests.{eqb-true, eqb-false, ne_eqb, le-leb}
use Rattle.rules.specs.Line.{at, count, place, front, one_if}
use Rattle.rules.specs.Machine.{tasks}
use Rattle.rules.proofs.Words.{All}
use Rattle.rules.proofs.Tests.{both_true}
use Rattle.kernel_line.specs.Tables.{zeros}
use Rattle.kernel_order.specs.Order.{ended}
use Rattle.kernel.specs.View.{live, with_idle, timed, nobody_or, pad, times}

-- The sizes, and what stands behind the end.
pub pad_size : (n : ℕ) (l : List ℕ) → length (pad n l) ≡ n
pad_size zero l = refl
pad_size (suc n) [] = ap suc (pad_size n [])
pad_size (suc n) (x ∷ l) = ap suc (pad_size n l)

pub pad_zero : (n : ℕ) → pad n (0 ∷ []) ≡ pad n []
pad_zero zero = refl
pad_zero (suc n) = refl

pub pad_free : (n : ℕ) → zeros (pad n []) ≡ true
pad_free zero = refl
pad_free (suc n) = pad_free n

pub front_pad : (n : ℕ) (l : List ℕ) → at (pad (suc n) l) 0 ≡ front 0 l
front_pad n [] = refl
front_pad n (x ∷ l) = refl

-- one place more
pub pad_more : (n : ℕ) (l : List ℕ) → length l ≤ n → pad n l ++ (0 ∷ []) ≡ pad (suc n) l
pad_more zero [] h = refl
pad_more zero (x ∷ l) h = absurd (omega arith)
pad_more (suc n) [] h = ap (λ (l : List ℕ). 0 ∷ l) (pad_more n [] (omega arith))
pad_more (suc n) (x ∷ l) h = ap (λ (l : List ℕ). x ∷ l) (pad_more n l (omega arith))

-- A line whose free places are at its end: behind a free place all are free.
ended_rest : (x : ℕ) (l : List ℕ) → ended (x ∷ l) ≡ true → ended l ≡ true
ended_rest x [] h = refl
ended_rest x (y ∷ l) h = (both_true (not (eqb x 0) || eqb y 0) (ended (y ∷ l)) h).1

ended_zeros : (x : ℕ) (l : List ℕ) → x ≡ 0 → ended (x ∷ l) ≡ true → zeros l ≡ true
ended_zeros x [] e h = refl
ended_zeros x (y ∷ l) e h =
    let w = both_true (not (eqb x 0) || eqb y 0) (ended (y ∷ l)) h in
    let f : eqb y 0 ≡ true = rw e at w.0 in
    rw (f, ended_zeros y l (eqb-true y 0 f) w.1)

zeros_ended : (l : List ℕ) → zeros l ≡ true → ended (0 ∷ l) ≡ true
zeros_ended [] h = refl
zeros_ended (y ∷ l) h =
    let w = both_true (eqb y 0) (zeros l) h in
    let e : y ≡ 0 = eqb-true y 0 w.0 in
    subst (λ (v : ℕ). ended (0 ∷ v ∷ l) ≡ true) (sym e) (zeros_ended l w.1)

ended_cons : (x : ℕ) (l : List ℕ) → x ≢ 0 → ended l ≡ true → ended (x ∷ l) ≡ true
ended_cons x [] n h = refl
ended_cons x (y ∷ l) n h = rw (ne_eqb x 0 n, h)

free_pad : (l : List ℕ) → zeros l ≡ true → pad (length l) [] ≡ l
free_pad [] h = refl
free_pad (x ∷ l) h =
    let w = both_true (eqb x 0) (zeros l) h in
    rw (free_pad l w.1, eqb-true x 0 w.0)

-- Writing what was read.
pub pad_ready : (l : List ℕ) → ended l ≡ true → pad (length l) (with_idle l) ≡ l
pad_ready [] h = refl
pad_ready (x ∷ l) h = go (eqb x 0) refl (pad_ready l (ended_rest x l h))
  where
    go : (b : Bool) → eqb x 0 ≡ b → pad (length l) (with_idle l) ≡ l → pad (suc (length l)) (cond b (0 ∷ []) (x ∷ with_idle l)) ≡ x ∷ l
    go true e ih = rw (free_pad l (ended_zeros x l (eqb-true x 0 e) h), eqb-true x 0 e)
    go false e ih = ap (λ (l : List ℕ). x ∷ l) ih

pub pad_live : (l : List ℕ) → ended l ≡ true → pad (length l) (live l) ≡ l
pad_live [] h = refl
pad_live (x ∷ l) h = go (eqb x 0) refl (pad_live l (ended_rest x l h))
  where
    go : (b : Bool) → eqb x 0 ≡ b → pad (length l) (live l) ≡ l → pad (suc (length l)) (cond b [] (x ∷ live l)) ≡ x ∷ l
    go true e ih = rw (free_pad l (ended_zeros x l (eqb-true x 0 e) h), eqb-true x 0 e)
    go false e ih = ap (λ (l : List ℕ). x ∷ l) ih

-- What is written so has its free places at its end.
pub ended_ready : (n : ℕ) (l : List ℕ) → ended (pad n (with_idle l)) ≡ true
ended_ready zero l = refl
ended_ready (suc n) [] = zeros_ended (pad n []) (pad_free n)
ended_ready (suc n) (x ∷ l) = go (eqb x 0) refl (ended_ready n l)
  where
    go : (b : Bool) → eqb x 0 ≡ b → ended (pad n (with_idle l)) ≡ true → ended (pad (suc n) (cond b (0 ∷ []) (x ∷ with_idle l))) ≡ true
    go true e ih = zeros_ended (pad n []) (pad_free n)
    go false e ih = ended_cons x (pad n (with_idle l)) (eqb-false x 0 e) ih

pub ended_live : (n : ℕ) (l : List ℕ) → ended (pad n (live l)) ≡ true
ended_live zero l = refl
ended_live (suc n) [] = zeros_ended (pad n []) (pad_free n)
ended_live (suc n) (x ∷ l) = go (eqb x 0) refl (ended_live n l)
  where
    go : (b : Bool) → eqb x 0 ≡ b → ended (pad n (live l)) ≡ true → ended (pad (suc n) (cond b [] (x ∷ live l))) ≡ true
    go true e ih = zeros_ended (pad n []) (pad_free n)
    go false e ih = ended_cons x (pad n (live l)) (eqb-false x 0 e) ih

-- Reading what was written.
pub live_pad : (n : ℕ) (l : List ℕ) → length l ≤ n → All (λ t. t ≢ 0) l → live (pad n l) ≡ l
live_pad zero [] h a = refl
live_pad zero (x ∷ l) h a = absurd (omega arith)
live_pad (suc n) [] h a = refl
live_pad (suc n) (x ∷ l) h a = rw (ne_eqb x 0 a.0, live_pad n l (omega arith) a.1)

-- The times. Each entry's task has its time;
abbrev pub Right : List ℕ → ℕ × ℕ → Type 0
Right until e = (at until e.1 ≡ e.0) × (e.1 ≢ 0)

pub timed_right : (u : List ℕ) (l : List (ℕ × ℕ)) → All (Right u) l → timed u (tasks l) ≡ l
timed_right u [] h = refl
timed_right u (e ∷ l) h = rw (timed_right u l h.1, h.0.0)

pub tasks_timed : (u l : List ℕ) → tasks (timed u l) ≡ l
tasks_timed u [] = refl
tasks_timed u (x ∷ l) = ap (λ (l : List ℕ). x ∷ l) (tasks_timed u l)

pub times_size : (l : List (ℕ × ℕ)) → length (times l) ≡ 32
times_size [] = refl
times_size (e ∷ l) = length-set (times l) e.1 e.0 ∙ times_size l

pub free_at : (n t : ℕ) → at (replicate n 0) t ≡ 0
free_at zero t = refl
free_at (suc n) zero = refl
free_at (suc n) (suc t) = free_at n t

pub times_absent : (t : ℕ) (l : List (ℕ × ℕ)) → count t (tasks l) ≡ 0 → at (times l) t ≡ 0
times_absent t [] h = free_at 32 t
times_absent t (e ∷ l) h = go (eqb t e.1) refl h (times_absent t l)
  where
    go : (q : Bool) → eqb t e.1 ≡ q → one_if q + count t (tasks l) ≡ 0 → (count t (tasks l) ≡ 0 → at (times l) t ≡ 0) → at (times (e ∷ l)) t ≡ 0
    go true q h ih = absurd (omega arith)
    go false q h ih = get_or-set_other (times l) e.1 t e.0 0 (eqb-false _ _ q) ∙ ih (omega arith)

-- and times that were read are written back, where only delayed tasks have one.
pub times_timed : (u l : List ℕ) (t : ℕ) → t < 32 → at (times (timed u l)) t ≡ cond (leb 1 (count t l)) (at u t) 0
times_timed u [] t h = free_at 32 t
times_timed u (x ∷ l) t h = go (eqb t x) refl (times_timed u l t h)
  where
    none : (n : ℕ) → 0 + n ≡ n
    none n = omega arith

    go : (b : Bool) → eqb t x ≡ b → at (times (timed u l)) t ≡ cond (leb 1 (count t l)) (at u t) 0
        → at (set (times (timed u l)) x (at u x)) t ≡ cond (leb 1 (one_if b + count t l)) (at u t) 0
    go true e ih =
        rw (← eqb-true t x e, le-leb 1 (1 + count t l) (omega arith)) (get_or-set_same (times (timed u l)) t (at u t) 0 (omega (arith, times_size (timed u l))))
    go false e ih = rw (none (count t l)) (get_or-set_other (times (timed u l)) x t (at u x) 0 (eqb-false t x e) ∙ ih)

-- Each delayed task is one of 1..31, and stands once.
abbrev pub Own : List (ℕ × ℕ) → Type 0
Own [] = Unit {0}
Own (e ∷ l) = ((count e.1 (tasks l) ≡ 0) × (e.1 < 32) × (e.1 ≢ 0)) × Own l

others_right : (t v : ℕ) (u : List ℕ) (l : List (ℕ × ℕ)) → count t (tasks l) ≡ 0 → All (Right u) l → All (Right (set u t v)) l
others_right t v u [] h k = tt
others_right t v u (e ∷ l) h k = go (eqb t e.1) refl h (others_right t v u l)
  where
    go : (q : Bool) → eqb t e.1 ≡ q → one_if q + count t (tasks l) ≡ 0 → (count t (tasks l) ≡ 0 → All (Right u) l → All (Right (set u t v)) l)
        → All (Right (set u t v)) (e ∷ l)
    go true q h ih = absurd (omega arith)
    go false q h ih = ((get_or-set_other u t e.1 v 0 (λ w. eqb-false _ _ q (sym w)) ∙ k.0.0, k.0.1), ih (omega arith) k.1)

pub own_right : (l : List (ℕ × ℕ)) → Own l → All (Right (times l)) l
own_right [] h = tt
own_right (e ∷ l) h = (
  (get_or-set_same (times l) e.1 e.0 0 (let z : e.1 < 32 = h.0.1 in omega (arith, times_size l)), h.0.2),
  others_right e.1 e.0 (times l) l h.0.0 (own_right l h.1),
)

-- A task placed, and the first taken off.
pub times_place : (stop : ℕ × ℕ → Bool) (v t : ℕ) (l : List (ℕ × ℕ)) → count t (tasks l) ≡ 0 → times (place stop (v, t) l) ≡ set (times l) t v
times_place stop v t [] h = refl
times_place stop v t (e ∷ l) h = go (eqb t e.1) refl (stop e) h (times_place stop v t l)
  where
    go : (q : Bool) → eqb t e.1 ≡ q → (b : Bool) → one_if q + count t (tasks l) ≡ 0
        → (count t (tasks l) ≡ 0 → times (place stop (v, t) l) ≡ set (times l) t v)
        → times (cond b ((v, t) ∷ e ∷ l) (e ∷ place stop (v, t) l)) ≡ set (times (e ∷ l)) t v
    go true q b h ih = absurd (omega arith)
    go false q true h ih = refl
    go false q false h ih = rw (ih (omega arith)) (set_comm (times l) t e.1 v e.0 (eqb-false _ _ q))

pub times_drop : (e : ℕ × ℕ) (l : List (ℕ × ℕ)) → count e.1 (tasks l) ≡ 0 → set (times (e ∷ l)) e.1 0 ≡ times l
times_drop e l h = set-set (times l) e.1 e.0 0 ∙ (ap (λ (z : ℕ). set (times l) e.1 z) (sym (times_absent e.1 l h)) ∙ set-get_or (times l) e.1 0)

-- The queues, as the first that waits.
pub front_waiting : (l : List ℕ) → map (front 0) (map nobody_or l) ≡ l
front_waiting [] = refl
front_waiting (x ∷ l) = rw (front_waiting l) (go (eqb x 0) refl)
  where
    go : (b : Bool) → eqb x 0 ≡ b → front 0 (cond b [] (x ∷ [])) ∷ l ≡ x ∷ l
    go true e = rw (eqb-true x 0 e)
    go false e = refl

pub waiting_front : (q : List (List ℕ)) → All (λ l. (length l ≤ 1) × All (λ t. t ≢ 0) l) q → map nobody_or (map (front 0) q) ≡ q
waiting_front [] h = refl
waiting_front ([] ∷ q) h = rw (waiting_front q h.1)
waiting_front ((x ∷ []) ∷ q) h = rw (ne_eqb x 0 h.0.1.0, waiting_front q h.1)
waiting_front ((x ∷ (y ∷ l)) ∷ q) h = let z : suc (suc (length l)) ≤ 1 = h.0.0 in absurd (omega arith)

pub map_set : {A B : Type 0} (f : A → B) (l : List A) (i : ℕ) (v : A) → map f (set l i v) ≡ set (map f l) i (f v)
map_set f [] i v = refl
map_set f (x ∷ l) zero v = refl
map_set f (x ∷ l) (suc i) v = ap (λ w. f x ∷ w) (map_set f l i v)
