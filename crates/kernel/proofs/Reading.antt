-- Laws of what is read off the tables: a line up to its end, entries with their times, queues of one or nobody. Each is said of the list that
-- stands in the table and of the one that is read. Assumes nothing.
use Prim.Native.Nat.{ℕ, ◌+◌, ◌≤◌}
use native.Mathlib.Omega.{arith}
use mathlib.Core.Path.{◌≡◌, refl, sym, ap, ◌∙◌}
use mathlib.Core.Logic.{◌≢◌}
use mathlib.Core.List.{List, [], ◌∷◌, ◌++◌, map}
use mathlib.Core.Bool.{Bool, true, false, cond}
use lib.ListN.{length, get_or, get_or-map}
use lib.Dec.{eqb}
use borrow.Author.Tests.{eqb-true, eqb-false, ne_eqb, eq-eqb}
use Rattle.rules.specs.Line.{at, count, one_if}
use Rattle.rules.specs.Sound.{waits}
use Rattle.rules.proofs.Words.{All, Pairwise}
use Rattle.kernel.specs.declared.Kernel.{Kernel}
use Rattle.kernel.specs.View.{live, with_idle, timed, nobody_or}

-- A line, and idle behind it.
pub idle_last : (l : List ℕ) → with_idle l ≡ live l ++ (0 ∷ [])
idle_last [] = refl
idle_last (x ∷ l) = go (eqb x 0) (idle_last l)
  where
    go : (b : Bool) → with_idle l ≡ live l ++ (0 ∷ []) → cond b (0 ∷ []) (x ∷ with_idle l) ≡ cond b [] (x ∷ live l) ++ (0 ∷ [])
    go true ih = refl
    go false ih = ap (λ (l : List ℕ). x ∷ l) ih

pub live_real : (l : List ℕ) → All (λ x. x ≢ 0) (live l)
live_real [] = tt
live_real (x ∷ l) = go (eqb x 0) refl (live_real l)
  where
    go : (b : Bool) → eqb x 0 ≡ b → All (λ x. x ≢ 0) (live l) → All (λ x. x ≢ 0) (cond b [] (x ∷ live l))
    go true e ih = tt
    go false e ih = (eqb-false x 0 e, ih)

pub real_none : (l : List ℕ) → All (λ x. x ≢ 0) l → count 0 l ≡ 0
real_none [] h = refl
real_none (x ∷ l) h = let z : one_if (eqb 0 x) ≡ 0 = rw (ne_eqb 0 x (λ e. h.0 (sym e))) in omega (arith, real_none l h.1)

pub live_none : (l : List ℕ) → at l 0 ≡ 0 → live l ≡ []
live_none [] e = refl
live_none (x ∷ l) e = rw (eq-eqb x 0 e)

pub none_live : (l : List ℕ) → live l ≡ [] → at l 0 ≡ 0
none_live [] e = refl
none_live (x ∷ l) e = nobody_first (eqb x 0) refl e
  where
    nobody_first : (b : Bool) → eqb x 0 ≡ b → cond b [] (x ∷ live l) ≡ [] → x ≡ 0
    nobody_first true q e = eqb-true x 0 q
    nobody_first false q e = let z : ◌≡◌ {A = ℕ} 0 1 = cc in absurd (omega arith)

pub all_join : (P : ℕ → Type 0) (l m : List ℕ) → All P l → All P m → All P (l ++ m)
all_join P [] m h k = k
all_join P (x ∷ l) m h k = (h.0, all_join P l m h.1 k)

pub all_front : (P : ℕ → Type 0) (l m : List ℕ) → All P (l ++ m) → All P l
all_front P [] m h = tt
all_front P (x ∷ l) m h = (h.0, all_front P l m h.1)

pub pairs_join : (R : ℕ → ℕ → Type 0) (l : List ℕ) (z : ℕ) → All (λ x. R x z) l → Pairwise R l → Pairwise R (l ++ (z ∷ []))
pairs_join R [] z h k = (tt, tt)
pairs_join R (x ∷ l) z h k = (all_join (R x) l (z ∷ []) k.0 (h.0, tt), pairs_join R l z h.1 k.1)

pub pairs_front : (R : ℕ → ℕ → Type 0) (l m : List ℕ) → Pairwise R (l ++ m) → Pairwise R l
pairs_front R [] m k = tt
pairs_front R (x ∷ l) m k = (all_front (R x) l m k.0, pairs_front R l m k.1)

-- Entries with their times, and the tasks alone.
pub all_timed : (P : ℕ × ℕ → Type 0) (u l : List ℕ) → All (λ t. P (at u t, t)) l → All P (timed u l)
all_timed P u [] h = tt
all_timed P u (t ∷ l) h = (h.0, all_timed P u l h.1)

pub timed_all : (P : ℕ × ℕ → Type 0) (u l : List ℕ) → All P (timed u l) → All (λ t. P (at u t, t)) l
timed_all P u [] h = tt
timed_all P u (t ∷ l) h = (h.0, timed_all P u l h.1)

pub pairs_timed : (u l : List ℕ) → Pairwise (λ x y. at u x ≤ at u y) l → Pairwise (λ e f. e.0 ≤ f.0) (timed u l)
pairs_timed u [] k = tt
pairs_timed u (t ∷ l) k = (all_timed (λ f. at u t ≤ f.0) u l k.0, pairs_timed u l k.1)

pub timed_pairs : (u l : List ℕ) → Pairwise (λ e f. e.0 ≤ f.0) (timed u l) → Pairwise (λ x y. at u x ≤ at u y) l
timed_pairs u [] k = tt
timed_pairs u (t ∷ l) k = (timed_all (λ f. at u t ≤ f.0) u l k.0, timed_pairs u l k.1)

-- Queues of one or nobody.
pub all_queues : (P : List ℕ → Type 0) (w : List ℕ) → All (λ x. P (nobody_or x)) w → All P (map nobody_or w)
all_queues P [] h = tt
all_queues P (x ∷ w) h = (h.0, all_queues P w h.1)

pub queues_all : (P : List ℕ → Type 0) (w : List ℕ) → All P (map nobody_or w) → All (λ x. P (nobody_or x)) w
queues_all P [] h = tt
queues_all P (x ∷ w) h = (h.0, queues_all P w h.1)

pub one_waits : (P : ℕ → Type 0) (x : ℕ) → (x ≢ 0 → P x) → All P (nobody_or x)
one_waits P x f = go (eqb x 0) refl
  where
    go : (b : Bool) → eqb x 0 ≡ b → All P (cond b [] (x ∷ []))
    go true e = tt
    go false e = (f (eqb-false x 0 e), tt)

pub waits_one : (P : ℕ → Type 0) (x : ℕ) → All P (nobody_or x) → x ≢ 0 → P x
waits_one P x h n = (rw (ne_eqb x 0 n) at h).0

pub no_more : (x : ℕ) → length (nobody_or x) ≤ 1
no_more x = elim (eqb x 0) as (λ b. length (cond b [] (x ∷ [])) ≤ 1) [ true ↦ omega arith | false ↦ omega arith ]

pub nobody_zero : (x : ℕ) → nobody_or x ≡ [] → x ≡ 0
nobody_zero x e = go (eqb x 0) refl e
  where
    go : (b : Bool) → eqb x 0 ≡ b → cond b [] (x ∷ []) ≡ [] → x ≡ 0
    go true q e = eqb-true x 0 q
    go false q e = let z : ◌≡◌ {A = ℕ} 0 1 = cc in absurd (omega arith)

pub wait_count : (t : ℕ) → t ≢ 0 → (w : List ℕ) → waits t (map nobody_or w) ≡ count t w
wait_count t n [] = refl
wait_count t n (x ∷ w) = go (eqb x 0) refl (wait_count t n w)
  where
    go : (b : Bool) → eqb x 0 ≡ b → waits t (map nobody_or w) ≡ count t w
        → count t (cond b [] (x ∷ [])) + waits t (map nobody_or w) ≡ one_if (eqb t x) + count t w
    go true e ih = let z : one_if (eqb t x) ≡ 0 = rw (ne_eqb t x (λ q. n (q ∙ eqb-true x 0 e))) in omega arith
    go false e ih = omega arith

pub wait_idle : (w : List ℕ) → waits 0 (map nobody_or w) ≡ 0
wait_idle [] = refl
wait_idle (x ∷ w) = go (eqb x 0) refl (wait_idle w)
  where
    go : (b : Bool) → eqb x 0 ≡ b → waits 0 (map nobody_or w) ≡ 0 → count 0 (cond b [] (x ∷ [])) + waits 0 (map nobody_or w) ≡ 0
    go true e ih = omega arith
    go false e ih = let z : one_if (eqb 0 x) ≡ 0 = rw (ne_eqb 0 x (λ q. eqb-false x 0 e (sym q))) in omega arith

pub queue_at : (k : Kernel) (o : ℕ) → get_or (map nobody_or k.waiter) o [] ≡ nobody_or (at k.waiter o)
queue_at k o = get_or-map nobody_or k.waiter o 0
