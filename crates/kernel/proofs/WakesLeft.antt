-- "Wakes left" on the tables of a sound machine is the rules' count: the place of the task in the padded delay line, if its time has come.
-- Assumes nothing.
use Prim.Native.Nat.{ℕ, zero, suc, ◌+◌, ◌≤◌, ◌<◌}
use native.Mathlib.Numerals.{add-one}
use native.Mathlib.Omega.{arith}
use mathlib.Core.Path.{◌≡◌, refl, sym, ap, ◌∙◌}
use mathlib.Core.Logic.{◌≢◌, ⊎_elim}
use mathlib.Core.List.{List, [], ◌∷◌}
use mathlib.Core.Bool.{Bool, true, false, cond, ◌&&◌, ◌||◌, or-false}
use lib.ListN.{length}
use lib.Dec.{eqb, leb}
use borrow.Author.Tests.{eqb-true, eqb-false, ne_eqb, eq-eqb, lt-ltb}
use Rattle.rules.specs.Line.{at, count, one_if}
use Rattle.rules.specs.Machine.{Machine, tasks}
use Rattle.rules.specs.Run.{is_due, ahead, wakes_left}
use Rattle.rules.proofs.Words.{All}
use Rattle.rules.proofs.Lists.{lt_or_ge}
use Rattle.rules.proofs.Sounds.{Sound, once, delay_few}
use Rattle.kernel_line.specs.Tables.{lead, time_in}
use Rattle.kernel.specs.View.{pad, times, encode}
use Rattle.kernel.specs.Step.{due_count}
use Rattle.kernel.proofs.Padded.{Right, own_right}
use Rattle.kernel.proofs.Round.{sound_own}

tasks_size : (l : List (ℕ × ℕ)) → length (tasks l) ≡ length l
tasks_size [] = refl
tasks_size (e ∷ l) = ap suc (tasks_size l)

module _ (t : ℕ) (real : t ≢ 0) where
  -- a task that is not there is not found in n places
  lead_absent : (n : ℕ) (l : List (ℕ × ℕ)) → length l ≤ n → count t (tasks l) ≡ 0 → lead (eqb t) (pad n (tasks l)) ≡ n
  unfolding lead
  lead_absent zero [] h c = refl
  lead_absent zero (e ∷ l) h c = absurd (omega arith)
  lead_absent (suc n) [] h c = rw (ne_eqb t 0 real, lead_absent n [] (omega arith) c)
  lead_absent (suc n) (e ∷ l) h c = go (eqb t e.1) c (lead_absent n l (omega arith))
    where
      go : (b : Bool) → one_if b + count t (tasks l) ≡ 0 → (count t (tasks l) ≡ 0 → lead (eqb t) (pad n (tasks l)) ≡ n)
          → cond b 0 (suc (lead (eqb t) (pad n (tasks l)))) ≡ suc n
      go true c ih = absurd (omega arith)
      go false c ih = ap suc (ih (omega arith))

  due_absent : (now : ℕ) (l : List (ℕ × ℕ)) → count t (tasks l) ≡ 0 → is_due now t l ≡ false
  due_absent now [] c = refl
  due_absent now (e ∷ l) c = go (eqb t e.1) refl c (due_absent now l)
    where
      go : (b : Bool) → eqb t e.1 ≡ b → one_if b + count t (tasks l) ≡ 0 → (count t (tasks l) ≡ 0 → is_due now t l ≡ false)
          → eqb e.1 t && leb e.0 now || is_due now t l ≡ false
      go true q c ih = absurd (omega arith)
      go false q c ih = rw (ne_eqb e.1 t (λ z. eqb-false _ _ q (sym z)), ih (omega arith))

  -- one that is there is found behind those ahead of it, and is due when its time has come
  lead_there : (n : ℕ) (l : List (ℕ × ℕ)) → length l ≤ n → 1 ≤ count t (tasks l) → (lead (eqb t) (pad n (tasks l)) ≡ ahead t l) × (ahead t l < length l)
  unfolding lead
  lead_there n [] h c = absurd (omega arith)
  lead_there zero (e ∷ l) h c = absurd (omega arith)
  lead_there (suc n) (e ∷ l) h c = go (eqb t e.1) refl c (lead_there n l (omega arith))
    where
      go : (b : Bool) → eqb t e.1 ≡ b → 1 ≤ one_if b + count t (tasks l)
          → (1 ≤ count t (tasks l) → (lead (eqb t) (pad n (tasks l)) ≡ ahead t l) × (ahead t l < length l))
          → (cond b 0 (suc (lead (eqb t) (pad n (tasks l)))) ≡ cond (eqb e.1 t) 0 (suc (ahead t l)))
          × (cond (eqb e.1 t) 0 (suc (ahead t l)) < suc (length l))
      go true q c ih = rw (eq-eqb e.1 t (sym (eqb-true _ _ q))) (refl, omega arith)
      go false q c ih = let w = ih (omega arith) in rw (ne_eqb e.1 t (λ z. eqb-false _ _ q (sym z))) (ap suc w.0, omega (arith, w.1))

  due_there : (u : List ℕ) (now : ℕ) (l : List (ℕ × ℕ)) → All (Right u) l → 1 ≤ count t (tasks l) → count t (tasks l) ≤ 1 → is_due now t l ≡ leb (at u t) now
  due_there u now [] r c o = absurd (omega arith)
  due_there u now (e ∷ l) r c o = go (eqb t e.1) refl c o (due_there u now l r.1)
    where
      go : (b : Bool) → eqb t e.1 ≡ b → 1 ≤ one_if b + count t (tasks l) → one_if b + count t (tasks l) ≤ 1
          → (1 ≤ count t (tasks l) → count t (tasks l) ≤ 1 → is_due now t l ≡ leb (at u t) now)
          → eqb e.1 t && leb e.0 now || is_due now t l ≡ leb (at u t) now
      go true q c o ih =
          let z : t ≡ e.1 = eqb-true _ _ q in
          let time : at u t ≡ e.0 = ap (at u) z ∙ r.0.0 in
          rw (eq-eqb e.1 t (sym z), due_absent now l (omega arith), time, or-false (leb e.0 now))
      go false q c o ih = rw (ne_eqb e.1 t (λ z. eqb-false _ _ q (sym z))) (ih (omega arith) (omega arith))

-- The count.
pub left_tie : (m : Machine) → Sound m → (t : ℕ) → 1 ≤ t → t < 32 → due_count (lead (eqb t) (encode m).delayed) (time_in (encode m).until t) (encode m).clock
    ≡ wakes_left m t
unfolding encode wakes_left
left_tie m s t lo hi = ⊎_elim out there (lt_or_ge (count t (tasks m.delay)) 1)
  where
    real : t ≢ 0
    real e = omega arith

    size : length m.delay ≤ 32
    size = omega (arith, delay_few m s, tasks_size m.delay)

    out : count t (tasks m.delay) < 1 → due_count (lead (eqb t) (pad 32 (tasks m.delay))) (time_in (times m.delay) t) m.clock
        ≡ cond (is_due m.clock t m.delay) (suc (ahead t m.delay)) 0
    out h = rw (lead_absent t real 32 m.delay size (omega arith), due_absent t real m.clock m.delay (omega arith))

    there : 1 ≤ count t (tasks m.delay) → due_count (lead (eqb t) (pad 32 (tasks m.delay))) (time_in (times m.delay) t) m.clock
        ≡ cond (is_due m.clock t m.delay) (suc (ahead t m.delay)) 0
    there h =
        let w = lead_there t real 32 m.delay size h in
        rw (
          w.0,
          lt-ltb (ahead t m.delay) 32 (omega (arith, w.1, size)),
          lt-ltb t 32 hi,
          due_there t real (times m.delay) m.clock m.delay (own_right m.delay (sound_own m s)) h (omega (arith, once m s t)),
          lt-ltb (ahead t m.delay) 255 (omega (arith, w.1, size)),
          add-one (ahead t m.delay),
        )
