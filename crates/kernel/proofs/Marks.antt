-- What the code's test of a saved state finds out in one walk through each table, as statements: where a task stands (by the marks), that a
-- line is in order, and that objects are held by one each. Assumes nothing.
use Prim.Native.Nat.{ℕ, zero, suc, ◌+◌, ◌≤◌, ◌<◌}
use native.Mathlib.Omega.{arith}
use mathlib.Core.Path.{◌≡◌, refl, sym, ap, ◌∙◌}
use mathlib.Core.Logic.{◌≢◌, ⊎_elim}
use mathlib.Core.List.{List, [], ◌∷◌}
use mathlib.Core.Bool.{Bool, true, false, cond, not, ◌&&◌, ◌||◌}
use lib.ListN.{length, set, length-set}
use lib.Seq.{get_or-set_other, get_or-set_same}
use lib.Dec.{eqb, leb}
use borrow.Author.Tests.{eqb-true, eqb-false, ne_eqb, eq-eqb, lt-leb, leb-false, not-true}
use Rattle.rules.specs.Line.{at, count, one_if}
use Rattle.rules.proofs.Words.{All, Pairwise}
use Rattle.rules.proofs.Lists.{all_map, eq_or_ne, set_either}
use Rattle.rules.proofs.Tests.{Tests, tests_and, tests_le, tests_ne, both_true}
use Rattle.kernel_line.specs.Tables.{no_task}
use Rattle.kernel_order.specs.Order.{ordered}
use Rattle.kernel_marks.specs.Marks.{met, marks}
use Rattle.kernel.specs.View.{live}
use Rattle.kernel_cells.specs.Cells.{admits, holders_fit}

-- The marks. A task met n more times, from the mark v on.
unfoldable pub tally : ℕ → ℕ → ℕ → ℕ
tally mark v zero = v
tally mark v (suc n) = tally mark (met mark v) n

tally_one : (mark v n : ℕ) (b : Bool) → tally mark v (one_if b + n) ≡ tally mark (cond b (met mark v) v) n
unfolding tally
tally_one mark v n true = let z : 1 + n ≡ suc n = omega arith in rw z
tally_one mark v n false = let z : 0 + n ≡ n = omega arith in rw z

-- one store of a mark, seen at t
store_at : (mark x : ℕ) (seen : List ℕ) → x < length seen → (t : ℕ)
    → at (set seen x (met mark (at seen x))) t ≡ cond (eqb t x) (met mark (at seen t)) (at seen t)
store_at mark x seen h t = go (eqb t x) refl
  where
    go : (b : Bool) → eqb t x ≡ b → at (set seen x (met mark (at seen x))) t ≡ cond b (met mark (at seen t)) (at seen t)
    go true e = rw (eqb-true t x e) (get_or-set_same seen x (met mark (at seen x)) 0 h)
    go false e = get_or-set_other seen x t (met mark (at seen x)) 0 (eqb-false t x e)

-- the tasks of a line, up to its end
pub line_marks : (mark : ℕ) (l seen : List ℕ) → All (λ x. x < 32) (live l) → length seen ≡ 32
    → (length (marks no_task mark l seen) ≡ 32) × ((t : ℕ) → at (marks no_task mark l seen) t ≡ tally mark (at seen t) (count t (live l)))
unfolding marks tally
line_marks mark [] seen k h = (h, λ t. refl)
line_marks mark (x ∷ l) seen k h = go (eqb x 0) refl k (line_marks mark l (set seen x (met mark (at seen x))))
  where
    go : (b : Bool) → eqb x 0 ≡ b → All (λ x. x < 32) (cond b [] (x ∷ live l))
        → (All (λ x. x < 32) (live l) → length (set seen x (met mark (at seen x))) ≡ 32
        → (length (marks no_task mark l (set seen x (met mark (at seen x)))) ≡ 32)
        × ((t : ℕ) → at (marks no_task mark l (set seen x (met mark (at seen x)))) t ≡ tally mark (at (set seen x (met mark (at seen x))) t)
        (count t (live l))))
        → (length (cond (b || leb 32 x) seen (marks no_task mark l (set seen x (cond b 0 (met mark (at seen x)))))) ≡ 32)
        × ((t : ℕ) → at (cond (b || leb 32 x) seen (marks no_task mark l (set seen x (cond b 0 (met mark (at seen x)))))) t ≡ tally mark (at seen t)
        (count t (cond b [] (x ∷ live l))))
    go true e k ih = (h, λ t. refl)
    go false e k ih =
        let w = ih k.1 (length-set seen x (met mark (at seen x)) ∙ h) in
        rw (lt-leb 32 x k.0) (
          w.0,
          λ t. w.1 t ∙ (ap (λ (v : ℕ). tally mark v (count t (live l))) (store_at mark x seen (let z = k.0 in omega arith) t) ∙ sym
              (tally_one mark (at seen t) (count t (live l)) (eqb t x))),
        )

-- those who wait, of all objects: 0 is nobody
pub waiter_marks : (mark : ℕ) (l seen : List ℕ) → All (λ x. x < 32) l → length seen ≡ 32 → at seen 0 ≡ 0
    → (length (marks (leb 32) mark l seen) ≡ 32) × (at (marks (leb 32) mark l seen) 0 ≡ 0)
    × ((t : ℕ) → t ≢ 0 → at (marks (leb 32) mark l seen) t ≡ tally mark (at seen t) (count t l))
unfolding marks tally
waiter_marks mark [] seen k h z = (h, z, λ t n. refl)
waiter_marks mark (x ∷ l) seen k h z = rw (lt-leb 32 x k.0) (go (eqb x 0) refl (λ v. waiter_marks mark l (set seen x v) k.1 (length-set seen x v ∙ h)))
  where
    go : (b : Bool) → eqb x 0 ≡ b
        → ((v : ℕ) → at (set seen x v) 0 ≡ 0 → (length (marks (leb 32) mark l (set seen x v)) ≡ 32) × (at (marks (leb 32) mark l (set seen x v)) 0 ≡ 0)
        × ((t : ℕ) → t ≢ 0 → at (marks (leb 32) mark l (set seen x v)) t ≡ tally mark (at (set seen x v) t) (count t l)))
        → (length (marks (leb 32) mark l (set seen x (cond b 0 (met mark (at seen x))))) ≡ 32)
        × (at (marks (leb 32) mark l (set seen x (cond b 0 (met mark (at seen x))))) 0 ≡ 0)
        × ((t : ℕ) → t ≢ 0 → at (marks (leb 32) mark l (set seen x (cond b 0 (met mark (at seen x))))) t ≡ tally mark (at seen t)
        (one_if (eqb t x) + count t l))
    go true e ih =
        let q : x ≡ 0 = eqb-true x 0 e in
        let zero-there : at (set seen x 0) 0 ≡ 0 = rw q (get_or-set_same seen 0 0 0 (omega arith)) in
        let w = ih 0 zero-there in (
          w.0,
          w.1,
          λ t n. w.2 t n ∙ (ap (λ (v : ℕ). tally mark v (count t l)) (get_or-set_other seen x t 0 0 (λ y. n (y ∙ q)))
              ∙ (let u : one_if (eqb t x) + count t l ≡ count t l = rw (ne_eqb t x (λ y. n (y ∙ q))) (omega arith) in sym (ap (tally mark (at seen t)) u))),
        )
    go false e ih =
        let n0 : x ≢ 0 = eqb-false x 0 e in
        let w = ih (met mark (at seen x)) (get_or-set_other seen x 0 (met mark (at seen x)) 0 (λ y. n0 (sym y)) ∙ z) in (
          w.0,
          w.1,
          λ t n. w.2 t n ∙ (ap (λ (v : ℕ). tally mark v (count t l)) (store_at mark x seen (let y = k.0 in omega arith) t) ∙ sym
              (tally_one mark (at seen t) (count t l) (eqb t x))),
        )

-- Where a task stands, by its mark after the three walks: a times in the ready line, b times in the delay line, c times waiting.
pub data Spot (a b c p : ℕ) : Type 0 where
  nowhere : a ≡ 0 → b ≡ 0 → c ≡ 0 → p ≡ 0 → Spot a b c p
  ready : a ≡ 1 → b ≡ 0 → c ≡ 0 → p ≡ 1 → Spot a b c p
  delayed : a ≡ 0 → b ≡ 1 → c ≡ 0 → p ≡ 2 → Spot a b c p
  waits : a ≡ 0 → b ≡ 0 → c ≡ 1 → p ≡ 3 → Spot a b c p
  many : 2 ≤ a + b + c → p ≡ 9 → Spot a b c p

tally_nine : (mark n : ℕ) → tally mark 9 n ≡ 9
unfolding tally
tally_nine mark zero = refl
tally_nine mark (suc n) = tally_nine mark n

pub spot : (a b c : ℕ) → Spot a b c (tally 3 (tally 2 (tally 1 0 a) b) c)
unfolding tally
spot zero zero zero = nowhere refl refl refl refl
spot (suc zero) zero zero = ready refl refl refl refl
spot zero (suc zero) zero = delayed refl refl refl refl
spot zero zero (suc zero) = waits refl refl refl refl
spot zero zero (suc (suc c)) = many (omega arith) (tally_nine 3 c)
spot zero (suc zero) (suc c) = many (omega arith) (tally_nine 3 c)
spot zero (suc (suc b)) c = many (omega arith) (ap (λ (v : ℕ). tally 3 v c) (tally_nine 2 b) ∙ tally_nine 3 c)
spot (suc zero) zero (suc c) = many (omega arith) (tally_nine 3 c)
spot (suc zero) (suc b) c = many (omega arith) (ap (λ (v : ℕ). tally 3 v c) (tally_nine 2 b) ∙ tally_nine 3 c)
spot (suc (suc a)) b c =
    many (omega arith) (ap (λ (v : ℕ). tally 3 (tally 2 v b) c) (tally_nine 1 a) ∙ (ap (λ (v : ℕ). tally 3 v c) (tally_nine 2 b) ∙ tally_nine 3 c))

-- A line in order: each entry is a task, and its key follows the key before it.
abbrev pub Ord : (ℕ → ℕ → Type 0) → (ℕ → ℕ) → ℕ → List ℕ → Type 0
Ord R key last [] = Unit {0}
Ord R key last (x ∷ l) = ((x < 32) × R last (key x)) × Ord R key (key x) l

tests_low : (x : ℕ) → Tests (not (leb 32 x)) (x < 32)
tests_low x = record { sure = λ e. leb-false 32 x (not-true _ e); found = λ h. rw (lt-leb 32 x h) }

pub tests_ordered : {f : ℕ → ℕ → Bool} (R : ℕ → ℕ → Type 0) → ((a b : ℕ) → Tests (f a b) (R a b)) → (key : ℕ → ℕ) (last : ℕ) (l : List ℕ)
    → Tests (ordered f key last l) (Ord R key last (live l))
unfolding ordered
tests_ordered R t key last [] = record { sure = λ e. tt; found = λ k. refl }
tests_ordered {f} R t key last (x ∷ l) = go (eqb x 0) (tests_ordered R t key (key x) l)
  where
    go : (b : Bool) → Tests (ordered f key (key x) l) (Ord R key (key x) (live l))
        → Tests (cond b true (not (leb 32 x) && f last (key x) && ordered f key (key x) l)) (Ord R key last (cond b [] (x ∷ live l)))
    go true ih = record { sure = λ e. tt; found = λ k. refl }
    go false ih = tests_and (tests_and (tests_low x) (t last (key x))) ih

module _ (R : ℕ → ℕ → Type 0) (on : (a b c : ℕ) → R a b → R b c → R a c) (key : ℕ → ℕ) where
  pub ord_pairs : (last : ℕ) (l : List ℕ) → Ord R key last l → All (λ x. (x < 32) × R last (key x)) l × Pairwise (λ x y. R (key x) (key y)) l
  ord_pairs last [] o = (tt, tt)
  ord_pairs last (x ∷ l) o =
      let w = ord_pairs (key x) l o.1 in (
        (
          o.0,
          all_map {P = λ y. (y < 32) × R (key x) (key y)} {Q = λ y. (y < 32) × R last (key y)} (λ y k. (k.0, on last (key x) (key y) o.0.1 k.1)) l
              w.0,
        ),
        (all_map {P = λ y. (y < 32) × R (key x) (key y)} (λ y k. k.1) l w.0, w.1),
      )

  pub pairs_ord : (last : ℕ) (l : List ℕ) → All (λ x. x < 32) l → All (λ x. R last (key x)) l → Pairwise (λ x y. R (key x) (key y)) l → Ord R key last l
  pairs_ord last [] b h k = tt
  pairs_ord last (x ∷ l) b h k = ((b.0, h.0), pairs_ord (key x) l b.1 k.0 k.1)

-- Objects held by one each: those that tasks before these hold are taken.
abbrev pub Admitted : List ℕ → ℕ → ℕ → Type 0
Admitted ceiling o b = (at ceiling o ≢ 0) × (b ≤ at ceiling o)

pub record Held (ceiling taken base held : List ℕ) : Type 0 where
  pub each : (t : ℕ) → at held t ≢ 0 → t < length held → (at held t < 8) × Admitted ceiling (at held t) (at base t)
  pub single : (o : ℕ) → o ≢ 0 → o < 8 → count o held + at taken o ≤ 1

tests_admits : (c b : ℕ) → Tests (admits c b) ((c ≢ 0) × (b ≤ c))
tests_admits c b = tests_and (tests_ne c 0) (tests_le b c)

each_cons : (P : ℕ → ℕ → Type 0) (x b : ℕ) (held base : List ℕ) → (x ≢ 0 → P x b) → ((t : ℕ) → at held t ≢ 0 → t < length held → P (at held t) (at base t))
    → (t : ℕ) → at (x ∷ held) t ≢ 0 → t < suc (length held) → P (at (x ∷ held) t) (at (b ∷ base) t)
each_cons P x b held base p f zero n l = p n
each_cons P x b held base p f (suc t) n l = f t n (omega arith)

-- one object more is taken
more_taken : (taken : List ℕ) (x : ℕ) → ((o : ℕ) → at taken o ≤ 1) → (o : ℕ) → at (set taken x 1) o ≤ 1
more_taken taken x u o =
    ⊎_elim (λ (w : (o ≡ x) × (at (set taken x 1) o ≡ 1)). omega (arith, w.1)) (λ (w : at (set taken x 1) o ≡ at taken o). omega (arith, u o))
    (set_either taken x 1 o 0)

module _ (ceiling : List ℕ) where
  hold_sure : (base held taken : List ℕ) → length base ≡ length held → length taken ≡ 8 → ((o : ℕ) → at taken o ≤ 1)
      → holders_fit ceiling taken base held ≡ true → Held ceiling taken base held
  unfolding holders_fit
  hold_sure [] [] taken e h u q = record { each = λ t n l. absurd (n refl); single = λ o n l. omega (arith, u o) }
  hold_sure [] (x ∷ held) taken e h u q = absurd (omega arith)
  hold_sure (b ∷ base) [] taken e h u q = absurd (omega arith)
  hold_sure (b ∷ base) (x ∷ held) taken e h u q = go (eqb x 0) refl q (λ v. hold_sure base held v (omega arith))
    where
      go : (z : Bool) → eqb x 0 ≡ z
          → cond z (holders_fit ceiling taken base held)
          (not (leb 8 x) && (eqb (at taken x) 0 && admits (at ceiling x) b) && holders_fit ceiling (set taken x 1) base held) ≡ true
          → ((v : List ℕ) → length v ≡ 8 → ((o : ℕ) → at v o ≤ 1) → holders_fit ceiling v base held ≡ true → Held ceiling v base held)
          → Held ceiling taken (b ∷ base) (x ∷ held)
      go true f q ih =
          let w = ih taken h u q in
          let z : x ≡ 0 = eqb-true x 0 f in
          record {
            each = each_cons (λ o c. (o < 8) × Admitted ceiling o c) x b held base (λ n. absurd (n z)) w.each;
            single = λ o n l. (let y : one_if (eqb o x) ≡ 0 = rw (ne_eqb o x (λ k. n (k ∙ z))) in omega (arith, w.single o n l));
          }
      go false f q ih =
          let q1 = both_true (not (leb 8 x) && (eqb (at taken x) 0 && admits (at ceiling x) b)) (holders_fit ceiling (set taken x 1) base held) q in
          let q2 = both_true (not (leb 8 x)) (eqb (at taken x) 0 && admits (at ceiling x) b) q1.0 in
          let q3 = both_true (eqb (at taken x) 0) (admits (at ceiling x) b) q2.1 in
          let low : x < 8 = leb-false 8 x (not-true _ q2.0) in
          let none : at taken x ≡ 0 = eqb-true _ _ q3.0 in
          let w = ih (set taken x 1) (length-set taken x 1 ∙ h) (more_taken taken x u) q1.1 in
          record {
            each = each_cons (λ o c. (o < 8) × Admitted ceiling o c) x b held base (λ n. (low, (tests_admits (at ceiling x) b).sure q3.1)) w.each;
            single = λ o n l. ⊎_elim
                (λ (k : o ≡ x).
                let y : one_if (eqb o x) ≡ 1 = rw (eq-eqb o x k) in
                let v : at (set taken x 1) o ≡ 1 = rw k (get_or-set_same taken x 1 0 (omega arith)) in
                let v2 : at taken o ≡ 0 = rw k none in
                omega (arith, w.single o n l))
                (λ (k : o ≢ x). let y : one_if (eqb o x) ≡ 0 = rw (ne_eqb o x k) in omega (arith, w.single o n l, get_or-set_other taken x o 1 0 k))
                (eq_or_ne o x);
          }

  hold_found : (base held taken : List ℕ) → length base ≡ length held → length taken ≡ 8 → ((o : ℕ) → at taken o ≤ 1) → Held ceiling taken base held
      → holders_fit ceiling taken base held ≡ true
  unfolding holders_fit
  hold_found [] [] taken e h u w = refl
  hold_found [] (x ∷ held) taken e h u w = absurd (omega arith)
  hold_found (b ∷ base) [] taken e h u w = absurd (omega arith)
  hold_found (b ∷ base) (x ∷ held) taken e h u w = go (eqb x 0) refl (λ v. hold_found base held v (omega arith))
    where
      go : (z : Bool) → eqb x 0 ≡ z → ((v : List ℕ) → length v ≡ 8 → ((o : ℕ) → at v o ≤ 1) → Held ceiling v base held → holders_fit ceiling v base held ≡ true)
          → cond z (holders_fit ceiling taken base held)
          (not (leb 8 x) && (eqb (at taken x) 0 && admits (at ceiling x) b) && holders_fit ceiling (set taken x 1) base held) ≡ true
      go true f ih = ih taken h u (record { each = λ t n l. w.each (suc t) n (omega arith); single = λ o n l. omega (arith, w.single o n l) })
      go false f ih =
          let n : x ≢ 0 = eqb-false x 0 f in
          let k = w.each 0 n (omega arith) in
          let s1 = w.single x n k.0 in
          let none : at taken x ≡ 0 = (let y : one_if (eqb x x) ≡ 1 = rw (eq-eqb x x refl) in omega arith) in
          let rest-single : (o : ℕ) → o ≢ 0 → o < 8 → count o held + at (set taken x 1) o ≤ 1 = λ o no l. ⊎_elim
          (λ (q : o ≡ x).
          let y : one_if (eqb o x) ≡ 1 = rw (eq-eqb o x q) in
          let v : at (set taken x 1) o ≡ 1 = rw q (get_or-set_same taken x 1 0 (let z = k.0 in omega arith)) in
          omega (arith, w.single o no l))
          (λ (q : o ≢ x). omega (arith, w.single o no l, get_or-set_other taken x o 1 0 q)) (eq_or_ne o x) in
          rw (lt-leb 8 x k.0, none, (tests_admits (at ceiling x) b).found k.1)
          (ih (set taken x 1) (length-set taken x 1 ∙ h) (more_taken taken x u)
          (record { each = λ t m l. w.each (suc t) m (omega arith); single = rest-single }))

pub tests_holders : (ceiling base held taken : List ℕ) → length base ≡ length held → length taken ≡ 8 → ((o : ℕ) → at taken o ≤ 1)
    → Tests (holders_fit ceiling taken base held) (Held ceiling taken base held)
tests_holders ceiling base held taken e h u = record { sure = hold_sure ceiling base held taken e h u; found = hold_found ceiling base held taken e h u }
