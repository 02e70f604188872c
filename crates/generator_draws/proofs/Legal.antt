-- Each legal kind's command is one that the machine accepts, from every sound started state. Assumes nothing.
use Prim.Native.Nat.{ℕ, zero, suc, ◌+◌, ◌≤◌, ◌<◌, ◌^◌}
use native.Mathlib.Omega.{arith}
use mathlib.Core.Path.{◌≡◌, refl, sym, ap, ◌∙◌}
use mathlib.Core.Logic.{◌≢◌}
use mathlib.Core.Bool.{Bool, true, false, cond, not, ◌&&◌, true≢false, and-false}
use mathlib.Core.List.{List, [], ◌∷◌}
use lib.Dec.{eqb, leb, ltb}
use lib.ListN.{get_or, length}
use borrow.Author.Tests.{ltb-true, leb-true, eqb-false, not-true, lt-ltb, le-ltb, le-leb, eq-eqb, ne_eqb}
use Rattle.rules.specs.Line.{at, count, empty, within}
use Rattle.rules.specs.Machine.{Machine, Command, declared, runner, for_open, for_entry}
use Rattle.rules.specs.Refusals.{refusal}
use Rattle.rules.proofs.Words.{All, cmd}
use Rattle.rules.proofs.Tests.{both_true}
use Rattle.rules.proofs.Sounds.{Sound, object_known, runner_known}
use Rattle.generator_draws.specs.Menu.{Offer, hand, free_runner, inside, eligible, sift, objects, eligibles, nth_eligible, span_fits, quiet, may_take}
use Rattle.generator_draws.specs.Menu.{menu}

sift_all : (f P : ℕ → Bool) (l : List ℕ) → All (λ x. P x ≡ true) l → All (λ x. (P x ≡ true) × (f x ≡ true)) (sift f l)
sift_all f P [] k = tt
sift_all f P (x ∷ l) k = go (f x) refl (sift_all f P l k.1)
  where
    go : (b : Bool) → f x ≡ b → All (λ x. (P x ≡ true) × (f x ≡ true)) (sift f l) → All (λ x. (P x ≡ true) × (f x ≡ true)) (cond b (x ∷ sift f l) (sift f l))
    go true e r = ((k.0, e), r)
    go false e r = r

all_inside : (P : ℕ → Type 0) (l : List ℕ) (i : ℕ) → All P l → i < length l → P (get_or l i 0)
all_inside P [] i k h = absurd (omega arith)
all_inside P (x ∷ l) zero k h = k.0
all_inside P (x ∷ l) (suc i) k h = all_inside P l i k.1 (omega arith)

some : (l : List ℕ) → not (empty l) ≡ true → 1 ≤ length l
some [] e = absurd (true≢false (sym e))
some (x ∷ l) e = omega arith

-- a number for what is chosen below n, where it is needed
abbrev pub Fits : ℕ → ℕ → Type 0
Fits n x = 1 ≤ n → x < n

-- a number below 2 as a barrier, and the barrier of an entry
bit : (y : ℕ) → y < 2 → leb y 1 ≡ true
bit y h = le-leb y 1 (omega arith)

barrier : (y : ℕ) (b : Bool) → (1 ≤ cond b 2 0 → y < cond b 2 0) → (leb (cond b y 1) 1 ≡ true) × (eqb (cond b y 1) 0 && not b ≡ false)
barrier y true h = (bit y (h (omega arith)), and-false (eqb y 0))
barrier y false h = (refl, refl)

module _ (m : Machine) (s : Sound m) (on : m.started ≡ true) where
  wake_accepted : refusal m (cmd 5 0 0 0) ≡ 0
  unfolding refusal
  wake_accepted = rw on

  delay_accepted : (v : ℕ) → v < 2 ^ 64 → free_runner m ≡ true → refusal m (cmd 4 0 0 v) ≡ 0
  unfolding refusal
  delay_accepted v h e =
      let g = both_true (not (eqb (runner m) 0)) (eqb (hand m) 0) e in
      rw (lt-ltb v (2 ^ 64) h, on, not-true (eqb (runner m) 0) g.0, g.1)

  advance_accepted : (v : ℕ) → m.clock + v < 2 ^ 64 → refusal m (cmd 6 0 0 v) ≡ 0
  unfolding refusal
  advance_accepted v h = rw (on, lt-ltb (m.clock + v) (2 ^ 64) h)

  -- what is known of the object that open and entry name
  record Takes (o : ℕ) : Type 0 where
    in_range : within 1 7 o ≡ true
    there : eqb (at m.ceiling o) 0 ≡ false
    awake : eqb (runner m) 0 ≡ false
    bare : eqb (hand m) 0 ≡ true
    under : ltb (at m.ceiling o) (at m.base (runner m)) ≡ false
    unheld : leb 1 (count o m.held) ≡ false

  takes : (x : ℕ) → may_take m ≡ true → (1 ≤ length (eligibles m) → x < length (eligibles m)) → Takes (nth_eligible m x)
  takes x e h =
      let f = both_true (free_runner m) (not (empty (eligibles m))) e in
      let g = both_true (not (eqb (runner m) 0)) (eqb (hand m) 0) f.0 in
      let o = nth_eligible m x in
      let seven = sift_all (eligible m) (within 1 7) objects (refl, (refl, (refl, (refl, (refl, (refl, (refl, tt))))))) in
      let k = all_inside (λ z. (within 1 7 z ≡ true) × (eligible m z ≡ true)) (eligibles m) x seven (h (some (eligibles m) f.1)) in
      let a = both_true (declared m o && leb (at m.base (runner m)) (at m.ceiling o)) (not (leb 1 (count o m.held))) k.1 in
      let b = both_true (declared m o) (leb (at m.base (runner m)) (at m.ceiling o)) a.0 in
      record {
        in_range = k.0;
        there = not-true (eqb (at m.ceiling o) 0) b.0;
        awake = not-true (eqb (runner m) 0) g.0;
        bare = g.1;
        under = le-ltb (at m.ceiling o) (at m.base (runner m)) (leb-true _ _ b.1);
        unheld = not-true (leb 1 (count o m.held)) a.1;
      }

  open_accepted : (o : ℕ) → Takes o → refusal m (cmd 7 o 0 0) ≡ 0
  unfolding refusal
  open_accepted o k = rw (k.in_range, on, k.there, k.awake, k.bare, k.under, k.unheld)

  entry_accepted : (o b : ℕ) → Takes o → leb b 1 ≡ true → eqb b 0 && not (empty (get_or m.queue o [])) ≡ false → refusal m (cmd 10 o b 0) ≡ 0
  unfolding refusal
  entry_accepted o b k h q = rw (k.in_range, h, on, k.there, k.awake, k.bare, k.under, k.unheld, q)

  -- what is known of the object that a closing command names
  record Holds (w : ℕ) : Type 0 where
    in_range : within 1 7 (hand m) ≡ true
    there : eqb (at m.ceiling (hand m)) 0 ≡ false
    awake : eqb (runner m) 0 ≡ false
    same : eqb (hand m) (hand m) ≡ true
    so : eqb (at m.way (runner m)) w ≡ true

  holds : (w : ℕ) → inside m w ≡ true → Holds w
  holds w e =
      let f = both_true (not (eqb (hand m) 0)) (eqb (at m.way (runner m)) w) e in
      let n : hand m ≢ 0 = eqb-false (hand m) 0 (not-true (eqb (hand m) 0) f.0) in
      let a = s.all_admitted.holder_admitted (runner m) (runner_known m s) n in
      let hi : hand m < 8 = object_known m s (hand m) a.0 in
      record {
        in_range = rw (le-leb 1 (hand m) (omega arith), le-leb (hand m) 7 (omega arith));
        there = ne_eqb (at m.ceiling (hand m)) 0 a.0;
        awake = ne_eqb (runner m) 0 (λ z. n (ap (at m.held) z ∙ s.idle_ready.idle_free));
        same = eq-eqb (hand m) (hand m) refl;
        so = f.1;
      }

  closep_accepted : (b : ℕ) → leb b 1 ≡ true → Holds for_open → refusal m (cmd 8 (hand m) b 0) ≡ 0
  unfolding refusal
  closep_accepted b h k = rw (k.in_range, h, on, k.there, k.awake, k.same, k.so)

  closef_accepted : Holds for_open → refusal m (cmd 9 (hand m) 0 0) ≡ 0
  unfolding refusal
  closef_accepted k = rw (k.in_range, on, k.there, k.awake, k.same, k.so)

  done_accepted : (b : ℕ) → leb b 1 ≡ true → Holds for_entry → refusal m (cmd 11 (hand m) b 0) ≡ 0
  unfolding refusal
  done_accepted b h k = rw (k.in_range, h, on, k.there, k.awake, k.same, k.so)

  -- Of the kind at index i, if it is legal: its op is i + 4, the machine accepts it, and its operands are small.
  pub record Right (i : ℕ) (c : Command) : Type 0 where
    pub op : c.op ≡ i + 4
    pub accepted : refusal m c ≡ 0
    pub fits : (c.a < 8) × (c.b < 2) × (c.value < 2 ^ 64)

  low : (o : ℕ) → within 1 7 o ≡ true → o < 8
  low o e = let z : o ≤ 7 = leb-true _ _ (both_true (leb 1 o) (leb o 7) e).1 in omega arith

  low_bit : (b : ℕ) → leb b 1 ≡ true → b < 2
  low_bit b e = let z : b ≤ 1 = leb-true _ _ e in omega arith

  pub legal_right : (span : ℕ) → 1 ≤ span → (i : ℕ) (k : Offer) → i < 8 → let o = get_or (menu m span) i k in
      o.legal ≡ true → (x y : ℕ) → Fits o.operand x → Fits (o.barrier x) y → Right i (o.command x y)
  unfolding menu
  legal_right span h zero k l e x y u v =
      let f = both_true (free_runner m) (span_fits m span) e in
      let t : m.clock + span < 2 ^ 64 = ltb-true _ _ f.1 in
      let r : x < span + 1 = u (omega arith) in
      record { op = refl; accepted = delay_accepted (m.clock + x) (omega arith) f.0; fits = (omega arith, omega arith, omega arith) }
  legal_right span h (suc zero) k l e x y u v = record { op = refl; accepted = wake_accepted; fits = (omega arith, omega arith, omega arith) }
  legal_right span h (suc (suc zero)) k l e x y u v =
      let t : m.clock + span < 2 ^ 64 = ltb-true _ _ e in
      let r : x < span = u h in
      record { op = refl; accepted = advance_accepted (1 + x) (omega arith); fits = (omega arith, omega arith, omega arith) }
  legal_right span h (suc (suc (suc zero))) k l e x y u v =
      let t = takes x e u in
      record { op = refl; accepted = open_accepted (nth_eligible m x) t; fits = (low (nth_eligible m x) t.in_range, omega arith, omega arith) }
  legal_right span h (suc (suc (suc (suc zero)))) k l e x y u v =
      let t = holds for_open e in
      let b = bit y (v (omega arith)) in
      record { op = refl; accepted = closep_accepted y b t; fits = (low (hand m) t.in_range, low_bit y b, omega arith) }
  legal_right span h (suc (suc (suc (suc (suc zero))))) k l e x y u v =
      let t = holds for_open e in
      record { op = refl; accepted = closef_accepted t; fits = (low (hand m) t.in_range, omega arith, omega arith) }
  legal_right span h (suc (suc (suc (suc (suc (suc zero)))))) k l e x y u v =
      let t = takes x e u in
      let q = quiet m (nth_eligible m x) in
      let b = barrier y q v in
      record {
        op = refl;
        accepted = entry_accepted (nth_eligible m x) (cond q y 1) t b.0 b.1;
        fits = (low (nth_eligible m x) t.in_range, low_bit (cond q y 1) b.0, omega arith);
      }
  legal_right span h (suc (suc (suc (suc (suc (suc (suc zero))))))) k l e x y u v =
      let t = holds for_entry e in
      let b = bit y (v (omega arith)) in
      record { op = refl; accepted = done_accepted y b t; fits = (low (hand m) t.in_range, low_bit y b, omega arith) }
  legal_right span h (suc (suc (suc (suc (suc (suc (suc (suc i)))))))) k l e x y u v = absurd (omega arith)
