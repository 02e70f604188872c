-- A kind is legal exactly where some command of its op would be accepted; for delay and advance the span has to fit as well.
-- (That what is drawn is accepted is proofs/Legal; here is the way back.) Assumes nothing.
use Prim.Native.Nat.{ℕ, zero, suc, ◌+◌, ◌≤◌, ◌<◌}
use native.Mathlib.Omega.{arith}
use mathlib.Core.Path.{◌≡◌, refl, sym, ap, ◌∙◌, subst}
use mathlib.Core.Logic.{◌≢◌, ◌↔◌, ◌⊎◌, inl, inr}
use mathlib.Core.Bool.{Bool, true, false, cond, not, ◌&&◌, true≢false}
use mathlib.Core.List.{List, [], ◌∷◌}
use lib.Dec.{eqb, leb, ltb}
use lib.ListN.{get_or}
use borrow.Author.Tests.{eqb-true, ne_eqb, leb-true, le-leb, ltb-false, not-false}
use Rattle.rules.specs.declared.Kind.TheVariants.{Delaying, Opening, Entering}
use Rattle.rules.specs.Line.{at, count, empty, within}
use Rattle.rules.specs.Machine.{Machine, Command, runner, declared, empty_handed, for_open, for_entry}
use Rattle.rules.specs.declared.Whose.TheVariants.{Nobody}
use Rattle.rules.specs.Kinds.{ends}
use Rattle.rules.specs.Refusals.{refusal, holds_so}
use Rattle.rules.proofs.Words.{cmd}
use Rattle.rules.proofs.Tests.{both_true}
use Rattle.rules.proofs.Sounds.{Sound}
use Rattle.rules.proofs.Accepted.{check_passed}
use Rattle.generator_draws.specs.Menu.{Offer, menu, free_runner, inside, eligible, eligibles, sift, objects, span_fits}
use Rattle.generator_draws.proofs.Legal.{legal_right}

-- where one in the list passes the test, some are left
sift_some : (f : ℕ → Bool) (x : ℕ) (l : List ℕ) → 1 ≤ count x l → f x ≡ true → not (empty (sift f l)) ≡ true
sift_some f x [] h e = absurd (omega arith)
sift_some f x (y ∷ l) h e = go (f y) refl (eqb x y) refl (λ g. sift_some f x l g e)
  where
    go : (b : Bool) → f y ≡ b → (q : Bool) → eqb x y ≡ q → (1 ≤ count x l → not (empty (sift f l)) ≡ true)
        → not (empty (cond (f y) (y ∷ sift f l) (sift f l))) ≡ true
    go true u q v r = rw u
    go false u true v r = absurd (true≢false (sym e ∙ (ap f (eqb-true x y v) ∙ u)))
    go false u false v r = rw u (r (let z : 1 ≤ 0 + count x l = rw v at h in omega arith))

in_objects : (o : ℕ) → 1 ≤ o → o ≤ 7 → 1 ≤ count o objects
in_objects zero a b = absurd (omega arith)
in_objects (suc zero) a b = omega arith
in_objects (suc (suc zero)) a b = omega arith
in_objects (suc (suc (suc zero))) a b = omega arith
in_objects (suc (suc (suc (suc zero)))) a b = omega arith
in_objects (suc (suc (suc (suc (suc zero))))) a b = omega arith
in_objects (suc (suc (suc (suc (suc (suc zero)))))) a b = omega arith
in_objects (suc (suc (suc (suc (suc (suc (suc zero))))))) a b = omega arith
in_objects (suc (suc (suc (suc (suc (suc (suc (suc o)))))))) a b = absurd (omega arith)

module _ (m : Machine) (s : Sound m) (on : m.started ≡ true) (span : ℕ) (fits : 1 ≤ span) where
  free : eqb (runner m) 0 ≡ false → not (empty_handed m (runner m)) ≡ false → free_runner m ≡ true
  free a b = rw (a, not-false (empty_handed m (runner m)) b)

  takes : (o : ℕ) → within 1 7 o ≡ true → not (declared m o) ≡ false → ltb (at m.ceiling o) (at m.base (runner m)) ≡ false
      → leb 1 (count o m.held) ≡ false
      → eqb (runner m) 0 ≡ false → not (empty_handed m (runner m)) ≡ false → free_runner m && not (empty (eligibles m)) ≡ true
  takes o r d c h a b =
      let g = both_true (leb 1 o) (leb o 7) r in
      let e : eligible m o ≡ true = rw (not-false (declared m o) d, le-leb (at m.base (runner m)) (at m.ceiling o) (ltb-false _ _ c), h) in
      rw (free a b, sift_some (eligible m) o objects (in_objects o (leb-true _ _ g.0) (leb-true _ _ g.1)) e)

  within_it : (o w : ℕ) → within 1 7 o ≡ true → not (holds_so m o w) ≡ false → inside m w ≡ true
  within_it o w r h =
      let g = both_true (eqb (at m.held (runner m)) o) (eqb (at m.way (runner m)) w) (not-false _ h) in
      let e : at m.held (runner m) ≡ o = eqb-true _ _ g.0 in
      let n : at m.held (runner m) ≢ 0 = λ z. (let k = leb-true 1 o (both_true (leb 1 o) (leb o 7) r).0 in omega (arith, e, z)) in
      rw (ne_eqb (at m.held (runner m)) 0 n, g.1)

  abbrev legal_at : ℕ → Offer → Bool
  legal_at i k = (get_or (menu m span) i k).legal

  -- delay and advance, the kinds 0 and 2, look at the span
  back : (i a b v : ℕ) (k : Offer) → i < 8 → ((i ≡ 0) ⊎ (i ≡ 2) → span_fits m span ≡ true) → refusal m (cmd (i + 4) a b v) ≡ 0 → legal_at i k ≡ true
  unfolding menu
  back zero a b v k h f ok = let p = check_passed m (cmd 4 a b v) Delaying refl ok in rw (free (p 7) (p 8), f (inl refl))
  back (suc zero) a b v k h f ok = refl
  back (suc (suc zero)) a b v k h f ok = f (inr refl)
  back (suc (suc (suc zero))) a b v k h f ok =
      let p = check_passed m (cmd 7 a b v) Opening refl ok in
      takes a (both_true (within 1 7 a) (eqb b 0) (both_true (within 1 7 a && eqb b 0) (eqb v 0) (not-false _ (p 4))).0).0 (p 6) (p 10) (p 11) (p 7) (p 8)
  back (suc (suc (suc (suc zero)))) a b v k h f ok =
      let p = check_passed m (cmd 8 a b v) (ends for_open true Nobody) refl ok in
      within_it a for_open (both_true (within 1 7 a) (leb b 1) (both_true (within 1 7 a && leb b 1) (eqb v 0) (not-false _ (p 4))).0).0 (p 9)
  back (suc (suc (suc (suc (suc zero))))) a b v k h f ok =
      let p = check_passed m (cmd 9 a b v) (ends for_open false Nobody) refl ok in
      within_it a for_open (both_true (within 1 7 a) (eqb b 0) (both_true (within 1 7 a && eqb b 0) (eqb v 0) (not-false _ (p 4))).0).0 (p 9)
  back (suc (suc (suc (suc (suc (suc zero)))))) a b v k h f ok =
      let p = check_passed m (cmd 10 a b v) Entering refl ok in
      takes a (both_true (within 1 7 a) (leb b 1) (both_true (within 1 7 a && leb b 1) (eqb v 0) (not-false _ (p 4))).0).0 (p 6) (p 10) (p 11) (p 7) (p 8)
  back (suc (suc (suc (suc (suc (suc (suc zero))))))) a b v k h f ok =
      let p = check_passed m (cmd 11 a b v) (ends for_entry true Nobody) refl ok in
      within_it a for_entry (both_true (within 1 7 a) (leb b 1) (both_true (within 1 7 a && leb b 1) (eqb v 0) (not-false _ (p 4))).0).0 (p 9)
  back (suc (suc (suc (suc (suc (suc (suc (suc i)))))))) a b v k h f ok = absurd (omega arith)

  spanned : (i : ℕ) (k : Offer) → legal_at i k ≡ true → (i ≡ 0) ⊎ (i ≡ 2) → span_fits m span ≡ true
  unfolding menu
  spanned i k e (inl z) = (both_true (free_runner m) (span_fits m span) (rw z at e)).1
  spanned i k e (inr z) = rw z at e

  pub legal_exactly : (i : ℕ) (k : Offer) → i < 8
      → (legal_at i k ≡ true) ↔ (((i ≡ 0) ⊎ (i ≡ 2) → span_fits m span ≡ true) × ((c : Command) × (c.op ≡ i + 4) × (refusal m c ≡ 0)))
  legal_exactly i k h = (
    λ e. (spanned i k e, (let r = legal_right m s on span fits i k h e 0 0 (λ z. z) (λ z. z) in ((get_or (menu m span) i k).command 0 0, r.op, r.accepted))),
    λ w. back i w.1.0.a w.1.0.b w.1.0.value k h w.0
        (subst (λ (x : ℕ). refusal m (cmd x w.1.0.a w.1.0.b w.1.0.value) ≡ 0) w.1.1 w.1.2),
  )
