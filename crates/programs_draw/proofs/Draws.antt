-- The loop of draw that makes the draws which are left: what holds at each turn, and that all are made where no write failed. Assumes nothing.
use Prim.Native.Nat.{ℕ, zero, suc, ◌+◌, ◌≤◌, ◌<◌}
use native.Mathlib.Omega.{arith}
use mathlib.Core.Bool.{Bool, true, false, ◌&&◌, false≢true}
use mathlib.Core.Path.{◌≡◌, refl, ap, sym, subst, ◌∙◌}
use mathlib.Core.List.{List, [], ◌++◌}
use mathlib.Core.Logic.{◌⊎◌, inl, inr, ⊎_elim}
use borrow.Author.Tests.{eqb-true, leb-true, leb-false, eq-eqb}
use lib.Dec.{eqb, leb}
use lib.ListN.{length, take, length-append}
use Rattle.programs_flow.specs.declared.Went.{Went}
use Rattle.programs_flow.specs.Flow.{has_failed, Took, Wrote}
use Rattle.rules.proofs.Tests.{both_true}
use Rattle.session_stage.specs.declared.DrawRun.{DrawRun}
use Rattle.session_stage.specs.Stage.{Moved, not_moved}
use Rattle.session_draw.specs.Draw.{some_behind, some_text, drawn_next, text_of}
use Rattle.programs_flow.specs.Loops.{Put, Concluded}
use Rattle.programs_draw.specs.Sizes.{draw_lot}
use Rattle.programs_flow.proofs.Turns.{took_text, write_failed}

-- ---- draws

-- No draw is to be made: none is left, or it is not at its draws.
abbrev pub DrawnOut : DrawRun → Type 0
DrawnOut d = d.stage ≡ 2 → d.left ≡ 0

-- then a draw changes nothing; else one fewer is left
abbrev NoneMade : DrawRun → Type 0
NoneMade d = (drawn_next d ≡ not_moved d) × DrawnOut d

abbrev OneMade : DrawRun → Type 0
OneMade d = (d.stage ≡ 2) × (d.left ≡ suc (drawn_next d).run.left)

drawn_out : (d : DrawRun) → (eqb d.stage 2 && leb 1 d.left) ≡ false → DrawnOut d
drawn_out d e s = let l = leb-false 1 d.left (sym (ap (λ (b : Bool). b && leb 1 d.left) (eq-eqb d.stage 2 s)) ∙ e) in omega (arith, l)

step : (d : DrawRun) → NoneMade d ⊎ OneMade d
unfolding drawn_next
step d = go (eqb d.stage 2 && leb 1 d.left) refl
  where
    go : (b : Bool) → (eqb d.stage 2 && leb 1 d.left) ≡ b → NoneMade d ⊎ OneMade d
    go true e =
        let h = both_true (eqb d.stage 2) (leb 1 d.left) e in
        inr (eqb-true d.stage 2 h.0, rw e (omega (arith, leb-true 1 d.left h.1)))
    go false e = inl (rw e, drawn_out d e)

never_more : (n : ℕ) (d : DrawRun) → (some_behind n d).left ≤ d.left
unfolding some_behind not_moved
never_more zero d = omega arith
never_more (suc n) d =
    ⊎_elim (λ (x : NoneMade d). let same = ap (λ (h : Moved). (some_behind n h.run).left) x.0 in omega (arith, same, never_more n d))
    (λ (x : OneMade d). omega (arith, x.1, never_more n (drawn_next d).run)) (step d)

fewer_by : (n : ℕ) (d : DrawRun) → d.stage ≡ 2 → 0 < d.left → (some_behind (suc n) d).left < d.left
unfolding some_behind
fewer_by n d s o =
    ⊎_elim (λ (x : NoneMade d). absurd (omega (arith, x.1 s, o))) (λ (x : OneMade d). omega (arith, x.1, never_more n (drawn_next d).run)) (step d)

-- where one is left to be made, a lot leaves fewer
pub fewer : (d e : DrawRun) → d.stage ≡ 2 → 0 < d.left → e ≡ some_behind draw_lot d → e.left < d.left
fewer d e s o f = let l = ap (λ (x : DrawRun). x.left) f in omega (arith, l, fewer_by 383 d s o)

no_text : (n : ℕ) (d : DrawRun) → DrawnOut d → some_text n d ≡ []
unfolding some_text not_moved
no_text zero d h = refl
no_text (suc n) d h = ⊎_elim (λ (x : NoneMade d). rw x.0 (no_text n d h)) (λ (x : OneMade d). absurd (omega (arith, x.1, h x.0))) (step d)

-- where no draw is to be made any more, all draws were made that there were
all_drawn : (n : ℕ) (d : DrawRun) → DrawnOut (some_behind n d) → some_text n d ≡ some_text d.left d
unfolding some_text some_behind not_moved
all_drawn zero d h = sym (no_text d.left d h)
all_drawn (suc n) d h =
    ⊎_elim
    (λ (x : NoneMade d).
    ap (λ (y : Moved). text_of y ++ some_text n y.run) x.0 ∙ all_drawn n d (subst (λ (y : Moved). DrawnOut (some_behind n y.run)) x.0 h))
    (λ (x : OneMade d).
    ap (λ (l : List ℕ). text_of (drawn_next d) ++ l) (all_drawn n (drawn_next d).run h) ∙ ap (λ (k : ℕ). some_text k d) (sym x.1))
    (step d)

some_more : (n m : ℕ) (d : DrawRun) → some_behind (n + m) d ≡ some_behind m (some_behind n d)
unfolding some_behind
some_more zero m d = let e : 0 + m ≡ m = omega arith in ap (λ (k : ℕ). some_behind k d) e
some_more (suc n) m d =
    let e : suc n + m ≡ suc (n + m) = omega arith in
    ap (λ (k : ℕ). some_behind k d) e ∙ some_more n m (drawn_next d).run

text_more : (n m : ℕ) (d : DrawRun) → length (some_text (n + m) d) ≡ length (some_text n d) + length (some_text m (some_behind n d))
unfolding some_text some_behind
text_more zero m d = let e : 0 + m ≡ m = omega arith in ap (λ (k : ℕ). length (some_text k d)) e ∙ omega arith
text_more (suc n) m d =
    let e : suc n + m ≡ suc (n + m) = omega arith in
    let more = text_more n m (drawn_next d).run in
    ap (λ (k : ℕ). length (some_text k d)) e ∙ simp length-append (omega (arith, more))

-- ---- the loop

-- So far: the draw stands behind some draws, and their text was taken, or a write failed. Where the work had failed before, it stands as it stood.
pub record Drawing (d e : DrawRun) (was went : Went) : Type 0 where
  pub draws : ℕ
  pub state : e ≡ some_behind draws d
  pub taken : Took (length (some_text draws d)) was.state was went
  pub stopped : has_failed was.state ≡ true → went ≡ was

pub none_drawn : (d : DrawRun) (was : Went) → Drawing d d was was
unfolding some_behind some_text
none_drawn d was = record { draws = 0; state = refl; taken = inl (refl, omega arith); stopped = λ _. refl }

-- a lot more
pub lot_drawn : (d e f : DrawRun) (was went next : Went) (at : ℕ) (out : List ℕ) → Drawing d e was went → has_failed went.state ≡ false
    → f ≡ some_behind draw_lot e → Put at out (some_text draw_lot e) → Wrote (length (take at out)) went next → Drawing d f was next
lot_drawn d e f was went next at out r on s p w =
    record {
      draws = r.draws + draw_lot;
      state = s ∙ ap (some_behind draw_lot) r.state ∙ sym (some_more r.draws draw_lot d);
      taken = more r.taken (took_text (some_text draw_lot e) out at went.state went next p w.1);
      stopped = λ o. absurd (false≢true (sym on ∙ ap (λ (x : Went). has_failed x.state) (r.stopped o) ∙ o));
    }
  where
    more : Took (length (some_text r.draws d)) was.state was went → Took (length (some_text draw_lot e)) went.state went next
        → Took (length (some_text (r.draws + draw_lot) d)) was.state was next
    more (inr k) x = write_failed went.state on k
    more (inl (k, a)) (inr x) = inr x
    more (inl (k, a)) (inl (j, b)) =
        let l = ap (λ (x : DrawRun). length (some_text draw_lot x)) r.state in
        inl (j ∙ k, omega (arith, a, b, l, text_more r.draws draw_lot d))

-- the end: a write failed, or no draw is to be made any more
pub out_of_draws : (d e : DrawRun) (was went : Went) → Drawing d e was went
    → (has_failed went.state ≡ true) ⊎ ((has_failed went.state ≡ false) × DrawnOut e) → Concluded (some_text d.left d) was went
out_of_draws d e was went r why = go (has_failed was.state) refl
  where
    last : has_failed was.state ≡ false → Took (length (some_text r.draws d)) was.state was went
        → (has_failed went.state ≡ true) ⊎ ((has_failed went.state ≡ false) × DrawnOut e) → Took (length (some_text d.left d)) was.state was went
    last o (inr k) x = inr k
    last o (inl (k, a)) (inl f) = absurd (false≢true (sym o ∙ ap has_failed (sym k) ∙ f))
    last o (inl (k, a)) (inr (_, h)) =
        let l = ap length (all_drawn r.draws d (subst (λ (x : DrawRun). DrawnOut x) r.state h)) in
        inl (k, omega (arith, a, l))

    go : (b : Bool) → has_failed was.state ≡ b → Concluded (some_text d.left d) was went
    go true f = inl (f, r.stopped f)
    go false f = inr (f, last f r.taken why)
