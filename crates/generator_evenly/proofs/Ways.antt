-- The two ways of a draw by even choices, and of one with its step, as the proofs of the code take them: what is told of one state, whatever its tables are.
-- Assumes nothing.
use Prim.Native.Nat.{ℕ}
use mathlib.Core.Path.{◌≡◌, refl, sym, ap, ◌∙◌}
use mathlib.Core.Logic.{◌≢◌}
use Rattle.kernel.specs.declared.Kernel.{Kernel}
use Rattle.kernel.specs.declared.Stepped.{Stepped}
use Rattle.kernel.specs.declared.command.Answer.{Answer}
use Rattle.kernel.specs.Public.{to_rules, running_of}
use Rattle.kernel.specs.Step.{stepped_of}
use Rattle.kernel.proofs.Whole.{step_meets}
use Rattle.generator.specs.declared.Profile.{Profile}
use Rattle.generator_evenly.specs.declared.Drawn.{Drawn}
use Rattle.generator_draws.specs.Below.{even}
use Rattle.generator_draws.specs.Draw.{made_by}
use Rattle.generator_draws.specs.Menu.{menu}
use Rattle.kernel.specs.View.{view}
use Rattle.generator.specs.Public.{profile_of, code_of, behind_draw, unmoved, answer_to}
use Rattle.generator.proofs.Shipped.{refused_stays, made_steps}
use Rattle.generator_menu.specs.declared.Made.{Made}
use Rattle.generator_menu.specs.Public.{told_made, evenly_of}
use Rattle.generator_evenly.specs.Public.{made_of, refused_of, drawn_of, bare, carried_of, DrawsAndSteps}
use Rattle.generator_evenly.proofs.Shipped.{code_same, code_is, refused_leaves, drawn_made, made_sound}

-- What the menu makes looks at the machine that the tables show, and at no more.
made_read : (k : Kernel) (seed : ℕ) (p : Profile)
    → evenly_of k.base k.ready k.held k.way k.ceiling k.waiter k.clock p.span p.weights seed
    ≡ told_made (made_by even (view k) seed (profile_of p))
unfolding view evenly_of made_by menu
made_read k seed p = refl

module _ (k : Kernel) (seed : ℕ) (p : Profile) where
  -- A draw with a code is refused, and leaves the seed; any other is made.
  pub refuses : (code : ℕ) (r : Drawn) → code ≡ code_of k seed p → code ≢ 0 → r ≡ refused_of code seed → r ≡ drawn_of k seed p
  refuses code r e n f =
      let g = e ∙ sym (code_is k seed p) in
      f ∙ ap (λ (x : ℕ). refused_of x seed) g ∙ sym (refused_leaves k seed p (λ z. n (g ∙ z)))

  pub makes : (code : ℕ) (d : Made) (r : Drawn) → code ≡ code_of k seed p → code ≡ 0
      → d ≡ evenly_of k.base k.ready k.held k.way k.ceiling k.waiter k.clock p.span p.weights seed → r ≡ made_of d
      → r ≡ drawn_of k seed p
  makes code d r e z g f = f ∙ ap made_of (g ∙ made_read k seed p) ∙ sym (drawn_made k seed p (code_is k seed p ∙ sym e ∙ z))

  -- what is drawn, and an answer to it, as the definitions have them
  whole : (x : Drawn) (a : Answer) → x ≡ drawn_of k seed p → a ≡ answer_to k (bare x)
      → carried_of x a ≡ carried_of (drawn_of k seed p) (answer_to k (bare (drawn_of k seed p)))
  whole x a e f = ap (carried_of x) f ∙ ap (λ (y : Drawn). carried_of y (answer_to k (bare y))) e

  -- A refused draw leaves the tables. A draw that is made comes from a sound state, and the step of such a state needs no test (kernel, Whole: step-meets).
  pub stays : (x : Drawn) (a : Answer) → x ≡ drawn_of k seed p → x.code ≢ 0 → a ≡ unmoved x.code (running_of k) → DrawsAndSteps k seed p (carried_of x a) k
  stays x a d n e =
      let r = refused_stays k (bare x) n in
      (r.0 ∙ ap (λ (y : Drawn). behind_draw k (bare y)) d, whole x a d (e ∙ r.1))

  pub steps : (x : Drawn) (a : Answer) (left : Kernel) → x ≡ drawn_of k seed p → x.code ≡ 0
      → (left ≡ (stepped_of k (to_rules x.command)).next) × (a ≡ (stepped_of k (to_rules x.command)).answer) → DrawsAndSteps k seed p (carried_of x a) left
  steps x a left d z s =
      let m = step_meets k (to_rules x.command) (made_sound k seed p (sym (code_same d) ∙ z)) in
      let r = made_steps k (bare x) z in (
        s.0 ∙ ap (λ (t : Stepped). t.next) m ∙ r.0 ∙ ap (λ (y : Drawn). behind_draw k (bare y)) d,
        whole x a d (s.1 ∙ ap (λ (t : Stepped). t.answer) m ∙ r.1),
      )
