-- A number above 255 is out of range wherever it stands, so a command that has one is refused as one of op 0 is: by 4, after 1 and before all
-- else. The idea: no kind of command has a number above 31 in a or b. Assumes nothing.
use Prim.Native.Nat.{ℕ, ◌<◌}
use native.Mathlib.Omega.{arith}
use mathlib.Core.Path.{◌≡◌, refl, sym, ap, ◌∙◌}
use mathlib.Core.Bool.{Bool, true, false, cond, ◌&&◌, true≢false, and-false}
use mathlib.Core.List.{List}
use lib.Dec.{eqb, leb}
use lib.ListN.{length, replicate, get_or-eq_default}
use borrow.Author.Tests.{ne_eqb, lt-leb, leb-false}
use Rattle.rules.specs.Line.{within}
use Rattle.rules.specs.Machine.{Command, running}
use Rattle.rules.specs.declared.Kind.{Kind}
use Rattle.rules.specs.declared.Kind.TheVariants.{NoKind, Creating, Declaring, Starting, Delaying, Waking, Advancing, Opening, Entering, Ending}
use Rattle.rules.specs.Kinds.{kinds, kind}
use Rattle.rules.specs.Refusals.{Operand, never, unused, task, object, priority, ceiling, barrier, time, ticks, fits, operands, refusal}
use Rattle.rules.specs.Refusals as rules
use Rattle.rules.specs.Run.{released, question}
use Rattle.rules.specs.Run as R
use Rattle.rules_exceptions.specs.Exceptions.{State, next, answer}
use Rattle.kernel.specs.declared.Kernel.{Kernel}
use Rattle.kernel.specs.declared.Left.{Left}
use Rattle.kernel.specs.Public.{left_of}
use Rattle.kernel_state.specs.declared.State as whole
use Rattle.kernel_state.specs.Public.{step_of}
use Rattle.generator.specs.declared.Profile.{Profile}
use Rattle.generator.specs.declared.Drawn.{Drawn}
use Rattle.generator_draws.specs.Draw.{good_profile, draw_refusal, drawn_by, drawn, drawn_evenly}
use Rattle.generator.specs.Public.{profile_of, drawn_in, drawn_of}
use Rattle.generator_evenly.specs.declared.Drawn as counted
use Rattle.generator_evenly.specs.Public as evenly
use Rattle.image_form.specs.Layout.{kernel_of}
use Rattle.image_calls.specs.Calls.{told, fitted, fitted_task, told_profile, fitted_profile, draw_on, draw_even_on}

-- what stands in a byte: every operand but a time and ticks
abbrev in_a_byte : Operand → Bool
in_a_byte never = true
in_a_byte unused = true
in_a_byte task = true
in_a_byte object = true
in_a_byte priority = true
in_a_byte ceiling = true
in_a_byte barrier = true
in_a_byte time = false
in_a_byte ticks = false

module _ (n : ℕ) (h : 255 < n) where
  up_to : (lo hi : ℕ) → hi < 256 → within lo hi n ≡ false
  up_to lo hi k = rw (lt-leb n hi (omega arith)) (and-false (leb lo n))

  too_wide : (x : Operand) → in_a_byte x ≡ true → fits x n ≡ false
  too_wide never e = refl
  too_wide unused e = ne_eqb n 0 (λ z. omega arith)
  too_wide task e = up_to 1 31 (omega arith)
  too_wide object e = up_to 1 7 (omega arith)
  too_wide priority e = up_to 1 15 (omega arith)
  too_wide ceiling e = up_to 1 15 (omega arith)
  too_wide barrier e = lt-leb n 1 (omega arith)
  too_wide time e = absurd (true≢false (sym e))
  too_wide ticks e = absurd (true≢false (sym e))

  -- of every kind a and b are such
  wide_a : (k : Kind) → fits (operands k).a n ≡ false
  wide_a NoKind = refl
  wide_a Creating = too_wide task refl
  wide_a Declaring = too_wide object refl
  wide_a Starting = too_wide unused refl
  wide_a Delaying = too_wide unused refl
  wide_a Waking = too_wide unused refl
  wide_a Advancing = too_wide unused refl
  wide_a Opening = too_wide object refl
  wide_a Entering = too_wide object refl
  wide_a (Ending e) = too_wide object refl

  wide_b : (k : Kind) → fits (operands k).b n ≡ false
  wide_b NoKind = refl
  wide_b Creating = too_wide priority refl
  wide_b Declaring = too_wide ceiling refl
  wide_b Starting = too_wide unused refl
  wide_b Delaying = too_wide unused refl
  wide_b Waking = too_wide unused refl
  wide_b Advancing = too_wide unused refl
  wide_b Opening = too_wide unused refl
  wide_b Entering = too_wide barrier refl
  wide_b (Ending e) = go e.serves
    where
      go : (x : Bool) → fits (cond x barrier unused) n ≡ false
      go true = too_wide barrier refl
      go false = too_wide unused refl

-- The command has a number above 255, so it is not formed.
unformed : (c : Command) → leb c.op 255 && leb c.a 255 && leb c.b 255 ≡ false → rules.formed c ≡ false
unformed c = go (leb c.op 255) refl (leb c.a 255) refl (leb c.b 255) refl
  where
    go : (x : Bool) → leb c.op 255 ≡ x → (y : Bool) → leb c.a 255 ≡ y → (z : Bool) → leb c.b 255 ≡ z → x && y && z ≡ false → rules.formed c ≡ false
    go false e y f z g q = let w : 255 < c.op = leb-false c.op 255 e in rw (get_or-eq_default kinds NoKind {n = c.op} (omega arith))
    go true e false f z g q = rw (wide_a c.a (leb-false c.a 255 f) (kind c))
    go true e true f false g q = rw (wide_b c.b (leb-false c.b 255 g) (kind c), and-false (fits (operands (kind c)).a c.a))
    go true e true f true g q = absurd (true≢false q)

-- Two commands that are not formed are answered alike, by 4.
module _ (s : State) (c : Command) (h : rules.formed c ≡ false) where
  by_4 : refusal s.machine c ≡ 4
  unfolding refusal
  by_4 = rw h

  moves_none : R.next s.machine c ≡ s.machine
  unfolding R.next
  moves_none = rw by_4

  stays : next s c ≡ s
  unfolding next
  stays = rw by_4

  answers_4 : answer s c ≡ record { code = 4; running = running s.machine; released = 0; exception = false }
  unfolding answer released
  answers_4 = rw (moves_none, by_4)

alike : (k : whole.State) (c d : Command) → rules.formed c ≡ false → rules.formed d ≡ false → step_of k c ≡ step_of k d
unfolding step_of
alike k c d h j = rw (stays _ c h, stays _ d j, answers_4 _ c h, answers_4 _ d j)

-- The step of what fits is the step of the command itself.
pub fitted_step : (k : whole.State) (c : Command) → step_of k (fitted c) ≡ step_of k c
fitted_step k c = go (leb c.op 255 && leb c.a 255 && leb c.b 255) refl
  where
    go : (b : Bool) → leb c.op 255 && leb c.a 255 && leb c.b 255 ≡ b → step_of k (cond b c (told 0 0 0 0)) ≡ step_of k c
    go true e = refl
    go false e = alike k (told 0 0 0 0) c refl (unformed c e)

-- And so of the question.
out_of_range : (k : Kernel) (t : ℕ) → 255 < t → left_of k 0 ≡ left_of k t
unfolding left_of question
out_of_range k t h = rw (up_to t h 1 31 (omega arith))

fitted_left : (k : Kernel) (t : ℕ) → left_of k (fitted_task t) ≡ left_of k t
fitted_left k t = go (leb t 255) refl
  where
    go : (b : Bool) → leb t 255 ≡ b → left_of k (cond b t 0) ≡ left_of k t
    go true e = refl
    go false e = out_of_range k t (leb-false t 255 e)

pub asked_left : {r : Left} {k : Kernel} {u : ℕ} (j : Kernel) (t : ℕ) → r ≡ left_of k u → k ≡ j → u ≡ fitted_task t → r ≡ left_of j t
asked_left {u = u} j t e p q = e ∙ ap (λ (i : Kernel). left_of i u) p ∙ ap (λ (v : ℕ). left_of j v) q ∙ fitted_left j t

-- And so of a draw, of either edition: profiles that are not good are refused alike, by 18, after 1 and 17.
abbrev RefusedAlike : {A : Type 0} → (Profile → A) → Type 0
RefusedAlike draw = (p q : Profile) → good_profile (profile_of p) ≡ false → good_profile (profile_of q) ≡ false → draw p ≡ draw q

not_good : (k : Kernel) (seed : ℕ) → RefusedAlike (drawn_of k seed)
unfolding drawn_of drawn_in drawn drawn_by draw_refusal
not_good k seed p q h j = go (eqb seed 0) refl
  where
    go : (b : Bool) → eqb seed 0 ≡ b → drawn_of k seed p ≡ drawn_of k seed q
    go true e = rw (h, j, e)
    go false e = rw (h, j, e)

not_good_evenly : (k : Kernel) (seed : ℕ) → RefusedAlike (evenly.drawn_of k seed)
unfolding evenly.drawn_of drawn_evenly drawn_by draw_refusal
not_good_evenly k seed p q h j = go (eqb seed 0) refl
  where
    go : (b : Bool) → eqb seed 0 ≡ b → evenly.drawn_of k seed p ≡ evenly.drawn_of k seed q
    go true e = rw (h, j, e)
    go false e = rw (h, j, e)

fitted_draw : {A : Type 0} (draw : Profile → A) → RefusedAlike draw → (span : ℕ) (weights : List ℕ)
    → draw (fitted_profile span weights) ≡ draw (told_profile span weights)
fitted_draw draw alike span weights = go (leb span 4294967295) refl (eqb (length weights) 8) refl
  where
    go : (a : Bool) → leb span 4294967295 ≡ a → (b : Bool) → eqb (length weights) 8 ≡ b
        → draw (cond (a && b) (record { span = span; weights = weights }) (record { span = 0; weights = replicate 8 0 }))
        ≡ draw (record { span = cond b span 0; weights = weights })
    go true e true f = refl
    go true e false f = alike _ _ refl refl
    go false e true f = alike _ _ refl (rw (lt-leb span 1000000 (omega (arith, leb-false span 4294967295 e)), and-false))
    go false e false f = alike _ _ refl refl

pub asked_draw : {r : Drawn} {p : Profile} (s : List ℕ) (seed span : ℕ) (weights : List ℕ) → r ≡ draw_on s seed p → p ≡ fitted_profile span weights → r
    ≡ draw_on s seed (told_profile span weights)
unfolding draw_on
asked_draw s seed span weights e q =
    e ∙ ap (draw_on s seed) q ∙ rw (fitted_draw (drawn_of (kernel_of s) seed) (not_good (kernel_of s) seed) span weights)

pub asked_draw_evenly : {r : counted.Drawn} {p : Profile} (s : List ℕ) (seed span : ℕ) (weights : List ℕ) → r ≡ draw_even_on s seed p
    → p ≡ fitted_profile span weights → r ≡ draw_even_on s seed (told_profile span weights)
unfolding draw_even_on
asked_draw_evenly s seed span weights e q =
    e ∙ ap (draw_even_on s seed) q ∙ rw (fitted_draw (evenly.drawn_of (kernel_of s) seed) (not_good_evenly (kernel_of s) seed) span weights)
