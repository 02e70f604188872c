-- What a call answers and leaves, by its exits: bytes of which no state is read, a refusal, an accepted step. Bytes whose state is not sound
-- go through the kernel, which refuses with 1. Assumes nothing.
use mathlib.Core.Path.{◌≡◌, refl, sym, ap, ◌∙◌}
use mathlib.Core.List.{List}
use mathlib.Core.Bool.{Bool, true, false, cond, ◌&&◌}
use Prim.Native.Nat.{ℕ, ◌+◌, ◌*◌}
use lib.ListN.{length, get_or}
use native.Mathlib.Omega.{arith}
use lib.Dec.{eqb}
use borrow.Author.Tests.{eq-eqb, eqb-true, eqb-false}
use Rattle.rules.specs.Machine.{Command}
use Rattle.rules.specs.Kinds.{kind}
use Rattle.rules.proofs.Tests.{both_true}
use Rattle.rules_exceptions.specs.Exceptions.{whose_of, pending_sound}
use Rattle.kernel.specs.declared.Kernel.{Kernel}
use Rattle.kernel.specs.declared.Stepped.{Stepped}
use Rattle.kernel.specs.declared.command.Answer.{Answer}
use Rattle.kernel.specs.Public.{is_sound, report, shape, to_rules, step_of, left_of}
use Rattle.kernel_ready.specs.Ready.{runner_in}
use Rattle.kernel_state.specs.declared.State as whole-state
use Rattle.kernel_state.specs.declared.Stepped as whole-stepped
use Rattle.kernel_state.specs.declared.Settled.{Settled}
use Rattle.kernel_state.specs.Settle.{settled}
use Rattle.kernel_state.specs.Public as whole
use Rattle.kernel_state.proofs.Steps.{together, settles, left_sound}
use Rattle.generator.specs.declared.Profile.{Profile}
use Rattle.generator.specs.declared.Drawn.{Drawn}
use Rattle.generator.specs.declared.Carried.{Carried}
use Rattle.generator.specs.Public.{drawn_of, refused_of, behind_draw, answer_to, carried_of}
use Rattle.generator_evenly.specs.declared.Drawn as counted
use Rattle.generator_evenly.specs.Public.{bare}
use Rattle.generator_evenly.specs.Public as evenly
use Rattle.image_form.specs.Layout.{image_of, kernel_of, pending_of, state_of, clean, formed, is_image, readable}
use Rattle.image_form.proofs.Parts.{part_at}
use Rattle.image_form.proofs.Asked.{asked}
use Rattle.image_layout.specs.Settled.{settled_in}
use Rattle.image_calls.specs.Calls.{fitted, packed, packed_left, step_answer, step_image, left_answer}
use Rattle.image_calls.specs.Calls.{told_profile, fitted_profile, draw_on, packed_drawn, draw_answer, draw_seed, draw_value, draw_step_answer, draw_step_image}
use Rattle.image_calls.specs.Calls.{value_left, draw_even_on, packed_even, draw_even_answer, draw_even_seed, draw_even_value}
use Rattle.image_calls.proofs.Cut.{fitted_step, asked_draw}
use Rattle.image_calls.proofs.Theorems.{left_alone, left_alone_evenly}
use Rattle.image_edge.specs.Edge.{shown, told_in, image_left, seed_left, packed_both}
use Rattle.image_work.specs.declared.Done.{Done}
use Rattle.image_work.specs.Tables.{step_read, drawn_read, done_read, image_read}

-- Bytes of which no state is read are no image; of others the tables decide.
unread : (s : List ℕ) → readable s ≡ false → is_image s ≡ false
unread s h = asked s ∙ rw h

image_sound : (s : List ℕ) → readable s ≡ true → is_image s ≡ is_sound (kernel_of s)
image_sound s h = asked s ∙ rw h

-- Such bytes are 512, and the exceptions pending in them are sound.
read_parts : (s : List ℕ) → readable s ≡ true → (length s ≡ 512) × (pending_sound (kernel_of s).started (kernel_of s).base (pending_of s) ≡ true)
unfolding formed readable
read_parts s h =
    let w = both_true (formed s) (pending_sound (kernel_of s).started (kernel_of s).base (pending_of s)) h in
    (eqb-true (length s) 512 (both_true (eqb (length s) 512) (clean s) w.0).0, w.1)

-- A state that is not sound is refused with 1.
unsound : (k : Kernel) (c : Command) → is_sound k ≡ false → step_of k c ≡ report k shape
unfolding step_of
unsound k c e = rw e

unsound_left : (k : Kernel) (t : ℕ) → is_sound k ≡ false → left_of k t ≡ record { code = 1; left = 0 }
unfolding left_of
unsound_left k t e = rw e

unsound_draw : (k : Kernel) (seed : ℕ) (p : Profile) → is_sound k ≡ false → drawn_of k seed p ≡ refused_of 1 seed
unfolding drawn_of
unsound_draw k seed p e = rw e

-- Such a refusal shows nothing, and so is the number 1.
told_1 : (s : List ℕ) (k : Kernel) (c : Command) → told_in s c (report k shape).answer ≡ 1
unfolding settled_in
told_1 s k c = go (eqb (length s) 512)
  where
    go : (b : Bool) → packed (shown (report k shape).answer
        (cond b (settled (pending_of s) (whose_of (kind c)) (get_or s 64 0) (report k shape).answer) (record { pending = 0; exception = false })).exception) ≡ 1
    go true = refl
    go false = refl

-- Where a state is read, the kernel's step with what it does to the exceptions pending in the bytes is the step of the whole state.
module _ (s : List ℕ) (c : Command) (h : readable s ≡ true) where
  abbrev behind : Stepped
  behind = step_of (kernel_of s) c

  settles_so : settled_in s c behind.answer ≡ settled (pending_of s) (whose_of (kind c)) (runner_in (kernel_of s).ready) behind.answer
  unfolding settled_in runner_in kernel_of
  settles_so = rw (eq-eqb (length s) 512 (read_parts s h).0, part_at 32 64 s 0 (omega arith))

  steps_so : together (kernel_of s) (pending_of s) c ≡ whole.step_of (state_of s) c
  steps_so = settles (kernel_of s) (pending_of s) c (read_parts s h).1

  answers_so : told_in s c behind.answer ≡ packed (whole.step_of (state_of s) c).answer
  answers_so = ap (λ (z : Settled). packed (shown behind.answer z.exception)) settles_so ∙ ap (λ (r : whole-stepped.Stepped). packed r.answer) steps_so

  leaves_so : whole.both behind.next (settled_in s c behind.answer).pending ≡ (whole.step_of (state_of s) c).next
  leaves_so = ap (λ (z : Settled). whole.both behind.next z.pending) settles_so ∙ ap (λ (r : whole-stepped.Stepped). r.next) steps_so

  code_so : behind.answer.code ≡ (whole.step_of (state_of s) c).answer.code
  code_so = ap (λ (r : whole-stepped.Stepped). r.answer.code) steps_so

-- The kernel's step of what is read, sound or not, is what the call answers and leaves.
module _ (s : List ℕ) (k : Kernel) (c : Command) where
  step_answered : told_in s c (step_read s k c).answer ≡ step_answer s c
  unfolding step_answer
  step_answered = go (readable s) refl (is_sound (kernel_of s)) refl
    where
      go : (f : Bool) → readable s ≡ f → (b : Bool) → is_sound (kernel_of s) ≡ b
          → told_in s c (step_read s k c).answer ≡ cond (is_image s) (packed (whole.step_of (state_of s) c).answer) 1
      go false h b e = rw (h, unread s h) (told_1 s k c)
      go true h true e = rw (h, image_sound s h, e) (answers_so s c h)
      go true h false e = rw (h, image_sound s h, e, unsound (kernel_of s) c e) (told_1 s (kernel_of s) c)

  step_left : image_left s (step_read s k c).next c (step_read s k c).answer ≡ step_image s c
  unfolding step_image
  step_left = go (readable s) refl (is_sound (kernel_of s)) refl
    where
      go : (f : Bool) → readable s ≡ f → (b : Bool) → is_sound (kernel_of s) ≡ b
          → let r = whole.step_of (state_of s) c in image_left s (step_read s k c).next c (step_read s k c).answer
          ≡ cond (is_image s && eqb r.answer.code 0) (image_of r.next) s
      go false h b e = rw (h, unread s h)
      go true h true e =
          rw (h, image_sound s h, e, eq-eqb (length s) 512 (read_parts s h).0)
          (ap (λ (t : whole-state.State). cond (eqb (step_of (kernel_of s) c).answer.code 0) (image_of t) s) (leaves_so s c h)
          ∙ ap (λ (n : ℕ). cond (eqb n 0) (image_of (whole.step_of (state_of s) c).next) s) (code_so s c h))
      go true h false e = rw (h, image_sound s h, e, unsound (kernel_of s) c e)

-- the step of a command that fits is the step of the command itself
module _ {d : Command} (s : List ℕ) (c : Command) (fits : d ≡ fitted c) where
  pub asked_answer : step_answer s d ≡ step_answer s c
  unfolding step_answer
  asked_answer = ap (step_answer s) fits ∙ ap (λ (r : whole-stepped.Stepped). cond (is_image s) (packed r.answer) 1) (fitted_step (state_of s) c)

  pub asked_image : step_image s d ≡ step_image s c
  unfolding step_image
  asked_image =
      ap (step_image s) fits
      ∙ ap (λ (r : whole-stepped.Stepped). cond (is_image s && eqb r.answer.code 0) (image_of r.next) s) (fitted_step (state_of s) c)

-- tables and answers that are the same
same_left : {t u : Kernel} {a b : Answer} (s : List ℕ) (c : Command) → t ≡ u → a ≡ b → image_left s t c a ≡ image_left s u c b
same_left {t = t} {b = b} s c e f = ap (image_left s t c) f ∙ ap (λ (j : Kernel). image_left s j c b) e

pub same_carried : {d e : Drawn} {a b : Answer} → d ≡ e → a ≡ b → carried_of d a ≡ carried_of e b
same_carried p q = cc

-- The tables t and the answer a that the step of a command leaves: in one number, and laid out.
pub step_ends : {t : Kernel} {a : Answer} (s : List ℕ) (k : Kernel) (c : Command) → t ≡ (step_read s k c).next → a ≡ (step_read s k c).answer
    → (told_in s c a ≡ step_answer s c) × (image_left s t c a ≡ step_image s c)
step_ends s k c left replied = (ap (told_in s c) replied ∙ step_answered s k c, same_left s c left replied ∙ step_left s k c)

-- The question.
module _ (s : List ℕ) (t : ℕ) where
  pub none_left : readable s ≡ false → 1 ≡ left_answer s t
  unfolding left_answer
  none_left h = rw (unread s h)

  pub answered_left : readable s ≡ true → packed_left (left_of (kernel_of s) t) ≡ left_answer s t
  unfolding left_answer
  answered_left h = rw (image_sound s h) (go (is_sound (kernel_of s)) refl)
    where
      go : (b : Bool) → is_sound (kernel_of s) ≡ b → packed_left (left_of (kernel_of s) t) ≡ cond b (packed_left (whole.left_of (state_of s) t)) 1
      go true e = ap packed_left (left_sound (kernel_of s) (pending_of s) t (read_parts s h).1)
      go false e = rw (unsound_left (kernel_of s) t e)

-- The draw.
module _ (s : List ℕ) (seed : ℕ) (p : Profile) where
  pub none_draw : readable s ≡ false → refused_of 1 seed ≡ draw_on s seed p
  unfolding draw_on
  none_draw h = rw (unread s h)

  pub answered_draw : readable s ≡ true → drawn_of (kernel_of s) seed p ≡ draw_on s seed p
  unfolding draw_on
  answered_draw h = rw (image_sound s h) (go (is_sound (kernel_of s)) refl)
    where
      go : (b : Bool) → is_sound (kernel_of s) ≡ b → drawn_of (kernel_of s) seed p ≡ cond b (drawn_of (kernel_of s) seed p) (refused_of 1 seed)
      go true e = refl
      go false e = unsound_draw (kernel_of s) seed p e

-- What the call answers, and the seed and the value that it leaves.
module _ (s : List ℕ) (seed span : ℕ) (weights : List ℕ) (value : ℕ) {d : Drawn} (drawing : d ≡ draw_on s seed (told_profile span weights)) where
  abbrev found : Drawn
  found = draw_on s seed (told_profile span weights)

  seed_so : seed_left d seed ≡ draw_seed s seed span weights
  unfolding draw_seed
  seed_so = ap (λ (y : Drawn). seed_left y seed) drawing ∙ go (eqb found.code 0) refl
    where
      go : (b : Bool) → eqb found.code 0 ≡ b → cond b found.seed seed ≡ found.seed
      go true q = refl
      go false q = sym (ap (λ (y : Drawn). y.seed) (left_alone s seed (told_profile span weights) (eqb-false found.code 0 q)))

  value_so : value_left d value ≡ draw_value s seed span weights value
  unfolding draw_value
  value_so = ap (λ (y : Drawn). value_left y value) drawing

  pub draw_ends : {r x v : ℕ} → r ≡ packed_drawn d → x ≡ seed_left d seed → v ≡ value_left d value
      → (r ≡ draw_answer s seed span weights) × (x ≡ draw_seed s seed span weights) × (v ≡ draw_value s seed span weights value)
  unfolding draw_answer
  draw_ends p e f = (p ∙ ap packed_drawn drawing, e ∙ seed_so, f ∙ value_so)

-- The draw by even choices.
unsound_draw_evenly : (k : Kernel) (seed : ℕ) (p : Profile) → is_sound k ≡ false → evenly.drawn_of k seed p ≡ evenly.refused_of 1 seed
unfolding evenly.drawn_of
unsound_draw_evenly k seed p e = rw e

module _ (s : List ℕ) (seed : ℕ) (p : Profile) where
  pub none_draw_evenly : readable s ≡ false → evenly.refused_of 1 seed ≡ draw_even_on s seed p
  unfolding draw_even_on
  none_draw_evenly h = rw (unread s h)

  pub answered_draw_evenly : readable s ≡ true → evenly.drawn_of (kernel_of s) seed p ≡ draw_even_on s seed p
  unfolding draw_even_on
  answered_draw_evenly h = rw (image_sound s h) (go (is_sound (kernel_of s)) refl)
    where
      go : (b : Bool) → is_sound (kernel_of s) ≡ b → evenly.drawn_of (kernel_of s) seed p ≡ cond b (evenly.drawn_of (kernel_of s) seed p) (evenly.refused_of 1 seed)
      go true e = refl
      go false e = unsound_draw_evenly (kernel_of s) seed p e

-- What the call answers, of what is drawn (d) and that without its count (b), and the seed and the value that it leaves.
module _ (s : List ℕ) (seed span : ℕ) (weights : List ℕ) (value : ℕ) {d : counted.Drawn} {b : Drawn}
    (drawing : d ≡ draw_even_on s seed (told_profile span weights)) (without : b ≡ bare d) where
  abbrev found_evenly : counted.Drawn
  found_evenly = draw_even_on s seed (told_profile span weights)

  bared : b ≡ bare found_evenly
  bared = without ∙ ap bare drawing

  seed_so_evenly : seed_left b seed ≡ draw_even_seed s seed span weights
  unfolding draw_even_seed
  seed_so_evenly = ap (λ (y : Drawn). seed_left y seed) bared ∙ go (eqb found_evenly.code 0) refl
    where
      go : (z : Bool) → eqb found_evenly.code 0 ≡ z → cond z found_evenly.seed seed ≡ found_evenly.seed
      go true q = refl
      go false q = sym (left_alone_evenly s seed (told_profile span weights) (eqb-false found_evenly.code 0 q))

  value_so_evenly : value_left b value ≡ draw_even_value s seed span weights value
  unfolding draw_even_value
  value_so_evenly = ap (λ (y : Drawn). value_left y value) bared

  pub draw_even_ends : {r x v : ℕ} → r ≡ packed_even d → x ≡ seed_left b seed → v ≡ value_left b value
      → (r ≡ draw_even_answer s seed span weights) × (x ≡ draw_even_seed s seed span weights) × (v ≡ draw_even_value s seed span weights value)
  unfolding draw_even_answer
  draw_even_ends p e f = (p ∙ ap packed_even drawing, e ∙ seed_so_evenly, f ∙ value_so_evenly)

-- A draw with its step of what is read: what is drawn is the draw's, what is left is the step's of that command, and so is the answer.
pub drawn_so : (s : List ℕ) (seed : ℕ) (p : Profile) → (drawn_read s seed p).drawn ≡ draw_on s seed p
drawn_so s seed p = go (readable s) refl
  where
    go : (b : Bool) → readable s ≡ b → (drawn_read s seed p).drawn ≡ draw_on s seed p
    go true h = rw h (answered_draw s seed p h)
    go false h = rw h (none_draw s seed p h)

-- What is drawn and answered, r, goes out as q does that is the same.
module _ {r q : Carried} (s : List ℕ) (same : r ≡ q) where
  pub done_so : {n : ℕ} → n ≡ told_in s (to_rules r.drawn.command) r.answer
      → ◌≡◌ {A = Done} (record { drawn = r.drawn; told = n }) (record { drawn = q.drawn; told = told_in s (to_rules q.drawn.command) q.answer })
  done_so e = made (ap (λ (c : Carried). c.drawn) same) (e ∙ ap (λ (c : Carried). told_in s (to_rules c.drawn.command) c.answer) same)
    where
      made : {d e : Drawn} {m n : ℕ} → d ≡ e → m ≡ n → ◌≡◌ {A = Done} (record { drawn = d; told = m }) (record { drawn = e; told = n })
      made p q = cc

  pub kept_so : {t u : Kernel} → t ≡ u
      → image_left s t (to_rules r.drawn.command) r.answer ≡ image_left s u (to_rules q.drawn.command) q.answer
  kept_so {t = t} e =
      ap (λ (c : Carried). image_left s t (to_rules c.drawn.command) c.answer) same
      ∙ ap (λ (j : Kernel). image_left s j (to_rules q.drawn.command) q.answer) e

-- where the state is read, and a command is drawn
module _ (s : List ℕ) (seed : ℕ) (p : Profile) (h : readable s ≡ true) where
  abbrev drawn_there : Drawn
  drawn_there = drawn_of (kernel_of s) seed p

  left_there : (b : Bool) → eqb drawn_there.code 0 ≡ b
      → image_left s (behind_draw (kernel_of s) drawn_there) (to_rules drawn_there.command) (answer_to (kernel_of s) drawn_there)
      ≡ cond (eqb drawn_there.code 0) (step_image s (to_rules drawn_there.command)) s
  left_there true e = rw e (rw h at (step_left s (kernel_of s) (to_rules drawn_there.command)))
  left_there false e = rw (e, e)

  answer_there : drawn_there.code ≡ 0
      → told_in s (to_rules drawn_there.command) (answer_to (kernel_of s) drawn_there) ≡ step_answer s (to_rules drawn_there.command)
  answer_there e = rw (eq-eqb drawn_there.code 0 e) (rw h at (step_answered s (kernel_of s) (to_rules drawn_there.command)))

left_so : (s : List ℕ) (k : Kernel) (seed : ℕ) (p : Profile)
    → let d = draw_on s seed p in image_read s k seed p ≡ cond (eqb d.code 0) (step_image s (to_rules d.command)) s
left_so s k seed p = go (readable s) refl
  where
    go : (b : Bool) → readable s ≡ b
        → let d = draw_on s seed p in image_read s k seed p ≡ cond (eqb d.code 0) (step_image s (to_rules d.command)) s
    go true h = rw (h, ← answered_draw s seed p h) (left_there s seed p h (eqb (drawn_of (kernel_of s) seed p).code 0) refl)
    go false h = rw (h, ← none_draw s seed p h)

said_so : (s : List ℕ) (seed : ℕ) (p : Profile) → let d = draw_on s seed p in d.code ≡ 0 → (done_read s seed p).told ≡ step_answer s (to_rules d.command)
said_so s seed p = go (readable s) refl
  where
    go : (b : Bool) → readable s ≡ b → (draw_on s seed p).code ≡ 0 → (done_read s seed p).told ≡ step_answer s (to_rules (draw_on s seed p).command)
    go true h e = rw (h, ← answered_draw s seed p h) (answer_there s seed p h (ap (λ (d : Drawn). d.code) (answered_draw s seed p h) ∙ e))
    go false h e = let z : ◌≡◌ {A = ℕ} 1 0 = ap (λ (d : Drawn). d.code) (none_draw s seed p h) ∙ e in absurd (omega arith)

told_so : (s : List ℕ) (seed : ℕ) (p : Profile) → let d = draw_on s seed p in
    cond (eqb d.code 0) (done_read s seed p).told 0 ≡ cond (eqb d.code 0) (step_answer s (to_rules d.command)) 0
told_so s seed p = go (eqb (draw_on s seed p).code 0) refl
  where
    go : (b : Bool) → eqb (draw_on s seed p).code 0 ≡ b → cond b (done_read s seed p).told 0 ≡ cond b (step_answer s (to_rules (draw_on s seed p).command)) 0
    go true q = said_so s seed p (eqb-true (draw_on s seed p).code 0 q)
    go false q = refl

-- What the call answers, and the image, the seed and the value that it leaves.
module _ (s : List ℕ) (k : Kernel) (seed span : ℕ) (weights : List ℕ) (value : ℕ) {p : Profile} {r : Done} {t : List ℕ}
    (fits : p ≡ fitted_profile span weights) (done : r ≡ done_read s seed p) (left : t ≡ image_read s k seed p) where
  same_draw : draw_on s seed p ≡ draw_on s seed (told_profile span weights)
  same_draw = asked_draw s seed span weights refl fits

  drawing : r.drawn ≡ draw_on s seed (told_profile span weights)
  drawing = ap (λ (c : Done). c.drawn) done ∙ drawn_so s seed p ∙ same_draw

  image_so : t ≡ draw_step_image s seed span weights
  unfolding draw_step_image
  image_so = left ∙ left_so s k seed p ∙ ap (λ (d : Drawn). cond (eqb d.code 0) (step_image s (to_rules d.command)) s) same_draw

  both_so : packed_both r.drawn r.told ≡ draw_step_answer s seed span weights
  unfolding draw_step_answer
  both_so =
      ap (λ (c : Done). packed_both c.drawn c.told) done
      ∙ ap (λ (d : Drawn). packed_both d (done_read s seed p).told) (drawn_so s seed p)
      ∙ ap (λ (n : ℕ). packed_drawn (draw_on s seed p) + 4294967296 * n) (told_so s seed p)
      ∙ ap (λ (d : Drawn). packed_drawn d + 4294967296 * cond (eqb d.code 0) (step_answer s (to_rules d.command)) 0) same_draw

  pub draw_step_ends : {n x v : ℕ} → n ≡ packed_both r.drawn r.told → x ≡ seed_left r.drawn seed → v ≡ value_left r.drawn value
      → (n ≡ draw_step_answer s seed span weights) × (t ≡ draw_step_image s seed span weights)
      × (x ≡ draw_seed s seed span weights) × (v ≡ draw_value s seed span weights value)
  draw_step_ends e f g =
      let w = draw_ends s seed span weights value drawing refl f g in (e ∙ both_so, image_so, w.1, w.2)
