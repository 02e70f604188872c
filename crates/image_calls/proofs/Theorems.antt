-- What is promised of images, each in plain words and then in antt. Beside each: which wrong programs it rules out, and which it leaves to
-- another. `image_of` and `is_image` are in specs/Layout, the calls in specs/Calls; crates/image/src says that the calls are these. Assumes nothing.
use Prim.Native.Nat.{ℕ, zero, suc, ◌+◌, ◌*◌, ◌/◌, ◌%◌, ◌≤◌, ◌<◌, ◌^◌}
use native.Mathlib.Omega.{arith}
use native.Mathlib.Nat.{add-zero}
use mathlib.Core.Path.{◌≡◌, refl, sym, ap, ◌∙◌, subst}
use mathlib.Core.Logic.{◌≢◌}
use mathlib.Core.Bool.{Bool, true, false, cond, not, ◌&&◌, true≢false}
use mathlib.Core.List.{List, [], ◌∷◌}
use lib.ListN.{length, replicate}
use lib.Dec.{eqb}
use borrow.Author.Tests.{eq-eqb, ne_eqb, eqb-true, eqb-false}
use Rattle.rules.specs.Line.{one_if}
use Rattle.rules.specs.Table.{carry, leave, release}
use Rattle.rules.specs.Run as R
use Rattle.rules.specs.Machine.{Machine, Command}
use Rattle.rules.specs.Refusals.{first_number, refusal}
use Rattle.rules.proofs.Words.{All}
use Rattle.rules.proofs.Lists.{all_set}
use Rattle.rules.proofs.Tests.{both_true}
use Rattle.rules.proofs.Sounds.{tests_sound}
use Rattle.rules.proofs.Walk.{set_up}
use Rattle.rules.proofs.Script.{create, object, start, delay, wake, advance, open', failp}
use Rattle.rules_exceptions.specs.Exceptions.{State, next, answer, run, fresh, sound}
use Rattle.rules_exceptions.specs.Exceptions as told-by
use Rattle.rules_exceptions.proofs.Kept.{tests_state, run_sound, fresh_sound}
use Rattle.rules_exceptions.proofs.Theorems.{runs_alike, step_keeps_sound}
use Rattle.kernel.specs.declared.Kernel.{Kernel}
use Rattle.kernel.specs.View.{times}
use Rattle.kernel.specs.View as K
use Rattle.kernel.specs.Public as P
use Rattle.kernel.proofs.Round as round
use Rattle.kernel.proofs.Written.{stands}
use Rattle.kernel.proofs.Written as tables
use Rattle.kernel_state.specs.declared.State as whole
use Rattle.kernel_state.specs.Public.{encode, is_sound, answer_of, step_of}
use Rattle.generator.specs.declared.Profile.{Profile}
use Rattle.generator.specs.declared.Drawn.{Drawn}
use Rattle.generator_draws.specs.Below.{even}
use Rattle.generator_draws.specs.Draw as draws
use Rattle.generator_draws.specs.Draw.{good_profile, drawn, drawn_evenly}
use Rattle.generator.specs.Public.{profile_of, told_drawn, refused_of, drawn_in, drawn_of}
use Rattle.generator_draws.proofs.Chooses.{even_chooses}
use Rattle.generator_draws.proofs.Chooses as draws-in-turn
use Rattle.generator_draws.proofs.Theorems.{Fine, drawn_is_fine, drawn_by_is_fine}
use Rattle.generator_draws.proofs.Rows.{drawn_rows}
use Rattle.generator.proofs.Shipped.{code_in_order, drawn_accepted, refused_leaves, draws_39}
use Rattle.generator_evenly.specs.declared.Drawn as counted
use Rattle.generator_evenly.specs.Public.{bare}
use Rattle.generator_evenly.specs.Public as evenly
use Rattle.generator_evenly.proofs.Shipped as evenly-shipped
use Rattle.image_form.specs.Layout.{spare, image_of, part, kernel_of, state_of, clean, formed, is_image}
use Rattle.image_calls.specs.Calls.{told, packed, step_answer, step_image, fresh_answer, fresh_image}
use Rattle.image_calls.specs.Calls.{told_profile, draw_on, packed_drawn, draw_answer, draw_seed, draw_value, draw_step_answer, draw_step_image}
use Rattle.image_calls.specs.Calls.{draw_even_on, packed_even, draw_even_answer, draw_even_seed, draw_even_value}
use Rattle.image_form.proofs.RoundTrip.{Bytes, image_back, image_formed, bytes_are}
use Rattle.kernel_state.proofs.Written.{tables_sound, pending_few, encode_sound, step_on, step_sound, refused_keeps, same_code}
use Rattle.image_calls.proofs.Whole.{answer_small}

-- A sound state's times are numbers of 64 bits.
all_zero : (n : ℕ) → All (λ x. x < 2 ^ 64) (replicate n 0)
all_zero zero = tt
all_zero (suc n) = (omega arith, all_zero n)

times_small : (l : List (ℕ × ℕ)) → All (λ e. e.0 < 2 ^ 64) l → All (λ x. x < 2 ^ 64) (times l)
times_small [] a = all_zero 32
times_small (e ∷ l) a = all_set (λ x. x < 2 ^ 64) (times l) e.1 e.0 a.0 (times_small l a.1)

until_small : (k : Kernel) → P.is_sound k ≡ true → All (λ x. x < 2 ^ 64) k.until
unfolding K.encode
until_small k e =
    let w = stands k e in
    subst (λ (j : Kernel). All (λ x. x < 2 ^ 64) j.until) w.written (times_small (K.view k).delay w.machine.in_time.times_fit)

clock_small : (k : Kernel) → P.is_sound k ≡ true → k.clock < 2 ^ 64
unfolding K.view
clock_small k e = (stands k e).machine.in_time.clock_fits

-- ## Every sound state has an image, which reads back as that state
-- Rules out: two fields in one place, a field left out or cut, the pending exceptions too, another byte order in reading than in writing, an image of
-- another length. Leaves: bytes that no state writes, and that are taken all the same (one-image).
pub reads_back : (k : whole.State) → is_sound k ≡ true → (is_image (image_of k) ≡ true) × (state_of (image_of k) ≡ k)
unfolding is_image
reads_back k e =
    let s = tables_sound k e in
    let z = (stands k.kernel s).neat.sizes in
    let back = (image_back k z (clock_small k.kernel s) (until_small k.kernel s) (pending_few k e)).0 in
    (rw (image_formed k z (clock_small k.kernel s) (until_small k.kernel s) (pending_few k e), back, e), back)

-- ## One image for each state: bytes that are an image are the image of the state that they hold
-- So two images of one state are the same bytes. Rules out: a spare byte that is not looked at, a started byte of 2, a 513th byte.
pub one_image : (s : List ℕ) → Bytes s → is_image s ≡ true → image_of (state_of s) ≡ s
unfolding is_image formed
one_image s small e =
    let w = both_true (formed s) (is_sound (state_of s)) e in
    let v = both_true (eqb (length s) 512) (clean s) w.0 in
    bytes_are s (eqb-true (length s) 512 v.0) small v.1

pub same_bytes : (s t : List ℕ) → Bytes s → Bytes t → is_image s ≡ true → is_image t ≡ true → state_of s ≡ state_of t → s ≡ t
same_bytes s t b c d e q = sym (one_image s b d) ∙ (ap image_of q ∙ one_image t c e)

-- ## Stepping the image is stepping the state
-- The answer is the state's, packed, and the bytes afterwards are the image of the state after the step: of an accepted command and of a
-- refused one, for any four numbers, however large. Rules out: a refusal that writes, an accepted step that does not, an operand that is cut.
-- Leaves: what the step is (crates/kernel_state, crates/rules_exceptions).
pub steps_state : (k : whole.State) (c : Command) → is_sound k ≡ true
    → (step_answer (image_of k) c ≡ packed (step_of k c).answer) × (step_image (image_of k) c ≡ image_of (step_of k c).next)
unfolding step_answer step_image
steps_state k c e =
    let w = reads_back k e in
    (rw (w.0, w.1), rw (w.0, w.1) (go (eqb (step_of k c).answer.code 0) refl))
  where
    go : (b : Bool) → eqb (step_of k c).answer.code 0 ≡ b → cond b (image_of (step_of k c).next) (image_of k) ≡ image_of (step_of k c).next
    go true q = refl
    go false q = ap image_of (sym (refused_keeps k c (λ z. true≢false (sym (eq-eqb _ 0 z) ∙ q))).0)

-- The same in the words of document 01's machine with its pending exceptions: the image of a sound one is stepped to the image of the one after the command,
-- and the answer is the rules', in one number.
abbrev pub answered : told-by.Answer → ℕ
answered a = packed (answer_of a.code a.running a.released a.exception)

pub steps_machine : (m : State) (c : Command) → sound m ≡ true
    → (step_answer (image_of (encode m)) c ≡ answered (answer m c)) × (step_image (image_of (encode m)) c ≡ image_of (encode (next m c)))
steps_machine m c e =
    let w = steps_state (encode m) c (encode_sound m e) in
    let q = step_on m e c in
    (w.0 ∙ ap (λ r. packed r.answer) q, w.1 ∙ ap (λ r. image_of r.next) q)

-- what an image says of its state, and of the tables
image_sound : (s : List ℕ) → is_image s ≡ true → is_sound (state_of s) ≡ true
unfolding is_image
image_sound s e = (both_true (formed s) (is_sound (state_of s)) e).1

tables_of : (s : List ℕ) → is_image s ≡ true → P.is_sound (kernel_of s) ≡ true
tables_of s e = tables_sound (state_of s) (image_sound s e)

-- ## An image stays an image, and so over any calls
pub stays_image : (s : List ℕ) (c : Command) → is_image s ≡ true → is_image (step_image s c) ≡ true
unfolding step_image
stays_image s c e = go (is_image s && eqb (step_of (state_of s) c).answer.code 0)
  where
    state : is_sound (state_of s) ≡ true
    state = image_sound s e

    go : (b : Bool) → is_image (cond b (image_of (step_of (state_of s) c).next) s) ≡ true
    go true = (reads_back (step_of (state_of s) c).next (step_sound (state_of s) c state)).0
    go false = e

-- ## The number unpacked: code, running, released and the exception are read off it again
-- Rules out: a packing in which two answers meet. (Bytes that are no image are answered 1: 1, 0, 0, and no exception.)
apart : (code running released x : ℕ) → code < 14 → running < 32 → released < 32
    → let n = code + 256 * running + 65536 * released + 16777216 * x in
    (n % 256 ≡ code) × (n / 256 % 256 ≡ running) × (n / 65536 % 256 ≡ released) × (n / 16777216 ≡ x)
apart c u v x h i j = (omega arith, omega arith, omega arith, omega arith)

pub unpacked : (s : List ℕ) (c : Command) → is_image s ≡ true
    → let n = step_answer s c in let a = (step_of (state_of s) c).answer in
    (n % 256 ≡ a.code) × (n / 256 % 256 ≡ a.running.0) × (n / 65536 % 256 ≡ a.released.0) × (n / 16777216 ≡ one_if a.exception)
unfolding step_answer
unpacked s c e =
    let a = (step_of (state_of s) c).answer in
    let w = answer_small (state_of s) c (image_sound s e) in
    rw e (apart a.code a.running.0 a.released.0 (one_if a.exception) w.0 w.1 w.2)

-- ## A refusal shows no exception: bit 24 is 0, and so is every bit above it
-- Rules out: a refusal that shows the runner's. Leaves: which accepted answers show one (crates/rules_exceptions: shown-exactly).
pub refusal_shows_none : (s : List ℕ) (c : Command) → step_answer s c % 256 ≢ 0 → step_answer s c < 16777216
unfolding step_answer
refusal_shows_none s c = go (is_image s) refl
  where
    go : (b : Bool) → is_image s ≡ b → let n = cond b (packed (step_of (state_of s) c).answer) 1 in n % 256 ≢ 0 → n < 16777216
    go true e n =
        let a = (step_of (state_of s) c).answer in
        let k = image_sound s e in
        let w = answer_small (state_of s) c k in
        let u = apart a.code a.running.0 a.released.0 (one_if a.exception) w.0 w.1 w.2 in
        let none : one_if a.exception ≡ 0 = ap one_if (refused_keeps (state_of s) c (λ z. n (u.0 ∙ z))).1 in
        omega (arith, none, w.0, w.1, w.2)
    go false e n = omega arith

-- ## An exception that waits, and is shown: by computing
-- 24 holds object 1 when 21, above it, wakes; it ends its body by an exception, and so 21 runs. The answer (256 * 21) shows none; bit 24 stands in the image,
-- in byte 195. When 21 sleeps again 24 runs: that answer (16777216 + 256 * 24) shows it, and it is pending no more.
-- Rules out: bytes of the number turned round, in writing and in reading alike; a bit of the next task.
abbrev until_woken : List Command
until_woken = create 21 3 ∷ create 24 1 ∷ object 1 12 ∷ start ∷ delay 90 ∷ open' 1 ∷ advance 90 ∷ wake ∷ []

pub shown_there : let s = image_of (encode (run fresh until_woken)) in let t = step_image s (failp 1 1) in
    (step_answer s (failp 1 1) ≡ 5376) × (part 32 192 t ≡ 0 ∷ 0 ∷ 0 ∷ 1 ∷ replicate 28 0)
    × (step_answer t (delay 300) ≡ 16783360) × (part 32 192 (step_image t (delay 300)) ≡ spare)
unfolding image_of encode K.encode answer next run R.next R.released refusal carry leave release
shown_there =
    let m = run fresh until_woken in
    let e = (tests_state m).found (run_sound until_woken fresh fresh_sound) in
    let w = steps_machine m (failp 1 1) e in
    let v = steps_machine (next m (failp 1 1)) (delay 300) (step_keeps_sound m (failp 1 1) e) in (
      w.0,
      ap (part 32 192) w.1,
      ap (λ (s : List ℕ). step_answer s (delay 300)) w.1 ∙ v.0,
      ap (λ (s : List ℕ). part 32 192 (step_image s (delay 300))) w.1 ∙ ap (part 32 192) v.1,
    )

-- ## The fresh machine's image, whatever the 512 bytes held
pub fresh_reads : (s : List ℕ) → length s ≡ 512 → (fresh_answer s ≡ 0) × (is_image (fresh_image s) ≡ true) × (state_of (fresh_image s) ≡ encode fresh)
unfolding fresh_answer fresh_image
fresh_reads s l =
    let w = reads_back (encode fresh) (encode_sound fresh ((tests_state fresh).found fresh_sound)) in
    rw (eq-eqb (length s) 512 l) (refl, w.0, w.1)

-- ## Drawing over an image is drawing over its tables, and so over document 01's machine
-- Rules out: a draw that looks at another state, or at what is pending; a profile that is cut or turned round. Leaves: what a draw is (crates/generator).
pub draws_state : (k : whole.State) (seed : ℕ) (p : Profile) → is_sound k ≡ true → draw_on (image_of k) seed p ≡ drawn_of k.kernel seed p
unfolding draw_on
draws_state k seed p e = let w = reads_back k e in rw (w.0, ap (λ (j : whole.State). j.kernel) w.1)

pub draws_machine : (m : State) (seed : ℕ) (p : Profile) → sound m ≡ true
    → draw_on (image_of (encode m)) seed p ≡ told_drawn (drawn m.machine seed (profile_of p))
unfolding drawn_of drawn_in encode
draws_machine m seed p e =
    let s = ((tests_state m).sure e).machine in
    draws_state (encode m) seed p (encode_sound m e) ∙ rw (tables.encode_sound m.machine s, round.view_encode m.machine s)

-- an accepted draw is over an image, and is the generator's
of_image : (s : List ℕ) (seed : ℕ) (p : Profile) → (draw_on s seed p).code ≡ 0 → (is_image s ≡ true) × (draw_on s seed p ≡ drawn_of (kernel_of s) seed p)
unfolding draw_on
of_image s seed p = go (is_image s) refl
  where
    go : (b : Bool) → is_image s ≡ b → (cond b (drawn_of (kernel_of s) seed p) (refused_of 1 seed)).code ≡ 0
        → (is_image s ≡ true) × (cond b (drawn_of (kernel_of s) seed p) (refused_of 1 seed) ≡ drawn_of (kernel_of s) seed p)
    go true q e = (q, refl)
    go false q e = let z : ◌≡◌ {A = ℕ} 1 0 = e in absurd (omega arith)

-- A refused draw is its code and the seed that came in.
pub left_alone : (s : List ℕ) (seed : ℕ) (p : Profile) → (draw_on s seed p).code ≢ 0 → draw_on s seed p ≡ refused_of (draw_on s seed p).code seed
unfolding draw_on
left_alone s seed p = go (is_image s)
  where
    go : (b : Bool) → let d = cond b (drawn_of (kernel_of s) seed p) (refused_of 1 seed) in d.code ≢ 0 → d ≡ refused_of d.code seed
    go true n = refused_leaves (kernel_of s) seed p n
    go false n = refl

-- what is drawn, of either edition, has an op, an object and a barrier that fit a byte
fine_small : (m : Machine) (p : draws.Profile) (c : Command) → Fine m p c → (c.op < 256) × (c.a < 256) × (c.b < 256)
fine_small m p c f = (omega (arith, f.op.1), omega (arith, f.fits.0), omega (arith, f.fits.1))

drawn_small : (k : Kernel) (seed : ℕ) (p : Profile) → P.is_sound k ≡ true → (drawn_of k seed p).code ≡ 0
    → let c = (drawn_of k seed p).command in (c.op < 256) × (c.a < 256) × (c.b < 256)
unfolding drawn_of drawn_in
drawn_small k seed p s =
    rw s (λ e. fine_small _ _ _ (drawn_is_fine (K.view k) seed (profile_of p) ((tests_sound (K.view k)).found (stands k s).machine) e))

-- codes are bytes
first_small : (a b c d : Bool) → first_number ((a, 1) ∷ (b, 17) ∷ (c, 18) ∷ (d, 2) ∷ []) < 256
first_small true b c d = omega arith
first_small false true c d = omega arith
first_small false false true d = omega arith
first_small false false false true = omega arith
first_small false false false false = omega arith

code_small : (s : List ℕ) (seed : ℕ) (p : Profile) → (draw_on s seed p).code < 256
unfolding draw_on
code_small s seed p = go (is_image s)
  where
    go : (b : Bool) → (cond b (drawn_of (kernel_of s) seed p) (refused_of 1 seed)).code < 256
    go true =
        let k = kernel_of s in
        rw (code_in_order k seed p) (first_small (not (P.is_sound k)) (eqb seed 0) (not (good_profile (profile_of p))) (not k.started))
    go false = omega arith

-- The answer unpacked, of operands that are bytes.
pub unpacked_draw : (d : Drawn) → d.code < 256 → d.command.op < 256 → d.command.a < 256
    → (packed_drawn d % 256 ≡ d.code) × (packed_drawn d / 256 % 256 ≡ d.command.op) × (packed_drawn d / 65536 % 256 ≡ d.command.a)
    × (packed_drawn d / 16777216 ≡ d.command.b)
unpacked_draw d c o a = (omega arith, omega arith, omega arith, omega arith)

-- ## A drawn command is accepted by the step of the same image
-- Where the draw's code is 0, the step's code is 0 for the op, a and b that its answer holds and the value that it left: whatever the bytes,
-- the seed, the span and the weights. Rules out: operands packed in each other's place, a value that is not stored or is cut.
-- Leaves: a draw that always says wake, or that is always refused (crates/generator).
module _ (s : List ℕ) (seed span : ℕ) (weights : List ℕ) (value : ℕ) where
  abbrev found : Drawn
  found = draw_on s seed (told_profile span weights)

  code_of : draw_answer s seed span weights % 256 ≡ found.code
  unfolding draw_answer
  code_of = let small = code_small s seed (told_profile span weights) in omega arith

  -- where the draw is accepted: its parts are bytes, and are read off the answer
  accepted_so : draw_answer s seed span weights % 256 ≡ 0 → found.code ≡ 0
  accepted_so e = sym code_of ∙ e

  bytes_of : draw_answer s seed span weights % 256 ≡ 0 → let c = found.command in (c.op < 256) × (c.a < 256) × (c.b < 256)
  bytes_of e =
      let p = told_profile span weights in
      let q = of_image s seed p (accepted_so e) in
      let made : (drawn_of (kernel_of s) seed p).code ≡ 0 = rw (← q.1) (accepted_so e) in
      rw q.1 (drawn_small (kernel_of s) seed p (tables_of s q.0) made)

  parts_of : draw_answer s seed span weights % 256 ≡ 0
      → let r = packed_drawn found in let c = found.command in (found.code ≡ 0) × (r / 256 % 256 ≡ c.op) × (r / 65536 % 256 ≡ c.a) × (r / 16777216 ≡ c.b)
  parts_of e =
      let small = bytes_of e in
      let u = unpacked_draw found (code_small s seed (told_profile span weights)) small.0 small.1 in
      (accepted_so e, u.1, u.2, u.3)

  pub drawn_steps : draw_answer s seed span weights % 256 ≡ 0
      → let r = draw_answer s seed span weights in
      step_answer s (told (r / 256 % 256) (r / 65536 % 256) (r / 16777216) (draw_value s seed span weights value)) % 256 ≡ 0
  unfolding draw_answer draw_value step_answer
  drawn_steps e =
      let p = told_profile span weights in
      let w = parts_of e in
      let q = of_image s seed p w.0 in
      let accepted = same_code (state_of s) _ (image_sound s q.0) ∙ drawn_accepted (kernel_of s) seed p (rw (← q.1) w.0) in
      rw (w.1, w.2, w.3, eq-eqb found.code 0 w.0, q.0, q.1) (omega (arith, accepted))

  -- ## A refused draw changes nothing: its answer is the code alone, and the seed and the value are as they were
  pub draw_refused : draw_answer s seed span weights % 256 ≢ 0
      → (draw_answer s seed span weights < 256) × (draw_seed s seed span weights ≡ seed) × (draw_value s seed span weights value ≡ value)
  unfolding draw_answer draw_seed draw_value
  draw_refused n =
      let p = told_profile span weights in
      let small = code_small s seed p in
      let other : found.code ≢ 0 = λ e. n (code_of ∙ e) in
      let q = left_alone s seed p other in
      (omega (arith, small, ap packed_drawn q), ap (λ (d : Drawn). d.seed) q, rw (ne_eqb found.code 0 other))

  -- ## A draw with its step is the draw, and then the step of what it drew
  -- Its answer is the draw's + 4294967296 * that of the step for the op, a and b that the draw's answer holds and the value that it left, and the
  -- image afterwards is that step's. A refused one answers as the draw does, and leaves the image. (The seed and the value are the draw's by contract.)
  -- Rules out: another command stepped than is told, an image that is not the step's, a refusal that steps. Leaves: what a draw and a step are.
  pub draw_step_is : draw_answer s seed span weights % 256 ≡ 0
      → let r = draw_answer s seed span weights in let c = told (r / 256 % 256) (r / 65536 % 256) (r / 16777216) (draw_value s seed span weights value) in
      (draw_step_answer s seed span weights ≡ r + 4294967296 * step_answer s c) × (draw_step_image s seed span weights ≡ step_image s c)
  unfolding draw_answer draw_value draw_step_answer draw_step_image
  draw_step_is e = let w = parts_of e in rw (w.1, w.2, w.3, eq-eqb found.code 0 w.0) (refl, refl)

  -- The answer taken apart: its low 32 bits are the draw's answer, the rest is the step's.
  whole_draw : draw_answer s seed span weights % 256 ≡ 0 → draw_answer s seed span weights < 4294967296
  unfolding draw_answer
  whole_draw e = let small = bytes_of e in omega (arith, accepted_so e, small.0, small.1, small.2)

  pub draw_step_apart : draw_answer s seed span weights % 256 ≡ 0
      → let r = draw_answer s seed span weights in let c = told (r / 256 % 256) (r / 65536 % 256) (r / 16777216) (draw_value s seed span weights value) in
      let n = draw_step_answer s seed span weights in (n % 4294967296 ≡ r) × (n / 4294967296 ≡ step_answer s c)
  draw_step_apart e =
      let w = draw_step_is e in let small = whole_draw e in (omega (arith, w.0, small), omega (arith, w.0, small))

  pub draw_step_refused : draw_answer s seed span weights % 256 ≢ 0
      → (draw_step_answer s seed span weights ≡ draw_answer s seed span weights) × (draw_step_image s seed span weights ≡ s)
  unfolding draw_answer draw_step_answer draw_step_image
  draw_step_refused n =
      let other : found.code ≢ 0 = λ e. n (code_of ∙ e) in rw (ne_eqb found.code 0 other) (add-zero (packed_drawn found), refl)

-- ## Document 01's draw
-- the state behind its five set-up lines
abbrev pub worked : State
worked = run fresh set_up

worked_sound : sound worked ≡ true
worked_sound = (tests_state worked).found (run_sound set_up fresh fresh_sound)

-- `seed 1 span 100 weights 10 10 10 10 10 10 10 10` on the image behind its five set-up lines: op 4 (1024 is 256 * 4), the time 39, the third draw as the
-- seed.
pub draws_39_there : let s = image_of (encode worked) in let w : List ℕ = 10 ∷ 10 ∷ 10 ∷ 10 ∷ 10 ∷ 10 ∷ 10 ∷ 10 ∷ [] in
    (draw_answer s 1 100 w ≡ 1024) × (draw_seed s 1 100 w ≡ 2647435461) × (draw_value s 1 100 w 0 ≡ 39)
unfolding draw_answer draw_seed draw_value encode
draws_39_there =
    let q = draws_state (encode worked) 1 (told_profile 100 (10 ∷ 10 ∷ 10 ∷ 10 ∷ 10 ∷ 10 ∷ 10 ∷ 10 ∷ [])) (encode_sound worked worked_sound)
    ∙ (ap (λ (m : Machine). drawn_of (K.encode m) 1 (told_profile 100 (10 ∷ 10 ∷ 10 ∷ 10 ∷ 10 ∷ 10 ∷ 10 ∷ 10 ∷ []))) (runs_alike set_up fresh) ∙ draws_39) in
    (ap packed_drawn q, ap (λ (d : Drawn). d.seed) q, ap (λ (d : Drawn). cond (eqb d.code 0) d.command.value 0) q)

-- ## A draw by even choices (edition 2) is so over the image, its state and document 01's machine
pub draws_state_evenly : (k : whole.State) (seed : ℕ) (p : Profile) → is_sound k ≡ true
    → draw_even_on (image_of k) seed p ≡ evenly.drawn_of k.kernel seed p
unfolding draw_even_on
draws_state_evenly k seed p e = let w = reads_back k e in rw (w.0, ap (λ (j : whole.State). j.kernel) w.1)

pub draws_machine_evenly : (m : State) (seed : ℕ) (p : Profile) → sound m ≡ true
    → draw_even_on (image_of (encode m)) seed p ≡ evenly.told_drawn (drawn_evenly m.machine seed (profile_of p))
unfolding evenly.drawn_of encode
draws_machine_evenly m seed p e =
    let s = ((tests_state m).sure e).machine in
    draws_state_evenly (encode m) seed p (encode_sound m e) ∙ rw (tables.encode_sound m.machine s, round.view_encode m.machine s)

-- The two ways of such a draw: refused, it is its code and the seed that came in; made, it is over an image, and the generator's.
data EvenWay (s : List ℕ) (seed : ℕ) (p : Profile) : Type 0 where
  refused : (code : ℕ) → code ≢ 0 → code < 256 → draw_even_on s seed p ≡ evenly.refused_of code seed → EvenWay s seed p
  made : is_image s ≡ true → (evenly.drawn_of (kernel_of s) seed p).code ≡ 0 → draw_even_on s seed p ≡ evenly.drawn_of (kernel_of s) seed p → EvenWay s seed p

even_way : (s : List ℕ) (seed : ℕ) (p : Profile) → EvenWay s seed p
unfolding draw_even_on
even_way s seed p = go (is_image s) refl (eqb (evenly.drawn_of (kernel_of s) seed p).code 0) refl
  where
    small : (evenly.drawn_of (kernel_of s) seed p).code < 256
    small =
        let k = kernel_of s in
        rw (evenly-shipped.code_in_order k seed p) (first_small (not (P.is_sound k)) (eqb seed 0) (not (good_profile (profile_of p))) (not k.started))

    go : (b : Bool) → is_image s ≡ b → (z : Bool) → eqb (evenly.drawn_of (kernel_of s) seed p).code 0 ≡ z → EvenWay s seed p
    go false i z e = refused 1 (λ n. omega (arith, n)) (omega arith) (rw i)
    go true i true e = made i (eqb-true _ 0 e) (rw i)
    go true i false e =
        let n = eqb-false _ 0 e in refused (evenly.drawn_of (kernel_of s) seed p).code n small (rw i (evenly-shipped.refused_leaves (kernel_of s) seed p n))

pub left_alone_evenly : (s : List ℕ) (seed : ℕ) (p : Profile) → (draw_even_on s seed p).code ≢ 0 → (draw_even_on s seed p).seed ≡ seed
left_alone_evenly s seed p n = go (even_way s seed p)
  where
    go : EvenWay s seed p → (draw_even_on s seed p).seed ≡ seed
    go (refused code k small q) = ap (λ (d : counted.Drawn). d.seed) q
    go (made i z q) = absurd (n (ap (λ (d : counted.Drawn). d.code) q ∙ z))

drawn_small_evenly : (k : Kernel) (seed : ℕ) (p : Profile) → P.is_sound k ≡ true → (evenly.drawn_of k seed p).code ≡ 0
    → let c = (evenly.drawn_of k seed p).command in (c.op < 256) × (c.a < 256) × (c.b < 256)
unfolding evenly.drawn_of drawn_evenly
drawn_small_evenly k seed p s =
    rw s (λ e. fine_small _ _ _ (drawn_by_is_fine even even_chooses (K.view k) seed (profile_of p) ((tests_sound (K.view k)).found (stands k s).machine) e))

-- Where its code is 0: the low 32 bits of the answer are taken apart as those of rvn_draw's, the rest is the draws that it spent.
module _ (s : List ℕ) (seed span : ℕ) (weights : List ℕ) (value : ℕ) where
  abbrev found_evenly : counted.Drawn
  found_evenly = draw_even_on s seed (told_profile span weights)

  made_evenly : draw_even_answer s seed span weights % 256 ≡ 0
      → (is_image s ≡ true) × (found_evenly ≡ evenly.drawn_of (kernel_of s) seed (told_profile span weights)) × (found_evenly.code ≡ 0)
  unfolding draw_even_answer
  made_evenly e = go (even_way s seed (told_profile span weights))
    where
      go : EvenWay s seed (told_profile span weights)
          → (is_image s ≡ true) × (found_evenly ≡ evenly.drawn_of (kernel_of s) seed (told_profile span weights)) × (found_evenly.code ≡ 0)
      go (refused code n small q) = absurd (n (omega (arith, e, small, ap packed_even q)))
      go (made i z q) = (i, q, ap (λ (d : counted.Drawn). d.code) q ∙ z)

  -- the generator's draw is made, too
  code_there : draw_even_answer s seed span weights % 256 ≡ 0 → (evenly.drawn_of (kernel_of s) seed (told_profile span weights)).code ≡ 0
  code_there e = let w = made_evenly e in ap (λ (d : counted.Drawn). d.code) (sym w.1) ∙ w.2

  bytes_evenly : draw_even_answer s seed span weights % 256 ≡ 0 → let c = found_evenly.command in (c.op < 256) × (c.a < 256) × (c.b < 256)
  bytes_evenly e =
      let w = made_evenly e in
      rw w.1 (drawn_small_evenly (kernel_of s) seed (told_profile span weights) (tables_of s w.0) (code_there e))

  pub draw_even_apart : draw_even_answer s seed span weights % 256 ≡ 0
      → let n = draw_even_answer s seed span weights in (n % 4294967296 ≡ packed_drawn (bare found_evenly)) × (n / 4294967296 ≡ found_evenly.spent)
  unfolding draw_even_answer
  draw_even_apart e =
      let z = (made_evenly e).2 in let small = bytes_evenly e in
      (omega (arith, z, small.0, small.1, small.2), omega (arith, z, small.0, small.1, small.2))

  -- ## What is drawn evenly is accepted by the step of the same image
  -- Rules out and leaves what drawn-steps does.
  pub drawn_evenly_steps : draw_even_answer s seed span weights % 256 ≡ 0
      → let r = draw_even_answer s seed span weights % 4294967296 in
      step_answer s (told (r / 256 % 256) (r / 65536 % 256) (r / 16777216) (draw_even_value s seed span weights value)) % 256 ≡ 0
  unfolding draw_even_value step_answer
  drawn_evenly_steps e =
      let w = made_evenly e in
      let small = bytes_evenly e in
      let u = unpacked_draw (bare found_evenly) (omega (arith, w.2)) small.0 small.1 in
      let accepted = same_code (state_of s) _ (image_sound s w.0)
      ∙ evenly-shipped.drawn_accepted (kernel_of s) seed (told_profile span weights) (code_there e) in
      rw ((draw_even_apart e).0, u.1, u.2, u.3, eq-eqb found_evenly.code 0 w.2, w.0, w.1) (omega (arith, accepted))

  -- ## The draws spent are told truly: the seed left is the draw applied that often, 3 to 24 times
  -- Rules out: a count that is left out, or cut, or that of another draw. Leaves: a seed that stands still where the draw is refused (draw-even-refused).
  pub draw_even_spent : draw_even_answer s seed span weights % 256 ≡ 0
      → let spent = draw_even_answer s seed span weights / 4294967296 in
      (draw_even_seed s seed span weights ≡ draws-in-turn.times spent seed) × (3 ≤ spent) × (spent ≤ 24)
  unfolding draw_even_seed
  draw_even_spent e =
      let q = (made_evenly e).1 in
      let w = evenly-shipped.spent_truly (kernel_of s) seed (told_profile span weights) (code_there e) in
      rw ((draw_even_apart e).1 ∙ ap (λ (d : counted.Drawn). d.spent) q) (ap (λ (d : counted.Drawn). d.seed) q ∙ w.0, w.1, w.2)

  -- ## A refused one changes nothing: its answer is the code alone, no draw spent, and the seed and the value are as they were
  pub draw_even_refused : draw_even_answer s seed span weights % 256 ≢ 0
      → (draw_even_answer s seed span weights < 256) × (draw_even_seed s seed span weights ≡ seed) × (draw_even_value s seed span weights value ≡ value)
  unfolding draw_even_answer draw_even_seed draw_even_value
  draw_even_refused n = go (even_way s seed (told_profile span weights))
    where
      go : EvenWay s seed (told_profile span weights)
          → (packed_even found_evenly < 256) × (found_evenly.seed ≡ seed) × (cond (eqb found_evenly.code 0) found_evenly.command.value value ≡ value)
      go (refused code k small q) = (omega (arith, small, ap packed_even q), ap (λ (d : counted.Drawn). d.seed) q, rw (q, ne_eqb code 0 k))
      go (made i z q) = absurd (n (omega (arith, z, ap packed_even q)))

-- Document 01's draw by even choices: the time is 38, since a number below 101 is chosen from the draw less 1; 3 draws are spent (12884902912 is
-- 4294967296 * 3 + 256 * 4).
pub draws_38_there : let s = image_of (encode worked) in let w : List ℕ = 10 ∷ 10 ∷ 10 ∷ 10 ∷ 10 ∷ 10 ∷ 10 ∷ 10 ∷ [] in
    (draw_even_answer s 1 100 w ≡ 12884902912) × (draw_even_seed s 1 100 w ≡ 2647435461) × (draw_even_value s 1 100 w 0 ≡ 38)
unfolding draw_even_answer draw_even_seed draw_even_value
draws_38_there =
    let p = told_profile 100 (10 ∷ 10 ∷ 10 ∷ 10 ∷ 10 ∷ 10 ∷ 10 ∷ 10 ∷ []) in
    let q = draws_machine_evenly worked 1 p worked_sound
    ∙ (ap (λ (m : Machine). evenly.told_drawn (drawn_evenly m 1 (profile_of p))) (runs_alike set_up fresh) ∙ ap evenly.told_drawn drawn_rows.0) in (
      ap packed_even q,
      ap (λ (d : counted.Drawn). d.seed) q,
      ap (λ (d : counted.Drawn). cond (eqb d.code 0) d.command.value 0) q,
    )
