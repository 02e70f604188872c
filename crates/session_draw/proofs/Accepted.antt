-- No line that draw draws is refused: behind a first line that is accepted and an accepted start, each has code 0. The idea: set-up lines leave a sound
-- state, a start that is accepted starts it, and from a sound started state the generator's draws go on for ever. Assumes nothing.
use Prim.Native.Nat.{ℕ, zero, suc}
use native.Mathlib.Omega.{arith}
use mathlib.Core.Bool.{Bool, true, false, cond}
use mathlib.Core.Path.{◌≡◌, refl}
use mathlib.Core.List.{List, [], ◌∷◌, map}
use borrow.Author.Tests.{eqb-true, eqb-false}
use lib.Dec.{eqb}
use Rattle.rules.specs.Machine.{Command, fresh}
use Rattle.rules.specs.Refusals.{refusal}
use Rattle.rules.specs.Table.{carry}
use Rattle.rules.specs.Run.{next, answer}
use Rattle.rules.proofs.Step.{fresh_sound}
use Rattle.rules.proofs.Tests.{both_true}
use Rattle.rules.proofs.Words.{All}
use Rattle.rules.specs.Line.{joined}
use Rattle.kernel.specs.declared.Kernel.{Kernel}
use Rattle.kernel.specs.View.{view, encode}
use Rattle.kernel.specs.Public.{is_sound, step_of, stepped}
use Rattle.kernel.proofs.Written.{encode_sound, step_sound}
use Rattle.generator.specs.declared.Profile.{Profile}
use Rattle.generator.specs.Public.{drawn_of, draws_of}
use Rattle.generator.proofs.Shipped.{Going, draws_go_on}
use Rattle.text.specs.declared.Spoken.{Spoken}
use Rattle.text.specs.declared.Row.{Row}
use Rattle.text.specs.Commands.{command_of}
use Rattle.text.specs.FirstLine.{first_line_of}
use Rattle.text.specs.Printed.{draw_line}
use Rattle.session.specs.CarriedOut.{following, asked, state_behind, answer_to, row_for, state_after}
use Rattle.session_stage.specs.Stage.{starts, profile_of}
use Rattle.session_draw.specs.Draw.{spoken, draws_text}
use Rattle.session_draw.proofs.Profiles.{accepted_first_line}

-- ---- the rows of the draws

unfoldable pub drawn_rows : ℕ → Kernel → ℕ → ℕ → Profile → List Row
drawn_rows zero k n seed p = []
drawn_rows (suc left) k n seed p =
    row_for k (following n) (spoken (drawn_of k seed p))
    ∷ drawn_rows left (state_behind k (spoken (drawn_of k seed p))) (following n) (drawn_of k seed p).seed p

-- they are what is printed
pub rows_printed : (left : ℕ) (k : Kernel) (n seed : ℕ) (p : Profile) → draws_text left k n seed p ≡ joined (map draw_line (drawn_rows left k n seed p))
unfolding draws_text drawn_rows
rows_printed zero k n seed p = refl
rows_printed (suc left) k n seed p = rw (rows_printed left (state_behind k (spoken (drawn_of k seed p))) (following n) (drawn_of k seed p).seed p)

-- where each draw is accepted, and its step too, each row has code 0
abbrev GoesOn : Kernel → ℕ → Profile → Type 0
GoesOn k seed p =
    (i : ℕ) → let e = draws_of i k seed p in ((drawn_of e.0 e.1 p).code ≡ 0) × ((stepped e.0 (drawn_of e.0 e.1 p).command).answer.code ≡ 0)

rows_accepted : (left : ℕ) (k : Kernel) (n seed : ℕ) (p : Profile) → GoesOn k seed p → All (λ (r : Row). r.code ≡ 0) (drawn_rows left k n seed p)
unfolding drawn_rows draws_of state_behind answer_to
rows_accepted zero k n seed p h = tt
rows_accepted (suc left) k n seed p h =
    let e : (drawn_of k seed p).code ≡ 0 = (h 0).0 in
    (rw e (h 0).1, rw e (rows_accepted left (stepped k (drawn_of k seed p).command).next (following n) (drawn_of k seed p).seed p (λ i. h (suc i))))

-- ---- the state behind set-up lines

behind_sound : (k : Kernel) (s : Spoken) → is_sound k ≡ true → is_sound (state_behind k s) ≡ true
unfolding state_behind
behind_sound k s h = go (eqb s.code 0)
  where
    go : (b : Bool) → is_sound (cond b (step_of k (asked s)).next k) ≡ true
    go true = step_sound k (asked s) h
    go false = h

pub after_sound : (ls : List (List ℕ)) (k : Kernel) → is_sound k ≡ true → is_sound (state_after k ls) ≡ true
unfolding state_after
after_sound [] k h = h
after_sound (l ∷ ls) k h = after_sound ls (state_behind k (command_of l)) (behind_sound k (command_of l) h)

step_starts : (k : Kernel) (c : Command) → is_sound k ≡ true → c.op ≡ 3 → (step_of k c).answer.code ≡ 0 → (step_of k c).next.started ≡ true
unfolding step_of next answer carry encode
step_starts k c h o e = let r : refusal (view k) c ≡ 0 = rw h at e in rw (h, r, o)

start_starts : (k : Kernel) (n : ℕ) (s : Spoken) → is_sound k ≡ true → starts (row_for k n s) ≡ true → (state_behind k s).started ≡ true
unfolding state_behind answer_to
start_starts k n s h e = go (eqb s.code 0) refl
  where
    tests : (eqb s.op 3 ≡ true) × (eqb (answer_to k s).code 0 ≡ true)
    tests = both_true (eqb s.op 3) (eqb (answer_to k s).code 0) e

    go : (b : Bool) → eqb s.code 0 ≡ b → (cond b (step_of k (asked s)).next k).started ≡ true
    go true t = step_starts k (asked s) h (eqb-true s.op 3 tests.0) (rw t at (eqb-true (answer_to k s).code 0 tests.1))
    go false t = absurd (eqb-false s.code 0 t (rw t at (eqb-true (answer_to k s).code 0 tests.1)))

-- Behind a first line that is accepted and any set-up lines, the last of them an accepted start, every line that is drawn has code 0: the draw is not
-- refused, nor is the command that it draws. (Rules out a run of draws that dies in its middle, of any length and any profile that is taken.)
pub no_draw_refused : (l : List ℕ) (before : List (List ℕ)) (last : List ℕ) (n : ℕ) → (first_line_of l).code ≡ 0
    → let k = state_after (encode fresh) before in starts (row_for k n (command_of last)) ≡ true
    → All (λ (r : Row). r.code ≡ 0)
    (drawn_rows (first_line_of l).count (state_behind k (command_of last)) n (first_line_of l).seed (profile_of (first_line_of l)))
no_draw_refused l before last n e st =
    let k = state_after (encode fresh) before in
    let f = first_line_of l in
    let t = accepted_first_line l e in
    let h = after_sound before (encode fresh) (encode_sound fresh fresh_sound) in
    let g : Going (state_behind k (command_of last)) f.seed =
    record {
      sound = behind_sound k (command_of last) h;
      on = start_starts k n (command_of last) h st;
      small = omega (arith, t.most);
      alive = λ z. omega (arith, t.least, z);
    }
    in
    rows_accepted f.count (state_behind k (command_of last)) n f.seed (profile_of f)
    (λ i. draws_go_on i (state_behind k (command_of last)) f.seed (profile_of f) g t.profile)
