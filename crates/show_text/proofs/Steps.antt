-- The whole state and the queue beside it, line by line: the state is the kernel's with what is pending, and both are the rules' and the chip's of the
-- commands that the lines say. Assumes nothing.
use mathlib.Core.Bool.{Bool, true, false, cond}
use mathlib.Core.Path.{◌≡◌, refl, sym, ap, ap₂, ◌∙◌}
use mathlib.Core.List.{List, [], ◌∷◌, ◌++◌}
use Prim.Native.Nat.{ℕ}
use lib.Dec.{eqb}
use Rattle.rules.specs.Machine.{Command, Machine}
use Rattle.rules_exceptions.specs.Exceptions.{next, run, sound}
use Rattle.rules_exceptions.specs.Exceptions as X
use Rattle.rules_exceptions.proofs.Theorems.{machine_moves, step_keeps_sound}
use Rattle.kernel.specs.declared.Kernel.{Kernel}
use Rattle.kernel.specs.declared.command.Answer as K
use Rattle.kernel.specs.Public as P
use Rattle.kernel_state.specs.declared.State.{State}
use Rattle.kernel_state.specs.declared.Stepped.{Stepped}
use Rattle.kernel_state.specs.Public.{encode, is_sound, step_of}
use Rattle.kernel_state.proofs.Written.{alike, step_sound, step_on, encode_sound, view_encode}
use Rattle.queue_chip.specs.declared.Queue.{Queue}
use Rattle.queue_chip.specs.Queue.{beside}
use Rattle.queue_chip.specs.Words.{follows}
use Rattle.queue_beside.specs.Beside.{followed}
use Rattle.queue_beside.proofs.Theorems.{is_beside}
use Rattle.text.specs.declared.Spoken.{Spoken}
use Rattle.text.specs.Commands.{command_of}
use Rattle.session.specs.CarriedOut.{asked, row_of}
use Rattle.session.specs.CarriedOut as C
use Rattle.show_text.specs.Show.{answer_to, state_behind, queue_behind, plain, row_for, state_after, queue_after}
use Rattle.show_text.specs.Words.{commands}

-- ---- a line, from a sound state: the tables, the answer and the row are those of the kernel by itself
module _ (s : State) (e : is_sound s ≡ true) (l : Spoken) where
  pub same_tables : (state_behind s l).kernel ≡ C.state_behind s.kernel l
  unfolding state_behind C.state_behind
  same_tables = go (eqb l.code 0)
    where
      go : (b : Bool) → (cond b (step_of s (asked l)).next s).kernel ≡ cond b (P.step_of s.kernel (asked l)).next s.kernel
      go true = ap (λ (r : Stepped). r.next.kernel) (sym (alike s (asked l) e))
      go false = refl

  pub same_answer : plain (answer_to s l) ≡ C.answer_to s.kernel l
  unfolding answer_to C.answer_to
  same_answer = go (eqb l.code 0)
    where
      go : (b : Bool)
          → plain (cond b (step_of s (asked l)).answer (record { code = l.code; running = record { 0 = P.running_of s.kernel }; released = record { 0 = 0 }; exception = false }))
          ≡ cond b (P.step_of s.kernel (asked l)).answer (P.answer_of l.code (P.running_of s.kernel) 0)
      go true = ap (λ (r : Stepped). plain r.answer) (sym (alike s (asked l) e))
      go false = refl

  pub same_row : (n : ℕ) → row_for s n l ≡ C.row_for s.kernel n l
  unfolding row_for
  same_row n = ap₂ (λ (a : K.Answer) (t : ℕ). row_of n l a t) same_answer (ap (λ (k : Kernel). k.clock) same_tables)

  pub still_sound : is_sound (state_behind s l) ≡ true
  unfolding state_behind
  still_sound = go (eqb l.code 0)
    where
      go : (b : Bool) → is_sound (cond b (step_of s (asked l)).next s) ≡ true
      go true = step_sound s (asked l) e
      go false = e

-- ---- lines, from a state that is written down: the rules' run of what they say, and the queue that follows it
module _ (x : X.State) (h : sound x ≡ true) (c : Command) where
  stepped : (step_of (encode x) c).next ≡ encode (next x c)
  stepped = ap (λ (r : Stepped). r.next) (step_on x h c)

  queued : (q : Queue) → followed (encode x) c q ≡ beside x.machine c q
  queued q = is_beside (encode x) c q (encode_sound x h) ∙ ap (λ (y : X.State). beside y.machine c q) (view_encode x h)

pub state_runs : (ls : List (List ℕ)) (x : X.State) → sound x ≡ true → state_after (encode x) ls ≡ encode (run x (commands ls))
unfolding state_after state_behind commands run
state_runs [] x h = refl
state_runs (l ∷ ls) x h = go (eqb (command_of l).code 0) (state_runs ls)
  where
    c : Command
    c = asked (command_of l)

    go : (b : Bool) → ((y : X.State) → sound y ≡ true → state_after (encode y) ls ≡ encode (run y (commands ls)))
        → state_after (cond b (step_of (encode x) c).next (encode x)) ls ≡ encode (run x (cond b (c ∷ []) [] ++ commands ls))
    go true more = ap (λ (s : State). state_after s ls) (stepped x h c) ∙ more (next x c) (step_keeps_sound x c h)
    go false more = more x h

pub queue_runs : (ls : List (List ℕ)) (x : X.State) (q : Queue) → sound x ≡ true → queue_after (encode x) q ls ≡ follows x.machine (commands ls) q
unfolding queue_after state_behind queue_behind commands follows
queue_runs [] x q h = refl
queue_runs (l ∷ ls) x q h = go (eqb (command_of l).code 0) (queue_runs ls)
  where
    c : Command
    c = asked (command_of l)

    go : (b : Bool) → ((y : X.State) (r : Queue) → sound y ≡ true → queue_after (encode y) r ls ≡ follows y.machine (commands ls) r)
        → queue_after (cond b (step_of (encode x) c).next (encode x)) (cond b (followed (encode x) c q) q) ls
        ≡ follows x.machine (cond b (c ∷ []) [] ++ commands ls) q
    go true more =
        rw (stepped x h c, queued x h c q) (more (next x c) (beside x.machine c q) (step_keeps_sound x c h))
        ∙ ap (λ (m : Machine). follows m (commands ls) (beside x.machine c q)) (machine_moves x c)
    go false more = more x q h
