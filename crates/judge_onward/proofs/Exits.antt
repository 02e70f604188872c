-- The ways out of the code that judges the next 16 bytes: each is the definition's case of the tests that led there. Assumes nothing.
use Prim.Native.Nat.{ℕ}
use mathlib.Core.Path.{◌≡◌, refl, sym, ap, ◌∙◌}
use mathlib.Core.Bool.{Bool, true, false}
use mathlib.Core.Logic.{◌≢◌}
use mathlib.Core.List.{List}
use borrow.Author.Tests.{eq-eqb, ne_eqb}
use Rattle.kernel.specs.declared.Kernel.{Kernel}
use Rattle.kernel_checks.specs.declared.Command.{Command}
use Rattle.kernel.specs.declared.command.Answer.{Answer}
use Rattle.kernel.specs.Public.{to_rules}
use Rattle.kernel.specs.Step.{stepped_of}
use Rattle.std.specs.Prelude.{Option, Some, None, Result, Ok, Err, is_some}
use Rattle.rules.specs.declared.Refusal.{Refusal}
use Rattle.rules.specs.Numbers.{number_of}
use Rattle.record.specs.declared.Record.{Record}
use Rattle.record.specs.Form.{record_of, marked}
use Rattle.record.specs.Fault.{fault_of}
use Rattle.record.proofs.Faults.{bytes_fault, marked_fault}
use Rattle.tape_form.specs.Read.{judged}
use Rattle.tape_form.proofs.Reading.{judged_not, judged_is}
use Rattle.record_kept.specs.declared.Kept.{Kept}
use Rattle.record_kept.specs.Kept.{kept_of}
use Rattle.judge_verdict.specs.declared.Verdict.{Verdict}
use Rattle.judge_verdict.specs.Verdict.{command_shown}
use Rattle.judge_verdict.specs.Behind.{refused, headed, compared}
use Rattle.judge_pieces.specs.declared.Run.{Run}
use Rattle.judge_pieces.specs.Onward.{run_of, head_of, answered, taken, if_going, onward}

-- the step's tables and what is kept of its answer, of the command that the record has
pub stepped : (x : Run) (r : Record) (d : Command) (k : Kernel) (a : Answer) (p : Kept) → d ≡ command_shown r → k ≡ (stepped_of x.kernel (to_rules d)).next
    → a ≡ (stepped_of x.kernel (to_rules d)).answer → p ≡ kept_of a → run_of k (compared (head_of x) r p) ≡ answered x r
unfolding answered
stepped x r d k a p e n s q = rw (q, n, s, e)

-- ---- 16 bytes
pub onward_over : (x : Run) (p : List ℕ) → is_some x.verdict ≡ true → x ≡ onward x p
unfolding onward
onward_over x p e = go x.verdict e
  where
    go : (v : Option Verdict) → is_some v ≡ true → x ≡ if_going v (taken x p (judged x.place p)) x
    go None e = absurd cc
    go (Some v) e = refl

pub none_of : {v : Option Verdict} {t : Bool} → t ≡ is_some v → t ≡ false → v ≡ None
none_of {v = None} e f = refl
none_of {v = Some w} e f = absurd cc

-- what the reader answers of them, by what the code's three calls ensure
pub fault_is : (at : ℕ) (p : List ℕ) {m : Bool} {r : Record} {f g : Result Unit Refusal} → m ≡ marked p → m ≡ true → r ≡ record_of p → f ≡ fault_of at r → f ≡ g
    → bytes_fault at p ≡ g
fault_is at p e m r f g = marked_fault at p (sym e ∙ m) ∙ ap (fault_of at) (sym r) ∙ sym f ∙ g

module _ (x : Run) (p : List ℕ) (g : x.verdict ≡ None) where
  pub onward_refused : {e : Refusal} → bytes_fault x.place p ≡ Err e → run_of x.kernel (refused (head_of x) (number_of e) (record_of p).value) ≡ onward x p
  unfolding onward taken
  onward_refused f = rw (g, ← judged_not x.place p f)

  pub onward_header : bytes_fault x.place p ≡ Ok tt → x.place ≡ 0 → run_of x.kernel (headed (head_of x) (record_of p).value) ≡ onward x p
  unfolding onward taken
  onward_header f o = rw (g, ← judged_is x.place p f, eq-eqb x.place 0 o)

  pub onward_command : bytes_fault x.place p ≡ Ok tt → x.place ≢ 0 → answered x (record_of p) ≡ onward x p
  unfolding onward taken
  onward_command f o = rw (g, ← judged_is x.place p f, ne_eqb x.place 0 o)
