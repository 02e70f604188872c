-- A record more: where a judge stands behind the next 16 bytes, over any machine that it is given.
use Rattle.std.specs.Prelude.{ℕ, cond, List, eqb, Option, Some, None, Ok, Err}
use Rattle.rules.specs.Numbers.{number_of}
use Rattle.kernel.specs.declared.Kernel.{Kernel}
use Rattle.kernel.specs.Step.{stepped_of}
use Rattle.record.specs.declared.Record.{Record}
use Rattle.record.specs.Form.{record_of}
use Rattle.tape_form.specs.Read.{Read, judged as read}
use Rattle.record_kept.specs.Kept.{kept_of}
use Rattle.judge_verdict.specs.Verdict.{command_of}
use Rattle.judge_verdict.specs.declared.Verdict.{Verdict}
use Rattle.judge_verdict.specs.declared.Head.{Head}
use Rattle.judge_verdict.specs.Behind.{refused, headed, compared}
use Rattle.judge_pieces.specs.declared.Run.{Run}

-- A run is a machine, and where a judge stands beside it.
abbrev pub run_of : Kernel → Head → Run
run_of k h = record { kernel = k; place = h.place; seed = h.seed; verdict = h.verdict }

abbrev pub head_of : Run → Head
head_of x = record { place = x.place; seed = x.seed; verdict = x.verdict }

-- A command record, by the step on the tables. The machine is the step's next one, also where the answers differ:
-- behind a verdict nothing is looked at, and no judgement goes by that machine.
unfoldable pub answered : Run → Record → Run
answered x r =
    let s = stepped_of x.kernel (command_of r) in
    run_of s.next (compared (head_of x) r (kept_of s.answer))

-- 16 bytes at the place, and what the reader answers of them. (Of 16 bytes it answers no End.)
unfoldable pub taken : Run → List ℕ → Read → Run
taken x p (Ok (Some (r, next))) = cond (eqb x.place 0) (run_of x.kernel (headed (head_of x) r.value)) (answered x r)
taken x p (Ok None) = x
taken x p (Err e) = run_of x.kernel (refused (head_of x) (number_of e) (record_of p).value)

-- the one while no verdict is there, the other behind it
abbrev pub if_going : Option Verdict → Run → Run → Run
if_going None x y = x
if_going (Some v) x y = y

-- The next 16 bytes; behind a verdict nothing is looked at.
unfoldable pub onward : Run → List ℕ → Run
onward x p = if_going x.verdict (taken x p (read x.place p)) x
