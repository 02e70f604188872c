-- The judgement of a tape: its records are read one by one, and each command record's code, running and released are
-- held against the rules', along the run of its commands from the fresh machine.
use Rattle.std.specs.Prelude.{ℕ, suc, ◌-◌, ◌*◌, cond, List, [], ◌∷◌, eqb, length, take, Some, None, Ok, Err}
use Rattle.rules.specs.Machine.{Machine, Command, fresh}
use Rattle.rules.specs.Run.{next, answer}
use Rattle.rules.specs.Numbers as refusals
use Rattle.kernel_checks.specs.declared.Command as given
use Rattle.record.specs.declared.Record.{Record}
use Rattle.record.specs.Form.{record_of}
use Rattle.record_kept.specs.declared.Kept.{Kept}
use Rattle.record_kept.specs.Kept.{kept, kept_on, alike}
use Rattle.tape_form.specs.Read.{Read, number_of, read_of}
use Rattle.tape_form.specs.Run.{answers}
use Rattle.judge_verdict.specs.declared.Verdict.{Verdict}
use Rattle.judge_verdict.specs.declared.Verdict.TheVariants.{Agrees, Differs, Refused as Malformed}
use Rattle.judge_verdict.specs.declared.Judgement.{Judgement}

-- the command of a record, as the rules have it
abbrev pub command_of : Record → Command
command_of r = record { op = r.op; a = r.a; b = r.b; value = r.value }

-- and as a judgement shows it
abbrev pub command_shown : Record → given.Command
command_shown r = record { op = r.op; a = r.a; b = r.b; value = r.value }

-- record n, with what a record keeps of the rules' answer to its command
abbrev pub difference : ℕ → Record → Kept → Verdict
difference n r k = Differs (record { number = n; command = command_shown r; tape = kept_on r; rules = k })

-- The number of a verdict: 0 where the tape agrees, the paper's own where it is refused. (The paper has none for a
-- difference. 255 is no refusal's, and is what the call from C answers.)
abbrev pub verdict_number : Verdict → ℕ
verdict_number (Agrees k) = 0
verdict_number (Differs d) = 255
verdict_number (Malformed e) = e.code

-- And its values: how many command records there are; the record's number, place and command, with the answer on the
-- tape and the rules'; the record's number and place.
abbrev pub values_of : Verdict → List ℕ
values_of (Agrees k) = k ∷ []
values_of (Differs d) =
    d.number ∷ 16 * d.number ∷ d.command.op ∷ d.command.a ∷ d.command.b ∷ d.command.value
    ∷ d.tape.code ∷ d.tape.running.0 ∷ d.tape.released.0 ∷ d.rules.code ∷ d.rules.running.0
    ∷ d.rules.released.0 ∷ []
values_of (Malformed e) = e.number ∷ e.place ∷ []

-- what the program judge ends with
abbrev pub status_of : Verdict → ℕ
status_of (Agrees k) = 0
status_of (Differs d) = 1
status_of (Malformed e) = 2

-- The seed that is shown where a record has that number: of a header that is right but for its value (17) the value
-- that stands there, else the seed so far.
abbrev pub seed_shown : ℕ → ℕ → ℕ → ℕ
seed_shown code value seed = cond (eqb code 17) value seed

-- What a reader answers from record n on, m being the machine before it: a refusal is reported with the record's
-- number and place; at the end all records agreed, the header not counted; the header is record 0, and its seed is
-- shown and not used; a command record agrees with the rules, which then give the next machine, or it is the first
-- that differs: what it keeps is held against what a record would keep of the rules' answer.
unfoldable pub judged_from : Machine → ℕ → ℕ → List Read → Judgement
judged_from m n seed [] = record { seed = seed; verdict = Agrees (n - 1) }
judged_from m n seed (Err e ∷ l) =
    record { seed = seed; verdict = Malformed (record { code = refusals.number_of e; number = n; place = 16 * n }) }
judged_from m n seed (Ok None ∷ l) = record { seed = seed; verdict = Agrees (n - 1) }
judged_from m n seed (Ok (Some (r, at)) ∷ l) =
    cond (eqb n 0) (judged_from m 1 r.value l)
    (cond (alike (kept_on r) (kept (answer m (command_of r)))) (judged_from (next m (command_of r)) (suc n) seed l)
    (record { seed = seed; verdict = difference n r (kept (answer m (command_of r))) }))

-- A whole tape, from the fresh machine. One answer more than bytes is asked for, so the end or a refusal is among
-- them, and [] is never reached.
unfoldable pub verdict_of : List ℕ → Judgement
verdict_of s =
    judged_from fresh 0 (seed_shown (number_of (read_of s 0)) (record_of (take 16 s)).value 0)
    (answers (suc (length s)) s 0)
