-- What the call from C answers, and what it leaves in the numbers that it was lent: of tapes of every length, whatever
-- they hold.
use Rattle.std.specs.Prelude.{ℕ, cond, List, [], ◌∷◌, eqb, length}
use Rattle.record_kept.specs.Kept.{packed}
use Rattle.judge_verdict.specs.declared.Verdict.{Verdict}
use Rattle.judge_verdict.specs.declared.Verdict.TheVariants.{Agrees, Differs, Refused}
use Rattle.judge_verdict.specs.declared.Judgement.{Judgement}
use Rattle.judge_verdict.specs.Verdict.{verdict_of}
use Rattle.judge_call.specs.declared.Reply.{Reply}

-- The call's answer: 0 where the tape agrees, 255 where it differs, 15 or 17 where it is refused. The four numbers:
-- the seed that is shown; the count of command records where it agrees, else the number of the record; what is kept of
-- the tape's answer and of the rules', each in one number, where it differs, else 0 and 0.
abbrev pub reply_of : ℕ → Verdict → Reply
reply_of seed (Agrees records) = record { code = 0; numbers = seed ∷ records ∷ 0 ∷ 0 ∷ [] }
reply_of seed (Differs d) =
    record { code = 255; numbers = seed ∷ d.number ∷ packed d.tape ∷ packed d.rules ∷ [] }
reply_of seed (Refused e) = record { code = e.code; numbers = seed ∷ e.number ∷ 0 ∷ 0 ∷ [] }

abbrev pub reply_to : Judgement → Reply
reply_to j = reply_of j.seed j.verdict

-- The call: where four numbers are lent they are told of the tape's judgement; where not, it answers 1 and leaves
-- them.
unfoldable pub answer : List ℕ → List ℕ → ℕ
answer tape lent = cond (eqb (length lent) 4) (reply_to (verdict_of tape)).code 1

unfoldable pub numbers : List ℕ → List ℕ → List ℕ
numbers tape lent = cond (eqb (length lent) 4) (reply_to (verdict_of tape)).numbers lent
