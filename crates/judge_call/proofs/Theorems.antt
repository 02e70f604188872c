-- What a host learns from the call, in the judge's own words (crate judging, proofs/Words: every record agrees, the first that differs, the first
-- that is none). Rules out: a call that answers 0 for a tape that it did not judge to its end, or tells another record than the first. Leaves: that
-- the judge's words are the paper's (judging/proofs/Theorems). Assumes nothing.
use Prim.Native.Nat.{ℕ, ◌<◌}
use native.Mathlib.Omega.{arith}
use mathlib.Core.Path.{◌≡◌, refl, sym, ◌∙◌}
use mathlib.Core.List.{List}
use borrow.Author.Tests.{eq-eqb, ne_eqb}
use lib.ListN.{length, get_or}
use Rattle.record_kept.specs.Kept.{packed}
use Rattle.judge_verdict.specs.declared.Difference.{Difference}
use Rattle.judge_verdict.specs.declared.Verdict.{Verdict}
use Rattle.judge_verdict.specs.declared.Verdict.TheVariants.{Agrees, Differs, Refused}
use Rattle.judge_verdict.specs.Verdict.{verdict_number, verdict_of}
use Rattle.judge_verdict.proofs.Words.{AllAgree, FirstDiffers, Says}
use Rattle.judge_verdict.proofs.Theorems.{says_judged, judged_says}
use Rattle.judge_verdict.proofs.Numbers.{stops_not}
use Rattle.judge_call.specs.Call.{reply_of, reply_to, answer, numbers}

module _ (tape lent : List ℕ) (four : length lent ≡ 4) where
  told_code : answer tape lent ≡ (reply_to (verdict_of tape)).code
  unfolding answer
  told_code = rw (eq-eqb (length lent) 4 four)

  told_numbers : numbers tape lent ≡ (reply_to (verdict_of tape)).numbers
  unfolding numbers
  told_numbers = rw (eq-eqb (length lent) 4 four)

  -- ## Whatever is said so of a tape is what the call tells: the three cases of `reply_of`, with the seed and the record
  pub tells : (seed : ℕ) (v : Verdict) → Says tape seed v → (answer tape lent ≡ (reply_of seed v).code) × (numbers tape lent ≡ (reply_of seed v).numbers)
  tells seed v s = let e = says_judged tape seed v s in (rw (told_code, e), rw (told_numbers, e))

-- ## Where not four numbers are lent, the call answers 1 and leaves them
pub not_four : (tape lent : List ℕ) → (length lent ≡ 4 → ⊥) → (answer tape lent ≡ 1) × (numbers tape lent ≡ lent)
unfolding answer numbers
not_four tape lent n = rw (ne_eqb (length lent) 4 n) (refl, refl)

-- ## Of a tape that differs the third number is the tape's own answer, the fourth the rules'
pub answers_in_order : (seed : ℕ) (d : Difference) → let l = (reply_of seed (Differs d)).numbers in
    (get_or l 2 0 ≡ packed d.tape) × (get_or l 3 0 ≡ packed d.rules)
answers_in_order seed d = (refl, refl)

-- ## The call's answer is the verdict's number
pub told_number : (seed : ℕ) (v : Verdict) → (reply_of seed v).code ≡ verdict_number v
told_number seed (Agrees k) = refl
told_number seed (Differs d) = refl
told_number seed (Refused e) = refl

-- ## The call answers 0 only where every record agrees, and then tells the seed and how many command records there are
pub zero_agrees : (tape lent : List ℕ) → ((i : ℕ) → get_or tape i 0 < 256) → length lent ≡ 4 → answer tape lent ≡ 0
    → AllAgree tape (get_or (numbers tape lent) 0 0) (get_or (numbers tape lent) 1 0)
zero_agrees tape lent small four z =
    rw (told_numbers tape lent four) (go (verdict_of tape).seed (verdict_of tape).verdict (judged_says tape small) (sym (told_code tape lent four) ∙ z))
  where
    go : (seed : ℕ) (v : Verdict) → Says tape seed v → (reply_of seed v).code ≡ 0
        → AllAgree tape (get_or (reply_of seed v).numbers 0 0) (get_or (reply_of seed v).numbers 1 0)
    go seed (Agrees k) s e = s
    go seed (Differs d) s e = absurd (omega arith)
    go seed (Refused r) s e = absurd (stops_not 0 (λ q. omega arith) (λ q. omega arith) s e)

-- ## The call answers 255 only where a record is the first that differs, and then tells the seed, that record's number and both answers
pub record ToldDifference (tape numbers : List ℕ) : Type 0 where
  pub seed : ℕ
  pub difference : Difference
  pub first : FirstDiffers tape seed difference
  pub told : numbers ≡ (reply_of seed (Differs difference)).numbers

pub differs_first : (tape lent : List ℕ) → ((i : ℕ) → get_or tape i 0 < 256) → length lent ≡ 4 → answer tape lent ≡ 255 → ToldDifference tape (numbers tape lent)
differs_first tape lent small four z =
    rw (told_numbers tape lent four) (go (verdict_of tape).seed (verdict_of tape).verdict (judged_says tape small) (sym (told_code tape lent four) ∙ z))
  where
    go : (seed : ℕ) (v : Verdict) → Says tape seed v → (reply_of seed v).code ≡ 255 → ToldDifference tape (reply_of seed v).numbers
    go seed (Agrees k) s e = absurd (omega arith)
    go seed (Differs d) s e = record { seed = seed; difference = d; first = s; told = refl }
    go seed (Refused r) s e = absurd (stops_not 255 (λ q. omega arith) (λ q. omega arith) s e)
