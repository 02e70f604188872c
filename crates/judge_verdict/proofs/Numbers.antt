-- The number of a verdict tells which of the three it is, and its values are that record's; so does the status. 0 exactly where every answer is the rules' and
-- the tape ends at a whole record; 255 exactly where there is a first difference; 15 and 17 exactly where the reader refuses first. Rules out: two cases with
-- one number, and values of another record. Leaves: that the words are the paper's (Theorems). Assumes nothing.
use Prim.Native.Nat.{ℕ, ◌*◌, ◌<◌}
use native.Mathlib.Omega.{arith}
use mathlib.Core.Path.{◌≡◌, refl, ap}
use mathlib.Core.Logic.{◌≢◌}
use mathlib.Core.List.{List, [], ◌∷◌}
use lib.ListN.{get_or}
use Rattle.judge_verdict.specs.declared.Difference.{Difference}
use Rattle.judge_verdict.specs.declared.RefusedAt.{RefusedAt}
use Rattle.judge_verdict.specs.declared.Judgement.{Judgement}
use Rattle.judge_verdict.specs.declared.Verdict.{Verdict}
use Rattle.judge_verdict.specs.declared.Verdict.TheVariants.{Agrees, Differs, Refused}
use Rattle.judge_verdict.specs.Verdict.{verdict_number, values_of, status_of, verdict_of}
use Rattle.judge_verdict.proofs.Words.{AllAgree, FirstDiffers, FirstRefused, no_header, bad_seed, no_command, Says}
use Rattle.judge_verdict.proofs.Theorems.{says_judged, judged_says}

-- What the seed that is shown, the status, the number and the values tell of a tape.
pub data Tells (s : List ℕ) (seed : ℕ) : ℕ → ℕ → List ℕ → Type 0 where
  all_agree : (k : ℕ) → AllAgree s seed k → Tells s seed 0 0 (k ∷ [])
  one_differs : (d : Difference) → FirstDiffers s seed d
      → Tells s seed 1 255
      (d.number ∷ 16 * d.number ∷ d.command.op ∷ d.command.a ∷ d.command.b ∷ d.command.value
      ∷ d.tape.code ∷ d.tape.running.0 ∷ d.tape.released.0 ∷ d.rules.code ∷ d.rules.running.0 ∷ d.rules.released.0 ∷ [])
  no_record : (n place : ℕ) → FirstRefused s seed (record { code = 15; number = n; place = place }) → Tells s seed 2 15 (n ∷ place ∷ [])
  no_seed : FirstRefused s seed (record { code = 17; number = 0; place = 0 }) → Tells s seed 2 17 (0 ∷ 0 ∷ [])

-- what is told of a judgement
abbrev JudgementTells : List ℕ → Judgement → Type 0
JudgementTells s j = Tells s j.seed (status_of j.verdict) (verdict_number j.verdict) (values_of j.verdict)

refused_tells : {s : List ℕ} {seed : ℕ} {e : RefusedAt} → FirstRefused s seed e → Tells s seed 2 e.code (e.number ∷ e.place ∷ [])
refused_tells (no_header h) = no_record 0 0 (no_header h)
refused_tells (bad_seed edition value rest h q l n) = no_seed (bad_seed edition value rest h q l n)
refused_tells (no_command seed rs rest b h) = no_record _ _ (no_command seed rs rest b h)

-- ## Of every byte string the judgement tells one of these
pub judged_tells : (s : List ℕ) → ((i : ℕ) → get_or s i 0 < 256) → JudgementTells s (verdict_of s)
judged_tells s small = go (verdict_of s).seed (verdict_of s).verdict (judged_says s small)
  where
    go : (seed : ℕ) (v : Verdict) → Says s seed v → Tells s seed (status_of v) (verdict_number v) (values_of v)
    go seed (Agrees k) a = all_agree k a
    go seed (Differs d) a = one_differs d a
    go seed (Refused e) a = refused_tells a

-- the four, of a judgement
pub record Shows (j : Judgement) (seed status number : ℕ) (values : List ℕ) : Type 0 where
  pub seed_is : j.seed ≡ seed
  pub status_is : status_of j.verdict ≡ status
  pub number_is : verdict_number j.verdict ≡ number
  pub values_are : values_of j.verdict ≡ values

shows : {j : Judgement} (seed : ℕ) (v : Verdict) → j ≡ record { seed = seed; verdict = v } → Shows j seed (status_of v) (verdict_number v) (values_of v)
shows seed v e =
    record {
      seed_is = ap (λ (x : Judgement). x.seed) e;
      status_is = ap (λ (x : Judgement). status_of x.verdict) e;
      number_is = ap (λ (x : Judgement). verdict_number x.verdict) e;
      values_are = ap (λ (x : Judgement). values_of x.verdict) e;
    }

-- ## And whatever is told so of a tape is its judgement's
pub tells_judged : {s : List ℕ} {seed status number : ℕ} {values : List ℕ} → Tells s seed status number values → Shows (verdict_of s) seed status number values
tells_judged {s = s} {seed = seed} (all_agree k a) = shows seed (Agrees k) (says_judged s seed (Agrees k) a)
tells_judged {s = s} {seed = seed} (one_differs d a) = shows seed (Differs d) (says_judged s seed (Differs d) a)
tells_judged {s = s} {seed = seed} (no_record n place a) =
    let e : RefusedAt = record { code = 15; number = n; place = place } in shows seed (Refused e) (says_judged s seed (Refused e) a)
tells_judged {s = s} {seed = seed} (no_seed a) =
    let e : RefusedAt = record { code = 17; number = 0; place = 0 } in shows seed (Refused e) (says_judged s seed (Refused e) a)

-- A refusal's number is 15 or 17, and none of the other two.
pub stops_not : {s : List ℕ} {seed : ℕ} {e : RefusedAt} (n : ℕ) → 15 ≢ n → 17 ≢ n → FirstRefused s seed e → e.code ≢ n
stops_not n a b (no_header h) = a
stops_not n a b (bad_seed edition value rest h q l k) = b
stops_not n a b (no_command seed rs rest g h) = a

-- ## So the number alone tells which it is
-- a verdict of that case, of which that holds
pub record Is {X : Type 0} (v : Verdict) (kind : X → Verdict) (P : X → Type 0) : Type 0 where
  pub what : X
  pub is : v ≡ kind what
  pub holds : P what

module _ (s : List ℕ) (small : (i : ℕ) → get_or s i 0 < 256) where
  pub zero_agrees : verdict_number (verdict_of s).verdict ≡ 0 → Is (verdict_of s).verdict Agrees (AllAgree s (verdict_of s).seed)
  zero_agrees = go (verdict_of s).seed (verdict_of s).verdict (judged_says s small)
    where
      go : (seed : ℕ) (v : Verdict) → Says s seed v → verdict_number v ≡ 0 → Is v Agrees (AllAgree s seed)
      go seed (Agrees k) a e = record { what = k; is = refl; holds = a }
      go seed (Differs d) a e = absurd (omega arith)
      go seed (Refused r) a e = absurd (stops_not 0 (λ q. omega arith) (λ q. omega arith) a e)

  pub differs_first : verdict_number (verdict_of s).verdict ≡ 255 → Is (verdict_of s).verdict Differs (FirstDiffers s (verdict_of s).seed)
  differs_first = go (verdict_of s).seed (verdict_of s).verdict (judged_says s small)
    where
      go : (seed : ℕ) (v : Verdict) → Says s seed v → verdict_number v ≡ 255 → Is v Differs (FirstDiffers s seed)
      go seed (Agrees k) a e = absurd (omega arith)
      go seed (Differs d) a e = record { what = d; is = refl; holds = a }
      go seed (Refused r) a e = absurd (stops_not 255 (λ q. omega arith) (λ q. omega arith) a e)

  pub refused_first : (c : ℕ) → 0 ≢ c → 255 ≢ c → verdict_number (verdict_of s).verdict ≡ c
      → Is (verdict_of s).verdict Refused (FirstRefused s (verdict_of s).seed)
  refused_first c m n = go (verdict_of s).seed (verdict_of s).verdict (judged_says s small)
    where
      go : (seed : ℕ) (v : Verdict) → Says s seed v → verdict_number v ≡ c → Is v Refused (FirstRefused s seed)
      go seed (Agrees k) a e = absurd (m e)
      go seed (Differs d) a e = absurd (n e)
      go seed (Refused r) a e = record { what = r; is = refl; holds = a }
