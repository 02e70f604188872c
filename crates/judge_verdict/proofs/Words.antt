-- The words in which the theorems on a judgement are stated, beside those of specs/.
use Prim.Native.Nat.{ℕ, suc, ◌*◌, ◌<◌}
use mathlib.Core.Path.{◌≡◌}
use mathlib.Core.Logic.{◌≢◌}
use mathlib.Core.Bool.{true, false}
use mathlib.Core.List.{List, [], ◌∷◌, ◌++◌, map}
use lib.ListN.{length}
use Rattle.std.specs.Prelude.{Err}
use Rattle.rules.specs.declared.Refusal.TheVariants.{Record as NoRecord}
use Rattle.rules.specs.Machine.{Machine, fresh}
use Rattle.rules.specs.Run.{answer, run, answers}
use Rattle.rules.proofs.Words.{All}
use Rattle.record.specs.declared.Record.{Record}
use Rattle.record.specs.Form.{bytes_of, header_of, is_edition, is_seed, command_fields}
use Rattle.record_kept.specs.Kept.{kept, kept_on}
use Rattle.tape_form.specs.Read.{read_of}
use Rattle.tape_form.specs.Run.{tape_of}
use Rattle.judge_verdict.specs.declared.Difference.{Difference}
use Rattle.judge_verdict.specs.declared.RefusedAt.{RefusedAt}
use Rattle.judge_verdict.specs.declared.Verdict.{Verdict}
use Rattle.judge_verdict.specs.declared.Verdict.TheVariants.{Agrees, Differs, Refused as Malformed}
use Rattle.judge_verdict.specs.Verdict.{command_of, command_shown, verdict_number}

-- a command record with a value of 64 bits
abbrev pub CommandRecord : Record → Type 0
CommandRecord r = (command_fields r ≡ true) × (r.value < 18446744073709551616)

-- the machine behind the records' commands, from the fresh one
abbrev pub behind : List Record → Machine
behind rs = run fresh (map command_of rs)

-- A tape begins with the header of an edition and a seed and some command records, which keep what records keep of the rules' answers along the run of their
-- commands from the fresh machine.
pub record Begins (s : List ℕ) (seed : ℕ) (rs : List Record) (rest : List ℕ) : Type 0 where
  pub edition : ℕ
  pub known : is_edition edition ≡ true
  pub seeded : is_seed seed ≡ true
  pub commands : All CommandRecord rs
  pub bytes : s ≡ tape_of (header_of edition seed ∷ rs) ++ rest
  pub agree : map kept_on rs ≡ map kept (answers fresh (map command_of rs))

-- Every record agrees: the tape is the header and k such records, and nothing more.
pub record AllAgree (s : List ℕ) (seed k : ℕ) : Type 0 where
  pub records : List Record
  pub begins : Begins s seed records []
  pub count : k ≡ length records

-- The first that differs: all before it agree, it is a command record, and it keeps another answer than the rules'.
pub record FirstDiffers (s : List ℕ) (seed : ℕ) (d : Difference) : Type 0 where
  pub records : List Record
  pub r : Record
  pub rest : List ℕ
  pub begins : Begins s seed records (bytes_of r ++ rest)
  pub command : CommandRecord r
  pub differs : kept_on r ≢ kept (answer (behind records) (command_of r))
  pub told : let k = kept (answer (behind records) (command_of r)) in
      d ≡ record { number = suc (length records); command = command_shown r; tape = kept_on r; rules = k }

-- The first that is no record: there is no header (15), or one whose value is no seed (17), and then that value is shown; or all before it agree, and it is no
-- command record (15).
pub data FirstRefused (s : List ℕ) : ℕ → RefusedAt → Type 0 where
  no_header : read_of s 0 ≡ Err NoRecord → FirstRefused s 0 (record { code = 15; number = 0; place = 0 })
  bad_seed : (edition value : ℕ) (rest : List ℕ) → is_edition edition ≡ true → s ≡ bytes_of (header_of edition value) ++ rest → value < 18446744073709551616
      → is_seed value ≡ false
      → FirstRefused s value (record { code = 17; number = 0; place = 0 })
  no_command : (seed : ℕ) (records : List Record) (rest : List ℕ) → Begins s seed records rest → read_of s (16 * suc (length records)) ≡ Err NoRecord
      → FirstRefused s seed (record { code = 15; number = suc (length records); place = 16 * suc (length records) })

-- What a verdict says of a tape, with the seed that is shown.
abbrev pub Says : List ℕ → ℕ → Verdict → Type 0
Says s seed (Agrees k) = AllAgree s seed k
Says s seed (Differs d) = FirstDiffers s seed d
Says s seed (Malformed e) = FirstRefused s seed e

-- A refusal's number: 15; or 17, and then the record is the header.
pub data RefusedWith (e : RefusedAt) : Type 0 where
  fifteen : verdict_number (Malformed e) ≡ 15 → RefusedWith e
  seventeen : verdict_number (Malformed e) ≡ 17 → e.number ≡ 0 → RefusedWith e
