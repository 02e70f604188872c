-- Where a judge stands behind a record, and what it says at the end of a tape.
use Rattle.std.specs.Prelude.{ℕ, ◌+◌, ◌-◌, ◌*◌, ◌/◌, ◌%◌, ◌^◌, Bool, true, false, cond, not, ◌||◌, eqb, ltb, Option, Some, None}
use Rattle.record.specs.declared.Record.{Record}
use Rattle.record_kept.specs.declared.Kept.{Kept}
use Rattle.record_kept.specs.Kept.{kept_on, alike}
use Rattle.judge_verdict.specs.declared.Verdict.{Verdict}
use Rattle.judge_verdict.specs.declared.Verdict.TheVariants.{Agrees, Refused as Malformed}
use Rattle.judge_verdict.specs.Verdict.{difference, seed_shown}
use Rattle.judge_verdict.specs.declared.Head.{Head}

-- The place behind a record. (The last places of 64 bits are followed by themselves: no tape is so long.)
abbrev pub beyond : ℕ → ℕ
beyond place = cond (ltb place 18446744073709551600) (place + 16) place

-- The byte at which record n begins, in 64 bits (no tape is longer).
abbrev pub place_of : ℕ → ℕ
place_of n = 16 * (n % 2 ^ 60)

-- A refusal at a place: the record's number is a sixteenth of it.
abbrev pub refused_at : ℕ → ℕ → Verdict
refused_at code place = Malformed (record { code = code; number = place / 16; place = place })

-- A record of that value is refused.
abbrev pub refused : Head → ℕ → ℕ → Head
refused h code value =
    record { place = h.place; seed = seed_shown code value h.seed; verdict = Some (refused_at code h.place) }

-- A header: its seed is kept to be shown.
abbrev pub headed : Head → ℕ → Head
headed h seed = record { place = beyond h.place; seed = seed; verdict = None }

-- A command record, beside what a record keeps of the rules' answer to it: on to the next place; or it is the first
-- that differs.
unfoldable pub compared : Head → Record → Kept → Head
compared h r k =
    cond (alike (kept_on r) k) (record { place = beyond h.place; seed = h.seed; verdict = None })
    (record { place = h.place; seed = h.seed; verdict = Some (difference (h.place / 16) r k) })

-- whether a verdict is still to come
abbrev pub to_come : Option Verdict → Bool
to_come None = true
to_come (Some v) = false

-- The verdict at the end, with so many bytes behind the last record: a record that is not whole is 15, and so is a
-- tape without a header.
abbrev pub at_end : Option Verdict → ℕ → ℕ → Verdict
at_end None place count = cond (ltb place 16 || not (eqb count 0)) (refused_at 15 place) (Agrees (place / 16 - 1))
at_end (Some v) place count = v
