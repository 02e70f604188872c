-- Judgements of tapes written out byte by byte, by computing: as one table under one statement document 01's walk, its last answer made another, and tapes
-- that are no tapes; and an old tape's `done`. Rules out: a definition that is wrong as the code is wrong. Assumes nothing.
use Prim.Native.Nat.{ℕ}
use mathlib.Core.Path.{◌≡◌, refl}
use mathlib.Core.List.{List, [], ◌∷◌, ◌++◌}
use Rattle.rules.specs.Line.{all_below}
use Rattle.rules.specs.Table.{carry, leave, release}
use Rattle.rules.specs.Refusals.{refusal}
use Rattle.rules.specs.Run as rules
use Rattle.kernel_checks.specs.Shown.{cmd}
use Rattle.record.specs.Form.{record_of}
use Rattle.record_kept.specs.declared.Kept.{Kept}
use Rattle.tape_form.specs.Read.{read_of, judged, end_of, next_at}
use Rattle.judge_verdict.specs.declared.Verdict.{Verdict}
use Rattle.judge_verdict.specs.declared.Verdict.TheVariants.{Agrees, Differs, Refused as Malformed}
use Rattle.judge_verdict.specs.declared.Judgement.{Judgement}
use Rattle.judge_verdict.specs.Verdict.{judged_from, verdict_of}

-- a record of 16 bytes, whose value is below 256
abbrev sixteen : ℕ → ℕ → ℕ → ℕ → ℕ → ℕ → ℕ → List ℕ
sixteen op a b value code running released =
    82 ∷ 86 ∷ op ∷ a ∷ b ∷ code ∷ running ∷ released ∷ value ∷ 0 ∷ 0 ∷ 0 ∷ 0 ∷ 0 ∷ 0 ∷ 0 ∷ []

abbrev header : ℕ → List ℕ
header seed = sixteen 0 1 0 seed 0 0 0

-- document 01's walk up to its line 4: create 1 3, create 2 5, create 3 3, object 1 4
abbrev set_up : List ℕ
set_up = header 7 ++ sixteen 1 1 3 0 0 0 0 ++ sixteen 1 2 5 0 0 0 0 ++ sixteen 1 3 3 0 0 0 0 ++ sixteen 2 1 4 0 0 0 0

-- its lines 6 to 15: delay 10, open 1, advance 10, wake, open 1, delay 20, closep 1 1, entry 1 0, entry 1 0, open 1
abbrev between : List ℕ
between =
    sixteen 4 0 0 10 0 1 0 ++ sixteen 7 1 0 0 0 1 0 ++ sixteen 6 0 0 10 0 1 0 ++ sixteen 5 0 0 0 0 2 2 ++ sixteen 7 1 0 0 10 2 0
    ++ sixteen 4 0 0 20 0 1 0 ++ sixteen 8 1 1 0 0 1 0 ++ sixteen 10 1 0 0 0 3 0 ++ sixteen 10 1 0 0 12 3 0 ++ sixteen 7 1 0 0 0 3 0

-- the whole walk, with the running task of its start (line 5) and the released task of its last closep (line 16)
abbrev walk : ℕ → ℕ → List ℕ
walk running released = set_up ++ sixteen 3 0 0 0 0 running 0 ++ between ++ sixteen 8 1 1 0 0 3 released

abbrev says : ℕ → Verdict → Judgement
says seed v = record { seed = seed; verdict = v }

abbrev refused : ℕ → ℕ → ℕ → Verdict
refused code number place = Malformed (record { code = code; number = number; place = place })

abbrev keeps : ℕ → ℕ → ℕ → Kept
keeps code running released = record { code = code; running = record { 0 = running }; released = record { 0 = released } }

-- a header whose value's eight bytes are these
abbrev header_of : List ℕ → List ℕ
header_of value = (82 ∷ 86 ∷ 0 ∷ 1 ∷ 0 ∷ 0 ∷ 0 ∷ 0 ∷ []) ++ value

-- a header of an edition, with a seed of one byte
abbrev edition_of : ℕ → ℕ → List ℕ
edition_of edition seed = sixteen 0 edition 0 seed 0 0 0

-- Of a header that is right but for its seed that is shown, and of no other: 2^32, a number of eight bytes, the largest, and one of edition 2; the edition 3,
-- and a second header.
pub seeds :
    (verdict_of (header_of (0 ∷ 0 ∷ 0 ∷ 0 ∷ 1 ∷ 0 ∷ 0 ∷ 0 ∷ []) ++ sixteen 1 1 3 0 0 0 0) ≡ says 4294967296 (refused 17 0 0))
    × (verdict_of (header_of (1 ∷ 2 ∷ 3 ∷ 4 ∷ 5 ∷ 6 ∷ 7 ∷ 8 ∷ [])) ≡ says 578437695752307201 (refused 17 0 0))
    × (verdict_of (header_of (255 ∷ 255 ∷ 255 ∷ 255 ∷ 255 ∷ 255 ∷ 255 ∷ 255 ∷ [])) ≡ says 18446744073709551615 (refused 17 0 0))
    × (verdict_of (82 ∷ 86 ∷ 0 ∷ 2 ∷ 0 ∷ 0 ∷ 0 ∷ 0 ∷ 9 ∷ 0 ∷ 0 ∷ 0 ∷ 1 ∷ 0 ∷ 0 ∷ 0 ∷ []) ≡ says 4294967305 (refused 17 0 0))
    × (verdict_of (82 ∷ 86 ∷ 0 ∷ 3 ∷ 0 ∷ 0 ∷ 0 ∷ 0 ∷ 9 ∷ 0 ∷ 0 ∷ 0 ∷ 1 ∷ 0 ∷ 0 ∷ 0 ∷ []) ≡ says 0 (refused 15 0 0))
    × (verdict_of (header 7 ++ header_of (1 ∷ 2 ∷ 3 ∷ 4 ∷ 5 ∷ 6 ∷ 7 ∷ 8 ∷ [])) ≡ says 7 (refused 15 1 16))
unfolding verdict_of judged_from read_of judged end_of next_at record_of
seeds = (refl, refl, refl, refl, refl, refl)

-- The editions: 1 and 2 are read, and no other; a header of edition 2 behind place 0 is no record.
pub editions :
    (verdict_of (edition_of 1 7) ≡ says 7 (Agrees 0))
    × (verdict_of (edition_of 2 9) ≡ says 9 (Agrees 0))
    × (verdict_of (edition_of 0 9) ≡ says 0 (refused 15 0 0))
    × (verdict_of (edition_of 3 9) ≡ says 0 (refused 15 0 0))
    × (verdict_of (edition_of 255 9) ≡ says 0 (refused 15 0 0))
    × (verdict_of (edition_of 1 7 ++ edition_of 2 9) ≡ says 7 (refused 15 1 16))
unfolding verdict_of judged_from read_of judged end_of next_at record_of
editions = (refl, refl, refl, refl, refl, refl)

-- No byte; a seed of 0; the header alone; the walk; its last record with released 0; a byte behind it; the start with another running task, behind which
-- nothing is looked at; and a record without the mark.
pub worked :
    (verdict_of [] ≡ says 0 (refused 15 0 0))
    × (verdict_of (header 0) ≡ says 0 (refused 17 0 0))
    × (verdict_of (header 7) ≡ says 7 (Agrees 0))
    × (verdict_of (walk 2 1) ≡ says 7 (Agrees 16))
    × (verdict_of (walk 2 0) ≡ says 7 (Differs (record { number = 16; command = cmd 8 1 1 0; tape = keeps 0 3 0; rules = keeps 0 3 1 })))
    × (verdict_of (walk 2 1 ++ (82 ∷ [])) ≡ says 7 (refused 15 17 272))
    × (verdict_of (walk 1 0 ++ (82 ∷ [])) ≡ says 7 (Differs (record { number = 5; command = cmd 3 0 0 0; tape = keeps 0 1 0; rules = keeps 0 2 0 })))
    × (verdict_of (set_up ++ (86 ∷ 82 ∷ []) ++ between) ≡ says 7 (refused 15 5 80))
unfolding verdict_of judged_from read_of judged end_of next_at record_of all_below rules.answer rules.next rules.released refusal carry leave release
worked = (refl, refl, refl, refl, refl, refl, refl, refl)

-- A record of `done` on a tape of before request 2, when it took no barrier (decision C2-2): create 1 3, object 1 4, start, entry 1 1, and then op 11. With b
-- 0 it is judged as ever; with b 1 it carried code 4, and differs; with b 2 it is 4 still.
abbrev entered : List ℕ
entered = header 7 ++ sixteen 1 1 3 0 0 0 0 ++ sixteen 2 1 4 0 0 0 0 ++ sixteen 3 0 0 0 0 1 0 ++ sixteen 10 1 1 0 0 1 0

pub old_done :
    (verdict_of (entered ++ sixteen 11 1 0 0 0 1 0) ≡ says 7 (Agrees 5))
    × (verdict_of (entered ++ sixteen 11 1 1 0 4 1 0)
    ≡ says 7 (Differs (record { number = 5; command = cmd 11 1 1 0; tape = keeps 4 1 0; rules = keeps 0 1 0 })))
    × (verdict_of (entered ++ sixteen 11 1 2 0 4 1 0) ≡ says 7 (Agrees 5))
unfolding verdict_of judged_from read_of judged end_of next_at record_of all_below rules.answer rules.next rules.released refusal carry leave release
old_done = (refl, refl, refl)
