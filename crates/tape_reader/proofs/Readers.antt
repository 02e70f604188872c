-- A reader that is opened on a tape and asked again and again gives the answers of the whole tape from place 0. Its nth answer is what stands at place 16 n as
-- long as records were found before it; at the end or a refusal it stays. The theorems are over the contracts of `open` and `next` alone: whoever meets them
-- has these. Assumes nothing.
use Prim.Native.Nat.{ℕ, zero, suc, ◌+◌, ◌*◌}
use native.Mathlib.Omega.{arith}
use mathlib.Core.Path.{◌≡◌, refl, sym, ap, ◌∙◌}
use mathlib.Core.List.{List, [], ◌∷◌, map}
use lib.ListN.{length, take, drop, length-drop}
use lib.Seq.{length-take-le}
use denote.Ref.{Bor}
use Rattle.std.specs.Prelude.{Result, Ok, Err, IsOk}
use Rattle.rules.specs.declared.Refusal.{Refusal}
use Rattle.rules.specs.Numbers as refusals
use Rattle.tape_form.specs.Read.{Read, read_of, size_of, place_of, number_of, code_at, part_at, next_at}
use Rattle.tape_reader.specs.Reader.{Opened, Handed, Next}
use Rattle.tape_form.specs.Run.{answers}
use Rattle.tape_reader.specs.declared.Reader.{Reader}
use Rattle.tape_form.proofs.Reading.{Stands, stands, found, end, no_record, no_seed}

-- what a reader hands back, and the bytes and the number of it
abbrev pub Part : Type 0
Part = Result (Bor (List ℕ)) Refusal

abbrev pub bytes_in : Part → List ℕ
bytes_in (Ok part) = part.now
bytes_in (Err e) = []

abbrev pub number_in : Part → ℕ
number_in (Ok part) = 0
number_in (Err e) = refusals.number_of e

-- they are the part and the number of what stands there
pub handed_part : (tape : Bor (List ℕ)) (at : ℕ) (p : Part) → Handed tape at p → (bytes_in p ≡ part_at tape.now at) × (number_in p ≡ code_at tape.now at)
unfolding part_at code_at
handed_part tape at (Ok part) h = (h.1.0, go (read_of tape.now at) h.0)
  where
    go : (x : Read) → IsOk x → 0 ≡ number_of x
    go (Ok x) i = refl
    go (Err e) i = absurd cc
handed_part tape at (Err e) h = rw h (refl, refl)

-- A reader that is asked again and again: the parts that it hands back, and the reader behind them.
pub data Reads : Reader → List Part → Reader → Type 0 where
  none : {r : Reader} → Reads r [] r
  then : {r mid last : Reader} {p : Part} {ps : List Part} → Next r p mid → Reads mid ps last → Reads r (p ∷ ps) last

-- the first k parts of a tape from a place on
abbrev pub parts : ℕ → List ℕ → ℕ → List (List ℕ)
parts zero s at = []
parts (suc k) s at = part_at s at ∷ parts k s (next_at s at)

-- what the parts hold, and their numbers
abbrev pub contents : List Part → List (List ℕ)
contents [] = []
contents (p ∷ ps) = bytes_in p ∷ contents ps

abbrev pub numbers : List Part → List ℕ
numbers [] = []
numbers (p ∷ ps) = number_in p ∷ numbers ps

from_place : {r last : Reader} {ps : List Part} → Reads r ps last
    → (numbers ps ≡ map number_of (answers (length ps) r.tape.now r.at)) × (contents ps ≡ parts (length ps) r.tape.now r.at)
    × (last.tape ≡ r.tape)
unfolding code_at
from_place none = (refl, refl, refl)
from_place (then {r} {mid} {last} {p} {ps} n more) =
    let w = from_place more in
    let h = handed_part r.tape r.at p n.0 in
    (rw (h.1, w.0, n.1, n.2), rw (h.0, w.1, n.1, n.2), w.2 ∙ n.1)

-- `open`, and then `next` again and again: the numbers and the parts are those of the whole tape from place 0, and the tape is the one that it was opened on.
-- Rules out: a reader that opens behind the header, or at another place; one that skips a record, or hands one back twice.
pub opened_reads_all : (tape : Bor (List ℕ)) (r last : Reader) (ps : List Part) → Opened tape r → Reads r ps last
    → (numbers ps ≡ map number_of (answers (length ps) tape.now 0)) × (contents ps ≡ parts (length ps) tape.now 0) × (last.tape ≡ tape)
opened_reads_all tape r last ps o reads =
    let w = from_place reads in
    (rw (← o.0, ← o.1) w.0, rw (← o.0, ← o.1) w.1, w.2 ∙ o.0)

-- all of these are records
abbrev pub Records : List Part → Type 0
Records [] = Unit {0}
Records (p ∷ ps) = (length (bytes_in p) ≡ 16) × Records ps

moves_on : (s : List ℕ) (at : ℕ) → length (part_at s at) ≡ 16 → next_at s at ≡ at + 16
unfolding part_at next_at
moves_on s at = go (stands s at)
  where
    go : {x : Read} → Stands s at x → length (take (size_of x) (drop at s)) ≡ 16 → place_of at x ≡ at + 16
    go (found w l f) q = refl
    go (end w l f) q = absurd (omega arith)
    go no_record q = absurd (omega arith)
    go (no_seed a l) q = absurd (omega arith)

stays : (s : List ℕ) (at : ℕ) → length (part_at s at) ≡ 0 → next_at s at ≡ at
unfolding part_at next_at
stays s at = go (stands s at)
  where
    go : {x : Read} → Stands s at x → length (take (size_of x) (drop at s)) ≡ 0 → place_of at x ≡ at
    go (found w l f) q = absurd (omega (arith, length-take-le 16 (drop at s) (omega (arith, length-drop at s))))
    go (end w l f) q = refl
    go no_record q = refl
    go (no_seed a l) q = refl

records_far : {r last : Reader} {ps : List Part} → Reads r ps last → Records ps → last.at ≡ r.at + 16 * length ps
records_far none rec = omega arith
records_far (then {r} {mid} {last} {p} {ps} n more) rec =
    let far = records_far more rec.1 in
    let h = handed_part r.tape r.at p n.0 in
    let step = n.2 ∙ moves_on r.tape.now r.at (ap length (sym h.0) ∙ rec.0) in
    omega arith

-- The nth answer, behind n records, is what stands at place 16 n: its part and where that lies, or its refusal; and its number.
pub nth_answer : (tape : Bor (List ℕ)) (r last after : Reader) (ps : List Part) (p : Part) → Opened tape r → Reads r ps last → Records ps → Next last p after
    → Handed tape (16 * length ps) p × (number_in p ≡ code_at tape.now (16 * length ps))
nth_answer tape r last after ps p o reads rec n =
    let far = records_far reads rec in
    let here : last.at ≡ 16 * length ps = omega (arith, far, o.1) in
    let same : last.tape ≡ tape = (from_place reads).2 ∙ o.0 in
    rw (← same, ← here) (n.0, (handed_part last.tape last.at p n.0).1)

-- The end and a refusal hand back no bytes, and the reader is as it was: so it answers the same ever after (Answers, one-next).
pub no_record_stays : (r after : Reader) (p : Part) → Next r p after → length (bytes_in p) ≡ 0 → after ≡ r
no_record_stays r after p n empty =
    let h = handed_part r.tape r.at p n.0 in
    let place = n.2 ∙ stays r.tape.now r.at (ap length (sym h.0) ∙ empty) in
    λ i. record { tape = n.1 i; at = place i }
