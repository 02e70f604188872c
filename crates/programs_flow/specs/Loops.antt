-- What the programs do, as far as a contract can say it: in which state they are behind the pieces that were read,
-- how many bytes their writes took, and why they end. Only the reads and writes of crate programs_flow give a `Went`,
-- so how many bytes were taken is no claim of a program.
--
-- These wrong programs meet all of it, and only runs refuse them (host/io.py, the stored cases). One reads twice and
-- drops what the first read brought. One takes a failed read for the end of the input. One writes other bytes, as
-- many as the text has. One writes on behind a failed write. One answers another status than its work's: `run` is one
-- line.
use Rattle.std.specs.Prelude.{ℕ, ◌+◌, ◌≤◌, Bool, true, false, not, ◌≡◌, ◌≢◌, List, [], ◌∷◌, ◌++◌, ◌⊎◌, T, length, take}
use Rattle.std.proofs.lemmas.List.Edits.{sets}
use Rattle.programs_flow.specs.declared.State.TheVariants.{GoesOn, Ended, ReadFailed, WriteFailed}
use Rattle.programs_flow.specs.declared.Went.{Went}
use Rattle.programs_flow.specs.Flow.{nothing_yet, has_failed, Took}

-- So many bytes stand at the front of a buffer, and they are this text.
abbrev pub Put : ℕ → List ℕ → List ℕ → Type 0
Put n out text = (n ≡ length text) × (take n out ≡ text)

-- Such a text was put at the front of a buffer that was `before`: behind it the buffer is as it was.
abbrev pub Laid : ℕ → List ℕ → List ℕ → List ℕ → Type 0
Laid n before out text = (n ≡ length text) × (out ≡ sets before 0 text)

-- ---- pieces of input, one after another

-- The state behind a piece, and what is printed for a piece, in the state before it.
abbrev pub After : Type 0 → Type 0
After S = S → List ℕ → S

abbrev pub Text : Type 0 → Type 0
Text S = S → List ℕ → List ℕ

-- The state behind pieces.
unfoldable pub behind : {S : Type 0} → After S → S → List (List ℕ) → S
behind after s [] = s
behind after s (p ∷ ps) = behind after (after s p) ps

-- What is printed for them.
unfoldable pub texts : {S : Type 0} → After S → Text S → S → List (List ℕ) → List ℕ
texts after text s [] = []
texts after text s (p ∷ ps) = text s p ++ texts after text (after s p) ps

abbrev pub NoneEmpty : List (List ℕ) → Type 0
NoneEmpty [] = Unit {0}
NoneEmpty (p ∷ ps) = (1 ≤ length p) × NoneEmpty ps

-- All turns that a loop has: nothing says that an input ends, so they are counted.
abbrev pub all_turns : ℕ
all_turns = 18446744073709551615

-- ---- loops. A loop, or a turn of it, goes from the state s to t, and by it `was` became `went`.

-- A turn that has read the piece p: t stands behind all of p, what is printed for p stands at the front of out, and
-- all of that was taken, or the write failed.
abbrev pub Fed : {S : Type 0} → After S → Text S → S → S → Went → Went → List ℕ → List ℕ → Type 0
Fed after text s t was went p out =
    (1 ≤ length p) × (t ≡ after s p) × (take (length (text s p)) out ≡ text s p) × Took (length (text s p)) GoesOn was went

-- A turn that has read nothing, because the input has ended or the read failed: t is s.
abbrev pub Unfed : {S : Type 0} → S → S → Went → Went → Type 0
Unfed s t was went = (t ≡ s) × ((went.state ≡ Ended) ⊎ (went.state ≡ ReadFailed)) × (went.sent ≡ was.sent)

-- A turn: it has read the bytes at the front of the buffer, or nothing.
abbrev pub Turned : {S : Type 0} → After S → Text S → S → S → Went → Went → List ℕ → List ℕ → Type 0
Turned after text s t was went buffer out =
    Fed after text s t was went (take went.count buffer) out ⊎ Unfed s t was went

-- Why a loop reads no more: a read gave nothing, a read or a write failed, nothing more is wanted, or all turns are
-- used up.
abbrev pub Over : {S : Type 0} → (S → Bool) → S → List (List ℕ) → Went → Type 0
Over wants t ps went = (went.state ≢ GoesOn) ⊎ T (not (wants t)) ⊎ (all_turns ≤ length ps)

-- A whole loop. (That the pieces are those that were read no contract can say.)
pub record Looped {S : Type 0} (after : After S) (text : Text S) (wants : S → Bool) (s t : S) (was went : Went)
    : Type 0 where
  pub pieces : List (List ℕ)
  pub none_empty : NoneEmpty pieces
  pub state : t ≡ behind after s pieces
  -- all that is printed for them was taken, or a write failed
  pub taken : (went.state ≡ WriteFailed) ⊎ (went.sent ≡ was.sent + length (texts after text s pieces))
  pub over : Over wants t pieces went
  -- where the work had stopped before the loop, nothing is read, and it stands as it stood
  pub stopped : was.state ≢ GoesOn → (pieces ≡ []) × (went ≡ was)

-- Behind a loop: where a read or a write had failed, nothing more is written. Else all of a last text was taken, or
-- the write failed.
abbrev pub Concluded : List ℕ → Went → Went → Type 0
Concluded text was went =
    ((has_failed was.state ≡ true) × (went ≡ was))
    ⊎ ((has_failed was.state ≡ false) × Took (length text) was.state was went)

-- A whole run by its parts: the header, the loop, and the last text behind it, if nothing failed. (`Whole` and `Ran`,
-- below, say what comes of it. They leave open how many bytes were taken where something failed; this says of a failed
-- read that nothing was written behind it. Behind a failed write it leaves that open, too.)
pub record Parted {S : Type 0} (after : After S) (text : Text S) (wants : S → Bool) (s t : S) (header last : List ℕ) (went : Went)
    : Type 0 where
  pub headed : Went
  pub read : Went
  pub first : Took (length header) GoesOn nothing_yet headed
  pub loop : Looped after text wants s t headed read
  pub end : Concluded last read went

-- A whole run from the state s: a read or a write failed; or there are pieces, none of them empty, and as many bytes
-- were taken as all that is printed of them has, from the header on.
abbrev pub Whole : {S : Type 0} → After S → (S → Bool) → S → (List (List ℕ) → List ℕ) → Went → Type 0
Whole after wants s all went =
    (has_failed went.state ≡ true)
    ⊎ ((ps : List (List ℕ)) × NoneEmpty ps × (went.sent ≡ length (all ps)) × Over wants (behind after s ps) ps went)

-- The same with where it stands at the end: t is the state behind such pieces, whether or not something failed.
abbrev pub Ran : {S : Type 0} → After S → (S → Bool) → S → (List (List ℕ) → List ℕ) → S → Went → Type 0
Ran after wants s all t went =
    (ps : List (List ℕ)) × NoneEmpty ps × (t ≡ behind after s ps)
    × ((has_failed went.state ≡ true) ⊎ ((went.sent ≡ length (all ps)) × Over wants (behind after s ps) ps went))

-- ---- what a program answers

-- Walk and draw: 0, or 3 where a read or a write failed.
abbrev pub DoneOrFailed : ℕ → Type 0
DoneOrFailed r = (r ≡ 0) ⊎ (r ≡ 3)
