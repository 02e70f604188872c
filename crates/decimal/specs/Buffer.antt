-- Text put into a buffer at a place. (`sets l i t` of lib.Seq is l with the bytes of t from index i on.)
use Rattle.std.specs.Prelude.{ℕ, ◌+◌, ◌≤◌, cond, List, ◌≡◌, leb, length, take}
use Rattle.std.proofs.lemmas.List.Edits.{sets}

-- Where fewer than `room` bytes are left behind the place, nothing is put and the place is kept.
abbrev pub contents_after : ℕ → List ℕ → ℕ → List ℕ → List ℕ
contents_after room out at text = cond (leb (at + room) (length out)) (sets out at text) out

abbrev pub place_after : ℕ → List ℕ → ℕ → List ℕ → ℕ
place_after room out at text = cond (leb (at + room) (length out)) (at + length text) at

-- The first n bytes of a buffer, all of them there: what is printed stands there.
abbrev pub InFront : ℕ → List ℕ → Type 0
InFront n out = (n ≤ length out) × (n ≡ length (take n out))
