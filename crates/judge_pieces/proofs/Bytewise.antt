-- Laws of a judge that takes a tape byte by byte: bytes behind bytes, bytes that make no record yet, the sixteenth, which makes one whole; and pieces,
-- whatever they are. Assumes nothing.
use Prim.Native.Nat.{ℕ, ◌+◌, ◌-◌, ◌≤◌}
use native.Mathlib.Omega.{arith}
use mathlib.Core.Path.{◌≡◌, refl, sym, ap, ◌∙◌}
use mathlib.Core.Bool.{Bool, true, false, cond}
use mathlib.Core.List.{List, [], ◌∷◌, ◌++◌, append_assoc, append-nil}
use borrow.Author.Tests.{eq-eqb, ne_eqb, eqb-false}
use lib.Dec.{eqb}
use lib.ListN.{length, take, drop, length-append, take-append-drop}
use lib.Seq.{length-take-le}
use Rattle.rules.specs.Line.{joined}
use Rattle.judge_pieces.specs.declared.Run.{Run}
use Rattle.judge_pieces.specs.Onward.{onward}
use Rattle.judge_pieces.specs.Bytes.{Pending, byte, bytes, behind}

pub bytes_append : (h : Pending) (p q : List ℕ) → bytes h (p ++ q) ≡ bytes (bytes h p) q
unfolding bytes
bytes_append h [] q = refl
bytes_append h (b ∷ p) q = bytes_append (byte h b) p q

-- fewer than a record wants are held
pub bytes_short : (x : Run) (l p : List ℕ) → length l + length p ≤ 15 → bytes (record { run = x; begun = l }) p ≡ record { run = x; begun = l ++ p }
unfolding bytes byte
bytes_short x l [] o = rw (append-nil l)
bytes_short x l (b ∷ p) o =
    let n : eqb (length l) 15 ≡ false = ne_eqb (length l) 15 (λ e. omega arith) in
    rw (n, ← append_assoc l (b ∷ []) p) (bytes_short x (l ++ (b ∷ [])) p (rw (length-append l (b ∷ [])) (omega arith)))

-- the sixteenth makes a record
pub bytes_whole : (x : Run) (l p : List ℕ) → length l ≤ 15 → length l + length p ≡ 16 → bytes (record { run = x; begun = l }) p
    ≡ record { run = onward x (l ++ p); begun = [] }
unfolding bytes byte
bytes_whole x l [] o e = absurd (omega arith)
bytes_whole x l (b ∷ []) o e = let n : eqb (length l) 15 ≡ true = eq-eqb (length l) 15 (omega arith) in rw n
bytes_whole x l (b ∷ (d ∷ p)) o e =
    let n : eqb (length l) 15 ≡ false = ne_eqb (length l) 15 (λ z. omega arith) in
    rw (n, ← append_assoc l (b ∷ []) (d ∷ p))
    (bytes_whole x (l ++ (b ∷ [])) (d ∷ p) (rw (length-append l (b ∷ [])) (omega arith)) (rw (length-append l (b ∷ [])) (omega arith)))

-- a record that was begun, and what comes behind it
pub bytes_begun : (x : Run) (l p : List ℕ) → length l ≤ 15 → 16 ≤ length l + length p
    → bytes (record { run = x; begun = l }) p ≡ bytes (record { run = onward x (l ++ take (16 - length l) p); begun = [] }) (drop (16 - length l) p)
bytes_begun x l p o k =
    let n : ℕ = 16 - length l in
    let w : length (take n p) ≡ n = length-take-le n p (omega arith) in
    ap (bytes (record { run = x; begun = l })) (sym (take-append-drop n p)) ∙ bytes_append (record { run = x; begun = l }) (take n p) (drop n p)
    ∙ ap (λ (h : Pending). bytes h (drop n p)) (bytes_whole x l (take n p) o (rw w (omega arith)))

-- no more than 15 bytes are ever held
one_more : (h : Pending) (b : ℕ) → length h.begun ≤ 15 → length (byte h b).begun ≤ 15
unfolding byte
one_more h b o = go (eqb (length h.begun) 15) refl
  where
    go : (t : Bool) → eqb (length h.begun) 15 ≡ t
        → length (cond {A = Pending} t (record { run = onward h.run (h.begun ++ (b ∷ [])); begun = [] })
        (record { run = h.run; begun = h.begun ++ (b ∷ []) })).begun ≤ 15
    go true e = omega arith
    go false e = let n : length h.begun ≡ 15 → ⊥ = eqb-false (length h.begun) 15 e in rw (length-append h.begun (b ∷ [])) (omega arith)

pub few_begun : (h : Pending) (p : List ℕ) → length h.begun ≤ 15 → length (bytes h p).begun ≤ 15
unfolding bytes
few_begun h [] o = o
few_begun h (b ∷ p) o = few_begun (byte h b) p (one_more h b o)

-- Whatever the pieces, of any number and length: what is behind them is what is behind all their bytes.
-- (It rules out a judge that begins a piece anew, from another machine or without the bytes that it holds.)
pub behind_joined : (ps : List (List ℕ)) (h : Pending) → behind h ps ≡ bytes h (joined ps)
unfolding behind bytes
behind_joined [] h = refl
behind_joined (p ∷ ps) h = behind_joined ps (bytes h p) ∙ sym (bytes_append h p (joined ps))
