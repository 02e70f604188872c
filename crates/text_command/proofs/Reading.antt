-- The parts of a line as the code reads them, by places, are those of the definitions, by what is left of the line. Assumes nothing.
use Prim.Native.Nat.{ℕ, zero, suc, ◌+◌, ◌-◌, ◌≤◌, ◌<◌}
use native.Mathlib.Omega.{arith}
use native.Mathlib.Numerals.{add-one}
use mathlib.Core.Bool.{Bool, true, false, cond, not, ◌&&◌}
use mathlib.Core.Path.{◌≡◌, refl, sym}
use mathlib.Core.List.{List, [], ◌∷◌}
use borrow.Author.Tests.{le-leb, ne_eqb}
use lib.Dec.{eqb, leb}
use lib.ListN.{length, take, drop, get_or, length-drop, drop_of_length-le}
use lib.Seq.{drop-cons, drop-drop}
use Rattle.rules.specs.Line.{empty}
use Rattle.text_word.specs.declared.Operand.{Operand}
use Rattle.text.specs.Words.{before, word, behind, same}
use Rattle.text.specs.Commands.{decimal_next, operand, operand_unless, omits_a, uses_a, uses_b, uses_value, named_from, op_named}
use Rattle.text.specs.Commands.{spoken_by, command_of, no_command}
use Rattle.text_word.specs.Places.{Reads}
use Rattle.text_command.specs.Method.{word_at, words_in}
use Rattle.text.proofs.Scan.{take_before, drop_before}
use Rattle.text.proofs.Parts.{operand_bound, all_read}

module _ (line : List ℕ) (at most : ℕ) where
  pub in_use : (used : Bool) (r : Operand) → used ≡ true → Reads line r (decimal_next most (drop at line)) → Reads line r (operand used most (drop at line))
  unfolding operand
  in_use used r e h = rw e h

  pub not_in_use : (used : Bool) → used ≡ false → at ≤ length line
      → Reads line (record { valid = true; value = 0; next = at }) (operand used most (drop at line))
  unfolding operand
  not_in_use used e h = rw e (record { valid = refl; value = refl; left = refl; within = h })

pub read_bound : (line : List ℕ) (r : Operand) (used : Bool) (most : ℕ) (l : List ℕ) → Reads line r (operand used most l) → r.value ≤ most
read_bound line r used most l h = rw h.value (operand_bound used most l)

-- ---- an operand that may be left out

module _ (line : List ℕ) (at most : ℕ) (omits used : Bool) (p : Operand)
    (r : Reads line p (operand (not (omits && leb (length line) at) && used) most (drop at line))) where
  pub unless_read : Reads line
      (record { valid = not (omits && not (leb (length line) at) && eqb p.value 0) && p.valid; value = p.value; next = p.next })
      (operand_unless omits used most (drop at line))
  unfolding operand_unless
  unless_read =
      let h = rw (← all_read line at) at r in
      record { valid = rw (← all_read line at, h.valid, h.value); value = h.value; left = h.left; within = h.within }

pub unless_bound : (line : List ℕ) (r : Operand) (omits used : Bool) (most : ℕ) (l : List ℕ) → Reads line r (operand_unless omits used most l)
    → r.value ≤ most
unfolding operand_unless
unless_bound line r omits used most l h = rw h.value (operand_bound (not (omits && empty l) && used) most l)

-- ---- the word: a turn of the loop over a text of words, whose n-th begins at a place

some_word : (k : ℕ) (l : List ℕ) → 1 ≤ length l → words_in (suc k) l ≡ word l ∷ words_in k (drop 8 l)
unfolding words_in
some_word k [] h = absurd (omega arith)
some_word k (b ∷ l) h = refl

module _ (words w : List ℕ) (at : ℕ) (h : at < length words) where
  pub word_turn : (n : ℕ) → n ≤ 255 → named_from n (words_in (256 - n) (drop at words)) w
      ≡ cond (same w (word_at words at)) n (named_from (n + 1) (words_in (256 - (n + 1)) (drop (at + 8) words)) w)
  unfolding named_from
  word_turn n few =
      let s : 256 - n ≡ suc (255 - n) = omega arith in
      let t : 256 - (n + 1) ≡ 255 - n = omega arith in
      let l : 1 ≤ length (drop at words) = rw length-drop (omega arith) in
      rw (s, t, add-one, some_word (255 - n) (drop at words) l, drop-drop 8 at words)

-- another first byte is another word
other_begin : (w : List ℕ) (b : ℕ) (l : List ℕ) → (b ≡ get_or w 0 32 → ⊥) → false ≡ same w (word (b ∷ l))
unfolding before same
other_begin [] b l n = rw (ne_eqb b 32 n)
other_begin (a ∷ w) b l n = go (eqb b 32)
  where
    go : (t : Bool) → false ≡ same (a ∷ w) (cond t [] (b ∷ before 32 l))
    go true = refl
    go false = rw (ne_eqb a b (λ e. n (sym e)))

pub other_first : (words w : List ℕ) (at : ℕ) → at < length words → (get_or words at 0 ≡ get_or w 0 32 → ⊥) → false ≡ same w (word_at words at)
other_first words w at h n = rw (drop-cons words at 0 h) (other_begin w (get_or words at 0) (drop (suc at) words) n)

pub first_none : (w : List ℕ) → length w ≡ 0 → 32 ≡ get_or w 0 32
first_none [] h = refl
first_none (b ∷ w) h = absurd (omega arith)

pub first_some : (w : List ℕ) → (length w ≡ 0 → ⊥) → get_or w 0 0 ≡ get_or w 0 32
first_some [] h = absurd (h refl)
first_some (b ∷ w) h = refl

-- no word behind the end
pub none_left : (words w : List ℕ) (n k at : ℕ) → length words ≤ at → named_from n (words_in k (drop at words)) w ≡ 0
unfolding words_in named_from
none_left words w n k at h = rw (drop_of_length-le words h) (go k)
  where
    go : (k : ℕ) → named_from n (words_in k []) w ≡ 0
    go zero = refl
    go (suc k) = refl

-- ---- the line

module _ (line l : List ℕ) (op : ℕ) (a b v : Operand) (ra : Reads line a (operand_unless (omits_a op) (uses_a op) 255 l))
    (rb : Reads line b (operand (uses_b op) 255 (drop a.next line)))
    (rv : Reads line v (operand (uses_value op) 18446744073709551615 (drop b.next line))) where
  operands_read : cond (leb 1 op && a.valid && b.valid && v.valid && leb (length line) v.next)
      (record { code = 0; op = op; a = a.value; b = b.value; value = v.value }) no_command ≡ spoken_by op l
  unfolding spoken_by
  operands_read =
      let rb' : Reads line b (operand (uses_b op) 255 (operand_unless (omits_a op) (uses_a op) 255 l).left) = rw ra.left at rb in
      let rv' : Reads line v (operand (uses_value op) 18446744073709551615
      (operand (uses_b op) 255 (operand_unless (omits_a op) (uses_a op) 255 l).left).left) = rw rb'.left at rv in
      rw (ra.valid, ra.value, rb'.valid, rb'.value, rv'.valid, rv'.value, ← all_read line v.next, rv'.left)

module _ (line : List ℕ) (end op : ℕ) (oa ua ub uv : Bool) (a b v : Operand) (h : length line ≤ 64) (e : end ≡ 0 + length (before 32 line))
    (o : op ≡ op_named (take end line)) (eo : oa ≡ omits_a op) (ea : ua ≡ uses_a op) (eb : ub ≡ uses_b op) (ev : uv ≡ uses_value op)
    (ra : Reads line a (operand_unless oa ua 255 (drop end line))) (rb : Reads line b (operand ub 255 (drop a.next line)))
    (rv : Reads line v (operand uv 18446744073709551615 (drop b.next line))) where
  pub line_read : cond (leb 1 op && a.valid && b.valid && v.valid && leb (length line) v.next)
      (record { code = 0; op = op; a = a.value; b = b.value; value = v.value }) no_command ≡ command_of line
  unfolding command_of
  line_read =
      let n : end ≡ length (before 32 line) = omega arith in
      let w : take end line ≡ word line = rw n (take_before 32 line) in
      let d : drop end line ≡ behind line = rw n (drop_before 32 line) in
      rw (le-leb (length line) 64 h, ← w, ← d, ← o)
      (operands_read line (drop end line) op a b v (rw (eo, ea) at ra) (rw eb at rb) (rw ev at rv))
