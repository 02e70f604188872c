-- A line held in pieces: the loop that holds one more, and what is held behind it. Assumes nothing.
use Prim.Native.Nat.{ℕ, suc, ◌+◌, ◌-◌, ◌≤◌, ◌<◌, min}
use native.Mathlib.Omega.{arith}
use native.Mathlib.Numerals.{add-one}
use mathlib.Core.Bool.{Bool, true, false}
use mathlib.Core.Path.{◌≡◌, refl, ap, sym, ◌∙◌}
use mathlib.Core.List.{List, [], ◌∷◌}
use borrow.Author.Tests.{le-leb, lt-leb, leb-true, leb-false}
use lib.Dec.{leb}
use lib.ListN.{length, take, drop, set, get_or, drop_of_length-le}
use lib.Seq.{sets, drop-cons, set_out, take_all}
use Rattle.rules.specs.Line.{empty}
use Rattle.text.specs.declared.Held.{Held}
use Rattle.text.specs.declared.Cut.{Cut}
use Rattle.text.specs.Words.{before, onward}
use Rattle.text.specs.Lines.{held_bytes, hold_more, end_from, cut_of}
use Rattle.text.proofs.Scan.{word_part, behind_part}
use Rattle.text.proofs.Parts.{all_read}

-- ---- the loop

pub sets_out : (vs l : List ℕ) (i : ℕ) → length l ≤ i → sets l i vs ≡ l
sets_out [] l i h = refl
sets_out (v ∷ vs) l i h = rw (set_out l i v h) (sets_out vs l (suc i) (omega arith))

pub one_held : (bytes piece : List ℕ) (n i : ℕ) → i < length piece
    → sets (set bytes n (get_or piece i 0)) (n + 1) (drop (i + 1) piece) ≡ sets bytes n (drop i piece)
one_held bytes piece n i h = rw (add-one n, add-one i, drop-cons piece i 0 h)

module _ (h : Held) (piece bytes₀ bytes : List ℕ) (n₀ n i : ℕ) (e₀ : bytes₀ ≡ h.bytes) (c₀ : n₀ ≡ min 129 h.count) (b : n ≤ 129) (l : length bytes ≡ 129)
    (e : sets bytes n (drop i piece) ≡ sets bytes₀ n₀ piece) (c : n + (length piece - i) ≡ n₀ + length piece) where
  pub all_held : length piece ≤ i → record { bytes = bytes; count = n } ≡ hold_more h piece
  unfolding hold_more
  all_held d =
      let eb : bytes ≡ sets h.bytes (min 129 h.count) piece = rw (drop_of_length-le piece d, e₀, c₀) at e in
      let en : n ≡ min 129 (min 129 h.count + length piece) = omega arith in
      cc

  pub all_full : i < length piece → 129 ≤ n → record { bytes = bytes; count = n } ≡ hold_more h piece
  unfolding hold_more
  all_full j d =
      let eb : bytes ≡ sets h.bytes (min 129 h.count) piece = sym (sets_out (drop i piece) bytes n (omega arith)) ∙ rw (e₀, c₀) at e in
      let en : n ≡ min 129 (min 129 h.count + length piece) = omega arith in
      cc

-- ---- a cut

module _ (h : Held) (s : List ℕ) (at : ℕ) where
  pub past_end : length s < at → record { whole = false; held = hold_more h []; next = at } ≡ cut_of h s at
  unfolding cut_of end_from before onward
  past_end o =
      let g : length s ≤ at = omega arith in
      let z : at ≡ at + 0 = omega arith in
      rw (drop_of_length-le s g) (ap {B = Cut} (λ (k : ℕ). record { whole = false; held = hold_more h []; next = k }) z)

  module _ (end : ℕ) (held : Held) (e : end ≡ at + length (before 10 (drop at s))) (eh : held ≡ hold_more h (take (end - at) (drop at s))) where
    hold_line : held ≡ hold_more h (before 10 (drop at s))
    hold_line = eh ∙ ap (hold_more h) (word_part 10 s at end e)

    line_ends : empty (onward 10 (drop at s)) ≡ leb (length s) end
    line_ends = rw (← behind_part 10 s at end e) (all_read s end)

    pub cut_whole : end < length s → record { whole = true; held = held; next = end + 1 } ≡ cut_of h s at
    unfolding cut_of end_from
    cut_whole o = rw (line_ends, lt-leb (length s) end o, ← e, hold_line)

    pub cut_part : length s ≤ end → record { whole = false; held = held; next = end } ≡ cut_of h s at
    unfolding cut_of end_from
    cut_part o = rw (line_ends, le-leb (length s) end o, ← e, hold_line)

-- ---- what is held, whoever made the count

pub held_part : (h : Held) (n : ℕ) → length h.bytes ≡ 129 → n ≡ min 129 h.count → take n h.bytes ≡ held_bytes h
held_part h n l e = go (leb 129 h.count) refl
  where
    go : (t : Bool) → leb 129 h.count ≡ t → take n h.bytes ≡ take h.count h.bytes
    go true o =
        let g : 129 ≤ h.count = leb-true 129 h.count o in
        take_all n h.bytes (omega arith) ∙ sym (take_all h.count h.bytes (omega arith))
    go false o = let g : h.count < 129 = leb-false 129 h.count o in let m : n ≡ h.count = omega arith in rw m
