-- The first line of draw, read by places, is that of the definitions, read by what is left of the line. Assumes nothing.
use Prim.Native.Nat.{ℕ, suc, ◌+◌, ◌-◌, ◌≤◌, ◌<◌, min}
use native.Mathlib.Omega.{arith}
use native.Mathlib.Numerals.{add-one}
use mathlib.Core.Bool.{Bool, true, false, cond, not, ◌&&◌, and-true, and_assoc}
use mathlib.Core.Path.{◌≡◌, refl, ap, sym, ◌∙◌}
use mathlib.Core.List.{List, [], ◌∷◌, ◌++◌, append-nil}
use borrow.Author.Tests.{lt-ltb, le-ltb}
use lib.Dec.{eqb, leb, ltb}
use lib.ListN.{length, take, drop, set, replicate, length-take, length-drop, length-set}
use lib.Seq.{drop-drop, take_all, take-suc-set, append_snoc}
use Rattle.rules.specs.Line.{empty}
use Rattle.text_word.specs.declared.Operand.{Operand}
use Rattle.decimal.specs.declared.Reading.{Reading}
use Rattle.text.specs.declared.SeedText.{SeedText}
use Rattle.text.specs.declared.Settings.{Settings}
use Rattle.text_first.specs.declared.Eight.{Eight}
use Rattle.decimal.specs.Decimal.{number_of}
use Rattle.decimal.proofs.BothWays.{number_bound}
use Rattle.text.specs.Words.{bytes, before, word, behind, same}
use Rattle.text.specs.Commands.{decimal_next}
use Rattle.text_word.specs.Places.{Reads}
use Rattle.generator_draws.specs.Draw.{profile_of, good_profile}
use Rattle.text.specs.FirstLine.{word_most, seed_of, text_next, decimals_next, settings_of, judged, refused_with, first_line_of}
use Rattle.text_first.specs.Eight.{ReadsEight}
use Rattle.text.proofs.Scan.{differ_in_length, word_part, behind_part}
use Rattle.text.proofs.Parts.{all_read, decimal_bound}

-- ---- seed text

pub seed_read : (w : List ℕ) (r : Reading) → r ≡ number_of w word_most
    → cond (r.valid && leb 1 r.value) (record { code = 0; seed = r.value }) (record { code = 17; seed = 0 }) ≡ seed_of w
unfolding seed_of
seed_read w r e = rw e

pub reading_bound : (w : List ℕ) (r : Reading) → r ≡ number_of w word_most → r.value ≤ word_most
reading_bound w r e = rw e (number_bound w word_most)

-- ---- a text at a place

abbrev none_at : ℕ → Operand
none_at at = record { valid = false; value = 0; next = at }

module _ (line text : List ℕ) (at : ℕ) (h : at ≤ length line) where
  no_text : same (take (length text) (drop at line)) text ≡ false → Reads line (none_at at) (text_next text (drop at line))
  unfolding text_next
  no_text e = rw e (record { valid = refl; value = refl; left = refl; within = h })

  pub text_short : length line - at < length text → Reads line (none_at at) (text_next text (drop at line))
  text_short s = no_text (sym (differ_in_length (take (length text) (drop at line)) text (λ e. shorter (sym (length-take (length text) (drop at line)) ∙ e))))
    where
      shorter : min (length text) (length (drop at line)) ≡ length text → ⊥
      shorter e = let l : length (drop at line) ≡ length line - at = length-drop at line in omega arith

  module _ (b : Bool) (e : b ≡ same (take (at + length text - at) (drop at line)) text) where
    same_there : b ≡ same (take (length text) (drop at line)) text
    same_there = let n : at + length text - at ≡ length text = omega arith in rw n at e

    pub text_here : b ≡ true → at + length text ≤ length line
        → Reads line (record { valid = true; value = 0; next = at + length text }) (text_next text (drop at line))
    unfolding text_next
    text_here t i = rw (← same_there, t) (record { valid = refl; value = refl; left = sym (drop-drop (length text) at line); within = i })

    pub text_other : b ≡ false → Reads line (none_at at) (text_next text (drop at line))
    text_other f = no_text (sym same_there ∙ f)

-- ---- eight decimals: the loop's invariant, with i of them read

pub record Filled (line : List ℕ) (at : ℕ) (valid : Bool) (values : List ℕ) (next i : ℕ) : Type 0 where
  pub count : i ≤ 8
  pub within : next ≤ length line
  pub eight : length values ≡ 8
  pub all_fine : (decimals_next 8 word_most (drop at line)).valid ≡ (valid && (decimals_next (8 - i) word_most (drop next line)).valid)
  pub all_values : (decimals_next 8 word_most (drop at line)).values ≡ take i values ++ (decimals_next (8 - i) word_most (drop next line)).values
  pub all_left : (decimals_next 8 word_most (drop at line)).left ≡ (decimals_next (8 - i) word_most (drop next line)).left

pub none_filled : (line : List ℕ) (at : ℕ) → at ≤ length line → Filled line at true (replicate 8 0) at 0
none_filled line at h = record { count = omega arith; within = h; eight = refl; all_fine = refl; all_values = refl; all_left = refl }

more_left : (k most : ℕ) (l : List ℕ) → (decimals_next (suc k) most l).left ≡ (decimals_next k most (decimal_next most l).left).left
unfolding decimals_next
more_left k most l = refl

pub one_filled : (line : List ℕ) (at : ℕ) (valid : Bool) (values : List ℕ) (next i : ℕ) (x : Operand) → i < 8 → Filled line at valid values next i
    → Reads line x (decimal_next word_most (drop next line)) → Filled line at (valid && x.valid) (set values i x.value) x.next (i + 1)
unfolding decimals_next
one_filled line at valid values next i x h f r =
    let k = 8 - (i + 1) in
    let e : 8 - i ≡ suc (8 - (i + 1)) = omega arith in
    let l : i < length values = omega (arith, f.eight) in
    let t : take (i + 1) (set values i x.value) ≡ take i values ++ (x.value ∷ []) = rw add-one (take-suc-set values i x.value l) in
    let ff = rw (e, ← r.left, ← r.valid) at f.all_fine in
    let fv = rw (e, ← r.left, ← r.value) at f.all_values in
    let fl : (decimals_next 8 word_most (drop at line)).left ≡ (decimals_next k word_most (drop x.next line)).left = f.all_left ∙ rw
    (e, more_left k word_most (drop next line), r.left) in
    record {
      count = omega arith;
      within = r.within;
      eight = length-set values i x.value ∙ f.eight;
      all_fine = ff ∙ sym (and_assoc valid x.valid (decimals_next k word_most (drop x.next line)).valid);
      all_values = fv ∙ rw t (sym (append_snoc (take i values) x.value (decimals_next k word_most (drop x.next line)).values));
      all_left = fl;
    }

pub all_filled : (line : List ℕ) (at : ℕ) (valid : Bool) (values : List ℕ) (next i : ℕ) → 8 ≤ i → Filled line at valid values next i
    → ReadsEight line (record { valid = valid; values = values; next = next }) (decimals_next 8 word_most (drop at line))
unfolding decimals_next
all_filled line at valid values next i h f =
    let e : 8 - i ≡ 0 = omega (arith, f.count) in
    let l : length values ≤ i = omega (arith, f.eight) in
    let ff = rw e at f.all_fine in
    let fv = rw e at f.all_values in
    let fl = rw e at f.all_left in
    record {
      valid = sym (ff ∙ and-true valid);
      values = sym (fv ∙ append-nil (take i values) ∙ take_all i values l);
      left = sym fl;
      within = f.within;
    }

-- ---- what follows the seed's word

module _ (line l : List ℕ) (s span w : Operand) (eight : Eight) (k count : Operand)
    (rs : Reads line s (text_next (bytes " span") l))
    (rn : Reads line span (decimal_next word_most (drop s.next line)))
    (rw' : Reads line w (text_next (bytes " weights") (drop span.next line)))
    (re : ReadsEight line eight (decimals_next 8 word_most (drop w.next line)))
    (rk : Reads line k (text_next (bytes " count") (drop eight.next line)))
    (rc : Reads line count (decimal_next 100000 (drop k.next line))) where
  pub settings_read : record {
    valid = s.valid && span.valid && w.valid && eight.valid && k.valid && count.valid && leb 1 count.value && leb (length line) count.next;
    span = span.value;
    weights = eight.values;
    count = count.value;
  } ≡ settings_of l
  unfolding settings_of
  settings_read =
      rw (
        ← all_read line count.next,
        rc.left,
        rc.valid,
        rc.value,
        rk.left,
        rk.valid,
        re.left,
        re.valid,
        re.values,
        rw'.left,
        rw'.valid,
        rn.left,
        rn.valid,
        rn.value,
        rs.left,
        rs.valid,
      )

pub value_bound : (line : List ℕ) (r : Operand) (most : ℕ) (l : List ℕ) → Reads line r (decimal_next most l) → r.value ≤ most
value_bound line r most l h = rw h.value (decimal_bound most l)

-- ---- the line

some_word : (w : List ℕ) (from end : ℕ) → end ≡ from + length w → not (empty w) ≡ ltb from end
some_word [] from end e = sym (le-ltb from end (omega arith))
some_word (b ∷ w) from end e = sym (lt-ltb from end (omega arith))

module _ (line : List ℕ) (s : Operand) (end : ℕ) (rest : Settings) (seed : SeedText)
    (rs : Reads line s (text_next (bytes "seed ") line)) (e : end ≡ s.next + length (before 32 (drop s.next line)))
    (er : rest ≡ settings_of (drop end line)) (es : seed ≡ seed_of (take (end - s.next) (drop s.next line))) where
  pub first_read : cond (leb (length line) 128 && s.valid && ltb s.next end && rest.valid)
      (cond (eqb (judged seed.code (good_profile (profile_of rest.span rest.weights))) 0)
      (record { code = 0; seed = seed.seed; span = rest.span; weights = rest.weights; count = rest.count })
      (refused_with (judged seed.code (good_profile (profile_of rest.span rest.weights)))))
      (refused_with 14)
      ≡ first_line_of line
  unfolding first_line_of
  first_read =
      let es' : seed ≡ seed_of (word (drop s.next line)) = es ∙ ap seed_of (word_part 32 line s.next end e) in
      let er' : rest ≡ settings_of (behind (drop s.next line)) = er ∙ ap settings_of (behind_part 32 line s.next end e) in
      rw (← some_word (word (drop s.next line)) s.next end e, er', es', rs.valid, rs.left)
