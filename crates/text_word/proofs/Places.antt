-- A blank and a decimal at a place, as the code reads it, is that of the definitions, by what is left of the line. Assumes nothing.
use Prim.Native.Nat.{ℕ, suc, ◌+◌, ◌-◌, ◌≤◌, ◌<◌}
use native.Mathlib.Omega.{arith}
use native.Mathlib.Numerals.{add-one}
use mathlib.Core.Bool.{Bool, false}
use mathlib.Core.Path.{◌≡◌, refl, ap, sym, ◌∙◌}
use mathlib.Core.List.{List}
use borrow.Author.Tests.{eq-eqb, ne_eqb}
use lib.ListN.{length, take, drop, get_or, drop_of_length-le, length-drop}
use lib.Seq.{drop-cons}
use Rattle.text_word.specs.declared.Operand.{Operand}
use Rattle.decimal.specs.declared.Reading.{Reading}
use Rattle.decimal.specs.Decimal.{number_of}
use Rattle.text.specs.Words.{before, onward}
use Rattle.text.specs.Commands.{Part, decimal_next}
use Rattle.text_word.specs.Places.{Reads}
use Rattle.text.proofs.Scan.{word_part, behind_part}

abbrev nothing_at : ℕ → Operand
nothing_at at = record { valid = false; value = 0; next = at }

-- ---- a blank and a decimal, at a place

module _ (line : List ℕ) (at most : ℕ) where
  pub at_the_end : length line ≤ at → Reads line (nothing_at (length line)) (decimal_next most (drop at line))
  unfolding decimal_next
  at_the_end e =
      let o : length line ≤ length line = omega arith in
      rw (drop_of_length-le line e) (record { valid = refl; value = refl; left = drop_of_length-le line o; within = o })

  pub at_no_blank : at < length line → (get_or line at 0 ≡ 32 → ⊥) → Reads line (nothing_at at) (decimal_next most (drop at line))
  unfolding decimal_next
  at_no_blank h e =
      rw (drop-cons line at 0 h, ne_eqb (get_or line at 0) 32 e)
      (record { valid = refl; value = refl; left = drop-cons line at 0 h; within = omega arith })

  pub at_blank : (end : ℕ) (r : Reading) → at < length line → get_or line at 0 ≡ 32 → end ≡ at + 1 + length (before 32 (drop (at + 1) line)) → end ≤ length line
      → r ≡ number_of (take (end - (at + 1)) (drop (at + 1) line)) most
      → Reads line (record { valid = r.valid; value = r.value; next = end }) (decimal_next most (drop at line))
  unfolding decimal_next
  at_blank end r h b e i n =
      let w : r ≡ number_of (before 32 (drop (suc at) line)) most = rw add-one at
      (n ∙ ap (λ (l : List ℕ). number_of l most) (word_part 32 line (at + 1) end e)) in
      let l : drop end line ≡ onward 32 (drop (suc at) line) = rw add-one at (behind_part 32 line (at + 1) end e) in
      rw (drop-cons line at 0 h, eq-eqb (get_or line at 0) 32 b)
      (record { valid = ap (λ (x : Reading). x.valid) w; value = ap (λ (x : Reading). x.value) w; left = l; within = i })

-- ---- one answer: what is left of a line says at which place it begins

made : {f f' : Bool} {v v' n n' : ℕ} → f ≡ f' → v ≡ v' → n ≡ n'
    → ◌≡◌ {A = Operand} (record { valid = f; value = v; next = n }) (record { valid = f'; value = v'; next = n' })
made a b d = cc

pub same_operand : {line : List ℕ} {r s : Operand} {p : Part} → Reads line r p → Reads line s p → r ≡ s
same_operand {line} {r} {s} {p} a b =
    let l = sym (length-drop r.next line) ∙ ap length (a.left ∙ sym b.left) ∙ length-drop s.next line in
    made (a.valid ∙ sym b.valid) (a.value ∙ sym b.value) (omega (arith, l, a.within, b.within))
