-- Laws of the loops' turns: a turn that keeps the record at an index, a turn that drops the byte there, and the end. What a pass comes to is the same before
-- and after a turn. Assumes nothing.
use Prim.Native.Nat.{ℕ, zero, suc, ◌+◌, ◌-◌, ◌≤◌, ◌<◌}
use native.Mathlib.Omega.{arith}
use native.Mathlib.Numerals.{add-one}
use mathlib.Core.Path.{◌≡◌, refl, sym, ap, ◌∙◌}
use mathlib.Core.Bool.{Bool, true, false, ◌||◌}
use mathlib.Core.List.{List, [], ◌∷◌, ◌++◌}
use borrow.Author.Tests.{le-leb}
use lib.ListN.{length, take, drop, get_or, replicate, length-append, length-drop}
use lib.Seq.{length-take-le, drop-drop, drop-cons}
use Rattle.record.specs.Form.{is_command}
use Rattle.std.specs.Prelude.{Option, Some, option_to_list}
use Rattle.salvage_marks.specs.declared.Stretch.{Stretch}
use Rattle.salvage_marks.specs.Torn.{makes, pick, closed, cells}
use Rattle.salvage_marks.specs.Pieces.{ahead, ended, begun, stretch_of}
use Rattle.salvage_marks.proofs.Marks.{pick_trues, closed_join, cells_join}
use Rattle.salvage_marks.proofs.Ahead.{ahead_keep, ahead_drop, ahead_short, ended_trues, begun_trues, closed_cells}
use Rattle.salvage_marks.proofs.Chained.{one_closed}
use Rattle.salvaging.specs.declared.Passed.{Passed}
use Rattle.salvaging.specs.Walk.{to_go, passed_on}

-- a stretch that ended, as numbers
pub ended_numbers : (from at : ℕ) {o : Option Stretch} → o ≡ stretch_of from at → cells (option_to_list o) ≡ cells (closed from at [])
ended_numbers from at e = ap cells (ap option_to_list e ∙ one_closed from at)

pub two_cells : {o : Option Stretch} {x : Stretch} → o ≡ Some x → length (cells (option_to_list o)) ≡ 2
unfolding cells
two_cells e = rw e

pub cells_two : (from at : ℕ) → length (cells (closed from at [])) ≤ 2
unfolding cells
cells_two from at = closed_cells from at []

-- the numbers of what ends from an index on
abbrev pub numbers_on : List ℕ → ℕ → ℕ → ℕ → List ℕ
numbers_on buf place at from = cells (ended from (place + at) (to_go buf at))

-- the bytes that are kept from an index on
abbrev pub bytes_on : List ℕ → ℕ → List ℕ
bytes_on buf at = pick (to_go buf at) (drop at buf)

same : {d f k c d' f' k' c' : ℕ} → d ≡ d' → f ≡ f' → k ≡ k' → c ≡ c'
    → ◌≡◌ {A = Passed} (record { done = d; from = f; kept = k; cells = c }) (record { done = d'; from = f'; kept = k'; cells = c' })
same a b c d = cc

or_false : (x : Bool) → (x || false) ≡ x
or_false true = refl
or_false false = refl

made : (t : Bool) (buf : List ℕ) (at : ℕ) → at + 16 ≤ length buf → t ≡ is_command (take (at + 16 - at) (drop at buf)) → makes false (drop at buf) ≡ t
unfolding makes
made t buf at o e =
    let n : at + 16 - at ≡ 16 = omega arith in
    let l : 16 ≤ length (drop at buf) = rw (length-drop at buf) (omega arith) in
    rw (le-leb 16 (length (drop at buf)) l) (or_false (is_command (take 16 (drop at buf))) ∙ sym (rw n at e))

module _ (buf : List ℕ) (place at from : ℕ) (o : at + 16 ≤ length buf) (m : true ≡ is_command (take (at + 16 - at) (drop at buf))) where
  here : 16 ≤ length (drop at buf)
  here = rw (length-drop at buf) (omega arith)

  keep_marks : to_go buf at ≡ replicate 16 true ++ to_go buf (at + 16)
  keep_marks = ahead_keep false (drop at buf) (made true buf at o m) ∙ rw (drop-drop 16 at buf)

  pub keep_bytes : bytes_on buf at ≡ take 16 (drop at buf) ++ bytes_on buf (at + 16)
  keep_bytes =
      ap (λ (x : List Bool). pick x (drop at buf)) keep_marks ∙ pick_trues 16 (to_go buf (at + 16)) (drop at buf) here
      ∙ ap (λ (x : List ℕ). take 16 (drop at buf) ++ pick (to_go buf (at + 16)) x) (drop-drop 16 at buf)

  pub keep_numbers : numbers_on buf place at from ≡ cells (closed from (place + at) []) ++ numbers_on buf place (at + 16) (place + (at + 16))
  keep_numbers =
      let p : 16 + (place + at) ≡ place + (at + 16) = omega arith in
      let N : List Bool = to_go buf (at + 16) in
      let e : ended from (place + at) (to_go buf at) ≡ closed from (place + at) (ended (place + (at + 16)) (place + (at + 16)) N) =
      ap (ended from (place + at)) keep_marks ∙ ended_trues 15 from (place + at) N ∙ ap (λ (k : ℕ). closed from (place + at) (ended k k N)) p in
      ap cells (e ∙ closed_join from (place + at) _) ∙ cells_join (closed from (place + at) []) _

  keep_begun : begun from (place + at) (to_go buf at) ≡ begun (place + (at + 16)) (place + (at + 16)) (to_go buf (at + 16))
  keep_begun =
      let p : 16 + (place + at) ≡ place + (at + 16) = omega arith in
      ap (begun from (place + at)) keep_marks ∙ begun_trues 15 from (place + at) (to_go buf (at + 16)) ∙ ap (λ (k : ℕ). begun k k (to_go buf (at + 16))) p

  keep_long : length (bytes_on buf at) ≡ 16 + length (bytes_on buf (at + 16))
  keep_long =
      ap (λ (x : List ℕ). length x) keep_bytes ∙ length-append (take 16 (drop at buf)) (bytes_on buf (at + 16))
      ∙ ap (λ (k : ℕ). k + length (bytes_on buf (at + 16))) (length-take-le 16 (drop at buf) here)

  -- what is to come has room for this record and this stretch
  pub keep_room : (w : ℕ) → w + 16 ≤ (passed_on buf place at from w 0).kept
  keep_room w = omega (arith, keep_long)

  numbers_long : length (numbers_on buf place at from)
      ≡ length (cells (closed from (place + at) [])) + length (numbers_on buf place (at + 16) (place + (at + 16)))
  numbers_long = ap (λ (x : List ℕ). length x) keep_numbers ∙ length-append (cells (closed from (place + at) [])) _

  pub keep_list_room : (j : ℕ) → j + length (cells (closed from (place + at) [])) ≤ (passed_on buf place at from 0 j).cells
  keep_list_room j = omega (arith, numbers_long)

  pub keep_passed : (w j j' : ℕ) → j' ≡ j + length (cells (closed from (place + at) []))
      → passed_on buf place (at + 16) (place + (at + 16)) (w + 16) j' ≡ passed_on buf place at from w j
  keep_passed w j j' e =
      let n : length (to_go buf at) ≡ 16 + length (to_go buf (at + 16)) =
      ap (λ (x : List Bool). length x) keep_marks ∙ length-append (replicate 16 true) (to_go buf (at + 16)) in
      same (omega arith) (sym keep_begun) (omega (arith, keep_long)) (omega (arith, numbers_long))

module _ (buf : List ℕ) (place at from : ℕ) (o : at + 16 ≤ length buf) (m : false ≡ is_command (take (at + 16 - at) (drop at buf))) where
  front : drop at buf ≡ get_or buf at 0 ∷ drop (at + 1) buf
  front = drop-cons buf at 0 (omega arith) ∙ rw (add-one at)

  drop_marks : to_go buf at ≡ false ∷ to_go buf (at + 1)
  drop_marks =
      let h : 16 ≤ length (drop at buf) = rw (length-drop at buf) (omega arith) in
      ap (ahead false zero) front ∙ ahead_drop false (get_or buf at 0) (drop (at + 1) buf) (rw front at (made false buf at o m)) (rw front at h)

  pub drop_bytes : bytes_on buf (at + 1) ≡ bytes_on buf at
  unfolding pick
  drop_bytes = sym (ap (λ (x : List Bool). pick x (drop at buf)) drop_marks ∙ ap (pick (false ∷ to_go buf (at + 1))) front)

  pub drop_numbers : numbers_on buf place (at + 1) from ≡ numbers_on buf place at from
  unfolding ended
  drop_numbers =
      let s : place + (at + 1) ≡ suc (place + at) = omega arith in
      ap (λ (k : ℕ). cells (ended from k (to_go buf (at + 1)))) s ∙ sym (ap (λ (x : List Bool). cells (ended from (place + at) x)) drop_marks)

  drop_begun : begun from (place + (at + 1)) (to_go buf (at + 1)) ≡ begun from (place + at) (to_go buf at)
  unfolding begun
  drop_begun =
      let s : place + (at + 1) ≡ suc (place + at) = omega arith in
      ap (λ (k : ℕ). begun from k (to_go buf (at + 1))) s ∙ sym (ap (begun from (place + at)) drop_marks)

  pub drop_passed : (w j : ℕ) → passed_on buf place (at + 1) from w j ≡ passed_on buf place at from w j
  drop_passed w j =
      let n : length (to_go buf at) ≡ suc (length (to_go buf (at + 1))) = ap (λ (x : List Bool). length x) drop_marks in
      same (omega arith) drop_begun (ap (λ (x : List ℕ). w + length x) drop_bytes) (ap (λ (x : List ℕ). j + length x) drop_numbers)

-- fewer than 16 bytes are left
module _ (buf : List ℕ) (place at from : ℕ) (o : length buf - at < 16) where
  none : to_go buf at ≡ []
  none = ahead_short false (drop at buf) (rw (length-drop at buf) (omega arith))

  pub stop_passed : (w j : ℕ) → passed_on buf place at from w j ≡ record { done = at; from = from; kept = w; cells = j }
  unfolding pick ended begun cells
  stop_passed w j = rw none (same (omega arith) refl (omega arith) (omega arith))

  pub stop_bytes : bytes_on buf at ≡ []
  unfolding pick
  stop_bytes = rw none

  pub stop_numbers : numbers_on buf place at from ≡ []
  unfolding ended cells
  stop_numbers = rw none

-- ---- what a sink got: of any sink, by its laws

module _ {S : Type 0} (Puts : S → ℕ → ℕ → List ℕ → List ℕ → S → Type 0) where
  pub puts_same : {s t : S} {w j : ℕ} {p q x y : List ℕ} → p ≡ q → x ≡ y → Puts s w j p x t → Puts s w j q y t
  puts_same e f h = rw (← e, ← f) h

  -- a record and a stretch, and behind them the rest
  pub put_on : ((s t u : S) (w j : ℕ) (p q x y : List ℕ) → Puts s w j p x t → Puts t (w + length p) (j + length x) q y u → Puts s w j (p ++ q) (x ++ y) u)
      → (s t u : S) (w j n : ℕ) (p q x y : List ℕ) {a b : List ℕ} → Puts s w j p x t → length p ≡ 16 → n ≡ length x → a ≡ p ++ q → b ≡ x ++ y
      → Puts t (w + 16) (j + n) q y u → Puts s w j a b u
  put_on more s t u w j n p q x y h l m e f k = rw (e, f) (more s t u w j p q x y h (rw (l, ← m) k))
