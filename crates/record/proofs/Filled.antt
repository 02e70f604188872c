-- A table r that is filled with a list t from its start, entry by entry: a turn of the loop, and its end. (What reads bytes cites it: layout, judging.)
-- Assumes nothing.
use Prim.Native.Nat.{ℕ, ◌+◌, ◌<◌}
use native.Mathlib.Nat.{le_of_eq}
use native.Mathlib.Numerals.{add-one}
use mathlib.Core.Path.{◌≡◌, sym, ap, ◌∙◌}
use mathlib.Core.List.{List, [], ◌∷◌, ◌++◌}
use lib.ListN.{length, take, get_or, set}
use lib.Seq.{take-suc-set, take-suc, take_all}

pub turn : (r t : List ℕ) (i x : ℕ) → i < length r → i < length t → x ≡ get_or t i 0 → take i r ≡ take i t → take (i + 1) (set r i x) ≡ take (i + 1) t
turn r t i x hr ht ex e =
    rw add-one
    (take-suc-set r i x hr ∙ ap (λ (l : List ℕ). l ++ (x ∷ [])) e ∙ ap (λ (y : ℕ). take i t ++ (y ∷ [])) ex ∙ sym (take-suc t i 0 ht))

pub whole : (r t : List ℕ) (i n : ℕ) → i ≡ n → length r ≡ n → length t ≡ n → take i r ≡ take i t → r ≡ t
whole r t i n a l k e = sym (take_all i r (le_of_eq (l ∙ sym a))) ∙ e ∙ take_all i t (le_of_eq (k ∙ sym a))
