-- An answer with the buffer that was lent, said of one answer. (The law: crate one_answer, proofs/Law.) Assumes nothing.
use Prim.Native.Nat.{ℕ}
use mathlib.Core.List.{List}
use mathlib.Core.Path.{◌≡◌}
use Rattle.one_answer.proofs.Law.{each_of_two}

-- (The third part of such a contract, that what was printed lies within the buffer, chooses nothing.)
pub same_end : {X P Q : Type 0} {x r s : X} {l a b : List ℕ} → (r ≡ x) × (a ≡ l) × P → (s ≡ x) × (b ≡ l) × Q → ◌≡◌ {A = X × List ℕ} (r, a) (s, b)
same_end p q = each_of_two (p.0, p.1) (q.0, q.1)
