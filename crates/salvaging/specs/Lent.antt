-- Stores into a lent buffer, one behind another. (The laws of a sink, src/sinks, are these.) Assumes nothing.
use Rattle.std.specs.Prelude.{ℕ, suc, ◌+◌, ◌≤◌, ◌≡◌, List, [], ◌∷◌, ◌++◌, length, refl}
use Rattle.std.specs.Borrow.{MutBor}
use Rattle.std.proofs.Common.{sym, ap, ◌∙◌, arith}
use Rattle.std.proofs.Math.Seq.{length-sets}
use Rattle.std.proofs.lemmas.List.Edits.{sets}

-- the same reference, behind which numbers were stored from an index on
pub record Stored (s : MutBor (List ℕ)) (i : ℕ) (p : List ℕ) (t : MutBor (List ℕ)) : Type 0 where
  pub same : t.ghost_name ≡ s.ghost_name
  pub contents : t.now ≡ sets s.now i p

-- one run of stores behind another is one run
pub sets_join : (s : List ℕ) (i : ℕ) (p q : List ℕ) → sets s i (p ++ q) ≡ sets (sets s i p) (i + length p) q
sets_join s i [] q = let z : i + 0 ≡ i = omega arith in rw z
sets_join s i (x ∷ p) q = let z : suc i + length p ≡ i + suc (length p) = omega arith in sets_join _ (suc i) p q ∙ rw z

pub stored_none : (s : MutBor (List ℕ)) (i : ℕ) → Stored s i [] s
stored_none s i = record { same = refl; contents = refl }

pub stored_more : (s t u : MutBor (List ℕ)) (i : ℕ) (p q : List ℕ) → Stored s i p t → Stored t (i + length p) q u → Stored s i (p ++ q) u
stored_more s t u i p q a b =
    record { same = b.same ∙ a.same; contents = b.contents ∙ rw a.contents (sym (sets_join s.now i p q)) }

pub stored_room : (s t : MutBor (List ℕ)) (i n k : ℕ) (p : List ℕ) → Stored s i p t → n ≤ length s.now → k ≤ n → k ≤ length t.now
stored_room s t i n k p a r o = let l = ap length a.contents ∙ length-sets s.now i p in omega arith
