-- No second answer of the reader: of any tape and reader, only one answer meets the contract as the check states it, and only one reader is left behind.
-- Rules out: a contract that leaves a code, a place or a part open. Leaves: which answer it is (specs/Reader); and of a part that is handed back the ghost
-- name of its borrow, which exists in proofs only (tape/proofs/Single: `seen`). (The law: crate one_answer, proofs/Law.) Assumes nothing.
use Prim.Native.Nat.{ℕ}
use mathlib.Core.Path.{◌≡◌, sym, ap, ◌∙◌}
use mathlib.Core.List.{List}
use seplogic.Ra.Ura.{Ura}
use base.Logic.{SProp}
use prog.Memory.{Memory}
use prog.Routine.{Routine}
use types.Logic.{Logic}
use contract.Monad.{Fun}
use denote.Ref.{Bor}
use Rattle.one_answer.proofs.Law.{OneAnswer, OneEnd, both, same_pair, each_of_three}
use Rattle.tape.proofs.Single.{Seen, seen}
use Rattle.std.specs.Prelude.{Result, Ok, Err, IsOk}
use Rattle.rules.specs.declared.Refusal.{Refusal}
use Rattle.tape_form.specs.Read.{Read}
use Rattle.tape_reader.specs.Reader.{Handed, Next}
use Rattle.tape_reader.proofs.Readers.{Part}
use Rattle.tape_reader.specs.declared.Reader.{Reader}
use Rattle.tape_reader.specs.contracts.open
use Rattle.tape_reader.specs.contracts.next

same_reader : {t u : Bor (List ℕ)} {m n : ℕ} → t ≡ u → m ≡ n → ◌≡◌ {A = Reader} (record { tape = t; at = m }) (record { tape = u; at = n })
same_reader p q = cc

one_reader : {t : Bor (List ℕ)} {n : ℕ} {r s : Reader} → (r.tape ≡ t) × (r.at ≡ n) → (s.tape ≡ t) × (s.at ≡ n) → r ≡ s
one_reader p q = same_reader (p.0 ∙ sym q.0) (p.1 ∙ sym q.1)

-- of a refusal its name is seen
abbrev seen_in : Part → Result Seen Refusal
seen_in (Ok part) = Ok (seen part)
seen_in (Err e) = Err e

not_both : {x : Read} {e : Refusal} → IsOk x → x ≡ Err e → ⊥
not_both i n = cc

one_part : (tape : Bor (List ℕ)) (at : ℕ) (p q : Part) → Handed tape at p → Handed tape at q → seen_in p ≡ seen_in q
one_part tape at (Ok p) (Ok q) m n = ap Ok (each_of_three m.1 n.1)
one_part tape at (Ok p) (Err f) m n = absurd (not_both m.0 n)
one_part tape at (Err e) (Ok q) m n = absurd (not_both n.0 m)
one_part tape at (Err e) (Err f) m n = cc

one_next : (r : Reader) (p q : Part) (t u : Reader) → Next r p t → Next r q u
    → ◌≡◌ {A = Result Seen Refusal × Reader} (seen_in p, t) (seen_in q, u)
one_next r p q t u m n = same_pair (one_part r.tape r.at p q m.0 n.0) (one_reader (m.1, m.2) (n.1, n.2))

module _ {M : Type 1} {𝓤 : Ura M} (𝓛 : Logic 𝓤) (mem : Memory → SProp 𝓤) (run : Routine → Fun 𝓤) where
  pub open_single : OneAnswer 𝓤 open.ended (open.clauses 𝓛 mem run)
  open_single κs a g r s d e = both 𝓤 _ _ _ one_reader

  -- what is seen of the part or the refusal, and the whole reader after it
  pub next_single : OneEnd 𝓤 next.ended (next.clauses 𝓛 mem run) (Result Seen Refusal × Reader) (λ κs r e. (seen_in r, e.0.now))
  next_single κs a g r s d e = both 𝓤 _ _ _ (one_next _ r s _ _)
