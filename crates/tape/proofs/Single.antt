-- No second answer of the tape's public functions: of any buffer, tape and place, only one answer meets the contract as the check states it, and only
-- one contents of the buffer is left behind. Rules out: a contract that leaves a code, a place, a part or a byte of the buffer open. Leaves:
-- which answer it is (specs/); and of a part that is handed back the ghost name of its borrow, which exists in proofs only: what is seen of it is its
-- contents, its block and its offset there. (The law: crate one_answer, proofs/Law.) Assumes nothing.
use Prim.Native.Nat.{ℕ}
use mathlib.Core.List.{List}
use seplogic.Ra.Ura.{Ura}
use base.Logic.{SProp}
use prog.Memory.{Memory}
use prog.Routine.{Routine}
use types.Logic.{Logic}
use contract.Monad.{Fun}
use denote.Ref.{Bor}
use denote.RattleType.{RattleType}
use mir.Syntax.{Dict}
use Rattle.one_answer.proofs.Law.{OneAnswer, OneEnd, one, both, each_of_two, each_of_three}
use Rattle.std.specs.Prelude.{Result}
use Rattle.rules.specs.declared.Refusal.{Refusal}
use Rattle.tape.specs.declared.Numbered.{Ghosts}
use Rattle.tape.specs.contracts.write_at
use Rattle.tape.specs.contracts.number
use Rattle.tape.specs.contracts.code_at
use Rattle.tape.specs.contracts.next_at
use Rattle.tape.specs.contracts.part_at

-- What a program sees of a part: its contents, the block that it lies in, and its offset there.
abbrev pub Seen : Type 0
Seen = List ℕ × ℕ × ℕ

abbrev pub seen : Bor (List ℕ) → Seen
seen part = (part.now, part.ref_ptr.0, part.ref_ptr.1)

module _ {M : Type 1} {𝓤 : Ura M} (𝓛 : Logic 𝓤) (mem : Memory → SProp 𝓤) (run : Routine → Fun 𝓤) where
  -- ---- the writer

  -- the answer and the buffer
  pub write_at_single : OneEnd 𝓤 write_at.ended (write_at.clauses 𝓛 mem run) (Result Unit Refusal × List ℕ) (λ κs r e. (r, e.0.now))
  write_at_single κs a g r s d e = both 𝓤 _ _ _ each_of_two

  -- ---- the reader

  -- whatever a refusal comes as
  pub number_single : (E : RattleType) (n : Ghosts E.Denot) (l k : Dict)
      → OneAnswer 𝓤 (number.ended E n l k) (number.clauses E n l k 𝓛 mem run)
  number_single E n l k κs a g r s d e = one 𝓤 _ _ _

  pub code_at_single : OneAnswer 𝓤 code_at.ended (code_at.clauses 𝓛 mem run)
  code_at_single κs a g r s d e = one 𝓤 _ _ _

  pub next_at_single : OneAnswer 𝓤 next_at.ended (next_at.clauses 𝓛 mem run)
  next_at_single κs a g r s d e = one 𝓤 _ _ _

  -- the part: what is seen of it
  pub part_at_single : OneEnd 𝓤 part_at.ended (part_at.clauses 𝓛 mem run) Seen (λ κs r e. seen r)
  part_at_single κs a g r s d e = both 𝓤 _ _ _ each_of_three
