-- No second answer of the three public functions: of any bytes and any tables, only one answer of `read` meets its contract as the check states it, with only
-- one contents of the ten tables, only one answer of `settled`, and only one contents of the bytes that `lay` leaves. Rules out: a contract that leaves a byte
-- or a cell open, for bytes of which no state can be read as for an image. Leaves: which they are (specs/Layout, specs/Settled). (The law: crate one_answer,
-- proofs/Law.) Assumes nothing.
use mathlib.Core.Bool.{Bool}
use mathlib.Core.List.{List}
use Prim.Native.Nat.{ℕ}
use seplogic.Ra.Ura.{Ura}
use base.Logic.{SProp}
use prog.Memory.{Memory}
use prog.Routine.{Routine}
use types.Logic.{Logic}
use contract.Monad.{Fun}
use Rattle.one_answer.proofs.Law.{OneAnswer, OneEnd, one, both, each_of_two}
use Rattle.kernel.specs.declared.Kernel.{Kernel}
use Rattle.kernel.specs.Step.{tables}
use Rattle.image_layout.specs.contracts.read
use Rattle.image_layout.specs.contracts.settled
use Rattle.image_layout.specs.contracts.lay

module _ {M : Type 1} {𝓤 : Ura M} (𝓛 : Logic 𝓤) (mem : Memory → SProp 𝓤) (run : Routine → Fun 𝓤) where
  pub read_single : OneEnd 𝓤 read.ended (read.clauses 𝓛 mem run) (Bool × Kernel)
      (λ κs r e. (
        r,
        tables e.1.0.now e.1.1.0.now e.1.1.1.0.now e.1.1.1.1.0.now e.1.1.1.1.1.0.now
            e.1.1.1.1.1.1.0.now e.1.1.1.1.1.1.1.0.now e.1.1.1.1.1.1.1.1.0.now e.1.1.1.1.1.1.1.1.1.0.now
            e.1.1.1.1.1.1.1.1.1.1.0.now,
      ))
  read_single κs a g r s d e = both 𝓤 _ _ _ each_of_two

  pub settled_single : OneAnswer 𝓤 settled.ended (settled.clauses 𝓛 mem run)
  settled_single κs a g r s d e = one 𝓤 _ _ _

  pub lay_single : OneEnd 𝓤 lay.ended (lay.clauses 𝓛 mem run) (List ℕ) (λ κs r e. e.0.now)
  lay_single κs a g r s d e = one 𝓤 _ _ _
