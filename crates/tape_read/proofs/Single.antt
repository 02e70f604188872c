-- No second answer of what stands at a place of a tape: of any tape and place only one meets each contract as the check states it (the law: crate
-- one_answer, proofs/Law). Assumes nothing.
use seplogic.Ra.Ura.{Ura}
use base.Logic.{SProp}
use prog.Memory.{Memory}
use prog.Routine.{Routine}
use types.Logic.{Logic}
use contract.Monad.{Fun}
use denote.RattleType.{RattleType}
use mir.Syntax.{Dict}
use Rattle.one_answer.proofs.Law.{OneAnswer, one}
use Rattle.tape_read.specs.contracts.read_at
use Rattle.tape_read.specs.contracts.place

module _ {M : Type 1} {𝓤 : Ura M} (𝓛 : Logic 𝓤) (mem : Memory → SProp 𝓤) (run : Routine → Fun 𝓤) where
  pub read_at_single : OneAnswer 𝓤 read_at.ended (read_at.clauses 𝓛 mem run)
  read_at_single κs a g r s d e = one 𝓤 _ _ _

  -- whatever a refusal comes as
  pub place_single : (E : RattleType) (l : Dict) → OneAnswer 𝓤 (place.ended E l) (place.clauses E l 𝓛 mem run)
  place_single E l κs a g r s d e = one 𝓤 _ _ _
