-- No second answer of programs_hint's public function: of any piece, only one answer meets the contract as the check states it. Leaves: what is written to
-- standard error. (The law: crate one_answer, proofs/Law.) Assumes nothing.
use seplogic.Ra.Ura.{Ura}
use base.Logic.{SProp}
use prog.Memory.{Memory}
use prog.Routine.{Routine}
use types.Logic.{Logic}
use contract.Monad.{Fun}
use denote.RattleType.{RattleType}
use mir.Syntax.{Dict}
use Rattle.std.specs.declared.io.Print.{Ghosts}
use Rattle.one_answer.proofs.Law.{OneAnswer, one}
use Rattle.programs_hint.specs.contracts.hinted

module _ {M : Type 1} {𝓤 : Ura M} (𝓛 : Logic 𝓤) (mem : Memory → SProp 𝓤) (run : Routine → Fun 𝓤) where
  pub hinted_single : (E : RattleType) (p : Ghosts E.Denot) (d : Dict)
      → OneAnswer 𝓤 (hinted.ended E p d) (hinted.clauses E p d 𝓛 mem run)
  hinted_single E p h κs a g r s d e = one 𝓤 _ _ _
