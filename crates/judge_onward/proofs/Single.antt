-- No second answer of `onward`: of any tables, place and bytes, only one contents of the tables and one place, seed and verdict meets its contract as the check
-- states it (the law: crate one_answer, proofs/Law). Assumes nothing.
use mathlib.Core.Path.{◌≡◌, sym, ap, ◌∙◌}
use seplogic.Ra.Ura.{Ura}
use base.Logic.{SProp}
use prog.Memory.{Memory}
use prog.Routine.{Routine}
use types.Logic.{Logic}
use contract.Monad.{Fun}
use Rattle.kernel.specs.declared.Kernel.{Kernel}
use Rattle.kernel.specs.Step.{tables}
use Rattle.judge_verdict.specs.declared.Head.{Head}
use Rattle.judge_pieces.specs.declared.Run.{Run}
use Rattle.judge_pieces.specs.Onward.{run_of, head_of}
use Rattle.one_answer.proofs.Law.{OneEnd, both}
use Rattle.judge_onward.specs.contracts.onward

-- a run has one machine, and one place beside it
each_of_run : {k l : Kernel} {g h : Head} {x : Run} → run_of k g ≡ x → run_of l h ≡ x → ◌≡◌ {A = Kernel × Head} (k, g) (l, h)
each_of_run p q = ap (λ (x : Run). (x.kernel, head_of x)) (p ∙ sym q)

module _ {M : Type 1} {𝓤 : Ura M} (𝓛 : Logic 𝓤) (mem : Memory → SProp 𝓤) (run : Routine → Fun 𝓤) where
  pub onward_single : OneEnd 𝓤 onward.ended (onward.clauses 𝓛 mem run) (Kernel × Head)
      (λ κs r e. (
        tables e.0.now e.1.0.now e.1.1.0.now e.1.1.1.0.now e.1.1.1.1.0.now e.1.1.1.1.1.0.now
            e.1.1.1.1.1.1.0.now e.1.1.1.1.1.1.1.0.now e.1.1.1.1.1.1.1.1.0.now
            e.1.1.1.1.1.1.1.1.1.0.now,
        r,
      ))
  onward_single κs a g r s d e = both 𝓤 _ _ _ each_of_run
