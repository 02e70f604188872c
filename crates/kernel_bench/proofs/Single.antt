-- No second answer of what the benchmark calls: of any stream of commands, only one gathered number meets its contract (the law: crate one_answer, proofs/Law).
-- Assumes nothing.
use seplogic.Ra.Ura.{Ura}
use base.Logic.{SProp}
use prog.Memory.{Memory}
use prog.Routine.{Routine}
use types.Logic.{Logic}
use contract.Monad.{Fun}
use Rattle.one_answer.proofs.Law.{OneAnswer, one}
use Rattle.kernel_bench.specs.contracts.bench_run

module _ {M : Type 1} {𝓤 : Ura M} (𝓛 : Logic 𝓤) (mem : Memory → SProp 𝓤) (run : Routine → Fun 𝓤) where
  pub bench_run_single : OneAnswer 𝓤 bench_run.ended (bench_run.clauses 𝓛 mem run)
  bench_run_single κs a g r s d e = one 𝓤 _ _ _
