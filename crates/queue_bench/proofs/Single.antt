-- No second answer of what bench/queue calls: of any stream, only one gathered number meets each contract (the law: crate one_answer, proofs/Law). Assumes
-- nothing.
use seplogic.Ra.Ura.{Ura}
use base.Logic.{SProp}
use prog.Memory.{Memory}
use prog.Routine.{Routine}
use types.Logic.{Logic}
use contract.Monad.{Fun}
use Rattle.one_answer.proofs.Law.{OneAnswer, one}
use Rattle.queue_bench.specs.contracts.queue_bench_chip
use Rattle.queue_bench.specs.contracts.queue_bench_line

module _ {M : Type 1} {𝓤 : Ura M} (𝓛 : Logic 𝓤) (mem : Memory → SProp 𝓤) (run : Routine → Fun 𝓤) where
  pub queue_bench_chip_single : OneAnswer 𝓤 queue_bench_chip.ended (queue_bench_chip.clauses 𝓛 mem run)
  queue_bench_chip_single κs a g r s d e = one 𝓤 _ _ _

  pub queue_bench_line_single : OneAnswer 𝓤 queue_bench_line.ended (queue_bench_line.clauses 𝓛 mem run)
  queue_bench_line_single κs a g r s d e = one 𝓤 _ _ _
