-- No second answer of the public functions: of any numbers, answers and tables, only one answer meets the contract as the check states it, and only one
-- contents of the image, the seed and the value that were lent. Rules out: a contract that leaves the answer or a byte of what was lent open. Leaves: which
-- answer it is (image_calls/specs/Calls, specs/Edge). (The law: crate one_answer, proofs/Law.) Assumes nothing.
use Prim.Native.Nat.{ℕ}
use mathlib.Core.Path.{sym, ap, ◌∙◌}
use mathlib.Core.List.{List}
use seplogic.Ra.Ura.{Ura}
use base.Logic.{SProp}
use prog.Memory.{Memory}
use prog.Routine.{Routine}
use types.Logic.{Logic}
use contract.Monad.{Fun}
use Rattle.rules.specs.Machine as rules
use Rattle.kernel_line.specs.declared.TaskID.{TaskID}
use Rattle.kernel_checks.specs.declared.Command.{Command}
use Rattle.one_answer.proofs.Law.{OneAnswer, OneEnd, one, both, each_of_two}
use Rattle.image_edge.specs.contracts.command
use Rattle.image_edge.specs.contracts.task
use Rattle.image_edge.specs.contracts.profile
use Rattle.image_edge.specs.contracts.pack_left
use Rattle.image_edge.specs.contracts.pack_drawn
use Rattle.image_edge.specs.contracts.pack_both
use Rattle.image_edge.specs.contracts.bare
use Rattle.image_edge.specs.contracts.pack_even
use Rattle.image_edge.specs.contracts.leave
use Rattle.image_edge.specs.contracts.keep

-- the command that four numbers are, and the task
abbrev in_bytes : rules.Command → Command
in_bytes c = record { op = c.op; a = c.a; b = c.b; value = c.value }

abbrev numbered : ℕ → TaskID
numbered n = record { 0 = n }

module _ {M : Type 1} {𝓤 : Ura M} (𝓛 : Logic 𝓤) (mem : Memory → SProp 𝓤) (run : Routine → Fun 𝓤) where
  pub command_single : OneAnswer 𝓤 command.ended (command.clauses 𝓛 mem run)
  command_single κs a g r s d e = both 𝓤 _ _ _ (λ p q. ap in_bytes (p ∙ sym q))

  pub task_single : OneAnswer 𝓤 task.ended (task.clauses 𝓛 mem run)
  task_single κs a g r s d e = both 𝓤 _ _ _ (λ p q. ap numbered (p ∙ sym q))

  pub profile_single : OneAnswer 𝓤 profile.ended (profile.clauses 𝓛 mem run)
  profile_single κs a g r s d e = one 𝓤 _ _ _

  pub pack_left_single : OneAnswer 𝓤 pack_left.ended (pack_left.clauses 𝓛 mem run)
  pack_left_single κs a g r s d e = one 𝓤 _ _ _

  pub pack_drawn_single : OneAnswer 𝓤 pack_drawn.ended (pack_drawn.clauses 𝓛 mem run)
  pack_drawn_single κs a g r s d e = one 𝓤 _ _ _

  pub pack_both_single : OneAnswer 𝓤 pack_both.ended (pack_both.clauses 𝓛 mem run)
  pack_both_single κs a g r s d e = one 𝓤 _ _ _

  pub bare_single : OneAnswer 𝓤 bare.ended (bare.clauses 𝓛 mem run)
  bare_single κs a g r s d e = one 𝓤 _ _ _

  pub pack_even_single : OneAnswer 𝓤 pack_even.ended (pack_even.clauses 𝓛 mem run)
  pack_even_single κs a g r s d e = one 𝓤 _ _ _

  -- the seed and the value
  pub leave_single : OneEnd 𝓤 leave.ended (leave.clauses 𝓛 mem run) (ℕ × ℕ) (λ κs r e. (e.1.0.now, e.1.1.0.now))
  leave_single κs a g r s d e = both 𝓤 _ _ _ each_of_two

  -- the answer and the image
  pub keep_single : OneEnd 𝓤 keep.ended (keep.clauses 𝓛 mem run) (ℕ × List ℕ) (λ κs r e. (r, e.0.now))
  keep_single κs a g r s d e = both 𝓤 _ _ _ each_of_two
