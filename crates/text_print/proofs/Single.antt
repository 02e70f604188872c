-- No second answer of text_print's public functions: of any arguments, only one answer meets the contract as the check states it, and of the
-- buffer that is lent only one contents is left behind. Rules out: a contract that leaves what is read, what is held or a printed byte open. Leaves: which
-- answer it is (specs/). (The law: crate one_answer, proofs/Law.) Assumes nothing.
use Prim.Native.Nat.{ℕ}
use mathlib.Core.List.{List}
use seplogic.Ra.Ura.{Ura}
use base.Logic.{SProp}
use prog.Memory.{Memory}
use prog.Routine.{Routine}
use types.Logic.{Logic}
use contract.Monad.{Fun}
use Rattle.one_answer.proofs.Law.{OneEnd, both, each_of_two}
use Rattle.text_print.specs.contracts.put_text
use Rattle.text_print.specs.contracts.put_walk_header
use Rattle.text_print.specs.contracts.put_draw_header
use Rattle.text_print.specs.contracts.put_walk_line
use Rattle.text_print.specs.contracts.put_draw_line

module _ {M : Type 1} {𝓤 : Ura M} (𝓛 : Logic 𝓤) (mem : Memory → SProp 𝓤) (run : Routine → Fun 𝓤) where
  pub put_text_single : OneEnd 𝓤 put_text.ended (put_text.clauses 𝓛 mem run) (ℕ × List ℕ) (λ κs r e. (r, e.0.now))
  put_text_single κs a g r s d e = both 𝓤 _ _ _ each_of_two

  pub put_walk_header_single : OneEnd 𝓤 put_walk_header.ended (put_walk_header.clauses 𝓛 mem run) (ℕ × List ℕ) (λ κs r e. (r, e.0.now))
  put_walk_header_single κs a g r s d e = both 𝓤 _ _ _ each_of_two

  pub put_draw_header_single : OneEnd 𝓤 put_draw_header.ended (put_draw_header.clauses 𝓛 mem run) (ℕ × List ℕ) (λ κs r e. (r, e.0.now))
  put_draw_header_single κs a g r s d e = both 𝓤 _ _ _ each_of_two

  pub put_walk_line_single : OneEnd 𝓤 put_walk_line.ended (put_walk_line.clauses 𝓛 mem run) (ℕ × List ℕ) (λ κs r e. (r, e.0.now))
  put_walk_line_single κs a g r s d e = both 𝓤 _ _ _ each_of_two

  pub put_draw_line_single : OneEnd 𝓤 put_draw_line.ended (put_draw_line.clauses 𝓛 mem run) (ℕ × List ℕ) (λ κs r e. (r, e.0.now))
  put_draw_line_single κs a g r s d e = both 𝓤 _ _ _ each_of_two
