-- What is promised of text, each statement in plain words first. The functions' contracts are equations with the definitions named here, so
-- each statement holds of what the functions answer. Assumes nothing.
use Prim.Native.Nat.{ℕ, suc, ◌≤◌, ◌<◌}
use native.Mathlib.Omega.{arith}
use mathlib.Core.Bool.{Bool, true, false, cond, ◌&&◌}
use mathlib.Core.Logic.{◌↔◌}
use mathlib.Core.Path.{◌≡◌, refl, ap, sym, ◌∙◌}
use mathlib.Core.List.{List, map}
use borrow.Author.Tests.{eqb-true, eqb-false, le-leb, leb-true}
use lib.Dec.{eqb, leb}
use lib.ListN.{length}
use Rattle.rules.specs.Line.{all_below, one_if, empty, every, joined}
use Rattle.rules.specs.Kinds.{last_op, kind_at}
use Rattle.rules.specs.Refusals.{Operand, operands, never, unused, task, object, priority, ceiling, barrier, time, ticks}
use Rattle.rules.proofs.Tests.{both_true, tests_all_below, tests_and, tests_eq}
use Rattle.text.specs.declared.Spoken.{Spoken}
use Rattle.decimal.specs.Decimal.{digit, number_of, decimal}
use Rattle.decimal.proofs.BothWays.{number_parts, number_bound, digits_most}
use Rattle.decimal.proofs.Theorems.{printed_reads, read_prints}
use Rattle.text.specs.Commands.{uses_a, uses_b, uses_value, omits_a, op_named, operand, operand_unless, spoken_by, command_of, no_command, line_of}
use Rattle.text.specs.Words.{word, behind}
use Rattle.text.specs.FirstLine.{seed_of, first_line_of}
use Rattle.text.specs.Lines.{lines, kept, nothing_held, lines_of_pieces, commands_of_pieces}
use Rattle.text.proofs.Kept.{kept_says, kept_opens}
use Rattle.text.proofs.OneLine.{Command, line_reads, line_said}
use Rattle.text.proofs.Pieces.{pieces_whole}
use Rattle.text.proofs.CommandsWhole.{commands_of_pieces_whole}

-- ---- seed text

-- Seed text that is accepted is 1 to 10 decimal digits, the decimal of a number 1..4294967295, and every such decimal is accepted. (Rules out a
-- reader that takes a sign, a leading zero, 0, or a number that 32 bits would cut. That another text gets 17 is its contract.)
pub seed_accepted : (n : ℕ) → 1 ≤ n → n ≤ 4294967295 → seed_of (decimal n) ≡ record { code = 0; seed = n }
unfolding seed_of
seed_accepted n l h = rw (printed_reads n 4294967295 h (omega arith), le-leb 1 n l)

pub record Seed (w : List ℕ) : Type 0 where
  pub text : w ≡ decimal (seed_of w).seed
  pub least : 1 ≤ (seed_of w).seed
  pub most : (seed_of w).seed ≤ 4294967295
  pub digits : every digit w ≡ true
  pub short : length w ≤ 10

pub seed_read : (w : List ℕ) → (seed_of w).code ≡ 0 → Seed w
unfolding seed_of
seed_read w = go ((number_of w 4294967295).valid && leb 1 (number_of w 4294967295).value) refl
  where
    go : (t : Bool) → ((number_of w 4294967295).valid && leb 1 (number_of w 4294967295).value) ≡ t → (seed_of w).code ≡ 0 → Seed w
    go true t e =
        let p = both_true (number_of w 4294967295).valid (leb 1 (number_of w 4294967295).value) t in
        let d = number_parts w 4294967295 p.0 in
        let r : decimal (number_of w 4294967295).value ≡ w = read_prints w 4294967295 (omega arith) p.0 in
        let b : (number_of w 4294967295).value ≤ 4294967295 = number_bound w 4294967295 in
        let l : length w ≤ 10 = rw r at (digits_most (number_of w 4294967295).value 9 (omega arith)) in
        record { text = rw (t, r); least = rw t (leb-true 1 (number_of w 4294967295).value p.1); most = rw t b; digits = d.digits; short = l }
    go false t e = absurd (let z : ◌≡◌ {A = ℕ} 17 0 = rw t at e in omega arith)

-- ---- command lines

-- Each command has exactly one line: its line reads as it, and no other line does. (Rules out a reader that swaps operands, takes a word for
-- another, or forgives a blank or a zero too many. That a line's command is then carried out is the kernel's.)
pub reads_line : (c : Spoken) → Command c → command_of (line_of c) ≡ c
reads_line c k = line_reads c k

pub one_line : (c : Spoken) (l : List ℕ) → Command c → command_of l ≡ c → l ≡ line_of c
one_line c l k e = (line_said l (ap (λ (s : Spoken). s.code) e ∙ k.code)).1 ∙ ap line_of e

-- Each line has at most one command.
pub one_command : (c d : Spoken) → Command c → Command d → line_of c ≡ line_of d → c ≡ d
one_command c d kc kd e = sym (line_reads c kc) ∙ ap command_of e ∙ line_reads d kd

-- The answer is 0 or 14.
either : (t : Bool) (op a b v : ℕ) → ((cond {A = Spoken} t (record { code = 0; op = op; a = a; b = b; value = v }) no_command).code ≡ 14 → ⊥)
    → (cond {A = Spoken} t (record { code = 0; op = op; a = a; b = b; value = v }) no_command).code ≡ 0
either true op a b v f = refl
either false op a b v f = absurd (f refl)

spoken_code : (op : ℕ) (l : List ℕ) → ((spoken_by op l).code ≡ 14 → ⊥) → (spoken_by op l).code ≡ 0
unfolding spoken_by
spoken_code op l =
    let a = operand_unless (omits_a op) (uses_a op) 255 l in
    let b = operand (uses_b op) 255 a.left in
    let v = operand (uses_value op) 18446744073709551615 b.left in
    either (leb 1 op && a.valid && b.valid && v.valid && empty v.left) op a.value b.value v.value

zero_or_14 : (l : List ℕ) → ((command_of l).code ≡ 14 → ⊥) → (command_of l).code ≡ 0
unfolding command_of
zero_or_14 l = go (leb (length l) 64) (op_named (word l)) (behind l)
  where
    go : (t : Bool) (op : ℕ) (m : List ℕ) → ((cond t (spoken_by op m) no_command).code ≡ 14 → ⊥) → (cond t (spoken_by op m) no_command).code ≡ 0
    go true op m f = spoken_code op m f
    go false op m f = absurd (f refl)

-- A line is refused with 14 exactly when no command has it. (Rules out a reader that refuses all, and one that refuses nothing.)
pub refused_exactly : (l : List ℕ) → (command_of l).code ≡ 14 ↔ ((c : Spoken) → Command c → l ≡ line_of c → ⊥)
refused_exactly l = (
  λ e c k h. let z : ◌≡◌ {A = ℕ} 14 0 = sym e ∙ ap (λ (s : Spoken). s.code) (ap command_of h ∙ line_reads c k) ∙ k.code in omega arith,
  λ f. go (eqb (command_of l).code 14) refl f,
)
  where
    go : (t : Bool) → eqb (command_of l).code 14 ≡ t → ((c : Spoken) → Command c → l ≡ line_of c → ⊥) → (command_of l).code ≡ 14
    go true t f = eqb-true (command_of l).code 14 t
    go false t f =
        let s = line_said l (zero_or_14 l (eqb-false (command_of l).code 14 t)) in
        absurd (f (command_of l) s.0 s.1)

-- ---- what is kept of a line

-- A line says the same by what is kept of it, as a command and as the first line of draw. (Rules out a limit at which a line too long
-- would be cut to one that is right.)
pub says_the_same : (l : List ℕ) → command_of (kept l) ≡ command_of l
says_the_same l = kept_says l

pub opens_the_same : (l : List ℕ) → first_line_of (kept l) ≡ first_line_of l
opens_the_same l = kept_opens l

-- Lines out of pieces, cut anywhere, are the kept lines of the whole input. (Rules out a reader that loses or doubles a byte at a cut, cuts a
-- long line in two, or drops a last line without a line end. That the pieces are the input is the program's.)
pub lines_whole : (ps : List (List ℕ)) → lines_of_pieces nothing_held ps ≡ map kept (lines (joined ps))
lines_whole ps = pieces_whole ps

-- And the commands out of them are those of the lines of the whole input, each line's once and in order. (Rules out a reader that answers a
-- line by another's command, or one read where it lies otherwise than one that was held.)
pub commands_whole : (ps : List (List ℕ)) → commands_of_pieces nothing_held ps ≡ map command_of (lines (joined ps))
commands_whole ps = commands_of_pieces_whole ps

-- ---- the operands in use are those of the rules

-- What the rules say of each op, and of what is no op, text says too: an operand is in use or it is not. (So a change of the rules' table
-- that text does not follow is refused.)
abbrev in_use : Operand → ℕ
in_use never = 0
in_use unused = 0
in_use task = 1
in_use object = 1
in_use priority = 1
in_use ceiling = 1
in_use barrier = 1
in_use time = 1
in_use ticks = 1

pub same_operands : (op : ℕ) → op < suc last_op
    → (in_use (operands (kind_at op)).a ≡ one_if (uses_a op))
    × ((in_use (operands (kind_at op)).b ≡ one_if (uses_b op)) × (in_use (operands (kind_at op)).value ≡ one_if (uses_value op)))
unfolding all_below
same_operands op h =
    (tests_all_below
    (λ n. tests_and (tests_eq (in_use (operands (kind_at n)).a) (one_if (uses_a n)))
    (tests_and (tests_eq (in_use (operands (kind_at n)).b) (one_if (uses_b n))) (tests_eq (in_use (operands (kind_at n)).value) (one_if (uses_value n)))))
    (suc last_op)
    ).sure refl op h
